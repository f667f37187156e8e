-- A text that is written in parts, one behind the other: what is written of it, and what is left.
use Prim.Native.Nat.{ℕ, ◌+◌, ◌≤◌}
use mathlib.Core.List.{List, [], ◌++◌, append_assoc, append-nil}
use mathlib.Core.Path.{◌≡◌, refl, sym, ap, ◌∙◌}
use native.Mathlib.Omega.{arith}
use lib.ListN.{length, drop, length-append}
use lib.Seq.{sets-eq}
use Rattle.write_bytes.specs.Write.{Room, Wrote}
use Rattle.write_bytes.proofs.Writing.{nothing, then, wrote_length}

-- of a text that is to stand at i of l, the part before rest is written: that left m, and rest is to stand at j
pub record Progress (l : List ℕ) (i : ℕ) (text : List ℕ) (m : List ℕ) (j : ℕ) (rest : List ℕ) : Type 0 where
  pub done : List ℕ
  pub whole : text ≡ done ++ rest
  pub wrote : Wrote l i done j m
  pub room : Room l i text

pub begin : {l text : List ℕ} {i : ℕ} → Room l i text → Progress l i text l i text
begin r = record { done = []; whole = refl; wrote = nothing; room = r }

-- the rest in other words
pub same_rest : {l text m rest other : List ℕ} {i j : ℕ} → rest ≡ other → Progress l i text m j rest → Progress l i text m j other
same_rest e p = rw e at p

-- what is left has room
pub room_left : {l text m rest : List ℕ} {i j : ℕ} → Progress l i text m j rest → Room m j rest
room_left {rest = rest} p =
    record { room = omega (arith, p.room.room, p.wrote.next_is, ap length p.whole, length-append p.done rest, wrote_length p.wrote) }

-- one part more
pub onward : {l text m n a b : List ℕ} {i j k : ℕ} → Progress l i text m j (a ++ b) → Wrote m j a k n → Progress l i text n k b
onward {a = a} {b = b} p w =
    record {
      done = p.done ++ a;
      whole = p.whole ∙ sym (append_assoc p.done a b);
      wrote = then p.wrote w;
      room = p.room;
    }

-- nothing is left
pub finished : {l text m : List ℕ} {i j : ℕ} → Progress l i text m j [] → Wrote l i text j m
finished p = rw (p.whole, append-nil) p.wrote

pub last : {l text m n rest : List ℕ} {i j k : ℕ} → Progress l i text m j rest → Wrote m j rest k n → Wrote l i text k n
last p w = rw p.whole (then p.wrote w)

-- the slice keeps its length
pub kept : {l text m rest : List ℕ} {i j : ℕ} → Progress l i text m j rest → length m ≡ length l
kept p = wrote_length p.wrote

-- a text at the head of a slice that has room for it
pub at_head : {l text m : List ℕ} {k : ℕ} → Wrote l 0 text k m → length text ≤ length l → m ≡ text ++ drop (length text) l
at_head {l} {text} w h =
    let q : 0 + length text ≡ length text = omega arith in
    w.left_is ∙ rw q at (sets-eq text l 0 (omega arith))
