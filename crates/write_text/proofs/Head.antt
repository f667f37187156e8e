-- How a line begins, and what stands behind it.
use Prim.Native.Nat.{ℕ}
use mathlib.Core.List.{◌++◌, append_assoc}
use mathlib.Core.Path.{◌≡◌}
use Rattle.format.specs.Text.{Bytes, ascii, argument}
use Rattle.write_bytes.specs.Write.{Room, Wrote}
use Rattle.write_text.specs.Heads.{head_text}
use Rattle.write_bytes.proofs.Writing.{then, room_first, room_then}

module _ (word : Bytes) (n : ℕ) (rest : Bytes) where
  headed : head_text word n ++ rest ≡ word ++ (argument n ++ (ascii " " ++ rest))
  unfolding head_text
  headed = simp append_assoc

  pub room_head : {l : Bytes} {i : ℕ} → Room l i (word ++ (argument n ++ (ascii " " ++ rest))) → Room l i (head_text word n)
  room_head r = room_first (head_text word n) rest (rw headed r)

  pub room_behind : {l m : Bytes} {i j : ℕ} → Wrote l i (head_text word n) j m → Room l i (word ++ (argument n ++ (ascii " " ++ rest))) → Room m j rest
  room_behind w r = room_then rest w (rw headed r)

  pub then_behind : {l m o : Bytes} {i j k : ℕ} → Wrote l i (head_text word n) j m → Wrote m j rest k o
      → Wrote l i (word ++ (argument n ++ (ascii " " ++ rest))) k o
  then_behind w v = rw headed at (then w v)
