-- What memory stands for: environments, values and waiting returns. Each cell carries an instance, which counts only where the cell makes a channel.
use Prim.Native.Nat.{ℕ, suc, ◌≤◌}
use native.Mathlib.Omega.{arith}
use mathlib.Core.Bool.{Bool, true, false}
use mathlib.Core.List.{List, [], ◌∷◌}
use Rattle.std.specs.Prelude.{Option, None as none, Some as some}
use mathlib.Core.Path.{◌≡◌, refl, sym, ◌∙◌, ap}
use lib.ListN.{length}
use lib.Dec.{eqb}
use borrow.Author.Tests.{ne_eqb}
use Rattle.program.specs.Test.{pick}
use Rattle.program.specs.Maybe.{◌>>=◌}
use Rattle.program.specs.Run.{Instance, Value, closure, Env, extend, lookup, channel_of, closure_of, closure_at, Return}
use Rattle.program.proofs.Test.{eqb_same}
use Rattle.machine.specs.declared.ThreadRecord.{ThreadRecord}
use Rattle.machine.specs.declared.Frame.{Frame}
use Rattle.machine.specs.declared.Held.{Held}
use Rattle.machine.specs.declared.Held.TheVariants.{Channel, Closure}
use Rattle.machine.specs.declared.Kept.{Kept}
use Rattle.machine.specs.declared.Kept.TheVariants.{Makes, Keeps}
use Rattle.machine.specs.Machine.{numbered, held_by, find, closure_held_by, channel_held_by, find_closure, find_channel}
use Rattle.machine.specs.Meaning.{Marked, cells, count, made_by, own_at, channel_by, value_by, kept_by, env_at, value_of, returns_at}
use Rattle.machine.proofs.Like.{Like, neither, both, like_bind, like_map}

-- ---- memory that has a meaning: what is named is in use, older, and a channel's cell makes one

abbrev pub HeldIn : List Marked → Held → Type 0
HeldIn cs Held.Unit = Unit {0}
HeldIn cs (Channel k) = (k ≤ count cs) × ((i : Instance) × (own_at cs k ≡ some i))
HeldIn cs (Closure r k) = k ≤ count cs

abbrev pub KeptIn : List Marked → Kept → Type 0
KeptIn cs Makes = Unit {0}
KeptIn cs (Keeps h) = HeldIn cs h

abbrev pub CellsIn : List Marked → Type 0
CellsIn [] = Unit {0}
CellsIn (c ∷ cs) = (c.cell.older ≤ count cs) × KeptIn cs c.cell.kept × CellsIn cs

abbrev pub FramesIn : List Marked → List Frame → Type 0
FramesIn cs [] = Unit {0}
FramesIn cs (f ∷ fs) = (f.cell ≤ count cs) × (f.older ≤ length fs) × FramesIn cs fs

pub record ThreadIn (cs : List Marked) (fs : List Frame) (t : ThreadRecord) : Type 0 where
  pub cell : t.cell ≤ count cs
  pub frame : t.frame ≤ length fs

-- ---- what is older means the same when there is one more

older : (k n : ℕ) → k ≤ n → eqb k (suc n) ≡ false
older k n l = ne_eqb k (suc n) (λ e. absurd (omega arith))

module _ (c : Marked) (cs : List Marked) where
  pub env_older : (k : ℕ) → k ≤ count cs → env_at (c ∷ cs) k ≡ env_at cs k
  unfolding env_at
  env_older k l = rw (older k (count cs) l)

  pub own_older : (k : ℕ) → k ≤ count cs → own_at (c ∷ cs) k ≡ own_at cs k
  unfolding own_at
  own_older k l = rw (older k (count cs) l)

  pub env_newest : env_at (c ∷ cs) (suc (count cs)) ≡ extend (env_at cs c.cell.older) c.cell.name (kept_by (env_at cs) (own_at cs) c.instance c.cell.kept)
  unfolding env_at
  env_newest = rw (eqb_same (suc (count cs)))

  pub own_newest : own_at (c ∷ cs) (suc (count cs)) ≡ made_by c.cell.kept c.instance
  unfolding own_at
  own_newest = rw (eqb_same (suc (count cs)))

  pub value_older : (h : Held) → HeldIn cs h → value_of (c ∷ cs) h ≡ value_of cs h
  unfolding value_of value_by
  value_older Held.Unit g = refl
  value_older (Channel k) (l, g) = ap channel_by (own_older k l)
  value_older (Closure r k) l = ap (closure r) (env_older k l)

  pub held_older : (h : Held) → HeldIn cs h → HeldIn (c ∷ cs) h
  held_older Held.Unit g = tt
  held_older (Channel k) (l, (i, e)) = (omega arith, (i, own_older k l ∙ e))
  held_older (Closure r k) l = omega arith

  pub returns_older : (fs : List Frame) (k : ℕ) → FramesIn cs fs → returns_at (c ∷ cs) fs k ≡ returns_at cs fs k
  unfolding returns_at
  returns_older [] k h = refl
  returns_older (f ∷ fs) k (l, o, h) = rw (env_older f.cell l, returns_older fs f.older h, returns_older fs k h)

  pub frames_older : (fs : List Frame) → FramesIn cs fs → FramesIn (c ∷ cs) fs
  frames_older [] h = tt
  frames_older (f ∷ fs) (l, o, h) = (omega arith, o, frames_older fs h)

pub frame_older : (cs : List Marked) (f : Frame) (fs : List Frame) (k : ℕ) → k ≤ length fs → returns_at cs (f ∷ fs) k ≡ returns_at cs fs k
unfolding returns_at
frame_older cs f fs k l = rw (older k (length fs) l)

pub frame_newest : (cs : List Marked) (f : Frame) (fs : List Frame) → returns_at cs (f ∷ fs) (suc (length fs)) ≡ record { name = f.name; rest = f.rest; env = env_at cs f.cell } ∷ returns_at cs fs f.older
unfolding returns_at
frame_newest cs f fs = rw (eqb_same (suc (length fs)))

-- ---- names are found alike

-- a held value stands for a value
pub record Means (cs : List Marked) (h : Held) (v : Value) : Type 0 where
  pub there : HeldIn cs h
  pub value : v ≡ value_of cs h

means_older : (c : Marked) (cs : List Marked) (h : Held) (v : Value) → Means cs h v → Means (c ∷ cs) h v
means_older c cs h v m = record { there = held_older c cs h m.there; value = m.value ∙ sym (value_older c cs h m.there) }

made_by_lem : (c : Marked) → c.cell.kept ≡ Makes → made_by c.cell.kept c.instance ≡ some c.instance
unfolding made_by
made_by_lem c e = rw e

means_newest : (c : Marked) (cs : List Marked) (k : Kept) → c.cell.kept ≡ k → KeptIn cs k → Means (c ∷ cs) (held_by (suc (count cs)) k) (kept_by (env_at cs) (own_at cs) c.instance k)
unfolding held_by kept_by value_of value_by channel_by
means_newest c cs Makes e h =
    let q : own_at (c ∷ cs) (suc (count cs)) ≡ some c.instance = own_newest c cs ∙ made_by_lem c e in
    record { there = (omega arith, (c.instance, q)); value = sym (ap channel_by q) }
means_newest c cs (Keeps h) e g = record { there = held_older c cs h g; value = sym (value_older c cs h g) }

pub find_like : (cs : List Marked) → CellsIn cs → (k x : ℕ) → Like (Means cs) (find (cells cs) k x) (lookup (env_at cs k) x)
unfolding find lookup env_at
find_like [] h k x = neither
find_like (c ∷ cs) (o, g, h) k x = go (eqb k (suc (count cs))) (eqb x c.cell.name) refl (find_like cs h c.cell.older x) (find_like cs h k x)
  where
    go : (t u : Bool) → eqb x c.cell.name ≡ u
        → Like (Means cs) (find (cells cs) c.cell.older x) (lookup (env_at cs c.cell.older) x) → Like (Means cs) (find (cells cs) k x) (lookup (env_at cs k) x)
        → Like (Means (c ∷ cs)) (pick t (pick u (some (held_by (suc (count cs)) c.cell.kept)) (find (cells cs) c.cell.older x)) (find (cells cs) k x))
        (lookup (pick t (extend (env_at cs c.cell.older) c.cell.name (kept_by (env_at cs) (own_at cs) c.instance c.cell.kept)) (env_at cs k)) x)
    go true true e _ _ = rw (e, lookup) (both (means_newest c cs c.cell.kept refl g))
    go true false e q _ = rw (e, lookup) (like_map (means_older c cs) q)
    go false u e _ q = like_map (means_older c cs) q

-- a closure's row is the same, and its cell stands for its environment
abbrev pub SameClosure : List Marked → ℕ × ℕ → ℕ × Env → Type 0
SameClosure cs a b = (a.0 ≡ b.0) × (a.1 ≤ count cs) × (b.1 ≡ env_at cs a.1)

closure_of_lem : (cs : List Marked) (h : Held) → HeldIn cs h → Like (SameClosure cs) (closure_held_by h) (closure_of (value_of cs h))
unfolding closure_held_by closure_of value_of value_by channel_by
closure_of_lem cs Held.Unit g = neither
closure_of_lem cs (Channel k) (l, (i, e)) = rw (e, channel_by) neither
closure_of_lem cs (Closure r k) l = both (refl, l, refl)

channel_of_lem : (cs : List Marked) (h : Held) → HeldIn cs h → Like (λ k i. own_at cs k ≡ some i) (channel_held_by h) (channel_of (value_of cs h))
unfolding channel_held_by channel_of value_of value_by channel_by
channel_of_lem cs Held.Unit g = neither
channel_of_lem cs (Channel k) (l, (i, e)) = rw (e, channel_by) (both e)
channel_of_lem cs (Closure r k) l = neither

pub closure_like : (cs : List Marked) → CellsIn cs → (k x : ℕ) → Like (SameClosure cs) (find_closure (cells cs) k x) (closure_at (env_at cs k) x)
unfolding find_closure closure_at
closure_like cs h k x = like_bind (find_like cs h k x) λ a v m. rw m.value (closure_of_lem cs a m.there)

pub channel_like : (cs : List Marked) → CellsIn cs → (k x : ℕ) → Like (λ k i. own_at cs k ≡ some i) (find_channel (cells cs) k x) (lookup (env_at cs k) x >>= channel_of)
unfolding find_channel
channel_like cs h k x = like_bind (find_like cs h k x) λ a v m. rw m.value (channel_of_lem cs a m.there)

-- ---- the last return that waits

pub data Last (cs : List Marked) (fs : List Frame) : Option Frame → List Return → Type 0 where
  no_return : Last cs fs none []
  last : {f : Frame} → f.cell ≤ count cs → f.older ≤ length fs → Last cs fs (some f) (record { name = f.name; rest = f.rest; env = env_at cs f.cell } ∷ returns_at cs fs f.older)

pub last_of : (cs : List Marked) (fs : List Frame) → FramesIn cs fs → (k : ℕ) → Last cs fs (numbered fs k) (returns_at cs fs k)
unfolding numbered returns_at
last_of cs [] h k = no_return
last_of cs (f ∷ fs) (l, o, h) k = go (eqb k (suc (length fs))) (last_of cs fs h k)
  where
    grow : {x : Option Frame} {rs : List Return} → Last cs fs x rs → Last cs (f ∷ fs) x rs
    grow no_return = no_return
    grow (last {f = g} a b) = rw (← frame_older cs f fs g.older b) (last {f = g} a (omega arith))

    go : (t : Bool) → Last cs fs (numbered fs k) (returns_at cs fs k)
        → Last cs (f ∷ fs) (pick t (some f) (numbered fs k)) (pick t (record { name = f.name; rest = f.rest; env = env_at cs f.cell } ∷ returns_at cs fs f.older) (returns_at cs fs k))
    go true q = rw (← frame_older cs f fs f.older o) (last {f = f} l (omega arith))
    go false q = grow q
