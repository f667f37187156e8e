-- A turn of the loop that reads the rest of a set, and the whole set: what the bytes at hand say of the rest from there.
use Prim.Native.Nat.{ℕ, zero, suc, ◌+◌, ◌-◌, ◌<◌}
use mathlib.Core.List.{List, [], ◌∷◌}
use Rattle.std.specs.Prelude.{Option, None as none, Some as some}
use mathlib.Core.Path.{◌≡◌, refl, sym, ap, ◌∙◌}
use native.Mathlib.Omega.{arith}
use native.Mathlib.Numerals.{add-one}
use lib.ListN.{length, set}
use Rattle.program.specs.Maybe.{◌>>=◌}
use Rattle.format.specs.Text.{Bytes, ascii, expect, read_number, read_argument}
use Rattle.format.specs.Read.{read_first, read_members, read_set}
use Rattle.read_sets.specs.declared.SetFault.{SetFault}
use Rattle.read_sets.specs.Sets.{set_fault, marks, fault_after, fault_from, SetIs}
use Rattle.read_sets.proofs.Faults.{fault_is}

-- a member before others that have been read
abbrev also : ℕ → List ℕ × ℕ → Option (List ℕ × ℕ)
also m (ms, e) = some (m ∷ ms, e)

also_is : (fault : Option SetFault) (least m : ℕ) (o : Option (List ℕ × ℕ)) (flags : Bytes) (r : Option (ℕ × Option SetFault)) (left : Bytes)
    → SetIs (fault_from (fault_after fault least m) (m + 1)) o (set flags m 1) r left → SetIs (fault_from fault least) (o >>= also m) flags r left
unfolding fault_from marks ◌>>=◌
also_is fault least m none flags r left h = h
also_is fault least m (some x) flags r left h = h

-- ---- the rest of a set, in at most k rows

module _ (s : Bytes) (at : ℕ) (fault : Option SetFault) (least : ℕ) (flags : Bytes) where
  pub members_out : (left : Bytes) → SetIs (fault_from fault least) (read_members 0 s at) flags none left
  unfolding read_members
  members_out left = refl

  pub members_end : (k end : ℕ) → 0 < k → expect (93 ∷ []) s at ≡ some end → SetIs (fault_from fault least) (read_members k s at) flags (some (end, fault)) flags
  unfolding read_members ascii fault_from marks
  members_end zero end h e = absurd (omega arith)
  members_end (suc k) end h e = rw (e, read_members) (refl, refl)

  pub members_stop : (k : ℕ) (left : Bytes) → expect (93 ∷ []) s at ≡ none → read_argument s at ≡ none → SetIs (fault_from fault least) (read_members k s at) flags none left
  unfolding read_members ascii ◌>>=◌
  members_stop zero left e n = refl
  members_stop (suc k) left e n = rw (e, read_members, n) refl

  pub members_row : (k n next : ℕ) → 0 < k → expect (93 ∷ []) s at ≡ none → read_argument s at ≡ some (n, next) → (r : Option (ℕ × Option SetFault)) (left : Bytes)
      → SetIs (fault_from (fault_after fault least (n + 1)) (n + 1 + 1)) (read_members (k - 1) s next) (set flags (n + 1) 1) r left
      → SetIs (fault_from fault least) (read_members k s at) flags r left
  unfolding read_members ascii ◌>>=◌
  members_row zero n next h e q r left t = absurd (omega arith)
  members_row (suc k) n next h e q r left t =
      let j : suc k - 1 ≡ k = omega arith in
      rw (e, read_members, q) (rw (add-one n) at (also_is fault least (n + 1) (read_members k s next) flags r left (rw j at t)))

-- ---- a whole set

whole : (m : ℕ) (o : Option (List ℕ × ℕ)) (flags : Bytes) (r : Option (ℕ × Option SetFault)) (left : Bytes)
    → SetIs (fault_from (fault_after none 0 m) (m + 1)) o (set flags m 1) r left → SetIs set_fault (o >>= also m) flags r left
unfolding ◌>>=◌
whole m none flags r left h = h
whole m (some x) flags r left h = ((also_is none 0 m (some x) flags r left h).0 ∙ rw (fault_is (m ∷ x.0)), (also_is none 0 m (some x) flags r left h).1)

module _ (s : Bytes) (at p : ℕ) (flags : Bytes) (bracket : expect (91 ∷ []) s at ≡ some p) where
  pub set_stop : (left : Bytes) → expect (117 ∷ []) s p ≡ none → read_number s p ≡ none → SetIs set_fault (read_set s at) flags none left
  unfolding read_set read_first ascii ◌>>=◌
  set_stop left e n = rw (bracket, e, read_first, n) refl

  pub set_unit : (q : ℕ) → expect (117 ∷ []) s p ≡ some q → (r : Option (ℕ × Option SetFault)) (left : Bytes)
      → SetIs (fault_from none 1) (read_members (length s) s q) (set flags 0 1) r left → SetIs set_fault (read_set s at) flags r left
  unfolding read_set read_first ascii fault_after ◌>>=◌
  set_unit q e r left t = rw (bracket, e, read_first) (whole 0 (read_members (length s) s q) flags r left t)

  pub set_row : (n q : ℕ) → expect (117 ∷ []) s p ≡ none → read_number s p ≡ some (n, q) → (r : Option (ℕ × Option SetFault)) (left : Bytes)
      → SetIs (fault_from (fault_after none 0 (n + 1)) (n + 1 + 1)) (read_members (length s) s q) (set flags (n + 1) 1) r left
      → SetIs set_fault (read_set s at) flags r left
  unfolding read_set read_first ascii ◌>>=◌
  set_row n q e k r left t = rw (bracket, e, read_first, k) (rw (add-one n) at (whole (n + 1) (read_members (length s) s q) flags r left t))

-- ---- what an answer of `read_set` says, for its callers

pub record SetFound (o : Option (List ℕ × ℕ)) (next : ℕ) (fault : Option SetFault) (flags left : Bytes) : Type 0 where
  pub members : List ℕ
  pub reads : o ≡ some (members, next)
  pub fault_is_set : fault ≡ set_fault members
  pub marked : left ≡ marks members flags

pub set_found : (o : Option (List ℕ × ℕ)) (flags : Bytes) (r : Option (ℕ × Option SetFault)) (left : Bytes) {next : ℕ} {fault : Option SetFault}
    → SetIs set_fault o flags r left → r ≡ some (next, fault) → SetFound o next fault flags left
set_found none flags r left h e = let z : ◌≡◌ {A = ℕ} 0 1 = cc in absurd (omega arith)
set_found (some (ms, p)) flags r left {next} {fault} (h, k) e =
    let same : ◌≡◌ {A = ℕ × Option SetFault} (p, set_fault ms) (next, fault) = cc in
    record { members = ms; reads = ap (λ (x : ℕ × Option SetFault). some (ms, x.0)) same; fault_is_set = sym (ap (λ (x : ℕ × Option SetFault). x.1) same); marked = k }

pub set_missing : (o : Option (List ℕ × ℕ)) (flags : Bytes) (r : Option (ℕ × Option SetFault)) (left : Bytes) → SetIs set_fault o flags r left → r ≡ none → o ≡ none
set_missing none flags r left h e = refl
set_missing (some (ms, p)) flags r left (h, k) e = let z : ◌≡◌ {A = ℕ} 0 1 = cc in absurd (omega arith)
