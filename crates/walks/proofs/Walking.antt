-- What walks come to, as a loop over the rows finds it.
use Prim.Native.Nat.{ℕ, ◌+◌, ◌*◌, ◌≤◌, ◌<◌, max}
use native.Mathlib.Omega.{arith}
use native.Mathlib.Numerals.{add-one}
use native.Mathlib.Decide.{ℕ_discrete as dec_eq}
use mathlib.Core.Bool.{Bool, true, false, ◌&&◌, ◌||◌, and-false}
use mathlib.Core.Path.{◌≡◌, refl, sym, ap, ◌∙◌}
use lib.ListN.{length, get_or, set, replicate, length-set, length-replicate}
use lib.Seq.{get_or-set_same, get_or-set_other}
use lib.Dec.{ltb}
use borrow.Author.Tests.{lt-ltb, ne_eqb}
use Rattle.program.specs.Test.{any}
use Rattle.program.specs.Maybe.{has}
use Rattle.program.proofs.Test.{any_intro, any_same}
use Rattle.format.specs.Limits.{row_limit}
use Rattle.format.specs.Text.{Bytes, byte_at}
use Rattle.store.specs.Rows.{store_program}
use Rattle.store.proofs.Laws.{zeros_at}
use Rattle.row_lists.specs.Lists.{Lists, of_kind}
use Rattle.row_lists.proofs.Listing.{any_listed}
use Rattle.row_lists.proofs.OfKind.{fork_none}
use Rattle.row_marks.specs.RowMarks.{on, Marked}
use Rattle.row_marks.proofs.Marking.{over_max}
use Rattle.walks.specs.Walks.{comes_to, JoinsMarks, forks_on, rivals_on}

-- ---- rows of a list of which a test holds of none

module _ (list : Bytes) (f : ℕ → Bool) where
  abbrev pub one_of : ℕ → Bool
  one_of i = any i λ j. f (byte_at list j)

  pub none_more : (i : ℕ) → f (byte_at list i) ≡ false → one_of i ≡ false → one_of (i + 1) ≡ false
  unfolding any
  none_more i z h = rw (add-one i, z) h

  pub one_found : (i : ℕ) → i < length list → f (byte_at list i) ≡ true → one_of (length list) ≡ true
  one_found i l t = any_intro (λ j. f (byte_at list j)) i l t

-- ---- spawns

module _ (n : ℕ) (s : Bytes) (reached places ahead : Bytes) where
  abbrev pub parts : ℕ → Bool
  parts q = on reached q && forks_on n (store_program n s) places ahead q

  -- walks part at spawns alone
  pub spawns_tell : (spawns : Bytes) → Lists n (of_kind s 10) spawns → one_of spawns parts (length spawns) ≡ rivals_on n (store_program n s) reached places ahead
  unfolding rivals_on forks_on has
  spawns_tell spawns h = any_listed spawns h parts ∙ any_same n _ _ (λ q l. go q l (of_kind s 10 q) refl)
    where
      go : (q : ℕ) → q < n → (t : Bool) → of_kind s 10 q ≡ t → t && parts q ≡ parts q
      go q l true e = refl
      go q l false e = rw (fork_none n s q l e) (sym (and-false (on reached q)))

module _ (marks : Bytes) (q : ℕ) {x : ℕ} (e : x ≡ byte_at marks q) where
  pub not_on : (b : Bool) → x ≡ 0 → on marks q && b ≡ false
  unfolding on
  not_on b z = rw (← e, z)

  pub is_on : (b : Bool) → (x ≡ 0 → ⊥) → on marks q && b ≡ b
  unfolding on
  is_on b z = rw (← e, lt-ltb 0 x (omega arith))

-- row 0 too
pub marked_first : {n : ℕ} (grid : Bytes) {s : Bytes} → Marked n (λ r. on grid (r * row_limit)) s → Marked n (comes_to grid) (set s 0 1)
unfolding on comes_to
marked_first grid {s} m =
    record {
      size = simp length-set m.size;
      rows = λ r h. elim (dec_eq r 0) [
        | yes q ↦ rw (q, get_or-set_same s 0 1 0 (omega (arith, m.size)))
        | no d ↦ rw (get_or-set_other s 0 r 1 0 d, ne_eqb r 0 d) (m.rows r h)
      ];
    }

-- ---- rows of a grid joined into marks

-- up to row j
pub record JoinsTo (grid : Bytes) (at : ℕ) (marks : Bytes) (j : ℕ) (left : Bytes) : Type 0 where
  pub same_length : length left ≡ length marks
  pub done : (c : ℕ) → c < j → get_or left c 0 ≡ max (get_or marks c 0) (get_or grid (at + c) 0)
  pub past : (c : ℕ) → j ≤ c → get_or left c 0 ≡ get_or marks c 0

-- the rows ahead of the first i rows' places
abbrev pub ahead_below : Bytes → Bytes → ℕ → ℕ → Bool
ahead_below grid places i r = any i λ k. on places k && on grid (k * row_limit + r)

module _ {n : ℕ} (grid places : Bytes) (i : ℕ) {marks : Bytes} where
  -- row i is no place
  pub ahead_skip : get_or places i 0 ≡ 0 → Marked n (ahead_below grid places i) marks → Marked n (ahead_below grid places (i + 1)) marks
  unfolding any on
  ahead_skip z m = record { size = m.size; rows = λ r l. m.rows r l ∙ rw (add-one i, z) }

  -- it is one
  pub ahead_join : {left : Bytes} → (get_or places i 0 ≡ 0 → ⊥) → JoinsMarks n grid (i * row_limit) marks left → Marked n (ahead_below grid places i) marks
      → Marked n (ahead_below grid places (i + 1)) left
  unfolding any on
  ahead_join {left} z j m =
      record {
        size = rw j.same_length m.size;
        rows = λ r l.
            rw (add-one i, lt-ltb 0 (get_or places i 0) (omega (arith, z)), j.joined r l, over_max (get_or marks r 0) (get_or grid (i * row_limit + r) 0))
            (ap (λ b. ltb 0 (get_or grid (i * row_limit + r) 0) || b) (m.rows r l));
      }

pub ahead_none : {n : ℕ} (grid places : Bytes) → n ≤ row_limit → Marked n (ahead_below grid places 0) (replicate row_limit 0)
unfolding any on
ahead_none grid places l = record { size = omega (arith, length-replicate {A = ℕ} row_limit 0); rows = λ r m. rw (zeros_at row_limit r) }
