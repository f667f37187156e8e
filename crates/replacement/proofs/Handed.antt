-- The set that is handed over: it is one that a set may be exactly if its list rises and holds value rows only, and it holds what is handed over.
use Prim.Native.Nat.{ℕ, zero, suc, ◌<◌}
use native.Mathlib.Omega.{arith}
use mathlib.Core.Bool.{Bool, true, false, ◌&&◌, So}
use mathlib.Core.List.{List, [], ◌∷◌, map}
use mathlib.Core.Path.{◌≡◌, refl, fun_ext}
use mathlib.Core.Logic.{◌↔◌}
use lib.Dec.{ltb, leb-suc-suc, eqb-suc-suc, eqb-zero-suc, eqb-suc-zero}
use borrow.Author.Tests.{lt-ltb}
use Rattle.program.specs.Each.{every, elem, Each, nil, ◌&◌}
use Rattle.program.specs.Program.{Program, value_row}
use Rattle.program.specs.Flow.{Abstract, u, row, Set}
use Rattle.program.proofs.Test.{and_left, and_right, and_intro}
use Rattle.program.proofs.Each.{every_elim}
use Rattle.least.proofs.Least.{value_bound}
use lib.ListN.{length}
use Rattle.format.specs.Text.{Bytes}
use Rattle.format.specs.Document.{Document, member}
use Rattle.format.specs.Read.{rising, set_rows}
use Rattle.format.specs.Structure.{member_allowed}
use Rattle.calls.proofs.Canonical.Lists.{every_intro}
use Rattle.replacement.specs.Replacement.{members_of, set_allowed}
use Rattle.replacement.specs.Replaced.{handed, MayBeSet}

-- ---- rows as members

module _ (f g : ℕ → Bool) (same : (r : ℕ) → f (suc r) ≡ g r) where
  every_rows : (rows : Bytes) → every f (map suc rows) ≡ every g rows
  unfolding every
  every_rows [] = refl
  every_rows (r ∷ rows) = rw (same r, every_rows rows)

rows_rise : (rows : Bytes) → rising (map suc rows) ≡ rising rows
unfolding rising
rows_rise [] = refl
rows_rise (r ∷ rows) = rw (every_rows (ltb (suc r)) (ltb r) (λ k. leb-suc-suc (suc r) k) rows, rows_rise rows)

rows_allowed : (p : Program) (rows : Bytes) → every (member_allowed p) (map suc rows) ≡ every (value_row p) rows
unfolding member_allowed
rows_allowed p rows = every_rows (member_allowed p) (value_row p) (λ r. refl) rows

above_unit : (rows : Bytes) → every (ltb 0) (map suc rows) ≡ true
unfolding every
above_unit [] = refl
above_unit (r ∷ rows) = rw (lt-ltb 0 (suc r) (omega arith), above_unit rows)

-- ---- 33

pub allowed_is : (p : Program) (unit : Bool) (rows : Bytes) → set_allowed p (members_of unit rows) ≡ (rising rows && every (value_row p) rows)
unfolding set_allowed members_of rising every member_allowed
allowed_is p true rows = rw (above_unit rows, rows_rise rows, rows_allowed p rows)
allowed_is p false rows = rw (rows_rise rows, rows_allowed p rows)

pub allowed_iff : (d : Document) (unit : Bool) (rows : Bytes) → So (set_allowed d.rows (members_of unit rows)) ↔ MayBeSet d rows
allowed_iff d unit rows = rw (allowed_is d.rows unit rows) (
  λ t. (and_left (rising rows) _ t, every_elim (value_row d.rows) rows (and_right (rising rows) _ t)),
  λ (t, h). and_intro t (every_intro (value_row d.rows) h),
)

-- the rows of a set that may be one are rows of the program
rows_there : (p : Program) (ms : List ℕ) → Each (λ m. So (member_allowed p m)) ms → Each (λ r. r < length p) (set_rows ms)
unfolding set_rows member_allowed
rows_there p [] nil = nil
rows_there p (zero ∷ ms) (k & h) = rows_there p ms h
rows_there p (suc r ∷ ms) (k & h) = value_bound p r k & rows_there p ms h

pub rows_low : (p : Program) (ms : List ℕ) → So (set_allowed p ms) → Each (λ r. r < length p) (set_rows ms)
unfolding set_allowed
rows_low p ms t = rows_there p ms (every_elim (member_allowed p) ms (and_right (rising ms) _ t))

-- ---- what it holds

unit_in : (rows : Bytes) → elem 0 (map suc rows) ≡ false
unfolding elem
unit_in [] = refl
unit_in (r ∷ rows) = rw (eqb-zero-suc r, unit_in rows)

row_in : (r : ℕ) (rows : Bytes) → elem (suc r) (map suc rows) ≡ elem r rows
unfolding elem
row_in r [] = refl
row_in r (k ∷ rows) = rw (eqb-suc-suc r k, row_in r rows)

pub handed_is : (unit : Bool) (rows : Bytes) → ◌≡◌ {A = Set} (λ a. elem (member a) (members_of unit rows)) (handed unit rows)
unfolding members_of member handed elem
handed_is unit rows = fun_ext λ a. at unit a
  where
    at : (unit : Bool) (a : Abstract) → elem (member a) (members_of unit rows) ≡ handed unit rows a
    at true u = refl
    at false u = unit_in rows
    at true (row r) = rw (eqb-suc-zero r) (row_in r rows)
    at false (row r) = row_in r rows
