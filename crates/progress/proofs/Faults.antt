-- What is wrong with a line, told from the progress alone.
use Prim.Native.Nat.{ℕ, zero, suc, ◌+◌, ◌<◌, ◌≤◌}
use mathlib.Core.Bool.{Bool, true, false, not, ◌&&◌, ◌||◌, and-true, or-false}
use mathlib.Core.List.{List, [], ◌∷◌}
use Rattle.std.specs.Prelude.{Option, None as none, Some as some}
use mathlib.Core.Path.{◌≡◌, refl, sym, ap, ◌∙◌}
use native.Mathlib.Omega.{arith}
use native.Mathlib.Decide.{dec_lt}
use lib.ListN.{length}
use lib.Dec.{ltb, leb, eqb}
use borrow.Author.Tests.{lt-ltb, le-ltb, le-leb, lt-leb, eq-eqb, ne_eqb, ltb-false, leb-false, eqb-true, not-false}
use Rattle.program.specs.declared.Row.{Row}
use Rattle.program.specs.declared.Word.{Word}
use Rattle.program.specs.Test.{pick}
use Rattle.program.specs.Each.{every}
use Rattle.program.proofs.Test.{or_neither}
use Rattle.format.specs.declared.Reason.{Reason}
use Rattle.format.specs.declared.Reason.TheVariants.{NotALine, AboveLimit, OutOfCount, NotRising}
use Rattle.format.specs.Limits.{row_limit}
use Rattle.format.specs.Document.{Document, Line, row, claim}
use Rattle.format.specs.Read.{present, row_numbers, set_rows, line_numbers, out_of_order, above_limit, out_of_count, rising, not_rising, line_fault}
use Rattle.raw_rows.specs.Raw.{row_above}
use Rattle.read_sets.specs.declared.SetFault.{SetFault}
use Rattle.read_sets.specs.declared.SetFault.TheVariants as set
use Rattle.read_sets.specs.Sets.{is_above_limit, is_not_rising, set_fault}
use Rattle.progress.specs.declared.Progress.{Progress}
use Rattle.tables.specs.declared.Table.{Table}
use Rattle.tables.specs.declared.Table.TheVariants.{Flow, Comm}
use Rattle.progress.specs.Progress.{Matches}
use Rattle.progress.specs.Lines.{set_line, least_of, row_line_fault, set_line_fault, claim_line_fault}

-- ---- the tests

-- a list is present exactly if it has a length
pub present-length : {A : Type 0} (xs : List A) (n : ℕ) → length xs ≡ n → present xs ≡ ltb 0 n
unfolding present
present-length [] n e = sym (le-ltb 0 n (omega arith))
present-length (x ∷ xs) n e = sym (lt-ltb 0 n (omega arith))

absent_length : {A : Type 0} (xs : List A) (n : ℕ) → length xs ≡ n → not (present xs) ≡ eqb n 0
unfolding present
absent_length [] n e = sym (eq-eqb n 0 (sym e))
absent_length (x ∷ xs) n e = sym (ne_eqb n 0 (omega arith))

or_ltb : (a b : ℕ) → (ltb 0 a || ltb 0 b) ≡ ltb 0 (a + b)
or_ltb zero b = let e : b ≡ zero + b = omega arith in ap (ltb 0) e
or_ltb (suc a) b = rw (lt-ltb 0 (suc a) (omega arith), lt-ltb 0 (suc a + b) (omega arith))

-- a number above the limit, or one of the others; a key that does not rise, or members that do not
over : (n : ℕ) (b : Bool) → not (ltb n row_limit && b) ≡ (leb row_limit n || not b)
over n b =
    elim (dec_lt n row_limit) [
      | yes l ↦ rw (lt-ltb n row_limit l, lt-leb row_limit n l)
      | no g ↦ rw (le-ltb n row_limit (omega arith), le-leb row_limit n (omega arith))
    ]

under : (least n : ℕ) (b : Bool) → not (leb least n && b) ≡ (ltb n least || not b)
under least n b =
    elim (dec_lt n least) [
      | yes l ↦ rw (lt-leb least n l, lt-ltb n least l)
      | no g ↦ rw (le-leb least n (omega arith), le-ltb n least (omega arith))
    ]

-- ---- the fault of a line

-- the four tests of a line, and its fault: 2 before 3 before 4 before 5
abbrev first_of : Bool → Bool → Bool → Bool → Option Reason
first_of a b c e = pick a (some NotALine) (pick b (some AboveLimit) (pick c (some OutOfCount) (pick e (some NotRising) none)))

fault_is : (d : Document) (l : Line) (a b c e : Bool) → out_of_order d l ≡ a → above_limit l ≡ b → out_of_count d l ≡ c → not_rising d l ≡ e
    → line_fault d l ≡ first_of a b c e
unfolding line_fault
fault_is d l a b c e p q r t = rw (p, q, r, t)

-- the members of a set, whether a row is above the limit and whether they rise, and the set's own fault
same_fault : (a low c fall : Bool) (below rise : Bool)
    → first_of a (low || not below) c (fall || not rise)
    ≡ first_of a (low || is_above_limit (pick below (pick rise none (some set.NotRising)) (some set.AboveLimit))) c
    (fall || is_not_rising (pick below (pick rise none (some set.NotRising)) (some set.AboveLimit)))
same_fault a low c fall true true = refl
same_fault a low c fall true false = refl
same_fault a true c fall false rise = refl
same_fault a false c fall false rise = refl

module _ (d : Document) (p : Progress) (m : Matches d p) where
  flows-present : present d.flows ≡ ltb 0 p.flows
  flows-present = present-length d.flows p.flows m.flows_are

  comms-present : present d.comms ≡ ltb 0 p.comms
  comms-present = present-length d.comms p.comms m.comms_are

  claims-present : present d.claims ≡ ltb 0 p.claims
  claims-present = present-length d.claims p.claims m.claims_are

  no_rows : not (present d.rows) ≡ eqb p.rows 0
  no_rows = absent_length d.rows p.rows m.rows_are

  pub row_fault_lem : (n : ℕ) (x : Row) → line_fault d (row n x) ≡ row_line_fault p n (row_above x)
  unfolding out_of_order above_limit line_numbers out_of_count not_rising every row_line_fault
  row_fault_lem n x =
      fault_is d (row n x) (ltb 0 (p.flows + p.comms + p.claims)) (leb row_limit n || row_above x) (not (eqb n p.rows)) false
      (rw (flows-present, comms-present, claims-present, or_ltb p.flows p.comms, or_ltb (p.flows + p.comms) p.claims))
      (over n (every (λ n. ltb n row_limit) (row_numbers x)))
      (ap (λ (k : ℕ). not (eqb n k)) m.rows_are)
      refl

  pub set_fault_lem : (t : Table) (n : ℕ) (ms : List ℕ) → line_fault d (set_line t n ms) ≡ set_line_fault t p n (set_fault ms)
  unfolding out_of_order above_limit line_numbers out_of_count not_rising every set_line_fault set_fault
  set_fault_lem Flow n ms =
      let below = every (λ n. ltb n row_limit) (set_rows ms) in
      let late = ltb 0 (p.comms + p.claims) in
      fault_is d (set_line Flow n ms) late (leb row_limit n || not below) (eqb p.rows 0) (ltb n p.flow_least || not (rising ms))
      (rw (comms-present, claims-present, or_ltb p.comms p.claims))
      (over n below)
      no_rows
      (ap (λ (b : Bool). not (b && rising ms)) (m.flows_rise n) ∙ under p.flow_least n (rising ms))
      ∙ same_fault late (leb row_limit n) (eqb p.rows 0) (ltb n p.flow_least) below (rising ms)
  set_fault_lem Comm n ms =
      let below = every (λ n. ltb n row_limit) (set_rows ms) in
      let late = ltb 0 p.claims in
      fault_is d (set_line Comm n ms) late (leb row_limit n || not below) (eqb p.rows 0) (ltb n p.comm_least || not (rising ms))
      claims-present
      (over n below)
      no_rows
      (ap (λ (b : Bool). not (b && rising ms)) (m.comms_rise n) ∙ under p.comm_least n (rising ms))
      ∙ same_fault late (leb row_limit n) (eqb p.rows 0) (ltb n p.comm_least) below (rising ms)

  pub claim_fault : (n : ℕ) (w : Word) → line_fault d (claim (record { channel = n; word = w })) ≡ claim_line_fault p n
  unfolding out_of_order above_limit line_numbers out_of_count not_rising every claim_line_fault
  claim_fault n w =
      fault_is d (claim (record { channel = n; word = w })) false (leb row_limit n) (eqb p.rows 0) (ltb n p.claim_least)
      refl
      (over n true ∙ or-false (leb row_limit n))
      no_rows
      (ap not (m.claims_rise n ∙ sym (and-true (leb p.claim_least n))) ∙ under p.claim_least n true ∙ or-false (ltb n p.claim_least))

-- ---- a line without fault

faultless : (a b c e : Bool) → first_of a b c e ≡ none → (a ≡ false) × (b ≡ false) × (c ≡ false) × (e ≡ false)
faultless false false false false h = (refl, refl, refl, refl)
faultless true b c e h = let z : ◌≡◌ {A = ℕ} 0 1 = cc in absurd (omega arith)
faultless false true c e h = let z : ◌≡◌ {A = ℕ} 0 1 = cc in absurd (omega arith)
faultless false false true e h = let z : ◌≡◌ {A = ℕ} 0 1 = cc in absurd (omega arith)
faultless false false false true h = let z : ◌≡◌ {A = ℕ} 0 1 = cc in absurd (omega arith)

pub row_fits : (p : Progress) (n : ℕ) (above : Bool) → row_line_fault p n above ≡ none → (n < row_limit) × (above ≡ false) × (n ≡ p.rows)
unfolding row_line_fault
row_fits p n above h =
    let (a, b, c, e) = faultless (ltb 0 (p.flows + p.comms + p.claims)) (leb row_limit n || above) (not (eqb n p.rows)) false h in
    let (l, r) = or_neither (leb row_limit n) above b in
    (leb-false row_limit n l, r, eqb-true n p.rows (not-false (eqb n p.rows) c))

pub set_fits : (t : Table) (p : Progress) (n : ℕ) (f : Option SetFault) → set_line_fault t p n f ≡ none → (n < row_limit) × (least_of t p ≤ n)
unfolding set_line_fault
set_fits Flow p n f h =
    let (a, b, c, e) = faultless (ltb 0 (p.comms + p.claims)) (leb row_limit n || is_above_limit f) (eqb p.rows 0) (ltb n p.flow_least || is_not_rising f) h in
    (leb-false row_limit n (or_neither (leb row_limit n) (is_above_limit f) b).0, ltb-false n p.flow_least (or_neither (ltb n p.flow_least) (is_not_rising f) e).0)
set_fits Comm p n f h =
    let (a, b, c, e) = faultless (ltb 0 p.claims) (leb row_limit n || is_above_limit f) (eqb p.rows 0) (ltb n p.comm_least || is_not_rising f) h in
    (leb-false row_limit n (or_neither (leb row_limit n) (is_above_limit f) b).0, ltb-false n p.comm_least (or_neither (ltb n p.comm_least) (is_not_rising f) e).0)

pub claim_fits : (p : Progress) (n : ℕ) → claim_line_fault p n ≡ none → (n < row_limit) × (p.claim_least ≤ n)
unfolding claim_line_fault
claim_fits p n h =
    let (a, b, c, e) = faultless false (leb row_limit n) (eqb p.rows 0) (ltb n p.claim_least) h in
    (leb-false row_limit n b, ltb-false n p.claim_least e)
