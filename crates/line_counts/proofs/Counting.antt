-- The claims and the sets of a store, counted.
use Prim.Native.Nat.{ℕ, suc, ◌-◌}
use Rattle.std.specs.List.{count_by}
use Rattle.std.proofs.Common.{nat_eq}
use Rattle.std.proofs.lemmas.List.Sums.{sum_by-cons}
use mathlib.Core.Bool.{not, cond}
use mathlib.Core.List.{[], ◌∷◌}
use native.Mathlib.Decide.{ℕ_discrete as dec_eq}
use native.Mathlib.Omega.{arith}
use mathlib.Core.Path.{◌≡◌, refl, sym, ap, ◌∙◌}
use lib.ListN.{length, drop, take}
use lib.Seq.{drop-drop}
use borrow.Author.Tests.{eq-eqb, ne_eqb}
use Rattle.format.specs.Text.{Bytes}
use Rattle.format.specs.Limits.{row_limit}
use Rattle.format.specs.Document.{Document}
use Rattle.calls.specs.Layout.{decode_claims, rows_size, sets_size, claims_start, comms_start, decode, decode_sets}
use Rattle.calls.specs.declared.Counts.{Counts}
use Rattle.calls.specs.Calls.{counts}
use Rattle.calls.proofs.Canonical.{drop_thrice}
use Rattle.store.proofs.Laws.{rest_all}
use Rattle.line_counts.specs.Counting.{store_counts}

-- a claim for each code that is not 0
pub claims_counted : (c : ℕ) (codes : Bytes) → count_by (λ code. not (nat_eq code 0)) codes ≡ length (decode_claims c codes)
unfolding decode_claims
claims_counted c [] = refl
claims_counted c (code ∷ codes) =
    sum_by-cons (λ (code : ℕ). cond (not (nat_eq code 0)) 1 0) code codes
    ∙ elim (dec_eq code 0) [ yes e ↦ rw (eq-eqb code 0 e, decode_claims) (omega (arith, claims_counted (suc c) codes)) | no d ↦ rw (ne_eqb code 0 d, decode_claims) (omega (arith, claims_counted (suc c) codes)) ]

-- the parts of a store behind its rows
pub counted : (n f c k : ℕ) (s : Bytes)
    → f ≡ length (decode_sets row_limit 0 (take (length s - rows_size) (drop rows_size s)))
    → c ≡ length (decode_sets row_limit 0 (take (length s - comms_start) (drop comms_start s)))
    → k ≡ length (decode_claims 0 (take (length s - claims_start) (drop claims_start s)))
    → ◌≡◌ {A = Counts} (record { rows = n; flows = f; comms = c; claims = k }) (store_counts n s)
unfolding store_counts decode
counted n f c k s e g h =
    let a = e ∙ ap (λ (x : Bytes). length (decode_sets row_limit 0 x)) (rest_all s rows_size) in
    let d = g ∙ ap (λ (x : Bytes). length (decode_sets row_limit 0 x)) (rest_all s comms_start ∙ sym (drop-drop sets_size rows_size s)) in
    let b = h ∙ ap (λ (x : Bytes). length (decode_claims 0 x)) (rest_all s claims_start ∙ sym (drop_thrice rows_size sets_size sets_size s)) in
    λ i. record { rows = n; flows = a i; comms = d i; claims = b i }

-- the counts of a document's own bytes
pub own_counts : (n : ℕ) (s : Bytes) (d : Document) → n ≡ length d.rows → decode s ≡ d → store_counts n s ≡ counts d
unfolding store_counts counts
own_counts n s d e q = λ i. record { rows = e i; flows = length (q i).flows; comms = length (q i).comms; claims = length (q i).claims }
