-- The bytes of a part of a store one by one, and its claims from a row on.
use Prim.Native.Nat.{ℕ, suc, ◌+◌, ◌-◌, ◌≤◌, ◌<◌}
use native.Mathlib.Omega.{arith}
use native.Mathlib.Numerals.{add-one}
use native.Mathlib.Decide.{dec_lt}
use mathlib.Core.List.{List, [], ◌∷◌}
use mathlib.Core.Path.{◌≡◌}
use lib.ListN.{length, take, drop, get_or-eq_default, drop_of_length-le}
use lib.Seq.{drop-cons, take-nil}
use lib.Dec.{eqb}
use borrow.Author.Tests.{eq-eqb}
use Rattle.program.specs.Test.{pick}
use Rattle.format.specs.Limits.{row_limit}
use Rattle.format.specs.Text.{Bytes, byte_at}
use Rattle.format.specs.Document.{Claim}
use Rattle.calls.specs.Layout.{word_of, decode_claims}
use Rattle.calls.proofs.Codec.Sparse.{either}

pub part_inside : (s : Bytes) (i k : ℕ) → i < length s → take (suc k) (drop i s) ≡ byte_at s i ∷ take k (drop (i + 1) s)
part_inside s i k l = rw (drop-cons s i 0 l, add-one)

pub part_past : (s : Bytes) (i k : ℕ) → length s ≤ i → take k (drop i s) ≡ []
part_past s i k l = rw (drop_of_length-le s l) (take-nil k)

-- ---- the claims from row c on

claims_step : (s : Bytes) (i k c : ℕ) → decode_claims c (take (suc k) (drop i s))
    ≡ pick (eqb (byte_at s i) 0) (decode_claims (c + 1) (take k (drop (i + 1) s)))
    (record { channel = c; word = word_of (byte_at s i) } ∷ decode_claims (c + 1) (take k (drop (i + 1) s)))
unfolding decode_claims
claims_step s i k c = go (dec_lt i (length s))
  where
    go : Dec (i < length s) → decode_claims c (take (suc k) (drop i s))
        ≡ pick (eqb (byte_at s i) 0) (decode_claims (c + 1) (take k (drop (i + 1) s)))
        (record { channel = c; word = word_of (byte_at s i) } ∷ decode_claims (c + 1) (take k (drop (i + 1) s)))
    go (yes l) = rw (part_inside s i k l) (either (eqb (byte_at s i) 0) (λ e. rw (e, decode_claims, add-one c)) (λ e. rw (e, decode_claims, add-one c)))
    go (no l) = rw (part_past s i (suc k) (omega arith), part_past s (i + 1) k (omega arith), eq-eqb (byte_at s i) 0 (get_or-eq_default s 0 (omega arith)))

abbrev pub claims_on : Bytes → ℕ → ℕ → List Claim
claims_on s base c = decode_claims c (take (row_limit - c) (drop (base + c) s))

pub claims_next : (s : Bytes) (base c : ℕ) → c < row_limit → claims_on s base c
    ≡ pick (eqb (byte_at s (base + c)) 0) (claims_on s base (c + 1)) (record { channel = c; word = word_of (byte_at s (base + c)) } ∷ claims_on s base (c + 1))
claims_next s base c l =
    let q : row_limit - c ≡ suc (row_limit - (c + 1)) = omega arith in
    let e : base + c + 1 ≡ base + (c + 1) = omega arith in
    rw (q, claims_step s (base + c) (row_limit - (c + 1)) c, e)
