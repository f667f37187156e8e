-- The claims that are read from a store: they rise and stay below the limit, and are the bytes again exactly if these are codes.
use Prim.Native.Nat.{ℕ, zero, suc, ◌+◌, ◌<◌}
use native.Mathlib.Omega.{arith}
use native.Mathlib.Nat.{add-zero, suc-add, add-suc}
use mathlib.Core.Bool.{false, not, So, false≢true}
use mathlib.Core.List.{List, [], ◌∷◌, map}
use mathlib.Core.Path.{◌≡◌, refl, sym}
use mathlib.Core.Logic.{◌↔◌}
use lib.ListN.{length, get_or}
use lib.Dec.{ltb, eqb}
use borrow.Author.Tests.{eqb-true, eq-eqb, ne_eqb}
use Rattle.program.specs.Each.{every, Each, nil, ◌&◌}
use Rattle.program.proofs.Each.{each_imp, each_map}
use Rattle.format.specs.Limits.{row_limit}
use Rattle.format.specs.Text.{Bytes}
use Rattle.format.specs.Document.{Claim, claim}
use Rattle.format.specs.Read.{rising, line_numbers, above_limit}
use Rattle.calls.specs.Layout.{counting, word_code, word_of, code_limit, claim_code, decode_claims}
use Rattle.calls.proofs.Codec.Sparse.{either, counting_each, Within}
use Rattle.calls.proofs.Codec.Claims.{code_range}
use Rattle.calls.proofs.Canonical.Lists.{every_intro, counting_is, within_skip, within_cons, within_below, low_line, below_iff}

abbrev channel_of : Claim → ℕ
channel_of k = k.channel

claims_within_lem : (c : ℕ) (ks : Bytes) → Within channel_of c (length ks) (decode_claims c ks)
unfolding decode_claims rising
claims_within_lem c [] = (nil, refl)
claims_within_lem c (k ∷ ks) =
    either (eqb k 0)
    (λ e. rw (e, decode_claims) (within_skip channel_of c (length ks) (claims_within_lem (suc c) ks)))
    (λ e. rw (e, decode_claims) (within_cons channel_of c (length ks) (record { channel = c; word = word_of k }) refl (claims_within_lem (suc c) ks)))

code_none : (c : ℕ) (ks : List Claim) → Each (λ k. c < k.channel) ks → claim_code ks c ≡ 0
unfolding claim_code
code_none c [] nil = refl
code_none c (k ∷ ks) (l & h) = rw (ne_eqb c k.channel (omega arith), claim_code) (code_none c ks h)

word_again : (k : ℕ) → eqb k 0 ≡ false → k < code_limit → word_code (word_of k) ≡ k
unfolding word_code word_of
word_again zero e l = absurd (false≢true (sym e))
word_again (suc zero) e l = refl
word_again (suc (suc zero)) e l = refl
word_again (suc (suc (suc zero))) e l = refl
word_again (suc (suc (suc (suc zero)))) e l = refl
word_again (suc (suc (suc (suc (suc zero))))) e l = refl
word_again (suc (suc (suc (suc (suc (suc zero)))))) e l = refl
word_again (suc (suc (suc (suc (suc (suc (suc k))))))) e l = absurd (omega arith)

-- a byte below the limit is the code of its claim
code_again : (c : ℕ) (ks : Bytes) → Each (λ b. b < code_limit) ks → (j : ℕ) → claim_code (decode_claims c ks) (c + j) ≡ get_or ks j 0
unfolding decode_claims claim_code
code_again c [] h j = refl
code_again c (k ∷ ks) (l & h) zero =
    let none : claim_code (decode_claims (suc c) ks) c ≡ 0 = code_none c (decode_claims (suc c) ks) (within_below channel_of (suc c) (length ks) c (omega arith) (claims_within_lem (suc c) ks)) in
    either (eqb k 0)
    (λ e. rw (e, decode_claims, add-zero, none, eqb-true k 0 e))
    (λ e. rw (e, decode_claims, add-zero, eq-eqb c c refl, claim_code) (word_again k e l))
code_again c (k ∷ ks) (l & h) (suc j) =
    either (eqb k 0)
    (λ e. rw (e, decode_claims, add-suc, ← suc-add) (code_again (suc c) ks h j))
    (λ e. rw (e, decode_claims, ne_eqb (c + suc j) c (omega arith), claim_code, add-suc, ← suc-add) (code_again (suc c) ks h j))

claims_again : (n : ℕ) (ks : Bytes) → length ks ≡ n → Each (λ b. b < code_limit) ks → counting n 0 (claim_code (decode_claims 0 ks)) ≡ ks
claims_again n ks e h = counting_is n 0 _ 0 ks e (code_again 0 ks h)

-- the test of the claims' part
pub claims_iff : (n : ℕ) (ks : Bytes) → length ks ≡ n → So (every (λ b. ltb b code_limit) ks) ↔ (counting n 0 (claim_code (decode_claims 0 ks)) ≡ ks)
claims_iff n ks e =
    let cs = decode_claims 0 ks in
    (λ t. claims_again n ks e ((below_iff code_limit ks).0 t), λ q. (below_iff code_limit ks).1 (rw q at (counting_each {P = λ b. b < code_limit} n 0 (claim_code cs) (code_range cs))))

-- the claims that are read rise
pub claims_rise : (ks : Bytes) → So (rising (map (λ (c : Claim). c.channel) (decode_claims 0 ks)))
claims_rise ks = (claims_within_lem 0 ks).1

pub claim_lines : (ks : Bytes) → length ks ≡ row_limit → So (every (λ l. not (above_limit l)) (map claim (decode_claims 0 ks)))
unfolding line_numbers
claim_lines ks e = every_intro (λ l. not (above_limit l)) (each_map claim (each_imp (λ c h. low_line (claim c) (omega arith & nil)) (claims_within_lem 0 ks).0))
