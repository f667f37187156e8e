-- The lines of claims.
use Prim.Native.Nat.{ℕ, suc, ◌+◌, ◌<◌, ◌≤◌}
use mathlib.Core.List.{List, [], ◌∷◌, ◌++◌, map, append-nil}
use mathlib.Core.Path.{◌≡◌, refl}
use native.Mathlib.Numerals.{add-one}
use lib.ListN.{length, get_or, drop, drop_of_length-le}
use lib.Seq.{drop-cons}
use lib.Dec.{eqb}
use borrow.Author.Tests.{ne_eqb}
use Rattle.program.specs.Each.{collect}
use Rattle.program.proofs.Each.{collect-append}
use Rattle.format.specs.Text.{Bytes}
use Rattle.format.specs.Document.{Claim, claim}
use Rattle.format.specs.Print.{line_text}
use Rattle.calls.specs.Layout.{word_of, decode_claims}
use Rattle.calls.proofs.Codec.Sparse.{either}

-- ---- lists, one after the other

map-append : {A B : Type 0} (g : A → B) (xs ys : List A) → map g (xs ++ ys) ≡ map g xs ++ map g ys
map-append g [] ys = refl
map-append g (x ∷ xs) ys = rw (map-append g xs ys)

-- ---- the lines of claims c, c + 1 and so on

claim_split : (c k : ℕ) (ks : Bytes) → decode_claims c (k ∷ ks) ≡ decode_claims c (k ∷ []) ++ decode_claims (suc c) ks
unfolding decode_claims
claim_split c k ks = either (eqb k 0) (λ e. rw (e, decode_claims)) (λ e. rw (e, decode_claims))

abbrev pub claims_text : List Claim → Bytes
claims_text ks = collect line_text (map claim ks)

pub one_claim : (c k : ℕ) → (k ≡ 0 → ⊥) → claims_text (decode_claims c (k ∷ [])) ≡ line_text (claim (record { channel = c; word = word_of k }))
unfolding decode_claims collect
one_claim c k h = rw (ne_eqb k 0 h, decode_claims) (append-nil (line_text (claim (record { channel = c; word = word_of k }))))

pub claims_next : (codes : Bytes) (c : ℕ) → c < length codes
    → claims_text (decode_claims c (drop c codes)) ≡ claims_text (decode_claims c (get_or codes c 0 ∷ [])) ++ claims_text (decode_claims (c + 1) (drop (c + 1) codes))
claims_next codes c h =
    rw (add-one, drop-cons codes c 0 h, claim_split c (get_or codes c 0) (drop (suc c) codes), map-append)
    (collect-append line_text (map claim (decode_claims c (get_or codes c 0 ∷ []))) (map claim (decode_claims (suc c) (drop (suc c) codes))))

pub claims_end : (codes : Bytes) (c : ℕ) → length codes ≤ c → claims_text (decode_claims c (drop c codes)) ≡ []
unfolding decode_claims collect
claims_end codes c h = rw (drop_of_length-le codes h)
