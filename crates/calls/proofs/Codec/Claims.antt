-- The claims of the store: the codes of all channels decode to the claims.
use Prim.Native.Nat.{ℕ, zero, suc, ◌<◌}
use native.Mathlib.Omega.{arith}
use mathlib.Core.Bool.{So}
use mathlib.Core.List.{List, [], ◌∷◌, map}
use mathlib.Core.Path.{◌≡◌, refl, ap, ◌∙◌}
use Rattle.std.specs.Prelude.{Option, None as none, Some as some}
use lib.Dec.{eqb, lit<}
use borrow.Author.Tests.{eqb-true, ne_eqb}
use Rattle.program.specs.declared.Word.{Word}
use Rattle.program.specs.declared.Word.TheVariants.{OneShot, OneToOne, FanOut, FanIn, Many, OneSync}
use Rattle.program.specs.Test.{pick}
use Rattle.program.specs.Each.{Each}
use Rattle.program.proofs.Each.{each_imp}
use Rattle.format.specs.Document.{Claim}
use Rattle.format.specs.Read.{rising}
use Rattle.calls.specs.Layout.{counting, word_code, word_of, code_limit, claim_code, decode_claims}
use Rattle.calls.proofs.Codec.Sparse.{either, counting_each, gather, lookup, gather_back}
use Rattle.calls.proofs.Codec.Rows.{Byte}

-- the claim of a byte
claim_of : ℕ → ℕ → Option Claim
claim_of b c = pick (eqb b 0) none (some (record { channel = c; word = word_of b }))

claims_gathered : (n i : ℕ) (f : ℕ → ℕ) → decode_claims i (counting n i f) ≡ gather n i (λ c. claim_of (f c) c)
unfolding decode_claims counting gather claim_of
claims_gathered zero i f = refl
claims_gathered (suc n) i f =
    either (eqb (f i) 0)
    (λ e. rw (e, decode_claims, gather) (claims_gathered n (suc i) f))
    (λ e. rw (e, decode_claims, gather) (ap (λ ks. record { channel = i; word = word_of (f i) } ∷ ks) (claims_gathered n (suc i) f)))

claim_of_word : (w : Word) (c : ℕ) → claim_of (word_code w) c ≡ some (record { channel = c; word = w })
unfolding claim_of word_code word_of
claim_of_word OneShot c = refl
claim_of_word OneToOne c = refl
claim_of_word FanOut c = refl
claim_of_word FanIn c = refl
claim_of_word Many c = refl
claim_of_word OneSync c = refl

-- every code but five is that of many
pub word_other : (k : ℕ) → (k ≡ 1 → ⊥) → (k ≡ 2 → ⊥) → (k ≡ 3 → ⊥) → (k ≡ 4 → ⊥) → (k ≡ 6 → ⊥) → word_of k ≡ Many
unfolding word_of
word_other k a b c d e = rw (ne_eqb k 1 a, ne_eqb k 2 b, ne_eqb k 3 c, ne_eqb k 4 d, ne_eqb k 6 e)

word_range : (w : Word) → word_code w < code_limit
unfolding word_code
word_range OneShot = lit< tt
word_range OneToOne = lit< tt
word_range FanOut = lit< tt
word_range FanIn = lit< tt
word_range Many = lit< tt
word_range OneSync = lit< tt

claim_lookup : (ks : List Claim) (c : ℕ) → claim_of (claim_code ks c) c ≡ lookup (λ (k : Claim). k.channel) ks c
unfolding claim_of claim_code lookup
claim_lookup [] c = refl
claim_lookup (k ∷ ks) c =
    either (eqb c k.channel)
    (λ e. rw (e, claim_code, eqb-true c k.channel e) (claim_of_word k.word k.channel))
    (λ e. rw (e, claim_code) (claim_lookup ks c))

pub code_range : (ks : List Claim) (c : ℕ) → claim_code ks c < code_limit
unfolding claim_code
code_range [] c = lit< tt
code_range (k ∷ ks) c =
    either (eqb c k.channel) (λ e. rw (e, claim_code) (word_range k.word)) (λ e. rw (e, claim_code) (code_range ks c))

pub claims_range : (n : ℕ) (ks : List Claim) → Each Byte (counting n 0 (claim_code ks))
claims_range n ks = counting_each n 0 (claim_code ks) (λ c. omega (arith, code_range ks c))

pub claims_back : (n : ℕ) (ks : List Claim) → Each (λ k. k.channel < n) ks → So (rising (map (λ (k : Claim). k.channel) ks))
    → decode_claims 0 (counting n 0 (claim_code ks)) ≡ ks
claims_back n ks h up =
    claims_gathered n 0 (claim_code ks)
    ∙ gather_back (λ (k : Claim). k.channel) n 0 _ ks (λ c l. claim_lookup ks c) (each_imp (λ k l. omega arith) h, up)
