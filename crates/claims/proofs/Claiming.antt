-- The claims in turn: one claim more, and the first that fails.
use Rattle.std.specs.Prelude.{Ok, Err}
use Prim.Native.Nat.{ℕ, suc, ◌+◌, ◌-◌, ◌<◌, ◌≤◌}
use native.Mathlib.Omega.{arith}
use native.Mathlib.Nat.{add-zero}
use mathlib.Core.Bool.{Bool, true, false}
use mathlib.Core.List.{List, [], ◌∷◌}
use Rattle.std.specs.Prelude.{Option, None as none, Some as some}
use mathlib.Core.Path.{◌≡◌, sym, ap, ◌∙◌}
use lib.ListN.{length, take, drop}
use borrow.Author.Tests.{ne_eqb}
use Rattle.format.specs.declared.Reason.TheVariants.{ClaimFails}
use Rattle.format.specs.Refusals.{refusal}
use Rattle.format.specs.Limits.{row_limit}
use Rattle.format.specs.Text.{Bytes, byte_at}
use Rattle.format.specs.Document.{Claim}
use Rattle.format.specs.Structure.{first_failing}
use Rattle.calls.specs.Answers.{JudgeAnswer}
use Rattle.calls.specs.Layout.{word_of, decode_claims}
use Rattle.calls.proofs.Codec.Sparse.{either}
use Rattle.store.proofs.Claims.{claims_on, claims_next}
use Rattle.claims.specs.Claims.{Held, claims_held, judged_at}

-- ---- one claim more

module _ (ok : Claim → Bool) (s : Bytes) (base held : ℕ) where
  abbrev held_from : ℕ → ℕ → Held
  held_from held c = claims_held ok held (claims_on s base c)

  pub held_end : (c : ℕ) → row_limit ≤ c → held_from held c ≡ Ok held
  unfolding decode_claims claims_held
  held_end c l = let q : row_limit - c ≡ 0 = omega arith in rw q

  module _ (c : ℕ) (l : c < row_limit) {code : ℕ} (e : code ≡ byte_at s (base + c)) where
    pub held_none : code ≡ 0 → held_from held c ≡ held_from held (c + 1)
    held_none z = rw (claims_next s base c l, ← e, z)

    pub held_holds : (code ≡ 0 → ⊥) → ok (record { channel = c; word = word_of code }) ≡ true → held_from held c ≡ held_from (held + 1) (c + 1)
    unfolding claims_held
    held_holds z h = rw (claims_next s base c l, ← e, ne_eqb code 0 z, h)

    pub held_fails : (code ≡ 0 → ⊥) → ok (record { channel = c; word = word_of code }) ≡ false → held_from held c ≡ Err held
    unfolding claims_held
    held_fails z h = rw (claims_next s base c l, ← e, ne_eqb code 0 z, h)

-- ---- no claim, and no claim that fails

pub held_empty : (ok : Claim → Bool) (ks : List Claim) {many : ℕ} → many ≡ length ks → many ≡ 0 → Ok many ≡ claims_held ok 0 ks
unfolding claims_held
held_empty ok [] e z = ap Ok z
held_empty ok (k ∷ ks) e z = absurd (omega (arith, e, z))

held_more : (ok : Claim → Bool) → ((k : Claim) → ok k ≡ true) → (held : ℕ) (ks : List Claim) → claims_held ok held ks ≡ Ok (held + length ks)
unfolding claims_held
held_more ok h held [] = ap Ok (sym (add-zero held))
held_more ok h held (k ∷ ks) = let q : held + 1 + length ks ≡ held + suc (length ks) = omega arith in rw (h k) (rw q at (held_more ok h (held + 1) ks))

pub held_all : (ok : Claim → Bool) (ks : List Claim) {many : ℕ} → many ≡ length ks → ((k : Claim) → ok k ≡ true) → Ok many ≡ claims_held ok 0 ks
held_all ok ks e h = let q : 0 + length ks ≡ length ks = omega arith in ap Ok e ∙ sym (rw q at (held_more ok h 0 ks))

-- ---- the first that fails

unfoldable pub answer_of : ℕ → Option ℕ → JudgeAnswer
answer_of count none = Ok count
answer_of count (some line) = Err (refusal ClaimFails line)

judged_first : (ok : Claim → Bool) (line held : ℕ) (ks : List Claim) → judged_at line (claims_held ok held ks) ≡ answer_of (held + length ks) (first_failing ok (line + held) ks)
unfolding claims_held judged_at first_failing answer_of
judged_first ok line held [] = ap Ok (sym (add-zero held))
judged_first ok line held (k ∷ ks) =
    let q : held + 1 + length ks ≡ held + suc (length ks) = omega arith in
    let r : line + (held + 1) ≡ line + held + 1 = omega arith in
    either (ok k)
    (λ e. rw (e, first_failing) (rw (q, r) at (judged_first ok line (held + 1) ks)))
    (λ e. rw (e, first_failing))

pub judged_is : (ok : Claim → Bool) (line : ℕ) (ks : List Claim) → judged_at line (claims_held ok 0 ks) ≡ answer_of (length ks) (first_failing ok line ks)
judged_is ok line ks =
    let q : 0 + length ks ≡ length ks = omega arith in
    let r : line + 0 ≡ line = omega arith in
    rw (q, r) at (judged_first ok line 0 ks)
