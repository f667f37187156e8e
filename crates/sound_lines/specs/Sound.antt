-- The bytes of sets and claims, tested where they stand.
use Rattle.std.specs.Prelude.{ℕ, zero, suc, ◌-◌, ◌≤◌, ◌<◌, Bool, true, false, ◌&&◌, [], ◌∷◌, ◌≡◌, take, drop, ltb, leb, eqb}
use Rattle.std.specs.Prelude.{Option, None as none, Some as some}
use Rattle.program.specs.Test.{pick}
use Rattle.program.specs.Each.{every}
use Rattle.format.specs.Limits.{row_limit}
use Rattle.format.specs.Text.{Bytes, byte_at}
use Rattle.calls.specs.Layout.{member_limit, claims_start, code_limit}

-- each byte is at most its limit, where the first byte's limit stands at m
unfoldable pub within : Bytes → ℕ → Bytes → Bool
within limits m [] = true
within limits m (b ∷ bs) = leb b (byte_at limits m) && within limits (suc m) bs

-- the set of key n: of a marked key, allowed members only; of any other, none
unfoldable pub set_sound : Bytes → Bytes → ℕ → Bytes → Bool
set_sound keys members n bs = pick (eqb (byte_at keys n) 0) (every (λ b. ltb b 1) bs) (within members 0 bs)

-- the sets of k keys from n on
unfoldable pub sets_sound : Bytes → Bytes → ℕ → ℕ → Bytes → Bool
sets_sound keys members zero n bs = true
sets_sound keys members (suc k) n bs = set_sound keys members n (take member_limit bs) && sets_sound keys members k (suc n) (drop member_limit bs)

-- the largest code of a claim on a row, where chan is 0 if the row is no chan row
abbrev pub claim_limit : ℕ → ℕ
claim_limit chan = pick (eqb chan 0) 0 (code_limit - 1)

-- each claim is on a chan row and has a code, where the first byte is that of row c
unfoldable pub claims_within : Bytes → ℕ → Bytes → Bool
claims_within chans c [] = true
claims_within chans c (k ∷ ks) = leb k (claim_limit (byte_at chans c)) && claims_within chans (suc c) ks

-- the claims of a store, at its head, have the codes of words
unfoldable pub codes_sound : Bytes → Bool
codes_sound s = every (λ b. ltb b code_limit) (take row_limit (drop claims_start s))

-- key k is the first from n on that is marked, or there is none and k is the number of keys
pub record NextKey (keys : Bytes) (n k : ℕ) : Type 0 where
  pub from : n ≤ k
  pub last : k ≤ row_limit
  pub clear : (j : ℕ) → n ≤ j → j < k → byte_at keys j ≡ 0
  pub marked : k < row_limit → byte_at keys k ≡ 0 → ⊥

-- nothing was found
abbrev pub passes : {A : Type 0} → Option A → Bool
passes none = true
passes (some x) = false
