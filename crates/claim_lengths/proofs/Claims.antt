-- The length of the line of a claim, by its parts, and of the lines in turn.
use Prim.Native.Nat.{ℕ, ◌+◌, ◌<◌, ◌≤◌}
use native.Mathlib.Omega.{arith}
use mathlib.Core.List.{[], ◌∷◌}
use mathlib.Core.Path.{◌≡◌}
use lib.ListN.{length, get_or, drop, length-append}
use Rattle.format.specs.Text.{Bytes, ascii, argument}
use Rattle.format.specs.Print.{word_text, line_text}
use Rattle.calls.specs.Layout.{word_of, decode_claims}
use Rattle.write_claims.proofs.Claims.{claims_text, one_claim, claims_next, claims_end}

pub claim_sum : (c k : ℕ) → (k ≡ 0 → ⊥) → length (argument c) + length (ascii (word_text (word_of k))) + 9 ≡ length (claims_text (decode_claims c (k ∷ [])))
unfolding line_text ascii
claim_sum c k h = rw (one_claim c k h) (simp length-append (omega arith))

-- the length of the lines of claims c, c + 1 and so on
abbrev pub claims_from : ℕ → Bytes → ℕ
claims_from c codes = length (claims_text (decode_claims c (drop c codes)))

pub from_next : (codes : Bytes) (c : ℕ) → c < length codes → claims_from c codes ≡ length (claims_text (decode_claims c (get_or codes c 0 ∷ []))) + claims_from (c + 1) codes
from_next codes c h = rw (claims_next codes c h) (length-append (claims_text (decode_claims c (get_or codes c 0 ∷ []))) (claims_text (decode_claims (c + 1) (drop (c + 1) codes))))

pub from_end : (codes : Bytes) (c : ℕ) → length codes ≤ c → claims_from c codes ≡ 0
from_end codes c h = rw (claims_end codes c h)
