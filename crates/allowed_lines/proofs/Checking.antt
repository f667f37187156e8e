-- The lines of sets and claims, one by one.
use Prim.Native.Nat.{ℕ, suc, ◌+◌, ◌*◌, ◌≤◌, ◌<◌, ◌-◌}
use native.Mathlib.Omega.{arith}
use native.Mathlib.Nat.{add-zero}
use native.Mathlib.Numerals.{add-one}
use mathlib.Core.Bool.{Bool, true, false}
use mathlib.Core.List.{List, [], ◌∷◌}
use mathlib.Core.Path.{◌≡◌, refl, ap, ◌∙◌}
use lib.ListN.{take, drop}
use lib.Seq.{drop-drop}
use borrow.Author.Tests.{ne_eqb}
use Rattle.program.specs.Test.{pick}
use Rattle.format.specs.Limits.{row_limit}
use Rattle.format.specs.Text.{Bytes, byte_at}
use Rattle.format.specs.Document.{Entry}
use Rattle.calls.specs.Layout.{member_limit, with_entry, decode_sets, decode_claims}
use Rattle.store.proofs.Claims.{claims_on, claims_next}
use Rattle.std.specs.Prelude.{None as none, Some as some, Ok, Err}
use Rattle.allowed_lines.specs.Lines.{set_at, entry_marked, claim_marked, line_allowed, checked}

-- ---- the sets of names or channels from n on

module _ (keys members : Bytes) (line n : ℕ) (es : List Entry) where
  with_none : (ms : List ℕ) → line_allowed keys members n ms ≡ none → checked (entry_marked keys members) line (with_entry n ms es) ≡ checked (entry_marked keys members) line es
  unfolding line_allowed with_entry
  with_none [] h = refl
  with_none (m ∷ ms) h = let z : ◌≡◌ {A = ℕ} 0 1 = cc in absurd (omega arith)

  with_line : (ms : List ℕ) {b : Bool} → line_allowed keys members n ms ≡ some b
      → checked (entry_marked keys members) line (with_entry n ms es) ≡ pick b (checked (entry_marked keys members) (line + 1) es) (Err line)
  unfolding line_allowed with_entry checked
  with_line [] h = let z : ◌≡◌ {A = ℕ} 0 1 = cc in absurd (omega arith)
  with_line (m ∷ ms) {b} h = let e : entry_marked keys members (record { key = n; members = m ∷ ms }) ≡ b = cc in rw e

abbrev pub sets_on : Bytes → ℕ → ℕ → List Entry
sets_on s base n = decode_sets (row_limit - n) n (drop (base + n * member_limit) s)

sets_step : (s : Bytes) (base n : ℕ) → n < row_limit → sets_on s base n ≡ with_entry n (set_at s (base + n * member_limit)) (sets_on s base (n + 1))
unfolding decode_sets set_at
sets_step s base n l =
    let q : row_limit - n ≡ suc (row_limit - (n + 1)) = omega arith in
    let e : base + n * member_limit + member_limit ≡ base + (n + 1) * member_limit = omega arith in
    rw (q, drop-drop member_limit (base + n * member_limit) s, e, add-one n)

module _ (s keys members : Bytes) (base : ℕ) where
  pub sets_start : (line : ℕ) → checked (entry_marked keys members) line (sets_on s base 0) ≡ checked (entry_marked keys members) line (decode_sets row_limit 0 (drop base s))
  sets_start line = rw add-zero

  module _ (line n : ℕ) (l : n < row_limit) where
    pub sets_none : line_allowed keys members n (set_at s (base + n * member_limit)) ≡ none
        → checked (entry_marked keys members) line (sets_on s base n) ≡ checked (entry_marked keys members) line (sets_on s base (n + 1))
    sets_none h = ap (checked _ line) (sets_step s base n l) ∙ with_none keys members line n _ _ h

    pub sets_failing : {b : Bool} → line_allowed keys members n (set_at s (base + n * member_limit)) ≡ some b → b ≡ false → checked (entry_marked keys members) line (sets_on s base n) ≡ Err line
    sets_failing h e = ap (checked _ line) (sets_step s base n l) ∙ with_line keys members line n _ _ h ∙ rw e

    pub sets_passing : {b : Bool} → line_allowed keys members n (set_at s (base + n * member_limit)) ≡ some b → b ≡ true
        → checked (entry_marked keys members) line (sets_on s base n) ≡ checked (entry_marked keys members) (line + 1) (sets_on s base (n + 1))
    sets_passing h e = ap (checked _ line) (sets_step s base n l) ∙ with_line keys members line n _ _ h ∙ rw e

  pub sets_end : (line n : ℕ) → row_limit ≤ n → checked (entry_marked keys members) line (sets_on s base n) ≡ Ok line
  unfolding decode_sets checked
  sets_end line n l = let q : row_limit - n ≡ 0 = omega arith in rw q

-- ---- the claims from row c on

module _ (s keys : Bytes) (base : ℕ) where
  pub claims_start_lem : (line : ℕ) → checked (claim_marked keys) line (claims_on s base 0) ≡ checked (claim_marked keys) line (decode_claims 0 (take row_limit (drop base s)))
  claims_start_lem line = rw add-zero

  module _ (line c : ℕ) (l : c < row_limit) where
    pub claims_none : byte_at s (base + c) ≡ 0 → checked (claim_marked keys) line (claims_on s base c) ≡ checked (claim_marked keys) line (claims_on s base (c + 1))
    claims_none h = rw (claims_next s base c l, h)

    pub claims_failing : (byte_at s (base + c) ≡ 0 → ⊥) → byte_at keys c ≡ 0 → checked (claim_marked keys) line (claims_on s base c) ≡ Err line
    unfolding checked claim_marked
    claims_failing h k = rw (claims_next s base c l, ne_eqb (byte_at s (base + c)) 0 h, k)

    pub claims_passing : (byte_at s (base + c) ≡ 0 → ⊥) → (byte_at keys c ≡ 0 → ⊥)
        → checked (claim_marked keys) line (claims_on s base c) ≡ checked (claim_marked keys) (line + 1) (claims_on s base (c + 1))
    unfolding checked claim_marked
    claims_passing h k = rw (claims_next s base c l, ne_eqb (byte_at s (base + c)) 0 h, ne_eqb (byte_at keys c) 0 k)

  pub claims_end : (line c : ℕ) → row_limit ≤ c → checked (claim_marked keys) line (claims_on s base c) ≡ Ok line
  unfolding decode_claims checked
  claims_end line c l = let q : row_limit - c ≡ 0 = omega arith in rw q
