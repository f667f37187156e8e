-- A set is read exactly where it stands.
use Prim.Native.Nat.{ℕ, zero, suc, ◌+◌, ◌<◌}
use mathlib.Core.Bool.{So}
use mathlib.Core.List.{List, [], ◌∷◌, ◌++◌}
use Rattle.std.specs.Prelude.{Option, None as none, Some as some}
use mathlib.Core.Path.{◌≡◌, refl}
use native.Mathlib.Omega.{arith}
use lib.ListN.{length, length-append}
use Rattle.program.specs.Maybe.{◌>>=◌}
use Rattle.program.specs.Each.{every, Each, nil, ◌&◌}
use Rattle.program.proofs.Maybe.{Found, nothing, found, found_bind}
use Rattle.format.specs.Text.{Bytes, ascii, digits, digit_of, argument, expect}
use Rattle.format.specs.Print.{member_text, members_text, set_text}
use Rattle.format.specs.Read.{present, read_members, read_first, read_set}
use Rattle.format.proofs.Stands.{Stands, stands_append, stands_left, stands_right, stands_tail, stands_within, expect_found, expect_stands, clash, expect-clash}
use Rattle.format.proofs.Number.{NoDigit, no_digit, number_found, number_stands, digits-clash, argument_found, argument_stands}

-- a member that can be read behind the first, and the first
abbrev pub RowMember : ℕ → Type 0
RowMember zero = ⊥
RowMember (suc r) = r < 1000

abbrev pub FirstMember : ℕ → Type 0
FirstMember zero = Unit {0}
FirstMember (suc r) = r < 1000

-- each member takes a byte at least
members_length : (ms : List ℕ) → length ms < length (members_text ms)
unfolding members_text ascii
members_length [] = omega arith
members_length (m ∷ ms) = omega (arith, length-append (member_text m) (members_text ms), members_length ms)

module _ (s : Bytes) where
  pub members_found : (k at : ℕ) → Found (λ x. Stands (members_text x.0) s at x.1) (read_members k s at)
  unfolding read_members members_text member_text argument ascii every
  members_found zero at = nothing
  members_found (suc k) at =
      go (expect (ascii "]") s at) _ (expect_found (ascii "]") s at refl)
      (found_bind (argument_found s at) λ (r, p) (l, h). found_bind (members_found k p) λ (ms, e) t. found (stands_append (argument r) (members_text ms) s at p e h t))
    where
      go : (o : Option ℕ) (rest : Option (List ℕ × ℕ)) → Found (Stands (ascii "]") s at) o → Found (λ x. Stands (members_text x.0) s at x.1) rest
          → Found (λ (x : List ℕ × ℕ). Stands (members_text x.0) s at x.1) (elim o as (λ o. Option (List ℕ × ℕ)) [ some e ↦ some ([], e) | none ↦ rest ])
      go none rest nothing h = h
      go (some e) rest (found t) h = found t

  -- behind a number stands a space or the bracket
  behind : (ms : List ℕ) (at next : ℕ) → Stands (members_text ms) s at next → NoDigit s at
  unfolding members_text ascii digit_of
  behind [] at next h = no_digit 93 [] s at next refl h
  behind (m ∷ ms) at next h = no_digit 32 (member_text m ++ members_text ms) s at next refl h

  pub members_stands : (ms : List ℕ) (k at next : ℕ) → Each RowMember ms → length ms < k → Stands (members_text ms) s at next → read_members k s at ≡ some (ms, next)
  unfolding read_members members_text member_text argument ascii clash ◌>>=◌
  members_stands ms zero at next r l h = absurd (omega arith)
  members_stands [] (suc k) at next nil l h = rw (expect_stands (ascii "]") s at next h, read_members)
  members_stands (zero ∷ ms) (suc k) at next (b & rs) l h = absurd b
  members_stands (suc r ∷ ms) (suc k) at next (b & rs) l h =
      let t = stands_right (argument r) (members_text ms) s at next h in
      let m = at + length (argument r) in
      rw (expect-clash (ascii "]") (argument r ++ members_text ms) s at next refl h, read_members)
      (rw (argument_stands s at r m b (stands_left (argument r) (members_text ms) s at next h) (behind ms m next t), members_stands ms k m next rs (omega arith) t))

  pub first_found : (at : ℕ) → Found (λ x. Stands (member_text x.0) s at x.1) (read_first s at)
  unfolding read_first member_text ascii every
  first_found at =
      go (expect (ascii "u") s at) _ (expect_found (ascii "u") s at refl) (found_bind (number_found s at) λ (r, p) h. found h.stands)
    where
      go : (o : Option ℕ) (rest : Option (ℕ × ℕ)) → Found (Stands (ascii "u") s at) o → Found (λ x. Stands (member_text x.0) s at x.1) rest
          → Found (λ (x : ℕ × ℕ). Stands (member_text x.0) s at x.1) (elim o as (λ o. Option (ℕ × ℕ)) [ some p ↦ some (0, p) | none ↦ rest ])
      go none rest nothing h = h
      go (some e) rest (found t) h = found t

  first_stands : (m at next : ℕ) → FirstMember m → Stands (member_text m) s at next → NoDigit s next → read_first s at ≡ some (m, next)
  unfolding read_first member_text ascii ◌>>=◌
  first_stands zero at next b h stop = rw (expect_stands (ascii "u") s at next h, read_first)
  first_stands (suc r) at next b h stop = rw (expect-clash (ascii "u") (digits r) s at next (digits-clash 117 r (omega arith) b) h, read_first) (rw (number_stands s at r next h stop b))

  -- a set that is not empty
  pub set_found : (at : ℕ) → Found (λ x. Stands (set_text x.0) s at x.1 × So (present x.0)) (read_set s at)
  unfolding read_set set_text present ascii every
  set_found at =
      found_bind (expect_found (ascii "[") s at refl) λ p h.
      found_bind (first_found p) λ (m, q) k.
      found_bind (members_found (length s) q) λ (ms, e) t.
      found (stands_append (ascii "[") (member_text m ++ members_text ms) s at p e h (stands_append (member_text m) (members_text ms) s p q e k t), refl)

  pub set_stands : (m : ℕ) (ms : List ℕ) (at next : ℕ) → FirstMember m → Each RowMember ms → Stands (set_text (m ∷ ms)) s at next → read_set s at ≡ some (m ∷ ms, next)
  unfolding read_set set_text ascii ◌>>=◌
  set_stands m ms at next b bs h =
      let p = at + 1 in
      let t = stands_tail 91 (member_text m ++ members_text ms) s at next h in
      let q = p + length (member_text m) in
      let u = stands_right (member_text m) (members_text ms) s p next t in
      rw (expect_stands (ascii "[") s at p (stands_left (ascii "[") (member_text m ++ members_text ms) s at next h))
      (rw (first_stands m p q b (stands_left (member_text m) (members_text ms) s p next t) (behind ms q next u))
      (rw (members_stands ms (length s) q next bs (few u) u)))
    where
      few : {q : ℕ} → Stands (members_text ms) s q next → length ms < length s
      few {q} u = omega (arith, members_length ms, stands_within (members_text ms) s q next (omega (arith, members_length ms)) u)
