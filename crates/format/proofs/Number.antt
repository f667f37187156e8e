-- A number is read exactly where it stands in its own digits, with no digit behind it.
use Prim.Native.Nat.{ℕ, zero, suc, ◌+◌, ◌*◌, ◌/◌, ◌%◌, ◌<◌, ◌≤◌}
use mathlib.Core.Bool.{So}
use mathlib.Core.List.{List, [], ◌∷◌, ◌++◌}
use Rattle.std.specs.Prelude.{Some as some}
use mathlib.Core.Path.{◌≡◌, refl, sym, ap, ◌∙◌}
use native.Mathlib.Omega.{arith}
use native.Mathlib.Decide.{dec_lt, ℕ_discrete}
use native.Mathlib.Nat.{add-zero}
use lib.ListN.{length}
use borrow.Author.Tests.{lt-ltb, le-ltb, ne_eqb}
use Rattle.program.specs.Maybe.{◌>>=◌}
use Rattle.program.specs.Each.{every, Each, nil, ◌&◌}
use Rattle.program.proofs.Maybe.{Found, nothing, found, found_bind, found_map}
use Rattle.format.specs.Text.{Bytes, byte_at, place, digits, digit_of, digit_at, number_of, read_number, argument, read_argument, arguments, read_arguments}
use Rattle.format.proofs.Stands.{Stands, stands_nil, stands_cons, stands_append, stands_left, stands_right, stands_tail, byte_of, expect_found, expect_stands, clash}

-- ---- the digits of a number of one, two and three places

digits_1 : (n : ℕ) → n < 10 → digits n ≡ (48 + n) ∷ []
unfolding digits place
digits_1 n h =
    simp (lt-ltb n 10000 (omega arith), lt-ltb n 1000 (omega arith), lt-ltb n 100 (omega arith), lt-ltb n 10 h)
    (ap (λ (k : ℕ). (48 + k) ∷ []) (omega arith))

digits_2 : (n : ℕ) → 10 ≤ n → n < 100 → digits n ≡ (48 + n / 10) ∷ (48 + n % 10) ∷ []
unfolding digits place
digits_2 n l h =
    simp (lt-ltb n 10000 (omega arith), lt-ltb n 1000 (omega arith), lt-ltb n 100 h, le-ltb n 10 l)
    (ap (λ (k : ℕ). (48 + k) ∷ (48 + n % 10) ∷ []) (omega arith))

digits_3 : (n : ℕ) → 100 ≤ n → n < 1000 → digits n ≡ (48 + n / 100) ∷ (48 + n / 10 % 10) ∷ (48 + n % 10) ∷ []
unfolding digits place
digits_3 n l h =
    simp (lt-ltb n 10000 (omega arith), lt-ltb n 1000 h, le-ltb n 100 l, le-ltb n 10 (omega arith))
    (ap (λ (k : ℕ). (48 + k) ∷ (48 + n / 10 % 10) ∷ (48 + n % 10) ∷ []) (omega arith))

-- ---- a digit's byte and its value

digit_of_lem : (d : ℕ) → d < 10 → digit_of (48 + d) ≡ d
unfolding digit_of
digit_of_lem d h = simp (le-ltb (48 + d) 48 (omega arith), le-ltb 57 (48 + d) (omega arith)) (omega arith)

of_digit : (b : ℕ) → digit_of b ≤ 9 → b ≡ 48 + digit_of b
unfolding digit_of
of_digit b h =
    elim (dec_lt b 48) [
      | yes p ↦ (let q : 10 ≤ 9 = simp (lt-ltb b 48 p) at h in omega arith)
      | no p ↦
          elim (dec_lt 57 b) [
            | yes q ↦ (let r : 10 ≤ 9 = simp (le-ltb b 48 (omega arith), lt-ltb 57 b q) at h in omega arith)
            | no q ↦ simp (le-ltb b 48 (omega arith), le-ltb 57 b (omega arith)) (omega arith)
          ]
    ]

-- a number begins with a digit
pub digits-clash : (b n : ℕ) → 57 < b → n < 1000 → So (clash (b ∷ []) (digits n))
unfolding clash
digits-clash b n h l =
    elim (dec_lt n 10) [
      | yes p ↦ rw (digits_1 n p, ne_eqb (48 + n) b (omega arith))
      | no p ↦
          elim (dec_lt n 100) [
            | yes q ↦ rw (digits_2 n (omega arith) q, ne_eqb (48 + n / 10) b (omega arith))
            | no q ↦ rw (digits_3 n (omega arith) l, ne_eqb (48 + n / 100) b (omega arith))
          ]
    ]

-- a digit that is read stands there
digit_stands : (text s : Bytes) (at a next : ℕ) → digit_at s at ≡ a → a < 10 → Stands text s (at + 1) next → Stands ((48 + a) ∷ text) s at next
unfolding digit_at
digit_stands text s at a next e h t =
    stands_cons (48 + a) text s at next (of_digit (byte_at s at) (omega arith) ∙ ap (λ (d : ℕ). 48 + d) e) (omega arith) t

-- ---- a number of one, two and three digits

number_1 : (a b c at : ℕ) → a < 10 → 9 < b → number_of a b c at ≡ some (a, at + 1)
number_1 a b c at h k =
    elim (ℕ_discrete a 0) [
      | yes z ↦ rw z
      | no z ↦ simp (le-ltb 9 a (omega arith), ne_eqb a 0 z, lt-ltb 9 b k)
    ]

number_2 : (a b c at : ℕ) → 0 < a → a < 10 → b < 10 → 9 < c → number_of a b c at ≡ some (a * 10 + b, at + 1 + 1)
number_2 a b c at p h k l = simp (le-ltb 9 a (omega arith), ne_eqb a 0 (omega arith), le-ltb 9 b (omega arith), lt-ltb 9 c l)

number_3 : (a b c at : ℕ) → 0 < a → a < 10 → b < 10 → c < 10 → number_of a b c at ≡ some (a * 100 + b * 10 + c, at + 1 + 1 + 1)
number_3 a b c at p h k l = simp (le-ltb 9 a (omega arith), ne_eqb a 0 (omega arith), le-ltb 9 b (omega arith), le-ltb 9 c (omega arith))

-- ---- what is read stands there

-- a number that was read up to next
pub record NumberStands (s : Bytes) (at n next : ℕ) : Type 0 where
  pub small : n < 1000
  pub stands : Stands (digits n) s at next

module _ (s : Bytes) (at : ℕ) where
  one : (a : ℕ) → digit_at s at ≡ a → a < 10 → NumberStands s at a (at + 1)
  one a ea h = record { small = omega arith; stands = rw (digits_1 a h) (digit_stands [] s at a (at + 1) ea h (stands_nil s (at + 1))) }

  two : (a b : ℕ) → digit_at s at ≡ a → digit_at s (at + 1) ≡ b → 0 < a → a < 10 → b < 10 → NumberStands s at (a * 10 + b) (at + 1 + 1)
  two a b ea eb p h k =
      let d = digits_2 (a * 10 + b) (omega arith) (omega arith) in
      let x : (a * 10 + b) / 10 ≡ a = omega arith in
      let y : (a * 10 + b) % 10 ≡ b = omega arith in
      record {
        small = omega arith;
        stands = rw (d, x, y) (digit_stands _ s at a _ ea h (digit_stands _ s (at + 1) b _ eb k (stands_nil s (at + 1 + 1))));
      }

  three : (a b c : ℕ) → digit_at s at ≡ a → digit_at s (at + 1) ≡ b → digit_at s (at + 1 + 1) ≡ c → 0 < a → a < 10 → b < 10 → c < 10
      → NumberStands s at (a * 100 + b * 10 + c) (at + 1 + 1 + 1)
  three a b c ea eb ec p h k l =
      let d = digits_3 (a * 100 + b * 10 + c) (omega arith) (omega arith) in
      let x : (a * 100 + b * 10 + c) / 100 ≡ a = omega arith in
      let y : (a * 100 + b * 10 + c) / 10 % 10 ≡ b = omega arith in
      let z : (a * 100 + b * 10 + c) % 10 ≡ c = omega arith in
      record {
        small = omega arith;
        stands = rw (d, x, y, z) (digit_stands _ s at a _ ea h (digit_stands _ s (at + 1) b _ eb k (digit_stands _ s (at + 1 + 1) c _ ec l (stands_nil s (at + 1 + 1 + 1)))));
      }

  pub number_found : Found (λ x. NumberStands s at x.0 x.1) (read_number s at)
  unfolding read_number
  number_found = go (digit_at s at) (digit_at s (at + 1)) (digit_at s (at + 1 + 1)) refl refl refl
    where
      go : (a b c : ℕ) → digit_at s at ≡ a → digit_at s (at + 1) ≡ b → digit_at s (at + 1 + 1) ≡ c → Found (λ x. NumberStands s at x.0 x.1) (number_of a b c at)
      go a b c ea eb ec =
          elim (dec_lt 9 a) [
            | yes p ↦ simp (lt-ltb 9 a p) nothing
            | no p ↦
                elim (dec_lt 9 b) [
                  | yes q ↦ rw (number_1 a b c at (omega arith) q) (found (one a ea (omega arith)))
                  | no q ↦
                      elim (ℕ_discrete a 0) [
                        | yes z ↦ rw z (found (one 0 (ea ∙ z) (omega arith)))
                        | no z ↦
                            elim (dec_lt 9 c) [
                              | yes r ↦ rw (number_2 a b c at (omega arith) (omega arith) (omega arith) r) (found (two a b ea eb (omega arith) (omega arith) (omega arith)))
                              | no r ↦
                                  rw (number_3 a b c at (omega arith) (omega arith) (omega arith) (omega arith))
                                  (found (three a b c ea eb ec (omega arith) (omega arith) (omega arith) (omega arith)))
                            ]
                      ]
                ]
          ]

-- ---- what stands there is read

-- no digit stands at a position
pub record NoDigit (s : Bytes) (at : ℕ) : Type 0 where
  pub none_here : digit_at s at ≡ 10

pub no_digit : (b : ℕ) (text s : Bytes) (at next : ℕ) → digit_of b ≡ 10 → Stands (b ∷ text) s at next → NoDigit s at
unfolding digit_at
no_digit b text s at next e h = record { none_here = rw (byte_of b text s at next h) e }

digit_here : (d : ℕ) (text s : Bytes) (at next : ℕ) → d < 10 → Stands ((48 + d) ∷ text) s at next → digit_at s at ≡ d
unfolding digit_at
digit_here d text s at next l h = rw (byte_of (48 + d) text s at next h) (digit_of_lem d l)

module _ (s : Bytes) (at n next : ℕ) (h : Stands (digits n) s at next) (stop : NoDigit s next) where
  -- the position past one, two and three digits
  past : (text : Bytes) → digits n ≡ text → next ≡ at + length text
  past text e = rw e at h.past

  read_1 : n < 10 → read_number s at ≡ some (n, next)
  unfolding read_number
  read_1 l =
      let e = digits_1 n l in
      let k : Stands ((48 + n) ∷ []) s at next = rw e at h in
      let q : next ≡ at + 1 = past _ e in
      let b : digit_at s (at + 1) ≡ 10 = rw (← q) stop.none_here in
      rw (digit_here n [] s at next l k, b) (number_1 n 10 (digit_at s (at + 1 + 1)) at l (omega arith) ∙ ap (λ (m : ℕ). some (n, m)) (sym q))

  read_2 : 10 ≤ n → n < 100 → read_number s at ≡ some (n, next)
  unfolding read_number
  read_2 g l =
      let e = digits_2 n g l in
      let k : Stands ((48 + n / 10) ∷ (48 + n % 10) ∷ []) s at next = rw e at h in
      let k' = stands_tail _ _ s at next k in
      let q : next ≡ at + 1 + 1 = past _ e ∙ omega arith in
      let c : digit_at s (at + 1 + 1) ≡ 10 = rw (← q) stop.none_here in
      let m : n / 10 * 10 + n % 10 ≡ n = omega arith in
      rw (digit_here (n / 10) _ s at next (omega arith) k, digit_here (n % 10) _ s (at + 1) next (omega arith) k', c)
      (number_2 (n / 10) (n % 10) 10 at (omega arith) (omega arith) (omega arith) (omega arith) ∙ rw (m, ← q))

  read_3 : 100 ≤ n → n < 1000 → read_number s at ≡ some (n, next)
  unfolding read_number
  read_3 g l =
      let e = digits_3 n g l in
      let k : Stands ((48 + n / 100) ∷ (48 + n / 10 % 10) ∷ (48 + n % 10) ∷ []) s at next = rw e at h in
      let k' = stands_tail _ _ s at next k in
      let k'' = stands_tail _ _ s (at + 1) next k' in
      let q : next ≡ at + 1 + 1 + 1 = past _ e ∙ omega arith in
      let m : n / 100 * 100 + n / 10 % 10 * 10 + n % 10 ≡ n = omega arith in
      rw (digit_here (n / 100) _ s at next (omega arith) k, digit_here (n / 10 % 10) _ s (at + 1) next (omega arith) k', digit_here (n % 10) _ s (at + 1 + 1) next (omega arith) k'')
      (number_3 (n / 100) (n / 10 % 10) (n % 10) at (omega arith) (omega arith) (omega arith) (omega arith) ∙ rw (m, ← q))

  pub number_stands : n < 1000 → read_number s at ≡ some (n, next)
  number_stands l =
      elim (dec_lt n 10) [
        | yes p ↦ read_1 p
        | no p ↦ elim (dec_lt n 100) [ yes q ↦ read_2 (omega arith) q | no q ↦ read_3 (omega arith) l ]
      ]

-- ---- numbers with a space before them

module _ (s : Bytes) where
  pub argument_found : (at : ℕ) → Found (λ x. (x.0 < 1000) × Stands (argument x.0) s at x.1) (read_argument s at)
  unfolding read_argument argument every
  argument_found at =
      found_bind (expect_found (32 ∷ []) s at refl) λ p h.
      found_map (λ x k. (k.small, stands_append (32 ∷ []) (digits x.0) s at p x.1 h k.stands)) (number_found s p)

  pub argument_stands : (at n next : ℕ) → n < 1000 → Stands (argument n) s at next → NoDigit s next → read_argument s at ≡ some (n, next)
  unfolding read_argument argument ◌>>=◌
  argument_stands at n next l h stop =
      rw (expect_stands (32 ∷ []) s at (at + 1) (stands_left (32 ∷ []) (digits n) s at next h)) (number_stands s (at + 1) n next (stands_tail 32 (digits n) s at next h) stop l)

  pub arguments_found : (k at : ℕ) → Found (λ x. (length x.0 ≡ k) × Each (λ n. n < 1000) x.0 × Stands (arguments x.0) s at x.1) (read_arguments k s at)
  unfolding read_arguments arguments
  arguments_found zero at = found (refl, nil, stands_nil s at)
  arguments_found (suc k) at =
      found_bind (argument_found at) λ (n, p) (l, h).
      found_bind (arguments_found k p) λ (ns, q) (e, m, t).
      found (ap suc e, l & m, stands_append (argument n) (arguments ns) s at p q h t)

  -- behind each number stands a space, or the end
  pub arguments_stands : (ns : List ℕ) (at next : ℕ) → Each (λ n. n < 1000) ns → Stands (arguments ns) s at next → NoDigit s next → read_arguments (length ns) s at ≡ some (ns, next)
  unfolding read_arguments arguments argument digit_of ◌>>=◌
  arguments_stands [] at next nil h stop = ap (λ (m : ℕ). some ([], m)) (sym (h.past ∙ add-zero at))
  arguments_stands (n ∷ ns) at next (l & ls) h stop =
      let m = at + length (argument n) in
      let t = stands_right (argument n) (arguments ns) s at next h in
      rw (argument_stands at n m l (stands_left (argument n) (arguments ns) s at next h) (behind ns m t), arguments_stands ns m next ls t stop)
    where
      behind : (ns : List ℕ) (m : ℕ) → Stands (arguments ns) s m next → NoDigit s m
      behind [] m t = rw (sym (t.past ∙ add-zero m)) stop
      behind (k ∷ ks) m t = no_digit 32 (digits k ++ arguments ks) s m next refl t
