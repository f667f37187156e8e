-- A form and a row are read exactly where they stand.
use Prim.Native.Nat.{ℕ, ◌+◌, ◌<◌}
use Prim.Native.String.{String}
use mathlib.Core.Bool.{Bool, true, false}
use mathlib.Core.List.{List, [], ◌∷◌, ◌++◌}
use Rattle.std.specs.Prelude.{Option, Some as some}
use mathlib.Core.Path.{◌≡◌, refl}
use native.Mathlib.Omega.{arith}
use lib.ListN.{length, get_or}
use Rattle.program.specs.declared.Row.{Row}
use Rattle.program.specs.declared.Form.{Form}
use Rattle.program.specs.declared.Form.TheVariants.{Chan, Send, Recv, Pair, Left, Right, Fun, Spawn, Sync, First, Second, Case, Apply}
use Rattle.program.specs.Maybe.{◌>>=◌}
use Rattle.program.specs.Each.{Member, here, there, every, Each, nil, ◌&◌}
use Rattle.program.proofs.Each.{each_imp, each_left, each_right}
use Rattle.program.proofs.Maybe.{Found, found, found_bind}
use Rattle.format.specs.Text.{Bytes, ascii, digit_of, argument, arguments}
use Rattle.format.specs.Forms.{form_code, arity, form_of}
use Rattle.format.specs.Print.{form_word, form_numbers, form_text, row_text}
use Rattle.format.specs.Read.{form_words, read_form, row_words, read_result, read_bind, read_row, row_numbers}
use Rattle.format.proofs.Stands.{Stands, stands_append, stands_left, stands_right, expect_found, expect_stands, clash, nonzero, apart, one_of_found, one_of_stands}
use Rattle.format.proofs.Number.{no_digit, argument_found, argument_stands, arguments_found, arguments_stands}

-- as many numbers as a form holds are all of the list
only_0 : (ns : List ℕ) → length ns ≡ 0 → ◌≡◌ {A = List ℕ} [] ns
only_0 [] e = refl
only_0 (a ∷ ns) e = absurd (omega arith)

only_1 : (ns : List ℕ) → length ns ≡ 1 → get_or ns 0 0 ∷ [] ≡ ns
only_1 [] e = absurd (omega arith)
only_1 (a ∷ []) e = refl
only_1 (a ∷ b ∷ ns) e = absurd (omega arith)

only_2 : (ns : List ℕ) → length ns ≡ 2 → get_or ns 0 0 ∷ get_or ns 1 0 ∷ [] ≡ ns
only_2 [] e = absurd (omega arith)
only_2 (a ∷ ns) e = rw (only_1 ns (omega arith))

only_3 : (ns : List ℕ) → length ns ≡ 3 → get_or ns 0 0 ∷ get_or ns 1 0 ∷ get_or ns 2 0 ∷ [] ≡ ns
only_3 [] e = absurd (omega arith)
only_3 (a ∷ ns) e = rw (only_2 ns (omega arith))

only_5 : (ns : List ℕ) → length ns ≡ 5 → get_or ns 0 0 ∷ get_or ns 1 0 ∷ get_or ns 2 0 ∷ get_or ns 3 0 ∷ get_or ns 4 0 ∷ [] ≡ ns
only_5 [] e = absurd (omega arith)
only_5 (a ∷ []) e = absurd (omega arith)
only_5 (a ∷ b ∷ ns) e = rw (only_3 ns (omega arith))

-- the forms of a code are written with one word, and with the numbers that they are made of
record Head (k : ℕ) (w : String) : Type 0 where
  word : (ns : List ℕ) → length ns ≡ arity k → form_word (form_of k ns) ≡ w
  numbers : (ns : List ℕ) → length ns ≡ arity k → form_numbers (form_of k ns) ≡ ns

head : (k : ℕ) (w : String) → ((ns : List ℕ) → length ns ≡ arity k → form_word (form_of k ns) ≡ w) → ((ns : List ℕ) → length ns ≡ arity k → form_numbers (form_of k ns) ≡ ns) → Head k w
head k w f g = record { word = f; numbers = g }

heads : Each (λ w. Head w.1 w.0) form_words
unfolding form_words form_of form_word form_numbers arity
heads =
    head 2 "[unit" (λ ns e. refl) only_0 &
    head 3 "[chan" (λ ns e. refl) only_0 &
    head 4 "[send" (λ ns e. refl) only_2 &
    head 5 "[recv" (λ ns e. refl) only_1 &
    head 6 "[pair" (λ ns e. refl) only_2 &
    head 7 "[left" (λ ns e. refl) only_1 &
    head 8 "[right" (λ ns e. refl) only_1 &
    head 9 "[fun" (λ ns e. refl) only_3 &
    head 10 "[spawn" (λ ns e. refl) only_1 &
    head 11 "[sync" (λ ns e. refl) only_1 &
    head 12 "[first" (λ ns e. refl) only_1 &
    head 13 "[second" (λ ns e. refl) only_1 &
    head 14 "[case" (λ ns e. refl) only_5 &
    head 15 "[apply" (λ ns e. refl) only_2 &
    nil

form_listed : (f : Form) → Member (form_word f, form_code f) form_words
unfolding form_words form_word form_code
form_listed Form.Unit = here refl
form_listed Chan = there (here refl)
form_listed (Send c m) = there (there (here refl))
form_listed (Recv c) = there (there (there (here refl)))
form_listed (Pair a b) = there (there (there (there (here refl))))
form_listed (Left a) = there (there (there (there (there (here refl)))))
form_listed (Right a) = there (there (there (there (there (there (here refl))))))
form_listed (Fun f x t) = there (there (there (there (there (there (there (here refl)))))))
form_listed (Spawn t) = there (there (there (there (there (there (there (there (here refl))))))))
form_listed (Sync e) = there (there (there (there (there (there (there (there (there (here refl)))))))))
form_listed (First a) = there (there (there (there (there (there (there (there (there (there (here refl))))))))))
form_listed (Second a) = there (there (there (there (there (there (there (there (there (there (there (here refl)))))))))))
form_listed (Case s l t r w) = there (there (there (there (there (there (there (there (there (there (there (there (here refl))))))))))))
form_listed (Apply f a) = there (there (there (there (there (there (there (there (there (there (there (there (there (here refl)))))))))))))

arity_of : (f : Form) → arity (form_code f) ≡ length (form_numbers f)
unfolding arity form_code form_numbers
arity_of Form.Unit = refl
arity_of Chan = refl
arity_of (Send c m) = refl
arity_of (Recv c) = refl
arity_of (Pair a b) = refl
arity_of (Left a) = refl
arity_of (Right a) = refl
arity_of (Fun f x t) = refl
arity_of (Spawn t) = refl
arity_of (Sync e) = refl
arity_of (First a) = refl
arity_of (Second a) = refl
arity_of (Case s l t r w) = refl
arity_of (Apply f a) = refl

form_of_lem : (f : Form) → form_of (form_code f) (form_numbers f) ≡ f
unfolding form_of form_code form_numbers
form_of_lem Form.Unit = refl
form_of_lem Chan = refl
form_of_lem (Send c m) = refl
form_of_lem (Recv c) = refl
form_of_lem (Pair a b) = refl
form_of_lem (Left a) = refl
form_of_lem (Right a) = refl
form_of_lem (Fun f x t) = refl
form_of_lem (Spawn t) = refl
form_of_lem (Sync e) = refl
form_of_lem (First a) = refl
form_of_lem (Second a) = refl
form_of_lem (Case s l t r w) = refl
form_of_lem (Apply f a) = refl

module _ (s : Bytes) where
  pub form_found : (at : ℕ) → Found (λ x. Stands (form_text x.0) s at x.1) (read_form s at)
  unfolding read_form form_text nonzero ascii every form_words
  form_found at =
      found_bind (one_of_found form_words (λ x. (w : String) × Head x.0 w × Stands (ascii w) s at x.1) s at refl (each_imp (λ w h next t. (w.0, h, t)) heads)) λ (k, p) (w, h, t).
      found_bind (arguments_found s (arity k) p) λ (ns, q) (l, m, u).
      found_bind (expect_found (ascii "]") s q refl) λ e v. found (whole k p w h t ns q l u e v)
    where
      whole : (k p : ℕ) (w : String) (h : Head k w) → Stands (ascii w) s at p → (ns : List ℕ) (q : ℕ) → length ns ≡ arity k → Stands (arguments ns) s p q
          → (e : ℕ) → Stands (ascii "]") s q e → Stands (ascii (form_word (form_of k ns)) ++ (arguments (form_numbers (form_of k ns)) ++ ascii "]")) s at e
      whole k p w h t ns q l u e v =
          rw (h.word ns l, h.numbers ns l) (stands_append (ascii w) _ s at p e t (stands_append (arguments ns) (ascii "]") s p q e u v))

  pub form_stands : (at : ℕ) (f : Form) (next : ℕ) → Each (λ n. n < 1000) (form_numbers f) → Stands (form_text f) s at next → read_form s at ≡ some (f, next)
  unfolding read_form form_text form_words ascii clash apart every digit_of ◌>>=◌
  form_stands at f next l h =
      let p = at + length (ascii (form_word f)) in
      let t = stands_right (ascii (form_word f)) (arguments (form_numbers f) ++ ascii "]") s at next h in
      let q = p + length (arguments (form_numbers f)) in
      let v = stands_right (arguments (form_numbers f)) (ascii "]") s p next t in
      rw (one_of_stands {w = (form_word f, form_code f)} s at p refl (form_listed f) (stands_left (ascii (form_word f)) (arguments (form_numbers f) ++ ascii "]") s at next h))
      (rw (arity_of f, arguments_stands s (form_numbers f) p q l (stands_left (arguments (form_numbers f)) (ascii "]") s p next t) (no_digit 93 [] s q next refl v), expect_stands (ascii "]") s q next v)
      (rw (form_of_lem f)))

  -- ---- rows

  bind_found : (at p q n : ℕ) → Stands (ascii "[bind") s at p → Stands (argument n) s p q → Found (λ x. Stands (row_text x.0) s at x.1) (read_bind n s q)
  unfolding read_bind row_text ascii every
  bind_found at p q n h k =
      found_bind (expect_found (ascii " ") s q refl) λ a t.
      found_bind (form_found a) λ (f, b) u.
      found_bind (argument_found s b) λ (r, c) (l, v).
      found_bind (expect_found (ascii "]") s c refl) λ e w.
      found (stands_append (ascii "[bind") _ s at p e h (stands_append (argument n) _ s p q e k
      (stands_append (ascii " ") _ s q a e t (stands_append (form_text f) _ s a b e u (stands_append (argument r) (ascii "]") s b c e v w)))))

  result_found : (at p q n : ℕ) → Stands (ascii "[result") s at p → Stands (argument n) s p q → Found (λ x. Stands (row_text x.0) s at x.1) (read_result n s q)
  unfolding read_result row_text ascii every
  result_found at p q n h k =
      found_bind (expect_found (ascii "]") s q refl) λ e t. found (stands_append (ascii "[result") _ s at p e h (stands_append (argument n) (ascii "]") s p q e k t))

  -- the first word of a row
  row_word : Bool → String
  row_word true = "[bind"
  row_word false = "[result"

  pub row_found : (at : ℕ) → Found (λ x. Stands (row_text x.0) s at x.1) (read_row s at)
  unfolding read_row row_words nonzero every ascii row_word
  row_found at =
      found_bind (one_of_found row_words (λ x. Stands (ascii (row_word x.0)) s at x.1) s at refl ((λ next h. h) & ((λ next h. h) & nil))) λ (b, p) h.
      found_bind (argument_found s p) λ (n, q) (l, k).
      go b p q n h k
    where
      go : (b : Bool) (p q n : ℕ) → Stands (ascii (row_word b)) s at p → Stands (argument n) s p q
          → Found (λ (x : Row × ℕ). Stands (row_text x.0) s at x.1) (elim b as (λ b. Option (Row × ℕ)) [ true ↦ read_bind n s q | false ↦ read_result n s q ])
      go true p q n h k = bind_found at p q n h k
      go false p q n h k = result_found at p q n h k

  pub row_stands : (at : ℕ) (x : Row) (next : ℕ) → Each (λ n. n < 1000) (row_numbers x) → Stands (row_text x) s at next → read_row s at ≡ some (x, next)
  unfolding read_row read_bind read_result row_words row_text row_numbers ascii clash apart every digit_of ◌>>=◌
  row_stands at (Row.Result n) next (l & nil) h =
      let p = at + 7 in
      let t = stands_right (ascii "[result") (argument n ++ ascii "]") s at next h in
      let q = p + length (argument n) in
      let u = stands_right (argument n) (ascii "]") s p next t in
      rw (one_of_stands {w = ("[result", false)} {ws = row_words} s at p refl (here refl) (stands_left (ascii "[result") (argument n ++ ascii "]") s at next h))
      (rw (argument_stands s p n q l (stands_left (argument n) (ascii "]") s p next t) (no_digit 93 [] s q next refl u))
      (rw (expect_stands (ascii "]") s q next u)))
  row_stands at (Row.Bind b) next (l & ls) h =
      let n = b.name in
      let f = b.form in
      let r = b.rest in
      let p = at + 5 in
      let t₁ = stands_right (ascii "[bind") (argument n ++ (ascii " " ++ (form_text f ++ (argument r ++ ascii "]")))) s at next h in
      let q = p + length (argument n) in
      let t₂ = stands_right (argument n) (ascii " " ++ (form_text f ++ (argument r ++ ascii "]"))) s p next t₁ in
      let a = q + 1 in
      let t₃ = stands_right (ascii " ") (form_text f ++ (argument r ++ ascii "]")) s q next t₂ in
      let c = a + length (form_text f) in
      let t₄ = stands_right (form_text f) (argument r ++ ascii "]") s a next t₃ in
      let d = c + length (argument r) in
      let t₅ = stands_right (argument r) (ascii "]") s c next t₄ in
      let rests = each_right (form_numbers f) (r ∷ []) ls in
      rw (one_of_stands {w = ("[bind", true)} {ws = row_words} s at p refl (there (here refl)) (stands_left (ascii "[bind") _ s at next h))
      (rw (argument_stands s p n q l (stands_left (argument n) _ s p next t₁) (no_digit 32 _ s q next refl t₂))
      (rw (expect_stands (ascii " ") s q a (stands_left (ascii " ") _ s q next t₂))
      (rw (form_stands a f c (each_left (form_numbers f) (r ∷ []) ls) (stands_left (form_text f) _ s a next t₃))
      (rw (argument_stands s c r d (only r rests) (stands_left (argument r) _ s c next t₄) (no_digit 93 [] s d next refl t₅))
      (rw (expect_stands (ascii "]") s d next t₅))))))
    where
      only : (r : ℕ) → Each (λ n. n < 1000) (r ∷ []) → r < 1000
      only r (h & nil) = h
