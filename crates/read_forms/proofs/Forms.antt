-- The numbers of a form, read one after the other into five places.
use Prim.Native.Nat.{ℕ, zero, suc, ◌+◌, ◌-◌, ◌≤◌, ◌<◌}
use mathlib.Core.Bool.{false, not, So}
use mathlib.Core.List.{List, [], ◌∷◌}
use Rattle.std.specs.Prelude.{Option, None as none, Some as some}
use mathlib.Core.Path.{◌≡◌, refl}
use native.Mathlib.Omega.{arith}
use lib.Dec.{eqb}
use lib.ListN.{length, set}
use Rattle.std.proofs.lemmas.List.{set_past}
use borrow.Author.Tests.{not-true}
use Rattle.program.specs.Maybe.{◌>>=◌}
use Rattle.program.specs.declared.Form.{Form}
use Rattle.program.specs.Each.{every}
use Rattle.program.proofs.Each.{each_imp, every_elim}
use Rattle.program.proofs.Maybe.{found_at}
use Rattle.format.specs.Text.{Bytes, ascii, expect, one_of, read_argument, read_arguments}
use Rattle.format.specs.Forms.{arity, form_of}
use Rattle.format.specs.Read.{form_words, read_form}
use Rattle.format.proofs.Stands.{nonzero, one_of_found}
use Rattle.read_forms.specs.Reads.{numbers_of, read_numbers}

-- numbers put into places from i on; past the end nothing is put
unfoldable pub filled : ℕ → List ℕ → List ℕ → List ℕ
filled i places [] = places
filled i places (n ∷ ns) = filled (i + 1) (set places i n) ns

filled_past : (i : ℕ) (places ns : List ℕ) → length places ≤ i → filled i places ns ≡ places
unfolding filled
filled_past i places [] h = refl
filled_past i places (n ∷ ns) h = rw (set_past places i n h) (filled_past (i + 1) places ns (omega arith))

-- from zeros on, the first five numbers are put
filled_five : (ns : List ℕ) → filled 0 (0 ∷ 0 ∷ 0 ∷ 0 ∷ 0 ∷ []) ns ≡ numbers_of ns
unfolding filled numbers_of
filled_five [] = refl
filled_five (a ∷ []) = refl
filled_five (a ∷ b ∷ []) = refl
filled_five (a ∷ b ∷ c ∷ []) = refl
filled_five (a ∷ b ∷ c ∷ d ∷ []) = refl
filled_five (a ∷ b ∷ c ∷ d ∷ e ∷ ns) = filled_past 5 (a ∷ b ∷ c ∷ d ∷ e ∷ []) ns (omega arith)

-- what is made of numbers that have been read: put into places, the first five, and behind another
abbrev put : ℕ → List ℕ → List ℕ × ℕ → Option (List ℕ × ℕ)
put i places (ns, q) = some (filled i places ns, q)

abbrev kept : List ℕ × ℕ → Option (List ℕ × ℕ)
kept (ns, q) = some (numbers_of ns, q)

abbrev longer : ℕ → List ℕ × ℕ → Option (List ℕ × ℕ)
longer n (ns, q) = some (n ∷ ns, q)

module _ (s : Bytes) where
  -- k numbers from a position on, put into places from i on
  abbrev pub more : ℕ → ℕ → List ℕ → ℕ → Option (List ℕ × ℕ)
  more k i places at = read_arguments k s at >>= put i places

  pub more_zeros : (k at : ℕ) → more (k - 0) 0 (0 ∷ 0 ∷ 0 ∷ 0 ∷ 0 ∷ []) at ≡ read_numbers k s at
  unfolding read_numbers ◌>>=◌
  more_zeros k at = let e : k - 0 ≡ k = omega arith in rw e (go (read_arguments k s at))
    where
      go : (o : Option (List ℕ × ℕ)) → (o >>= put 0 (0 ∷ 0 ∷ 0 ∷ 0 ∷ 0 ∷ [])) ≡ (o >>= kept)
      go none = refl
      go (some (ns, q)) = rw (filled_five ns)

  pub more_end : (k i at : ℕ) (places : List ℕ) → k ≤ i → more (k - i) i places at ≡ some (places, at)
  unfolding read_arguments filled ◌>>=◌
  more_end k i at places h = let e : k - i ≡ 0 = omega arith in rw e

  pub more_stop : (k i at : ℕ) (places : List ℕ) → i < k → none ≡ read_argument s at → more (k - i) i places at ≡ none
  unfolding read_arguments ◌>>=◌
  more_stop k i at places h e = let j : k - i ≡ suc (k - (i + 1)) = omega arith in rw (j, ← e)

  pub more_next : (k i at n p : ℕ) (places : List ℕ) → i < k → some (n, p) ≡ read_argument s at → more (k - (i + 1)) (i + 1) (set places i n) p ≡ more (k - i) i places at
  unfolding read_arguments filled ◌>>=◌
  more_next k i at n p places h e = let j : k - i ≡ suc (k - (i + 1)) = omega arith in rw (j, ← e) (go (read_arguments (k - (i + 1)) s p))
    where
      go : (o : Option (List ℕ × ℕ)) → (o >>= put (i + 1) (set places i n)) ≡ (o >>= longer n >>= put i places)
      go none = refl
      go (some (ns, q)) = refl

  -- the form of a code and of numbers that have been read
  abbrev pub formed : ℕ → List ℕ × ℕ → Option (Form × ℕ)
  formed k (ns, q) = expect (ascii "]") s q >>= λ e. some (form_of k ns, e)

  pub form_read_lem : (at : ℕ) → read_form s at ≡ (one_of form_words s at >>= λ (k, p). read_numbers (arity k) s p >>= formed k)
  unfolding read_form read_numbers form_of numbers_of ◌>>=◌
  form_read_lem at = go (one_of form_words s at)
    where
      numbers : (k : ℕ) (o : Option (List ℕ × ℕ)) → (o >>= formed k) ≡ (o >>= kept >>= formed k)
      numbers k none = refl
      numbers k (some x) = refl

      go : (o : Option (ℕ × ℕ)) → (o >>= λ (k, p). read_arguments (arity k) s p >>= formed k) ≡ (o >>= λ (k, p). read_arguments (arity k) s p >>= kept >>= formed k)
      go none = refl
      go (some (k, p)) = numbers k (read_arguments (arity k) s p)

  -- the code of a form's word is not that of a result
  pub code_of_form : (at k p : ℕ) → one_of form_words s at ≡ some (k, p) → eqb k 1 ≡ false
  unfolding form_words every nonzero ascii
  code_of_form at k p e =
      not-true (eqb k 1) (found_at e (one_of_found form_words (λ x. So (not (eqb x.0 1))) s at refl (each_imp (λ w h next t. h) (every_elim (λ w. not (eqb w.1 1)) form_words refl))))
