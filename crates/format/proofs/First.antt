-- The first element of a list that fails a test, by its line.
use Prim.Native.Nat.{ℕ, ◌+◌}
use mathlib.Core.Bool.{Bool, true, false, So}
use mathlib.Core.List.{List, [], ◌∷◌, ◌++◌}
use Rattle.std.specs.Prelude.{Option, None as none, Some as some}
use mathlib.Core.Path.{◌≡◌, refl, ap}
use native.Mathlib.Omega.{arith}
use lib.ListN.{length}
use Rattle.program.specs.Each.{Each, nil, ◌&◌}
use Rattle.format.specs.Structure.{first_failing}

module _ {A : Type 0} (ok : A → Bool) where
  -- the elements before the first that fails, and after it
  pub data First (line : ℕ) (xs : List A) : Option ℕ → Type 0 where
    all_pass : Each (λ x. So (ok x)) xs → First line xs none
    fails : {n : ℕ} (before : List A) (x : A) (after : List A) → xs ≡ before ++ (x ∷ after) → Each (λ x. So (ok x)) before → ok x ≡ false → n ≡ line + length before → First line xs (some n)

  pub first_is : (line : ℕ) (xs : List A) → First line xs (first_failing ok line xs)
  unfolding first_failing
  first_is line [] = all_pass nil
  first_is line (x ∷ xs) = go (ok x) refl (first_failing ok (line + 1) xs) (first_is (line + 1) xs)
    where
      go : (b : Bool) → ok x ≡ b → (o : Option ℕ) → First (line + 1) xs o → First line (x ∷ xs) (elim b as (λ b. Option ℕ) [ true ↦ o | false ↦ some line ])
      go false e o h = fails {n = line} [] x xs refl nil e (omega arith)
      go true e none (all_pass h) = all_pass (e & h)
      go true e (some n) (fails before y after s h q m) = fails {n = n} (x ∷ before) y after (ap (λ (l : List A). x ∷ l) s) (e & h) q (omega arith)

  -- none fails exactly if each passes
  pub none_first : (line : ℕ) (xs : List A) → Each (λ x. So (ok x)) xs → first_failing ok line xs ≡ none
  unfolding first_failing
  none_first line [] nil = refl
  none_first line (x ∷ xs) (h & hs) = rw (h, first_failing) (none_first (line + 1) xs hs)

  pub first_none : (line : ℕ) (xs : List A) → first_failing ok line xs ≡ none → Each (λ x. So (ok x)) xs
  first_none line xs e = go (rw e at (first_is line xs))
    where
      go : First line xs none → Each (λ x. So (ok x)) xs
      go (all_pass h) = h
