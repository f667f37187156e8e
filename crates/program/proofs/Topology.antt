-- Laws of the words.
use Rattle.program.specs.declared.Word.{Word}
use Rattle.program.specs.declared.Word.TheVariants.{OneShot, OneToOne, FanOut, FanIn, Many, OneSync}
use Rattle.program.specs.Snoc.{Snoc}
use Rattle.program.specs.Topology.{Fits}

module _ {A : Type 0} (judged : Snoc A → Snoc A → Type 0) where
  -- of fewer ends the same holds
  pub fits_fewer : (S S' R R' : Snoc A → Type 0) → ((x : Snoc A) → S x → S' x) → ((x : Snoc A) → R x → R' x) → (word : Word) → Fits judged word S' R' → Fits judged word S R
  unfolding Fits
  fits_fewer S S' R R' s r OneShot h = λ x y j a b. h x y j (s x a) (s y b)
  fits_fewer S S' R R' s r OneToOne (h, k) = (λ x y j a b. h x y j (s x a) (s y b), λ x y j a b. k x y j (r x a) (r y b))
  fits_fewer S S' R R' s r FanOut h = λ x y j a b. h x y j (s x a) (s y b)
  fits_fewer S S' R R' s r FanIn h = λ x y j a b. h x y j (r x a) (r y b)
  fits_fewer S S' R R' s r Many h = tt
  fits_fewer S S' R R' s r OneSync (h, k) = (λ x y j a b. h x y j (s x a) (s y b), λ x y j a b. k x y j (r x a) (r y b))
