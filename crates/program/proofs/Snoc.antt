-- Laws of lists that grow at their end.
use Prim.Native.Nat.{ℕ, zero, suc, ◌≤◌, ◌<◌}
use mathlib.Core.Path.{◌≡◌, refl, sym, ◌∙◌, ap}
use mathlib.Core.Logic.{◌⊎◌, inl, inr}
use native.Mathlib.Omega.{arith}
use Rattle.program.specs.Snoc.{Snoc, ε, ◌▷◌, Begins, Continues}

module _ {A : Type 0} where
  unfoldable pub size : Snoc A → ℕ
  size ε = zero
  size (x ▷ a) = suc (size x)

  pub begins_refl : (x : Snoc A) → Begins x x
  begins_refl ε = refl
  begins_refl (x ▷ a) = inl refl

  pub begins_nil : (x : Snoc A) → Begins ε x
  begins_nil ε = refl
  begins_nil (x ▷ a) = inr (begins_nil x)

  pub begins_eq : {x y : Snoc A} → x ≡ y → Begins x y
  begins_eq {y = y} e = rw e (begins_refl y)

  pub begins_cases : (x y : Snoc A) → Begins x y → (x ≡ y) ⊎ Continues x y
  begins_cases x ε e = inl e
  begins_cases x (y ▷ a) h = h

  pub continues_begins : (x y : Snoc A) → Continues x y → Begins x y
  continues_begins x ε c = absurd c
  continues_begins x (y ▷ a) c = inr c

  pub begins_trans : (x y z : Snoc A) → Begins x y → Begins y z → Begins x z
  begins_trans x y ε h e = rw e at h
  begins_trans x y (z ▷ a) h (inl e) = rw e at h
  begins_trans x y (z ▷ a) h (inr k) = inr (begins_trans x y z h k)

  pub begins_size : (x y : Snoc A) → Begins x y → size x ≤ size y
  unfolding size
  begins_size x ε e = rw e (omega arith)
  begins_size x (y ▷ a) (inl e) = rw e (omega arith)
  begins_size x (y ▷ a) (inr h) = omega (arith, begins_size x y h)

  pub continues_size : (x y : Snoc A) → Continues x y → size x < size y
  unfolding size
  continues_size x ε c = absurd c
  continues_size x (y ▷ a) h = omega (arith, begins_size x y h)

  pub begins_shorter : (x y z : Snoc A) → Begins x z → Begins y z → size x ≤ size y → Begins x y
  unfolding size
  begins_shorter x y ε e f l = begins_eq (e ∙ sym f)
  begins_shorter x y (z ▷ a) (inl e) (inl f) l = begins_eq (e ∙ sym f)
  begins_shorter x y (z ▷ a) (inl e) (inr k) l = absurd (omega (arith, begins_size y z k, ap size e))
  begins_shorter x y (z ▷ a) (inr h) (inl f) l = rw f (inr h)
  begins_shorter x y (z ▷ a) (inr h) (inr k) l = begins_shorter x y z h k l

  -- of two that begin a third, the longer is begun by the other; of one length they are the same
  pub begins_same : (x y z : Snoc A) → Begins x z → Begins y z → size x ≡ size y → x ≡ y
  unfolding size
  begins_same x y ε e f s = e ∙ sym f
  begins_same x y (z ▷ a) (inl e) (inl f) s = e ∙ sym f
  begins_same x y (z ▷ a) (inl e) (inr k) s = absurd (omega (arith, begins_size y z k, ap size e))
  begins_same x y (z ▷ a) (inr h) (inl f) s = absurd (omega (arith, begins_size x z h, ap size f))
  begins_same x y (z ▷ a) (inr h) (inr k) s = begins_same x y z h k s
