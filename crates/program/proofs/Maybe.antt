-- Facts about what is found.
use Prim.Native.Nat.{ℕ}
use native.Mathlib.Omega.{arith}
use mathlib.Core.Bool.{Bool, So, false≢true}
use mathlib.Core.Path.{◌≡◌, refl}
use Rattle.std.specs.Prelude.{Option, None as none, Some as some}
use Rattle.program.specs.Maybe.{◌>>=◌, ◌<|>◌, when, has}

-- P holds of what is found
pub data Found {A : Type 0} (P : A → Type 0) : Option A → Type 0 where
  nothing : Found P none
  found : {a : A} → P a → Found P (some a)

module _ {A : Type 0} where
  pub found_self : (o : Option A) → Found (λ a. o ≡ some a) o
  found_self none = nothing
  found_self (some a) = found refl

  pub found_when : (f : A → Bool) (o : Option A) → So (when o f) → Found (λ a. So (f a)) o
  unfolding when
  found_when f none t = nothing
  found_when f (some a) t = found t

  pub when_intro : (f : A → Bool) (o : Option A) → ((a : A) → o ≡ some a → So (f a)) → So (when o f)
  unfolding when
  when_intro f none h = refl
  when_intro f (some a) h = h a refl

  pub found_both : {P Q : A → Type 0} {o : Option A} → Found P o → Found Q o → Found (λ a. P a × Q a) o
  found_both nothing nothing = nothing
  found_both (found p) (found q) = found (p, q)

  pub found_either : {P : A → Type 0} {o o' : Option A} → Found P o → Found P o' → Found P (o <|> o')
  unfolding ◌<|>◌
  found_either nothing k = k
  found_either (found p) k = found p

  pub found_map : {P Q : A → Type 0} {o : Option A} → ((a : A) → P a → Q a) → Found P o → Found Q o
  found_map f nothing = nothing
  found_map f (found {a = a} p) = found (f a p)

  pub found_at : {P : A → Type 0} {o : Option A} {a : A} → o ≡ some a → Found P o → P a
  found_at {P} {a = a} e h = at (rw e at h)
    where
      at : Found P (some a) → P a
      at (found p) = p

  pub has_elim : (f : A → Bool) (o : Option A) → So (has o f) → (a : A) × (o ≡ some a) × So (f a)
  unfolding has
  has_elim f none t = absurd (false≢true t)
  has_elim f (some a) t = (a, refl, t)

  pub has_intro : (f : A → Bool) {o : Option A} {a : A} → o ≡ some a → So (f a) → So (has o f)
  unfolding has
  has_intro f e t = rw e t

  pub has_mono : (o : Option A) (f g : A → Bool) → ((a : A) → So (f a) → So (g a)) → So (has o f) → So (has o g)
  has_mono o f g m h = let (a, e, t) = has_elim f o h in has_intro g e (m a t)

pub found_bind : {A B : Type 0} {P : A → Type 0} {Q : B → Type 0} {o : Option A} {f : A → Option B}
    → Found P o → ((a : A) → P a → Found Q (f a)) → Found Q (o >>= f)
unfolding ◌>>=◌
found_bind nothing k = nothing
found_bind (found {a = a} p) k = k a p

pub bind_elim : {A B : Type 0} (o : Option A) (f : A → Option B) {b : B} → o >>= f ≡ some b → (a : A) × (o ≡ some a) × (f a ≡ some b)
unfolding ◌>>=◌
bind_elim none f e = let z : ◌≡◌ {A = ℕ} 0 1 = cc in absurd (omega arith)
bind_elim (some a) f e = (a, refl, e)
