-- Two steps that find alike: both nothing, or both something that stands in a relation.
use mathlib.Core.Path.{◌≡◌, refl}
use Rattle.std.specs.Prelude.{Option, None as none, Some as some}
use Rattle.program.specs.Maybe.{◌>>=◌, ◌<|>◌}

pub data Like {A B : Type 0} (R : A → B → Type 0) : Option A → Option B → Type 0 where
  neither : Like R none none
  both : {a : A} {b : B} → R a b → Like R (some a) (some b)

pub like_bind : {A B C D : Type 0} {R : A → B → Type 0} {S : C → D → Type 0} {o : Option A} {q : Option B} {f : A → Option C} {g : B → Option D}
    → Like R o q → ((a : A) (b : B) → R a b → Like S (f a) (g b)) → Like S (o >>= f) (q >>= g)
unfolding ◌>>=◌
like_bind neither k = neither
like_bind (both {a = a} {b = b} r) k = k a b r

-- the same on both sides
pub like_same : {A C D : Type 0} {S : C → D → Type 0} {f : A → Option C} {g : A → Option D} (o : Option A) → ((a : A) → o ≡ some a → Like S (f a) (g a)) → Like S (o >>= f) (o >>= g)
unfolding ◌>>=◌
like_same none k = neither
like_same (some a) k = k a refl

pub like_either : {A B : Type 0} {R : A → B → Type 0} {o o' : Option A} {q q' : Option B} → Like R o q → Like R o' q' → Like R (o <|> o') (q <|> q')
unfolding ◌<|>◌
like_either neither k = k
like_either (both r) k = both r

pub like_map : {A B : Type 0} {R S : A → B → Type 0} {o : Option A} {q : Option B} → ((a : A) (b : B) → R a b → S a b) → Like R o q → Like S o q
like_map f neither = neither
like_map f (both {a = a} {b = b} r) = both (f a b r)

-- the same, with what is found on both sides
pub like_found : {A B : Type 0} {R : A → B → Type 0} {o : Option A} {q : Option B} → Like R o q → Like (λ a b. R a b × (o ≡ some a) × (q ≡ some b)) o q
like_found neither = neither
like_found (both r) = both (r, refl, refl)
