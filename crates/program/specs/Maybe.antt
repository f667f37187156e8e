-- What may be missing: steps that each may find nothing, and tests of what they find.
use Rattle.std.specs.Prelude.{Bool, true, false, refl}
use Rattle.std.proofs.Math.Bool.{So}
use Rattle.std.specs.Prelude.{Option, None as none, Some as some}

module _ {A B : Type 0} where
  infixl 10 ◌>>=◌
  unfoldable pub ◌>>=◌ : Option A → (A → Option B) → Option B
  none >>= f = none
  some a >>= f = f a

-- the first that is found
infixr 5 ◌<|>◌
unfoldable pub ◌<|>◌ : {A : Type 0} → Option A → Option A → Option A
none <|> o = o
some a <|> o = some a

-- go on if the test passes
unfoldable pub given : (b : Bool) → Option (So b)
given true = some refl
given false = none

-- go on if it is so
unfoldable pub provided : {P : Type 0} → Dec P → Option P
provided (yes p) = some p
provided (no n) = none

module _ {A : Type 0} where
  -- the test of what is found; passed where nothing is
  unfoldable pub when : Option A → (A → Bool) → Bool
  when none f = true
  when (some a) f = f a

  -- something is found, and it passes the test
  unfoldable pub has : Option A → (A → Bool) → Bool
  has none f = false
  has (some a) f = f a
