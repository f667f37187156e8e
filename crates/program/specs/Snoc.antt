-- Lists that grow at their end, and when one begins another: walks and paths.
use Rattle.std.specs.Prelude.{◌≡◌, ◌⊎◌}
use Rattle.program.specs.Test.{either?}

infixl 60 ◌▷◌
pub data Snoc (A : Type 0) : Type 0 where
  ε : Snoc A
  ◌▷◌ : Snoc A → A → Snoc A
  deriving Discrete as Snoc-discrete

module _ {A : Type 0} where
  -- x begins y: the two are the same, or y is longer and x begins what comes before its last
  abbrev pub Begins : Snoc A → Snoc A → Type 0
  Begins x ε = x ≡ ε
  Begins x (y ▷ a) = (x ≡ y ▷ a) ⊎ Begins x y

  -- y goes on where x ends
  abbrev pub Continues : Snoc A → Snoc A → Type 0
  Continues x ε = ⊥
  Continues x (y ▷ a) = Begins x y

  -- one of the two begins the other
  abbrev pub Ordered : Snoc A → Snoc A → Type 0
  Ordered x y = Begins x y ⊎ Begins y x

  -- both are decided, where the elements' equality is
  module _ (same : Discrete A) where
    unfoldable pub begins? : (x y : Snoc A) → Dec (Begins x y)
    begins? x ε = Snoc-discrete same x ε
    begins? x (y ▷ a) = either? (Snoc-discrete same x (y ▷ a)) (begins? x y)

    unfoldable pub continues? : (x y : Snoc A) → Dec (Continues x y)
    continues? x ε = no (λ c. c)
    continues? x (y ▷ a) = begins? x y
