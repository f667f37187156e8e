-- What each word of a claim says, of any lists that grow at their end: of walks ("Walks and claims") and of paths ("Run rules").
use Rattle.std.specs.Prelude.{◌≡◌}
use Rattle.program.specs.declared.Word.{Word}
use Rattle.program.specs.declared.Word.TheVariants.{OneShot, OneToOne, FanOut, FanIn, Many, OneSync}
use Rattle.program.specs.Snoc.{Snoc, Ordered}

-- `judged` tells the pairs that count: of walks those that can share a run, of paths all; `sends` and `receives` the ends that count
module _ {A : Type 0} (judged : Snoc A → Snoc A → Type 0) where
  -- R holds of every two that are judged and end so
  abbrev pub EveryTwo : (Snoc A → Type 0) → (Snoc A → Snoc A → Type 0) → Type 0
  EveryTwo ends R = (x y : Snoc A) → judged x y → ends x → ends y → R x y

  -- one-shot: any two sends are the same; fan-out: of any two sends one begins the other; fan-in: the same of receives; one-to-one: fan-out and fan-in; many: always;
  -- one-sync: one-shot, and any two receives are the same
  unfoldable pub Fits : Word → (Snoc A → Type 0) → (Snoc A → Type 0) → Type 0
  Fits OneShot sends receives = EveryTwo sends (λ x y. x ≡ y)
  Fits OneToOne sends receives = EveryTwo sends Ordered × EveryTwo receives Ordered
  Fits FanOut sends receives = EveryTwo sends Ordered
  Fits FanIn sends receives = EveryTwo receives Ordered
  Fits Many sends receives = Unit {0}
  Fits OneSync sends receives = EveryTwo sends (λ x y. x ≡ y) × EveryTwo receives (λ x y. x ≡ y)
