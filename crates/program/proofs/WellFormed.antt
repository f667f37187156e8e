-- What the theorems ask of a program: every pointer leads to a later row, no row is pointed at twice, no name is bound twice. Load gives it (refusals 6 and 7).
use Prim.Native.Nat.{ℕ}
use mathlib.Core.Bool.{Bool, true, not, ◌&&◌, So}
use mathlib.Core.List.{List, [], ◌∷◌}
use lib.ListN.{length}
use lib.Dec.{ltb}
use Rattle.program.specs.Each.{every, elem, collect}
use Rattle.program.specs.Program.{Program, row_at, pointers, binders}
use Rattle.program.specs.Test.{all}

unfoldable pub distinct : List ℕ → Bool
distinct [] = true
distinct (x ∷ xs) = not (elem x xs) && distinct xs

unfoldable pub pointers_rise : Program → Bool
pointers_rise p = all (length p) λ r. every (λ t. ltb r t && ltb t (length p)) (pointers (row_at p r))

pub record WellFormed (p : Program) : Type 0 where
  pub rises : So (pointers_rise p)
  pub pointed_once : So (distinct (collect pointers p))
  pub bound_once : So (distinct (collect binders p))
