-- What stays of a grid of which bytes are replaced, and a grid of zeros.
use Prim.Native.Nat.{ℕ, ◌+◌, ◌*◌}
use native.Mathlib.Omega.{arith}
use mathlib.Core.Bool.{false}
use mathlib.Core.Path.{◌≡◌, refl, ◌∙◌}
use lib.ListN.{replicate, get_or-replicate}
use Rattle.format.specs.Limits.{row_limit}
use Rattle.format.specs.Text.{Bytes}
use Rattle.grids.specs.Grid.{grid_size, Kept, Shows}

-- ---- what is kept

pub kept_all : (grid : Bytes) → Kept grid grid
kept_all grid = record { same_length = refl; past = λ i l. refl }

pub kept_then : {a b c : Bytes} → Kept a b → Kept b c → Kept a c
kept_then h k = record { same_length = k.same_length ∙ h.same_length; past = λ i l. k.past i l ∙ h.past i l }

-- ---- a grid of zeros

pub zeros_show : (i : ℕ) → i ≡ grid_size → Shows (λ r s. false) (replicate i 0)
zeros_show i e r s lr ls = get_or-replicate i (s * row_limit + r) 0 0 (omega arith)
