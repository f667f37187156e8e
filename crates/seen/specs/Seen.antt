-- Which numbers were seen, as marks, and what seeing more numbers changes.
use Rattle.std.specs.Prelude.{ℕ, Bool, List, ◌++◌, ◌≡◌, length}
use Rattle.program.specs.Each.{elem}
use Rattle.format.specs.Text.{Bytes}
use Rattle.format.specs.Structure.{bound_earlier}
use Rattle.seen.specs.Flags.{Tells}

-- every u8 is a number that can be seen
abbrev pub number_count : ℕ
number_count = 256

-- the marks of these numbers
pub record Marks (xs : List ℕ) (marks : Bytes) : Type 0 where
  pub size : length marks ≡ number_count
  pub tells : Tells (λ n. elem n xs) marks

-- numbers seen after any others: they are marked too, and the answer is whether one was seen already
pub record Adds (before : Bytes) (ns : List ℕ) (after : Bytes) (answer : Bool) : Type 0 where
  pub marks : (xs : List ℕ) → Marks xs before → Marks (xs ++ ns) after
  pub again : (xs : List ℕ) → Marks xs before → answer ≡ bound_earlier xs ns
