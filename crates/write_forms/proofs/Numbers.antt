-- Numbers in turn: what a loop writes of them in one turn, and what is left behind it.
use Prim.Native.Nat.{ℕ, ◌+◌, ◌<◌, ◌≤◌}
use mathlib.Core.List.{List, [], ◌++◌}
use mathlib.Core.Path.{◌≡◌}
use native.Mathlib.Numerals.{add-one}
use lib.ListN.{length, get_or, drop, drop_of_length-le}
use lib.Seq.{drop-cons}
use Rattle.format.specs.Text.{argument, arguments}

pub arguments_next : (ns : List ℕ) (i : ℕ) → i < length ns → arguments (drop i ns) ≡ argument (get_or ns i 0) ++ arguments (drop (i + 1) ns)
unfolding arguments
arguments_next ns i h = rw (add-one, drop-cons ns i 0 h)

pub arguments_end : (ns : List ℕ) (i : ℕ) → length ns ≤ i → arguments (drop i ns) ≡ []
unfolding arguments
arguments_end ns i h = rw (drop_of_length-le ns h)
