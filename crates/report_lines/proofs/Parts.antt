-- A number that is known by another name, written behind a space; the words of a verdict in turn.
use Prim.Native.Nat.{ℕ, suc, ◌+◌, ◌<◌, ◌≤◌}
use native.Mathlib.Numerals.{add-one}
use native.Mathlib.Omega.{arith}
use mathlib.Core.Bool.{Bool, false}
use mathlib.Core.List.{List, [], ◌∷◌, ◌++◌}
use mathlib.Core.Path.{◌≡◌, refl}
use lib.ListN.{length, get_or, drop, drop_of_length-le}
use lib.Seq.{drop-cons}
use Rattle.format.specs.Text.{ascii, argument}
use Rattle.report.specs.Report.{yes_no_text, words_text, more_words_text}
use Rattle.write_bytes.specs.Write.{Room, Wrote}

pub same_room : {l : List ℕ} {n k i : ℕ} → n ≡ k → Room l i (argument k) → Room l i (argument n)
same_room e r = rw e r

pub same_argument : {l m : List ℕ} {n k i j : ℕ} → n ≡ k → Wrote l i (argument n) j m → Wrote l i (argument k) j m
same_argument e w = rw e at w

-- ---- the words of a verdict

-- the text of the words that are left, by the byte before the next one: the bracket before the first, a space before the others
unfoldable pub words_left : ℕ → List Bool → List ℕ
words_left before [] = ascii "]"
words_left before (w ∷ ws) = before ∷ (yes_no_text w ++ more_words_text ws)

words_more : (ws : List Bool) → more_words_text ws ≡ words_left 32 ws
unfolding words_left more_words_text ascii
words_more [] = refl
words_more (w ∷ ws) = refl

pub words_all : (ws : List Bool) → 0 < length ws → words_text ws ≡ words_left 91 ws
unfolding words_left words_text ascii
words_all [] h = absurd (omega (arith, h))
words_all (w ∷ ws) h = refl

module _ (before : ℕ) (ws : List Bool) (i : ℕ) where
  pub words_next : i < length ws → words_left before (drop i ws) ≡ (before ∷ yes_no_text (get_or ws i false)) ++ words_left 32 (drop (i + 1) ws)
  unfolding words_left
  words_next h = rw (add-one, drop-cons ws i false h, words_more (drop (suc i) ws))

  pub words_end : length ws ≤ i → words_left before (drop i ws) ≡ ascii "]"
  unfolding words_left
  words_end h = rw (drop_of_length-le ws h)
