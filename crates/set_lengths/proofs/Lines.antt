-- The length of the line of a set, and of the lines of sets in turn.
use Prim.Native.Nat.{ℕ, ◌+◌, ◌-◌, ◌*◌, ◌<◌, ◌≤◌}
use native.Mathlib.Omega.{arith}
use mathlib.Core.List.{List, [], ◌∷◌}
use mathlib.Core.Path.{◌≡◌, refl, ap}
use lib.ListN.{length, take, drop, length-append}
use Rattle.program.specs.Each.{collect}
use Rattle.format.specs.Limits.{row_limit}
use Rattle.format.specs.Text.{Bytes, ascii, argument}
use Rattle.format.specs.Print.{member_text, members_text, set_text}
use Rattle.calls.specs.Layout.{member_limit, members_from, with_entry, decode_sets}
use Rattle.write_sets.specs.Texts.{entry_text}
use Rattle.write_sets.proofs.Parts.{sets_next, sets_skip, sets_end}
use Rattle.write_store.proofs.Bounds.{members_length, members_from-length}

some : (ms : List ℕ) → 0 < length (members_text ms)
unfolding members_text ascii
some [] = omega arith
some (m ∷ ms) = simp length-append (omega arith)

-- the members of a set of all members
pub members_short : (bs : Bytes) → length bs ≡ member_limit → length (members_text (members_from 0 bs)) ≤ 1000
members_short bs e = omega (arith, members_length (members_from 0 bs), members_from-length 0 bs)

module _ (word : Bytes) (n : ℕ) where
  -- no member, and so no line
  pub no_line : (ms : List ℕ) → length (members_text ms) ≡ 1 → length (collect (entry_text word) (with_entry n ms [])) ≡ 0
  unfolding collect with_entry members_text ascii
  no_line [] e = refl
  no_line (m ∷ ms) e = absurd (omega (arith, e, length-append (member_text m) (members_text ms), some ms))

  pub line_sum : (ms : List ℕ) → (length (members_text ms) ≡ 1 → ⊥)
      → length word + length (argument n) + length (members_text ms) + 3 ≡ length (collect (entry_text word) (with_entry n ms []))
  unfolding collect with_entry entry_text set_text members_text ascii
  line_sum [] f = absurd (f refl)
  line_sum (m ∷ ms) f = simp length-append (omega arith)

-- the lines of sets n, n + 1 and so on
module _ (word s : Bytes) where
  abbrev pub lines_from : ℕ → ℕ
  lines_from n = length (collect (entry_text word) (decode_sets (row_limit - n) n (drop (n * member_limit) s)))

  pub lines_next : (n : ℕ) → n < row_limit
      → lines_from n ≡ length (collect (entry_text word) (with_entry n (members_from 0 (take ((n * member_limit + member_limit) - n * member_limit) (drop (n * member_limit) s))) [])) + lines_from (n + 1)
  lines_next n h =
      rw (sets_next (entry_text word) row_limit n s h)
      (length-append (collect (entry_text word) (with_entry n (members_from 0 (take ((n * member_limit + member_limit) - n * member_limit) (drop (n * member_limit) s))) []))
      (collect (entry_text word) (decode_sets (row_limit - (n + 1)) (n + 1) (drop ((n + 1) * member_limit) s))))

  pub lines_skip : (n : ℕ) → n < row_limit → members_from 0 (take member_limit (drop (n * member_limit) s)) ≡ [] → lines_from n ≡ lines_from (n + 1)
  lines_skip n h e = ap length (sets_skip (entry_text word) row_limit n s h e)

  pub lines_end : (n : ℕ) → row_limit ≤ n → lines_from n ≡ 0
  lines_end n h = rw (sets_end (entry_text word) row_limit n s h)
