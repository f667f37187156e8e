-- The text of the members of a set that are left to write, and the bytes that mark none.
use Prim.Native.Nat.{ℕ, ◌+◌, ◌-◌, ◌<◌, ◌≤◌}
use mathlib.Core.Bool.{Bool, false, So}
use mathlib.Core.List.{List, [], ◌∷◌, ◌++◌}
use mathlib.Core.Path.{◌≡◌, refl, sym, ◌∙◌}
use native.Mathlib.Omega.{arith}
use lib.ListN.{length, take, drop}
use Rattle.format.specs.Text.{Bytes, ascii, byte_at}
use Rattle.format.specs.Print.{member_text, members_text, set_text}
use Rattle.format.specs.Read.{present}
use Rattle.calls.specs.Layout.{members_from}
use Rattle.set_counts.proofs.Members.{skip, skip_run}
use Rattle.write_members.specs.Passing.{Passes}

-- the text of the members that are left, by the byte before the next one: the bracket before the first, a space before the others
unfoldable pub left_text : ℕ → List ℕ → Bytes
left_text before [] = ascii "]"
left_text before (m ∷ ms) = before ∷ (member_text m ++ members_text ms)

pub left_others : (ms : List ℕ) → members_text ms ≡ left_text 32 ms
unfolding left_text members_text ascii
left_others [] = refl
left_others (m ∷ ms) = refl

pub left_all : (ms : List ℕ) → So (present ms) → set_text ms ≡ left_text 91 ms
unfolding left_text set_text ascii present
left_all [] h = let z : ◌≡◌ {A = ℕ} 0 1 = cc in absurd (omega arith)
left_all (m ∷ ms) h = refl

-- ---- bytes that are passed over

module _ (flags : Bytes) (m : ℕ) where
  pub passes_one : m < length flags → byte_at flags m ≡ 0 → Passes flags m 1
  passes_one l e = record { some = omega arith; inside = omega arith; same = skip flags m l e }

  -- a block, as the code cuts it out
  pub passes_block : m + 16 ≤ length flags → {b : Bool} → b ≡ present (members_from 0 (take ((m + 16) - m) (drop m flags))) → b ≡ false → Passes flags m 16
  passes_block l q e =
      let size : (m + 16) - m ≡ 16 = omega arith in
      record { some = omega arith; inside = l; same = skip_run flags m 16 l (rw size at (sym q ∙ e)) }
