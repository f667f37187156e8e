-- The refusals 6 to 9 by what the functions answer: a row, a line, or none.
use Prim.Native.Nat.{ℕ}
use mathlib.Core.Bool.{true, ◌&&◌, So, false≢true}
use Rattle.std.specs.Prelude.{Option, None as none, Some as some}
use mathlib.Core.Path.{◌≡◌, refl}
use Rattle.program.specs.Test.{least}
use Rattle.program.specs.Maybe.{◌>>=◌, ◌<|>◌}
use Rattle.program.proofs.Test.{and_right}
use Rattle.format.specs.declared.Refusal.{Refusal}
use Rattle.format.specs.declared.Reason.TheVariants.{WrongPointer, BoundTwice, OutOfScope, NotAllowed}
use Rattle.format.specs.Text.{Bytes}
use Rattle.format.specs.Refusals.{refusal}
use Rattle.format.specs.Structure.{row_line, pointer_fault, binder_fault, scope_line, not_allowed, structure_fault}
use Rattle.calls.specs.Canonical.{flags_sound}
use Rattle.store.specs.Rows.{store_program}
use Rattle.store.proofs.Laws.{program_length}
use Rattle.store.specs.Document.{store_document}
use Rattle.sound_lines.specs.Sound.{codes_sound, passes}
use Rattle.structure.specs.Answer.{tree_fault}
use Rattle.store.proofs.Document.{rows_are}

-- ---- the first refusal of 6, 7 and 8

module _ (n : ℕ) (s : Bytes) where
  refusals : tree_fault (store_program n s)
      ≡ ((least n (pointer_fault (store_program n s)) >>= λ r. some (refusal WrongPointer (row_line r)))
      <|> (least n (binder_fault (store_program n s)) >>= λ r. some (refusal BoundTwice (row_line r)))
      <|> (scope_line (store_program n s) >>= λ r. some (refusal OutOfScope (row_line r))))
  unfolding tree_fault
  refusals = rw (program_length n s)

  pub pointer_refused : {r : ℕ} → some r ≡ least n (pointer_fault (store_program n s)) → some (refusal WrongPointer (row_line r)) ≡ tree_fault (store_program n s)
  unfolding ◌>>=◌ ◌<|>◌
  pointer_refused e = rw (refusals, ← e)

  module _ (no_pointer : none ≡ least n (pointer_fault (store_program n s))) where
    pub binder_refused : {r : ℕ} → some r ≡ least n (binder_fault (store_program n s)) → some (refusal BoundTwice (row_line r)) ≡ tree_fault (store_program n s)
    unfolding ◌>>=◌ ◌<|>◌
    binder_refused e = rw (refusals, ← no_pointer, ← e)

    module _ (no_binder : none ≡ least n (binder_fault (store_program n s))) where
      pub scope_refused : {r : ℕ} → some r ≡ scope_line (store_program n s) → some (refusal OutOfScope (row_line r)) ≡ tree_fault (store_program n s)
      unfolding ◌>>=◌ ◌<|>◌
      scope_refused e = rw (refusals, ← no_pointer, ← no_binder, ← e)

      pub tree_sound : none ≡ scope_line (store_program n s) → none ≡ tree_fault (store_program n s)
      unfolding ◌>>=◌ ◌<|>◌
      tree_sound e = rw (refusals, ← no_pointer, ← no_binder, ← e)

-- ---- the first refusal of all

or_assoc : {A : Type 0} (a b c d : Option A) → (a <|> b <|> c <|> d) ≡ ((a <|> b <|> c) <|> d)
unfolding ◌<|>◌
or_assoc (some x) b c d = refl
or_assoc none (some x) c d = refl
or_assoc none none c d = refl

module _ (n : ℕ) (s : Bytes) where
  -- 6, 7 and 8, then 9
  pub tree_then : structure_fault (store_document n s) ≡ (tree_fault (store_program n s) <|> (not_allowed (store_document n s) >>= λ line. some (refusal NotAllowed line)))
  unfolding structure_fault tree_fault
  tree_then = rw (rows_are n s) (or_assoc _ _ _ _)

  pub tree_refused : {f : Refusal} → some f ≡ tree_fault (store_program n s) → some f ≡ structure_fault (store_document n s)
  unfolding ◌<|>◌
  tree_refused e = rw (tree_then, ← e)

  pub lines_pass : none ≡ tree_fault (store_program n s) → So (flags_sound s && codes_sound s && passes (not_allowed (store_document n s))) → none ≡ structure_fault (store_document n s)
  unfolding ◌<|>◌ ◌>>=◌
  lines_pass sound t = rw (tree_then, ← sound, found (not_allowed (store_document n s)) (and_right (flags_sound s && codes_sound s) _ t))
    where
      found : (o : Option ℕ) → passes o ≡ true → o ≡ none
      found none e = refl
      found (some l) e = absurd (false≢true e)

  module _ (sound : none ≡ tree_fault (store_program n s)) where
    pub line_refused : {l : ℕ} → some l ≡ not_allowed (store_document n s) → some (refusal NotAllowed l) ≡ structure_fault (store_document n s)
    unfolding ◌<|>◌ ◌>>=◌
    line_refused line = rw (tree_then, ← sound, ← line)

    pub none_refused : none ≡ not_allowed (store_document n s) → none ≡ structure_fault (store_document n s)
    unfolding ◌<|>◌ ◌>>=◌
    none_refused line = rw (tree_then, ← sound, ← line)
