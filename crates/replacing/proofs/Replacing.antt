-- What the marks of bound names and of allowed members tell of a store that opens.
use Rattle.std.specs.Prelude.{Ok, Err}
use Prim.Native.Nat.{ℕ, suc, ◌+◌, ◌≤◌}
use native.Mathlib.Omega.{arith}
use native.Mathlib.Numerals.{add-one}
use mathlib.Core.Bool.{Bool, true, false, ◌&&◌, So}
use mathlib.Core.List.{[], ◌∷◌}
use mathlib.Core.Path.{◌≡◌, refl, sym, ap, ◌∙◌}
use lib.ListN.{take}
use lib.Dec.{ltb}
use Rattle.program.specs.Each.{every, collect, elem}
use Rattle.program.specs.Program.{Program, binders, value_row}
use Rattle.format.specs.declared.Refusal.{Refusal}
use Rattle.format.specs.declared.Reason.TheVariants.{NotBound, SetNotAllowed}
use Rattle.format.specs.Limits.{row_limit}
use Rattle.format.specs.Text.{Bytes, byte_at}
use Rattle.format.specs.Refusals.{refusal, accepted}
use Rattle.format.specs.Read.{rising}
use Rattle.format.specs.Structure.{member_allowed}
use Rattle.calls.specs.Layout.{store_size, decode}
use Rattle.calls.specs.Calls.{opened}
use Rattle.calls.proofs.Canonical.Rows.{count_rows-le}
use Rattle.replacement.specs.Replacement.{members_of, is_bound, set_allowed, replace}
use Rattle.replacement.proofs.Handed.{allowed_is}
use Rattle.replacement.proofs.Replacement.{replace_closed, unbound_refused, set_refused}
use Rattle.store.specs.Rows.{store_program}
use Rattle.store.proofs.Document.{rows_decode}
use Rattle.seen.specs.Flags.{flag, Tells}
use Rattle.seen.specs.Seen.{Marks}
use Rattle.opening.specs.Opening.{OpenedIs}
use Rattle.opening.proofs.Opening.{refused_is, opens_is}
use Rattle.handed_sets.specs.Handed.{list_allowed, Marked}
use Rattle.replacing.specs.Replacing.{Replaceable}

-- the list's rows by the flags of the members
module _ (p : Program) (allowed : Bytes) (t : Tells (member_allowed p) allowed) where
  row_told : (r : ℕ) → ltb 0 (byte_at allowed (r + 1)) ≡ value_row p r
  unfolding member_allowed
  row_told r = ap (λ (b : ℕ). ltb 0 b) (ap (byte_at allowed) (add-one r) ∙ t.at (suc r)) ∙ positive (value_row p r)
    where
      positive : (b : Bool) → ltb 0 (flag b) ≡ b
      positive true = refl
      positive false = refl

  rows_told : (list : Bytes) → every (λ r. ltb 0 (byte_at allowed (r + 1))) list ≡ every (value_row p) list
  unfolding every
  rows_told [] = refl
  rows_told (r ∷ list) = rw (row_told r, rows_told list)

  list_told : (list : Bytes) → list_allowed allowed list ≡ (rising list && every (value_row p) list)
  unfolding list_allowed
  list_told list = ap (λ (b : Bool). rising list && b) (rows_told list)

-- a call that is refused
abbrev Turned : Bytes → ℕ → Bool → Bytes → Refusal → Type 0
Turned store n unit list r = replace store n unit list ≡ record { answer = Err r; bytes = store }

module _ (store : Bytes) where
  abbrev fixed : Bytes
  fixed = take store_size store

  pub store_refused : (n : ℕ) (unit : Bool) (list : Bytes) (r : Refusal) → OpenedIs (opened store) fixed (Err r) → Turned store n unit list r
  store_refused n unit list r h = replace_closed store n unit list r (refused_is fixed (opened store) r h)

  module _ (rows : ℕ) (h : OpenedIs (opened store) fixed (Ok rows)) where
    opens : opened store ≡ accepted (decode fixed)
    opens = (opens_is fixed (opened store) rows h).0

    program : store_program rows fixed ≡ (decode fixed).rows
    program = sym (rows_decode fixed rows (opens_is fixed (opened store) rows h).1)

    pub few_rows : rows ≤ row_limit
    few_rows = omega (arith, (opens_is fixed (opened store) rows h).1, count_rows-le row_limit fixed)

    -- ---- 32

    module _ (n : ℕ) (marks : Bytes) (m : Marks (collect binders (store_program rows fixed)) marks) where
      told : byte_at marks n ≡ flag (is_bound (decode fixed).rows n)
      unfolding is_bound
      told = m.tells.at n ∙ ap (λ (p : Program). flag (elem n (collect binders p))) program

      pub not_bound : (unit : Bool) (list : Bytes) {b : ℕ} → b ≡ byte_at marks n → b ≡ 0 → Turned store n unit list (refusal NotBound 0)
      not_bound unit list e z = unbound_refused store (decode fixed) opens n unit list (no (is_bound (decode fixed).rows n) (sym told ∙ sym e ∙ z))
        where
          no : (b : Bool) → flag b ≡ 0 → b ≡ false
          no true z = absurd (omega arith)
          no false z = refl

      pub is_bound_lem : {b : ℕ} → b ≡ byte_at marks n → (b ≡ 0 → ⊥) → So (is_bound (decode fixed).rows n)
      is_bound_lem e z = yes_told (is_bound (decode fixed).rows n) (λ q. z (e ∙ told ∙ q))
        where
          yes_told : (b : Bool) → (flag b ≡ 0 → ⊥) → So b
          yes_told true z = refl
          yes_told false z = absurd (z refl)

    -- ---- 33

    module _ (n : ℕ) (bound : So (is_bound (decode fixed).rows n)) (allowed : Bytes) (t : Tells (member_allowed (store_program rows fixed)) allowed)
        {unit : Bool} {list set : Bytes} {answer : Bool} (m : Marked unit list allowed answer set) where
      answered : set_allowed (decode fixed).rows (members_of unit list) ≡ answer
      answered =
          allowed_is (decode fixed).rows unit list ∙ ap (λ (p : Program). rising list && every (value_row p) list) (sym program)
          ∙ sym (list_told (store_program rows fixed) allowed t list) ∙ sym m.answer_is

      pub not_a_set : answer ≡ false → Turned store n unit list (refusal SetNotAllowed 0)
      not_a_set e = set_refused store (decode fixed) opens n unit list bound (answered ∙ e)

      pub a_set : answer ≡ true → Replaceable store n unit list set rows
      a_set e = record { opens = h; bound = bound; allowed = answered ∙ e; flags = m.flags e }
