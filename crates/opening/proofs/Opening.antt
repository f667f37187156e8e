-- Opening a store: the tests of its bytes, then those of its structure.
use Rattle.std.specs.Prelude.{Ok, Err}
use Prim.Native.Nat.{ℕ, ◌≤◌, ◌<◌}
use native.Mathlib.Omega.{arith}
use mathlib.Core.Bool.{Bool, true, false, not, ◌&&◌, and-false}
use mathlib.Core.List.{[], ◌∷◌}
use Rattle.std.specs.Prelude.{Option, None as none, Some as some}
use mathlib.Core.Path.{◌≡◌, refl, sym, ap, ◌∙◌, subst}
use lib.ListN.{length, get_or, take}
use lib.Seq.{length-take-le}
use lib.Dec.{ltb, eqb}
use borrow.Author.Tests.{lt-ltb, le-ltb, ltb-false, ne_eqb}
use Rattle.program.specs.Maybe.{◌>>=◌, ◌<|>◌}
use Rattle.program.specs.Each.{every}
use Rattle.format.specs.declared.Refusal.{Refusal}
use Rattle.format.specs.declared.Reason.TheVariants.{StoreTooShort, StoreEmpty, StoreUnsound, NotAllowed}
use Rattle.format.specs.Limits.{row_limit}
use Rattle.format.specs.Text.{Bytes}
use Rattle.format.specs.Refusals.{refusal, Result, refused, accepted}
use Rattle.format.specs.Document.{Document}
use Rattle.format.specs.Structure.{not_allowed, structure_fault}
use Rattle.calls.specs.Layout.{store_size, decode}
use Rattle.calls.specs.Calls.{Leaves, unaltered, is_empty, unsound, opened_fixed, opened}
use Rattle.calls.specs.Canonical.{count_rows, rows_sound, rest_zero, flags_sound, claims_sound, canonical}
use Rattle.calls.proofs.Canonical.{sound_test}
use Rattle.store.specs.Rows.{store_program}
use Rattle.store.specs.Document.{store_document}
use Rattle.store.proofs.Document.{document_is}
use Rattle.structure.specs.Answer.{tree_fault}
use Rattle.structure.proofs.Refusing.{tree_then, tree_refused}
use Rattle.sound_lines.specs.Sound.{codes_sound, passes}
use Rattle.sound_lines.proofs.Lines.{claims_codes}
use Rattle.opening.specs.Opening.{Opened}
use Rattle.opening.specs.Opening.{OpenedIs}

-- a refusal at a line is none where there is no line
line_passes : (o : Option ℕ) → passes (o >>= λ line. some (refusal NotAllowed line)) ≡ passes o
unfolding ◌>>=◌
line_passes none = refl
line_passes (some line) = refl

module _ (s : Bytes) (size : length s ≡ store_size) where
  -- 21 is not given where the first byte is not 0
  pub first_byte : (get_or s 0 0 ≡ 0 → ⊥) → false ≡ is_empty s
  unfolding is_empty every
  first_byte h = go s h
    where
      go : (xs : Bytes) → (get_or xs 0 0 ≡ 0 → ⊥) → false ≡ every (λ x. eqb x 0) xs
      go [] f = absurd (f refl)
      go (x ∷ xs) f = rw (ne_eqb x 0 f)

  pub all_zeros : {b : Bool} → b ≡ every (λ x. eqb x 0) s → b ≡ is_empty s
  unfolding is_empty
  all_zeros e = e

  pub empty_refused : is_empty s ≡ true → OpenedIs (opened_fixed s) s (Err (refusal StoreEmpty 0))
  unfolding opened_fixed
  empty_refused e = rw (e, opened_fixed) refl

  -- 22 is given where the tests fail
  pub unsound_refused : is_empty s ≡ false → unsound s ≡ true → OpenedIs (opened_fixed s) s (Err (refusal StoreUnsound 0))
  unfolding opened_fixed
  unsound_refused e u = rw (e, u, opened_fixed) refl

  pub store_opens : (n : ℕ) → n ≡ count_rows row_limit s → is_empty s ≡ false → unsound s ≡ false → OpenedIs (opened_fixed s) s (Ok n)
  unfolding opened_fixed
  store_opens n e z u = rw (z, u, opened_fixed) (record { document_is = refl; answer_is = ap Ok e })

  -- the tests of the rows, of the tree, and of the sets and claims
  module _ (n : ℕ) (e : n ≡ count_rows row_limit s) where
    abbrev RowTests : Bool
    RowTests = ltb 0 n && rows_sound n s && rest_zero n s

    sound_is : not (unsound s) ≡ RowTests && flags_sound s && claims_sound s && passes (structure_fault (store_document n s))
    unfolding canonical
    sound_is =
        let q : structure_fault (store_document n s) ≡ structure_fault (decode s) = ap structure_fault (document_is n s (omega (arith, size)) e) in
        ap not (sound_test s size) ∙ twice (canonical s && passes (structure_fault (decode s))) ∙ sym (same q)
      where
        twice : (b : Bool) → not (not b) ≡ b
        twice true = refl
        twice false = refl

        same : structure_fault (store_document n s) ≡ structure_fault (decode s)
            → RowTests && flags_sound s && claims_sound s && passes (structure_fault (store_document n s)) ≡ canonical s && passes (structure_fault (decode s))
        same q = rw (q, e)

    pub rows_fail : RowTests ≡ false → false ≡ not (unsound s)
    rows_fail t = rw (sound_is, t)

    pub tree_fails : {r : Refusal} → some r ≡ tree_fault (store_program n s) → false ≡ not (unsound s)
    tree_fails f = rw (sound_is, ← (tree_refused n s f)) (sym (and-false (RowTests && flags_sound s && claims_sound s)))

    pub lines_decide : RowTests ≡ true → none ≡ tree_fault (store_program n s) → {b : Bool} → b ≡ (flags_sound s && codes_sound s && passes (not_allowed (store_document n s))) → b ≡ not (unsound s)
    unfolding ◌<|>◌
    lines_decide t f q = rw (sound_is, t, tree_then n s, ← f) (q ∙ ap (λ (b : Bool). flags_sound s && b && passes (not_allowed (store_document n s))) (claims_codes s size) ∙ ap (λ (b : Bool). flags_sound s && claims_sound s && b) (sym (line_passes (not_allowed (store_document n s)))))

-- ---- a store at the head of a slice

pub too_short_refused : (s : Bytes) → length s < store_size → OpenedIs (opened s) (take store_size s) (Err (refusal StoreTooShort 0))
unfolding opened
too_short_refused s l = rw (lt-ltb (length s) store_size l, opened) refl

pub fixed-opened : (s : Bytes) (o : Opened) → store_size ≤ length s → OpenedIs (opened_fixed (take store_size s)) (take store_size s) o → OpenedIs (opened s) (take store_size s) o
unfolding opened
fixed-opened s o l h = rw (le-ltb (length s) store_size l, opened) h

-- ---- what the answer tells of the store

module _ (fixed : Bytes) where
  pub refused_is : (x : Result Document) (r : Refusal) → OpenedIs x fixed (Err r) → x ≡ refused r
  refused_is (refused q) r h = let same : r ≡ q = cc in rw (← same)
  refused_is (accepted d) r h = let w = h.answer_is in let z : ◌≡◌ {A = ℕ} 0 1 = cc in absurd (omega arith)

  pub opens_is : (x : Result Document) (n : ℕ) → OpenedIs x fixed (Ok n) → (x ≡ accepted (decode fixed)) × (n ≡ count_rows row_limit fixed)
  opens_is (refused q) n h = let z : ◌≡◌ {A = ℕ} 0 1 = cc in absurd (omega arith)
  opens_is (accepted d) n h = let w = h.answer_is in let same : n ≡ count_rows row_limit fixed = cc in (ap accepted h.document_is, same)

short_store : (store : Bytes) → ltb (length store) store_size ≡ true → opened store ≡ refused (refusal StoreTooShort 0)
unfolding opened
short_store store e = rw (e, opened)

-- a store that opens is long enough
pub opens_long : (store : Bytes) (n : ℕ) → OpenedIs (opened store) (take store_size store) (Ok n) → store_size ≤ length store
opens_long store n h = go (ltb (length store) store_size) refl
  where
    go : (b : Bool) → ltb (length store) store_size ≡ b → store_size ≤ length store
    go true e = let k = subst (λ (x : Result Document). OpenedIs x (take store_size store) (Ok n)) (short_store store e) h in let z : ◌≡◌ {A = ℕ} 0 1 = cc in absurd (omega arith)
    go false e = ltb-false (length store) store_size e

-- the fixed size of a store that opens, and its rows
module _ (store : Bytes) (n : ℕ) (h : OpenedIs (opened store) (take store_size store) (Ok n)) where
  pub fixed_size : length (take store_size store) ≡ store_size
  fixed_size = length-take-le store_size store (opens_long store n h)

  pub counted : n ≡ count_rows row_limit (take store_size store)
  counted = (opens_is (take store_size store) (opened store) n h).1

-- what a call that only reads leaves
pub as_it_was : {A : Type 0} {a b : A} {lent : Bytes} → a ≡ b → Leaves (unaltered b lent) a lent
as_it_was e = record { answer_is = e; bytes_are = refl }
