-- What a row gives, by its kind: the steps that are marked are those of the definition.
use Prim.Native.Nat.{ℕ}
use mathlib.Core.Bool.{Bool, true, false, ◌||◌, and-false}
use mathlib.Core.Path.{◌≡◌}
use Rattle.program.specs.Program.{Program, result_row}
use Rattle.program.specs.Flow.{Table, row}
use Rattle.program.specs.Walk.{enters}
use Rattle.format.specs.Text.{Bytes}
use Rattle.store.specs.Rows.{store_program}
use Rattle.store.proofs.Laws.{program_length}
use Rattle.row_kinds.specs.declared.Kind.{Kind}
use Rattle.row_kinds.specs.declared.Kind.TheVariants.{Body, Branch, Call}
use Rattle.grids.specs.Grid.{Follows}
use Rattle.grids.proofs.Stepping.{follows_as, follows_then}
use Rattle.row_kinds.specs.Kinds.{kind_at}
use Rattle.step_marks.specs.Marks.{call_steps, into_both, from_both}
use Rattle.reach.specs.Edges.{kind_called, body_steps, any_body, entering, kind_steps, row_steps}

-- ---- a fun row that may be called

module _ (p : Program) (flow : Table) (q rest f k : ℕ) where
  pub body_out : flow f (row k) ≡ false → (r s : ℕ) → body_steps p flow q rest f k r s ≡ false
  unfolding body_steps
  body_out e r s = rw e

  pub body_none : ((r s : ℕ) → kind_called p q rest (kind_at p k) r s ≡ false) → (r s : ℕ) → body_steps p flow q rest f k r s ≡ false
  unfolding body_steps
  body_none e r s = rw (e r s, and-false)

  pub body_in : flow f (row k) ≡ true → {t rest' : ℕ} → kind_at p k ≡ Body t rest' → {result : ℕ} → result ≡ result_row p t
      → (r s : ℕ) → call_steps q rest t result r s ≡ body_steps p flow q rest f k r s
  unfolding body_steps kind_called
  body_in h e i r s = rw (h, i, e)

-- ---- what a row gives, by its kind

pub as_kind : (p : Program) (flow : Table) (q : ℕ) {n : ℕ} {m : Bool} {kind : Kind} {a b : Bytes} → kind_at p q ≡ kind
    → Follows n (kind_steps p flow q kind) a b m → Follows n (row_steps p flow q) a b m
unfolding row_steps
as_kind p flow q e h = follows_as (λ r s. rw e) h

-- into both branches, and back from both
pub as_branch : (p : Program) (flow : Table) (q : ℕ) {n k t w rest x y : ℕ} {m : Bool} (i j : Bool) {a b c : Bytes} → kind_at p q ≡ Branch k t w rest → x ≡ result_row p t → y ≡ result_row p w
    → m ≡ (i || j) → Follows n (into_both q t w) a b i → Follows n (from_both rest x y) b c j → Follows n (row_steps p flow q) a c m
unfolding kind_steps entering enters into_both
as_branch p flow q i j e d u z h k = as_kind p flow q e (follows_as (λ r s. rw (d, u)) (follows_then i j z h k))

-- the calls of a set's rows, in a store
pub as_call : (n : ℕ) (s : Bytes) (flow : Table) (q : ℕ) {l f rest : ℕ} {m : Bool} {a b : Bytes} → kind_at (store_program n s) q ≡ Call f rest
    → Follows l (any_body (store_program n s) flow q rest f n) a b m → Follows l (row_steps (store_program n s) flow q) a b m
unfolding kind_steps
as_call n s flow q e h = as_kind (store_program n s) flow q e (follows_as (λ r t. rw program_length) h)
