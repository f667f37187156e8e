-- What the rules of rows do to a thread, by the numbers that the code has.
use Prim.Native.Nat.{ℕ, suc, ◌+◌}
use native.Mathlib.Omega.{arith}
use mathlib.Core.List.{[], ◌∷◌}
use Rattle.std.specs.Prelude.{Option, None as none, Some as some}
use mathlib.Core.Path.{◌≡◌, refl, sym, ◌∙◌, ap, ap₂}
use Rattle.program.specs.declared.Row.{Row}
use Rattle.program.specs.declared.Bind.{Bind}
use Rattle.program.specs.declared.Form.{Form}
use Rattle.program.specs.Program.{Program, row_at, pair_at}
use Rattle.program.specs.Maybe.{◌>>=◌, ◌<|>◌}
use Rattle.format.specs.Text.{Bytes}
use Rattle.machine.specs.declared.ThreadRecord.{ThreadRecord}
use Rattle.machine.specs.declared.Held.{Held}
use Rattle.machine.specs.declared.Held.TheVariants.{Closure}
use Rattle.machine.specs.declared.Kept.{Kept}
use Rattle.machine.specs.declared.Kept.TheVariants.{Keeps}
use Rattle.machine.specs.Machine.{Memory, Change, bound, newest, next_frame, return_of, find_closure, go_on, fork, go_into, form_change, result_change, change}
use Rattle.run_memory.specs.declared.InUse.{InUse}
use Rattle.run_memory.specs.RunMemory.{in_use, memory_in}
use Rattle.run_memory.proofs.Codec.{newest_is}
use Rattle.thread_changes.specs.Changes.{change_of, pair_of_name, goes_on_with}

pub either_none : {A : Type 0} (o : Option A) → o <|> none ≡ o
unfolding ◌<|>◌
either_none none = refl
either_none (some a) = refl

-- the number of the next cell
pub newest_next : (run : Bytes) (n : InUse) → n ≡ in_use run → n.cells + 1 ≡ suc (newest (memory_in run))
newest_next run n e = let q = newest_is run in let z = ap (λ (n : InUse). n.cells) e in omega (arith, q, z)

abbrev record_of : ℕ → ℕ → ℕ → ThreadRecord
record_of r c f = record { row = r; cell = c; frame = f }

module _ (run : Bytes) (t : ThreadRecord) (b : Bind) (n : InUse) (e : n ≡ in_use run) where
  pub goes_on : (kept : Kept) → change_of (bound b.name t.cell kept ∷ []) [] (record { row = b.rest; cell = n.cells + 1; frame = t.frame }) [] ≡ go_on (memory_in run) t b kept
  unfolding go_on
  goes_on kept = ap (λ (k : ℕ). change_of (bound b.name t.cell kept ∷ []) [] (record_of b.rest k t.frame) []) (newest_next run n e)

  pub forks : (child : ℕ)
      → change_of (bound b.name t.cell (Keeps Held.Unit) ∷ []) [] (record { row = b.rest; cell = n.cells + 1; frame = t.frame }) (record { row = child; cell = t.cell; frame = 0 } ∷ []) ≡ fork (memory_in run) t b child
  unfolding fork
  forks child = ap (λ (k : ℕ). change_of (bound b.name t.cell (Keeps Held.Unit) ∷ []) [] (record_of b.rest k t.frame) (record_of child t.cell 0 ∷ [])) (newest_next run n e)

  pub enters : (row name : ℕ) (v : Held) (f : ℕ) → f ≡ next_frame (memory_in run)
      → some (change_of (bound name t.cell (Keeps v) ∷ []) (return_of t b ∷ []) (record { row = row; cell = n.cells + 1; frame = f }) [])
      ≡ some (go_into (memory_in run) t b row (bound name t.cell (Keeps v) ∷ []))
  unfolding go_into newest
  enters row name v f h = ap₂ (λ (k f : ℕ). some (change_of (bound name t.cell (Keeps v) ∷ []) (return_of t b ∷ []) (record_of row k f) [])) (newest_next run n e) h

  pub applies : (body own parameter r k : ℕ) (v : Held) (f : ℕ) → f ≡ next_frame (memory_in run)
      → some (change_of (bound parameter (n.cells + 1) (Keeps v) ∷ bound own k (Keeps (Closure r k)) ∷ []) (return_of t b ∷ []) (record { row = body; cell = n.cells + 1 + 1; frame = f }) [])
      ≡ some (go_into (memory_in run) t b body (bound parameter (suc (newest (memory_in run))) (Keeps v) ∷ bound own k (Keeps (Closure r k)) ∷ []))
  unfolding go_into newest
  applies body own parameter r k v f h =
      let q : n.cells + 1 + 1 ≡ suc (n.cells + 1) = omega arith in
      ap (λ (c : ℕ). some (change_of (bound parameter (n.cells + 1) (Keeps v) ∷ bound own k (Keeps (Closure r k)) ∷ []) (return_of t b ∷ []) (record_of body c f) [])) q
      ∙ ap₂ (λ (c f : ℕ). some (change_of (bound parameter c (Keeps v) ∷ bound own k (Keeps (Closure r k)) ∷ []) (return_of t b ∷ []) (record_of body (suc c) f) [])) (newest_next run n e) h

-- by the form of a bind, and by the row where a thread stands
module _ (p : Program) (m : Memory) (t : ThreadRecord) where
  pub by_form : (b : Bind) {f : Form} {o : Option Change} → b.form ≡ f → o ≡ form_change p m t b f → o ≡ form_change p m t b b.form
  by_form b e h = h ∙ ap (λ (f : Form). form_change p m t b f) (sym e)

  pub by_result : {n : ℕ} {o : Option Change} → row_at p t.row ≡ Row.Result n → o ≡ result_change m t n → o ≡ change p m t
  unfolding change
  by_result {n} e h = h ∙ sym (at_result e)
    where
      at_result : row_at p t.row ≡ Row.Result n → change p m t ≡ result_change m t n
      at_result e = rw (e, change)

  pub by_bind : {b : Bind} {o : Option Change} → row_at p t.row ≡ Row.Bind b → o ≡ form_change p m t b b.form → o ≡ change p m t
  unfolding change
  by_bind {b} e h = h ∙ sym (at_bind e)
    where
      at_bind : row_at p t.row ≡ Row.Bind b → change p m t ≡ form_change p m t b b.form
      at_bind e = rw (e, change)

-- first and second go on with the value of one name of a pair
module _ (p : Program) (m : Memory) (t : ThreadRecord) (b : Bind) (a : ℕ) where
  pair_then : {A : Type 0} (f : ℕ × ℕ × ℕ → Option A) → (pair_of_name p m t a >>= f) ≡ (find_closure m.cells t.cell a >>= λ (r, k). pair_at p r >>= λ (x, y). f (x, y, k))
  unfolding pair_of_name ◌>>=◌
  pair_then f = go (find_closure m.cells t.cell a)
    where
      inner : (k : ℕ) (o : Option (ℕ × ℕ)) → ((o >>= λ (x, y). some (x, y, k)) >>= f) ≡ (o >>= λ (x, y). f (x, y, k))
      inner k none = refl
      inner k (some (x, y)) = refl

      go : (o : Option (ℕ × ℕ)) → ((o >>= λ (r, k). pair_at p r >>= λ (x, y). some (x, y, k)) >>= f) ≡ (o >>= λ (r, k). pair_at p r >>= λ (x, y). f (x, y, k))
      go none = refl
      go (some (r, k)) = inner k (pair_at p r)

  pub by_first : (pair_of_name p m t a >>= λ (x, y, k). goes_on_with m t b k x) ≡ form_change p m t b (Form.First a)
  unfolding goes_on_with form_change
  by_first = pair_then (λ (x, y, k). goes_on_with m t b k x)

  pub by_second : (pair_of_name p m t a >>= λ (x, y, k). goes_on_with m t b k y) ≡ form_change p m t b (Form.Second a)
  unfolding goes_on_with form_change
  by_second = pair_then (λ (x, y, k). goes_on_with m t b k y)
