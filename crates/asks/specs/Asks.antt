-- What a form asks of each row in its set.
use Rattle.std.specs.Prelude.{ℕ, Bool, ◌&&◌, ◌≡◌}
use Rattle.program.specs.Maybe.{when}
use Rattle.program.specs.Program.{Program, pair_at, left_at, right_at, fun_at, result_name}
use Rattle.program.specs.Flow.{Set, Table, lies}
use Rattle.format.specs.Text.{Bytes, byte_at}
use Rattle.store.specs.Rows.{store_program}
use Rattle.tables.specs.Tables.{store_flow, store_comm}
use Rattle.asks.specs.declared.rules.Ask.{Ask}
use Rattle.asks.specs.declared.rules.Part.{Part}

-- what takes a part of a pair
unfoldable pub ask_of : Part → Ask
ask_of Part.First = Ask.First
ask_of Part.Second = Ask.Second

-- a byte for each row: the name of the result reached from it
unfoldable pub Names : Program → Bytes → Type 0
Names p names = (t : ℕ) → byte_at names t ≡ result_name p t

module _ (p : Program) (flow comm : Table) where
  -- what a form asks of row k in its set, where its own set is t
  unfoldable pub asks : Ask → Set → ℕ → Bool
  asks Ask.First t k = when (pair_at p k) λ (x, y). lies p (flow x) t
  asks Ask.Second t k = when (pair_at p k) λ (x, y). lies p (flow y) t
  asks (Ask.Case x l y r) t k =
      when (left_at p k) (λ a. lies p (flow a) (flow x) && lies p (flow l) t) &&
      when (right_at p k) (λ a. lies p (flow a) (flow y) && lies p (flow r) t)
  asks (Ask.Apply a) t k = when (fun_at p k) λ (g, x, b). lies p (flow a) (flow x) && lies p (flow (result_name p b)) t

-- the same over the sets of a store
abbrev pub store_asks : ℕ → Bytes → Ask → Set → ℕ → Bool
store_asks rows s = asks (store_program rows s) (store_flow s) (store_comm s)
