-- "The file": rows, what a row holds, and the result that a row comes to.
use Rattle.std.specs.Prelude.{ℕ, zero, suc, Bool, true, false, List, [], ◌∷◌, ◌++◌, get_or, length}
use Rattle.std.specs.Prelude.{Option, None as none, Some as some}
use Rattle.program.specs.declared.Row.{Row}
use Rattle.program.specs.declared.Bind.{Bind}
use Rattle.program.specs.declared.Form.{Form}
use Rattle.program.specs.declared.Form.TheVariants.{Chan, Send, Recv, Pair, Left, Right, Fun, Spawn, Sync, First, Second, Case, Apply}
use Rattle.program.specs.Maybe.{◌>>=◌, has}

-- the rows, by their numbers
abbrev pub Program : Type 0
Program = List Row

-- a row by its number; past the last one `[result 0]`, which no row of a loaded file points at
unfoldable pub row_at : Program → ℕ → Row
row_at p r = get_or p r (Row.Result 0)

unfoldable pub bind_of : Row → Option Bind
bind_of (Row.Result n) = none
bind_of (Row.Bind b) = some b

unfoldable pub bind_at : Program → ℕ → Option Bind
bind_at p r = bind_of (row_at p r)

-- a form by cases; unit, first and second, of which no accessor is needed, are taken together
module _
    {A : Type 0}
    (other chan : A)
    (send : ℕ → ℕ → A)
    (recv : ℕ → A)
    (pair : ℕ → ℕ → A)
    (left right : ℕ → A)
    (fun : ℕ → ℕ → ℕ → A)
    (spawn sync : ℕ → A)
    (case : ℕ → ℕ → ℕ → ℕ → ℕ → A)
    (apply : ℕ → ℕ → A)
  where
    abbrev pub by_kind : Form → A
    by_kind Form.Unit = other
    by_kind Chan = chan
    by_kind (Send c m) = send c m
    by_kind (Recv c) = recv c
    by_kind (Pair a b) = pair a b
    by_kind (Left a) = left a
    by_kind (Right a) = right a
    by_kind (Fun f x t) = fun f x t
    by_kind (Spawn t) = spawn t
    by_kind (Sync e) = sync e
    by_kind (First a) = other
    by_kind (Second a) = other
    by_kind (Case s l t r u) = case s l t r u
    by_kind (Apply f a) = apply f a

-- no handler: nothing is found, whatever the names and rows
module _ {A : Type 0} where
  abbrev no₁ : ℕ → Option A
  no₁ a = none

  abbrev no₂ : ℕ → ℕ → Option A
  no₂ a b = none

  abbrev no₃ : ℕ → ℕ → ℕ → Option A
  no₃ a b c = none

  abbrev no₅ : ℕ → ℕ → ℕ → ℕ → ℕ → Option A
  no₅ a b c d e = none

-- what a form of one kind holds
abbrev pub send_of : Form → Option (ℕ × ℕ)
send_of = by_kind none none (λ c m. some (c, m)) no₁ no₂ no₁ no₁ no₃ no₁ no₁ no₅ no₂

abbrev pub recv_of : Form → Option ℕ
recv_of = by_kind none none no₂ some no₂ no₁ no₁ no₃ no₁ no₁ no₅ no₂

abbrev pub pair_of : Form → Option (ℕ × ℕ)
pair_of = by_kind none none no₂ no₁ (λ a b. some (a, b)) no₁ no₁ no₃ no₁ no₁ no₅ no₂

abbrev pub left_of : Form → Option ℕ
left_of = by_kind none none no₂ no₁ no₂ some no₁ no₃ no₁ no₁ no₅ no₂

abbrev pub right_of : Form → Option ℕ
right_of = by_kind none none no₂ no₁ no₂ no₁ some no₃ no₁ no₁ no₅ no₂

abbrev pub fun_of : Form → Option (ℕ × ℕ × ℕ)
fun_of = by_kind none none no₂ no₁ no₂ no₁ no₁ (λ f x t. some (f, x, t)) no₁ no₁ no₅ no₂

abbrev pub spawn_of : Form → Option ℕ
spawn_of = by_kind none none no₂ no₁ no₂ no₁ no₁ no₃ some no₁ no₅ no₂

abbrev pub sync_of : Form → Option ℕ
sync_of = by_kind none none no₂ no₁ no₂ no₁ no₁ no₃ no₁ some no₅ no₂

abbrev pub case_of : Form → Option (ℕ × ℕ × ℕ × ℕ × ℕ)
case_of = by_kind none none no₂ no₁ no₂ no₁ no₁ no₃ no₁ no₁ (λ s l t r u. some (s, l, t, r, u)) no₂

abbrev pub apply_of : Form → Option (ℕ × ℕ)
apply_of = by_kind none none no₂ no₁ no₂ no₁ no₁ no₃ no₁ no₁ no₅ (λ f a. some (f, a))

-- the name that a chan row binds
abbrev pub chan_of : ℕ → Form → Option ℕ
chan_of n = by_kind none (some n) no₂ no₁ no₂ no₁ no₁ no₃ no₁ no₁ no₅ no₂

-- the same at a row
module _ (p : Program) (r : ℕ) where
  unfoldable pub form_at : Option Form
  form_at = bind_at p r >>= λ b. some b.form

  unfoldable pub send_at : Option (ℕ × ℕ)
  send_at = form_at >>= send_of

  unfoldable pub recv_at : Option ℕ
  recv_at = form_at >>= recv_of

  unfoldable pub pair_at : Option (ℕ × ℕ)
  pair_at = form_at >>= pair_of

  unfoldable pub left_at : Option ℕ
  left_at = form_at >>= left_of

  unfoldable pub right_at : Option ℕ
  right_at = form_at >>= right_of

  unfoldable pub fun_at : Option (ℕ × ℕ × ℕ)
  fun_at = form_at >>= fun_of

  unfoldable pub sync_at : Option ℕ
  sync_at = form_at >>= sync_of

  unfoldable pub chan_at : Option ℕ
  chan_at = bind_at p r >>= λ b. chan_of b.name b.form

  -- the spawned row and the rest of a spawn row
  unfoldable pub fork_at : Option (ℕ × ℕ)
  fork_at = bind_at p r >>= λ b. spawn_of b.form >>= λ t. some (t, b.rest)

-- "Value rows are chan, send, recv, pair, left, right and fun"
abbrev pub is_value : Form → Bool
is_value Form.Unit = false
is_value Chan = true
is_value (Send c m) = true
is_value (Recv c) = true
is_value (Pair a b) = true
is_value (Left a) = true
is_value (Right a) = true
is_value (Fun f x t) = true
is_value (Spawn t) = false
is_value (Sync e) = false
is_value (First a) = false
is_value (Second a) = false
is_value (Case s l t r u) = false
is_value (Apply f a) = false

abbrev pub is_chan : Form → Bool
is_chan =
    by_kind false true (λ c m. false) (λ c. false) (λ a b. false) (λ a. false) (λ a. false) (λ f x t. false) (λ t. false) (λ e. false) (λ s l t r u. false)
    (λ f a. false)

unfoldable pub value_row : Program → ℕ → Bool
value_row p r = has (form_at p r) is_value

unfoldable pub chan_row : Program → ℕ → Bool
chan_row p r = has (chan_at p r) λ n. true

-- "T is a row; the rest are names": the rows that a form points at, left to right
abbrev pub rows_of : Form → List ℕ
rows_of =
    by_kind [] [] (λ c m. []) (λ c. []) (λ a b. []) (λ a. []) (λ a. []) (λ f x t. t ∷ []) (λ t. t ∷ []) (λ e. []) (λ s l t r u. t ∷ u ∷ []) (λ f a. [])

-- "Those four and the N of bind are binders": F and P of fun, L and R of case
abbrev pub binders_of : Form → List ℕ
binders_of =
    by_kind [] [] (λ c m. []) (λ c. []) (λ a b. []) (λ a. []) (λ a. []) (λ f x t. f ∷ x ∷ []) (λ t. []) (λ e. []) (λ s l t r u. l ∷ r ∷ []) (λ f a. [])

-- the rows that a row points at: those of its form, then the rest
unfoldable pub pointers : Row → List ℕ
pointers (Row.Result n) = []
pointers (Row.Bind b) = rows_of b.form ++ (b.rest ∷ [])

-- the names that a row binds: N, then those of its form
unfoldable pub binders : Row → List ℕ
binders (Row.Result n) = []
binders (Row.Bind b) = b.name ∷ binders_of b.form

-- "the result reached from T by rests": its row and its name. Rests rise, so as many steps as there are rows suffice
unfoldable pub result_from : ℕ → Program → ℕ → ℕ
result_from zero p r = r
result_from (suc k) p r = elim (row_at p r) [ Row.Result n ↦ r | Row.Bind b ↦ result_from k p b.rest ]

unfoldable pub result_row : Program → ℕ → ℕ
result_row p r = result_from (length p) p r

unfoldable pub name_of : Row → ℕ
name_of (Row.Result n) = n
name_of (Row.Bind b) = b.name

-- res(T)
unfoldable pub result_name : Program → ℕ → ℕ
result_name p r = name_of (row_at p (result_row p r))
