-- The rule of a sync for what it sends, each row in its set and each channel apart; and a store whose rules can be followed.
use Rattle.std.specs.Prelude.{ℕ, ◌<◌, ◌≤◌, ◌&&◌, length}
use Rattle.program.specs.Each.{Each}
use Rattle.program.specs.Maybe.{when}
use Rattle.program.specs.Test.{◌⇒◌}
use Rattle.program.specs.Program.{Program, row_at, name_of, chan_at, send_at}
use Rattle.program.specs.Flow.{u, row, lies, for_each_chan}
use Rattle.format.specs.Limits.{row_limit}
use Rattle.format.specs.Text.{Bytes}
use Rattle.format.specs.Print.{form_numbers}
use Rattle.calls.specs.Layout.{store_size}
use Rattle.store.specs.Rows.{store_program}
use Rattle.forms.specs.Forms.{form_in}
use Rattle.set_adds.specs.Adding.{Rule}

-- a store with room for all its parts, whose program has so many rows and no number above the limit
pub record Ready (rows : ℕ) (s : Bytes) : Type 0 where
  pub size : store_size ≤ length s
  pub few : rows ≤ row_limit
  pub names : (r : ℕ) → name_of (row_at (store_program rows s) r) < row_limit
  pub numbers : (r : ℕ) → Each (λ n. n < row_limit) (form_numbers (form_in (row_at (store_program rows s) r)))

module _ (p : Program) (n : ℕ) where
  -- what a sync whose bind has the name n asks of channel row k, to which the message m is sent
  unfoldable pub sent_rule : ℕ → ℕ → Rule
  sent_rule m k flow comm = flow n u && lies p (flow m) (comm k)

  -- the same of row k, if it is a chan row in the set of name c
  unfoldable pub chan_rule : ℕ → ℕ → ℕ → Rule
  chan_rule m c k flow comm = flow c (row k) ⇒ when (chan_at p k) (λ b. sent_rule m k flow comm)

  -- what it asks of row k in its set, if that is a send row
  unfoldable pub send_row_rule : ℕ → Rule
  send_row_rule k flow comm = when (send_at p k) λ (c, m). for_each_chan p (flow c) λ j. sent_rule m j flow comm
