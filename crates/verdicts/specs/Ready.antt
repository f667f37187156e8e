-- What is made ready for all channels of a program: the grid, the rows that walks come to, and lists of the rows of the kinds that matter.
use Rattle.std.specs.Prelude.{ℕ, ◌≤◌, length}
use Rattle.program.specs.Verdict.{reach}
use Rattle.format.specs.Limits.{row_limit}
use Rattle.format.specs.Text.{Bytes}
use Rattle.store.specs.Rows.{store_program}
use Rattle.tables.specs.Tables.{store_flow}
use Rattle.grids.specs.Grid.{grid_size, Shows}
use Rattle.row_lists.specs.Lists.{Lists, of_kind, send_kind, recv_kind, spawn_kind, sync_kind}
use Rattle.row_marks.specs.RowMarks.{Marked}
use Rattle.walks.specs.Walks.{comes_to}

pub record Ready (n : ℕ) (s : Bytes) (grid comes sends receives syncs spawns : Bytes) : Type 0 where
  pub few : n ≤ row_limit
  pub room : grid_size ≤ length grid
  pub shows : Shows (reach (store_program n s) (store_flow s)) grid
  pub reached : Marked n (comes_to grid) comes
  pub sending : Lists n (of_kind s send_kind) sends
  pub receiving : Lists n (of_kind s recv_kind) receives
  pub syncing : Lists n (of_kind s sync_kind) syncs
  pub spawning : Lists n (of_kind s spawn_kind) spawns
