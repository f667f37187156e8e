-- Lists of rows.
use Rattle.std.specs.Prelude.{ℕ, ◌*◌, ◌<◌, ◌≤◌, Bool, ◌≡◌, length, eqb}
use Rattle.std.proofs.Math.Bool.{So}
use Rattle.format.specs.Limits.{row_limit}
use Rattle.format.specs.Text.{Bytes, byte_at}
use Rattle.calls.specs.Layout.{row_size}

-- the list has those rows of which the test holds
pub record Has (f : ℕ → Bool) (list : Bytes) : Type 0 where
  pub rows : (i : ℕ) → i < length list → So (f (byte_at list i))
  pub all : (r : ℕ) → So (f r) → (i : ℕ) × (i < length list) × (byte_at list i ≡ r)

-- the list has, of the first n rows, those of which the test holds
pub record Lists (n : ℕ) (f : ℕ → Bool) (list : Bytes) : Type 0 where
  pub few : length list ≤ row_limit
  pub rows : (i : ℕ) → i < length list → (byte_at list i < n) × So (f (byte_at list i))
  pub all : (r : ℕ) → r < n → So (f r) → (i : ℕ) × (i < length list) × (byte_at list i ≡ r)

-- row r has this kind in a store
unfoldable pub of_kind : Bytes → ℕ → ℕ → Bool
of_kind s kind r = eqb (byte_at s (r * row_size)) kind

-- the kinds that are listed, as they stand in a store (`form_code` of format: Forms)
abbrev pub chan_kind : ℕ
chan_kind = 3

abbrev pub send_kind : ℕ
send_kind = 4

abbrev pub recv_kind : ℕ
recv_kind = 5

abbrev pub spawn_kind : ℕ
spawn_kind = 10

abbrev pub sync_kind : ℕ
sync_kind = 11
