-- What the test before a set is replaced answers: the refusal of replace, or that it is done.
use Rattle.std.specs.Prelude.{Ok, Err}
use Rattle.std.specs.Prelude.{ℕ, Bool, ◌≡◌, take}
use Rattle.std.proofs.Math.Bool.{So}
use Rattle.format.specs.Text.{Bytes}
use Rattle.calls.specs.Layout.{store_size, flags_of, decode}
use Rattle.calls.specs.Calls.{opened}
use Rattle.replacement.specs.Replacement.{members_of, is_bound, set_allowed, replace}
use Rattle.opening.specs.Opening.{Opened}
use Rattle.opening.specs.Opening.{OpenedIs}

module _ (store : Bytes) (n : ℕ) (unit : Bool) (list set : Bytes) where
  -- the store opens with so many rows, the name is bound, and the set is one that may be, with its flags marked
  pub record Replaceable (rows : ℕ) : Type 0 where
    pub opens : OpenedIs (opened store) (take store_size store) (Ok rows)
    pub bound : So (is_bound (decode (take store_size store)).rows n)
    pub allowed : So (set_allowed (decode (take store_size store)).rows (members_of unit list))
    pub flags : set ≡ flags_of (members_of unit list)

  abbrev pub ReplaceableIs : Opened → Type 0
  ReplaceableIs (Err r) = replace store n unit list ≡ record { answer = Err r; bytes = store }
  ReplaceableIs (Ok rows) = Replaceable rows
