-- The channels that receives listen to and what they hold, each gathered in one set of bytes; and the rule of a sync's receives.
use Rattle.std.specs.Prelude.{ℕ, ◌+◌, ◌<◌, ◌≤◌, Bool, false, ◌&&◌, ◌||◌, Option, ◌≡◌, length}
use denote.Ref.{Bor}
use Rattle.std.specs.Option.{MatchOption}
use Rattle.program.specs.Maybe.{when, has}
use Rattle.program.specs.Test.{any}
use Rattle.program.specs.Program.{Program, chan_row, recv_at}
use Rattle.program.specs.Flow.{Abstract, row, Set, Table, lies, for_each, for_each_chan}
use Rattle.format.specs.Text.{Bytes, byte_at}
use Rattle.format.specs.Document.{member}
use Rattle.calls.specs.Layout.{member_limit}
use Rattle.sets.specs.Sets.{set_of}

-- s' is the set of bytes s with the members of t
pub record Takes (t : Set) (s s' : Bytes) : Type 0 where
  pub size : length s' ≡ length s
  pub low : ((i : ℕ) → byte_at s i < 2) → (i : ℕ) → byte_at s' i < 2
  pub members : (a : Abstract) → member a < member_limit → set_of s' a ≡ t a || set_of s a

-- a set of bytes of 0 and 1 with the members of the first n sets
pub record Gathered (n : ℕ) (f : ℕ → Set) (s : Bytes) : Type 0 where
  pub size : length s ≡ member_limit
  pub low : (i : ℕ) → byte_at s i < 2
  pub members : (a : Abstract) → member a < member_limit → set_of s a ≡ any n (λ i. f i a)

-- some bytes, if there are any, have the members of t; if there are none, it is empty
unfoldable pub Gives : Set → Option (Bor Bytes) → Type 0
Gives t o = MatchOption o ((a : Abstract) → t a ≡ false) λ other. (a : Abstract) → t a ≡ set_of other.now a

-- none of so many rows from row k on is in a set of bytes
unfoldable pub Free : Bytes → ℕ → ℕ → Type 0
Free s k n = (r : ℕ) → k ≤ r → r < k + n → byte_at s (r + 1) ≡ 0

-- a member of the set of row k's C, if it is a recv row in the set of name e
unfoldable pub hears : Program → Table → ℕ → ℕ → Set
hears p flow e k a = flow e (row k) && has (recv_at p k) λ c. flow c a

-- a member of the set of row k, if it is a chan row in the set t
unfoldable pub gives : Program → Table → Set → ℕ → Set
gives p comm t k a = t (row k) && (chan_row p k && comm k a)

-- what a sync whose bind has the name n asks of the recv rows in the set of name e
unfoldable pub recvs_rule : Program → ℕ → ℕ → Table → Table → Bool
recvs_rule p n e flow comm = for_each p (flow e) λ s. when (recv_at p s) λ c. for_each_chan p (flow c) λ k. lies p (comm k) (flow n)
