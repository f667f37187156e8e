-- Sets as bytes, a byte for each member: unit first, then the rows.
use Rattle.std.specs.Prelude.{ℕ, ◌+◌, ◌*◌, ◌≤◌, ◌<◌, Bool, ◌&&◌, [], ◌≡◌, length, take, drop, ltb, leb, eqb}
use Rattle.program.specs.Test.{pick, ◌⇒◌, all}
use Rattle.program.specs.Flow.{u, row, Set}
use Rattle.format.specs.Limits.{row_limit}
use Rattle.format.specs.Text.{Bytes, byte_at}
use Rattle.format.specs.Document.{member}
use Rattle.calls.specs.Layout.{member_limit, store_size}

-- a store with room for all its parts, of whose rows some are the program's
pub record Sized (rows : ℕ) (s : Bytes) : Type 0 where
  pub size : store_size ≤ length s
  pub few : rows ≤ row_limit

-- the set of some bytes: a member is in it if its byte is not 0; too few bytes are the empty set
unfoldable pub set_of : Bytes → Set
set_of s a = leb member_limit (length s) && ltb 0 (byte_at s (member a))

-- the bytes of set n, of the sets that begin at a base
unfoldable pub part_at : Bytes → ℕ → ℕ → Bytes
part_at s base n = pick (leb row_limit n) [] (take member_limit (drop (base + n * member_limit) s))

-- of the first n members, each that a has b has
unfoldable pub within : ℕ → Bytes → Bytes → Bool
within n a b = all n λ i. ltb 0 (byte_at a i) ⇒ ltb 0 (byte_at b i)

-- a member's byte, or 0 where another set's byte is not 0
unfoldable pub unless_in : ℕ → ℕ → ℕ
unless_in a b = pick (eqb b 0) a 0

-- s lies in t, where a program has n rows
unfoldable pub lies_below : ℕ → Set → Set → Bool
lies_below n s t = (s u ⇒ t u) && all n λ r. s (row r) ⇒ t (row r)

-- a set of bytes with unit and, of the first n rows, those that pass the test
pub record PassingSet (n : ℕ) (f : ℕ → Bool) (s : Bytes) : Type 0 where
  pub size : member_limit ≤ length s
  pub unit : 0 < byte_at s 0
  pub rows : (r : ℕ) → r < n → ltb 0 (byte_at s (r + 1)) ≡ f r

-- of the bytes of s the first n are joined with those of another by f, and the rest is kept
pub record Bytewise (f : ℕ → ℕ → ℕ) (n : ℕ) (other s s' : Bytes) : Type 0 where
  pub size : length s' ≡ length s
  pub done : (i : ℕ) → i < n → byte_at s' i ≡ f (byte_at s i) (byte_at other i)
  pub behind : (i : ℕ) → n ≤ i → byte_at s' i ≡ byte_at s i
