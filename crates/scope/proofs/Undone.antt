-- A name's byte that is put back leaves the scope as it was.
use Prim.Native.Nat.{ℕ}
use mathlib.Core.Path.{◌≡◌}
use lib.ListN.{get_or, set}
use lib.Seq.{set-set, set-get_or}
use Rattle.format.specs.Scope.{Scope}

-- the name gets a byte, what follows keeps the scope, and the name gets its old byte again
pub put_back : (scope : Scope) (n byte : ℕ) {old : ℕ} {wider after last : Scope} → old ≡ get_or scope n 0 → wider ≡ set scope n byte → after ≡ wider → last ≡ set after n old
    → last ≡ scope
put_back scope n byte was put kept back = rw (back, kept, put, was, set-set, set-get_or)
