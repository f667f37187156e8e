-- "Scope runs down the tree: a row hands its scope to its form, and a form hands it on to the rows inside it."
use Rattle.std.specs.Prelude.{ℕ, zero, suc, ◌+◌, ◌*◌, min, List, get_or, set, length, replicate, ltb, leb, eqb}
use Rattle.program.specs.declared.Form.{Form}
use Rattle.program.specs.declared.Form.TheVariants.{Chan, Send, Recv, Pair, Left, Right, Fun, Spawn, Sync, First, Second, Case, Apply}
use Rattle.program.specs.declared.Row.{Row}
use Rattle.program.specs.Test.{pick}
use Rattle.program.specs.Program.{Program, row_at}
use Rattle.format.specs.Limits.{row_limit}

-- a scope has a byte for each name: 1 where the name is in scope
abbrev pub Scope : Type 0
Scope = List ℕ

abbrev pub no_names : Scope
no_names = replicate row_limit 0

abbrev pub with_name : ℕ → Scope → Scope
with_name n scope = set scope n 1

-- row r, if it uses a name that is not in scope; else `row_limit`, which is no row
unfoldable pub use_fault : ℕ → ℕ → Scope → ℕ
use_fault r n scope = pick (eqb (get_or scope n 0) 0) r row_limit

-- The smallest row with a use out of scope, from row r down, or `row_limit`. `from` is the row above the one that points at r: a row below it, or past the last, is passed
-- over (6 refuses such a pointer), so the rows left above fall, and the first number bounds the depth.
-- "Row 0 starts with none; the rest adds N; a fun's body adds F and P; a branch adds L or R; a spawned row adds nothing. N is not in scope in its own form."
unfoldable mutual
  pub row_fault : ℕ → Program → ℕ → ℕ → Scope → ℕ
  row_fault zero p from r scope = row_limit
  row_fault (suc k) p from r scope =
      pick (ltb r from) row_limit
      (pick (leb (length p) r) row_limit
      (elim (row_at p r) [
        | Row.Result n ↦ use_fault r n scope
        | Row.Bind b ↦ min (form_fault k p r b.form scope) (row_fault k p (r + 1) b.rest (with_name b.name scope))
      ]))

  pub form_fault : ℕ → Program → ℕ → Form → Scope → ℕ
  form_fault zero p r f scope = row_limit
  form_fault (suc k) p r Form.Unit scope = row_limit
  form_fault (suc k) p r Chan scope = row_limit
  form_fault (suc k) p r (Send c m) scope = min (use_fault r c scope) (use_fault r m scope)
  form_fault (suc k) p r (Recv c) scope = use_fault r c scope
  form_fault (suc k) p r (Pair a b) scope = min (use_fault r a scope) (use_fault r b scope)
  form_fault (suc k) p r (Left a) scope = use_fault r a scope
  form_fault (suc k) p r (Right a) scope = use_fault r a scope
  form_fault (suc k) p r (Fun f x t) scope = row_fault k p (r + 1) t (with_name x (with_name f scope))
  form_fault (suc k) p r (Spawn t) scope = row_fault k p (r + 1) t scope
  form_fault (suc k) p r (Sync e) scope = use_fault r e scope
  form_fault (suc k) p r (First a) scope = use_fault r a scope
  form_fault (suc k) p r (Second a) scope = use_fault r a scope
  form_fault (suc k) p r (Case s x t y w) scope =
      min (use_fault r s scope) (min (row_fault k p (r + 1) t (with_name x scope)) (row_fault k p (r + 1) w (with_name y scope)))
  form_fault (suc k) p r (Apply f a) scope = min (use_fault r f scope) (use_fault r a scope)

-- deep enough for a row and its form at each row of the program
unfoldable pub scope_fault : Program → ℕ
scope_fault p = row_fault (2 * length p + 1) p 0 0 no_names
