-- The names that a document's rows bind are numbers of its lines, and so below the limit.
use Prim.Native.Nat.{ℕ, suc, ◌<◌}
use mathlib.Core.Bool.{not, So}
use mathlib.Core.List.{[], ◌∷◌}
use Rattle.program.specs.declared.Row.{Row}
use Rattle.program.specs.declared.Form.{Form}
use Rattle.program.specs.declared.Form.TheVariants.{Chan, Send, Recv, Pair, Left, Right, Fun, Spawn, Sync, First, Second, Case, Apply}
use Rattle.program.specs.Each.{every, collect, Each, nil, ◌&◌}
use Rattle.program.specs.Program.{Program, binders_of, binders}
use Rattle.program.proofs.Each.{each_append, each_left}
use Rattle.format.specs.Limits.{row_limit}
use Rattle.format.specs.Document.{Document}
use Rattle.format.specs.Document as document
use Rattle.format.specs.Print.{form_numbers, row_lines, lines_of}
use Rattle.format.specs.Read.{row_numbers, line_numbers, above_limit}
use Rattle.format.specs.WellFormed.{orderly}
use Rattle.format.proofs.Order.{orderly_iff}
use Rattle.format.proofs.Rising.{every_left, every_head, every_tail}
use Rattle.calls.proofs.Codec.{low}

-- the binders of a row are among its numbers
form_low : (k : ℕ) (f : Form) → Each (λ n. n < k) (form_numbers f) → Each (λ n. n < k) (binders_of f)
unfolding form_numbers
form_low k Form.Unit h = nil
form_low k Chan h = nil
form_low k (Send c m) h = nil
form_low k (Recv c) h = nil
form_low k (Pair a b) h = nil
form_low k (Left a) h = nil
form_low k (Right a) h = nil
form_low k (Fun f x t) (i & j & h) = i & j & nil
form_low k (Spawn t) h = nil
form_low k (Sync e) h = nil
form_low k (First a) h = nil
form_low k (Second a) h = nil
form_low k (Case s l t r w) (i & j & h & m & n) = j & m & nil
form_low k (Apply f a) h = nil

binders_low : (x : Row) → Each (λ n. n < row_limit) (row_numbers x) → Each (λ n. n < row_limit) (binders x)
unfolding row_numbers binders
binders_low (Row.Result n) h = nil
binders_low (Row.Bind b) (i & h) = i & form_low row_limit b.form (each_left (form_numbers b.form) (b.rest ∷ []) h)

rows_names : (r : ℕ) (p : Program) → So (every (λ l. not (above_limit l)) (row_lines r p)) → Each (λ n. n < row_limit) (collect binders p)
unfolding row_lines collect
rows_names r [] t = nil
rows_names r (x ∷ p) t =
    each_append (binders_low x (row_low (low (document.row r x) (every_head _ (document.row r x) (row_lines (suc r) p) t))))
    (rows_names (suc r) p (every_tail _ (document.row r x) (row_lines (suc r) p) t))
  where
    row_low : Each (λ n. n < row_limit) (line_numbers (document.row r x)) → Each (λ n. n < row_limit) (row_numbers x)
    row_low h = unfold line_numbers in tail h
      where
        tail : Each (λ n. n < row_limit) (r ∷ row_numbers x) → Each (λ n. n < row_limit) (row_numbers x)
        tail (i & h) = h

pub names_low : (d : Document) → So (orderly d) → Each (λ n. n < row_limit) (collect binders d.rows)
unfolding lines_of
names_low d o = rows_names 0 d.rows (every_left _ (row_lines 0 d.rows) _ ((orderly_iff d).0 o).1.numbers)
