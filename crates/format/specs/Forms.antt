-- The fourteen forms by a code, 2 to 15 in the order of docs/FORMAT.md: how many numbers each holds, and the form of a code and its numbers. A code above 15 counts as
-- apply; no table of words has one, and a store that has one is unsound, since its bytes are not those of the document read from it.
use Rattle.std.specs.Prelude.{ℕ, List, get_or, eqb}
use Rattle.program.specs.declared.Form.{Form}
use Rattle.program.specs.declared.Form.TheVariants.{Chan, Send, Recv, Pair, Left, Right, Fun, Spawn, Sync, First, Second, Case, Apply}
use Rattle.program.specs.Test.{pick}

unfoldable pub form_code : Form → ℕ
form_code Form.Unit = 2
form_code Chan = 3
form_code (Send c m) = 4
form_code (Recv c) = 5
form_code (Pair a b) = 6
form_code (Left a) = 7
form_code (Right a) = 8
form_code (Fun f x t) = 9
form_code (Spawn t) = 10
form_code (Sync e) = 11
form_code (First a) = 12
form_code (Second a) = 13
form_code (Case s l t r w) = 14
form_code (Apply f a) = 15

unfoldable pub arity : ℕ → ℕ
arity k =
    pick (eqb k 2) 0
    (pick (eqb k 3) 0
    (pick (eqb k 4) 2
    (pick (eqb k 5) 1
    (pick (eqb k 6) 2
    (pick (eqb k 7) 1
    (pick (eqb k 8) 1
    (pick (eqb k 9) 3
    (pick (eqb k 10) 1
    (pick (eqb k 11) 1
    (pick (eqb k 12) 1
    (pick (eqb k 13) 1
    (pick (eqb k 14) 5
    2))))))))))))

abbrev pub form_with : ℕ → ℕ → ℕ → ℕ → ℕ → ℕ → Form
form_with k a b c d e =
    pick (eqb k 2) Form.Unit
    (pick (eqb k 3) Chan
    (pick (eqb k 4) (Send a b)
    (pick (eqb k 5) (Recv a)
    (pick (eqb k 6) (Pair a b)
    (pick (eqb k 7) (Left a)
    (pick (eqb k 8) (Right a)
    (pick (eqb k 9) (Fun a b c)
    (pick (eqb k 10) (Spawn a)
    (pick (eqb k 11) (Sync a)
    (pick (eqb k 12) (First a)
    (pick (eqb k 13) (Second a)
    (pick (eqb k 14) (Case a b c d e)
    (Apply a b)))))))))))))

-- as many of the numbers as the form holds; past the end they are 0
unfoldable pub form_of : ℕ → List ℕ → Form
form_of k ns = form_with k (get_or ns 0 0) (get_or ns 1 0) (get_or ns 2 0) (get_or ns 3 0) (get_or ns 4 0)
