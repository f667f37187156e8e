-- The rules of the forms, as changes of a store meet them.
use Prim.Native.Nat.{ℕ, ◌<◌}
use mathlib.Core.Bool.{Bool, ◌&&◌, and-true}
use mathlib.Core.Path.{◌≡◌, sym}
use Rattle.program.specs.declared.Form.{Form}
use Rattle.program.specs.declared.Form.TheVariants.{Pair, Left, Right, Fun}
use Rattle.program.specs.Maybe.{when}
use Rattle.program.specs.Test.{all}
use Rattle.program.specs.Program.{Program, row_at, result_row, result_name}
use Rattle.program.specs.Flow.{lies, for_each}
use Rattle.format.specs.Limits.{row_limit}
use Rattle.format.specs.Text.{Bytes, byte_at}
use Rattle.format.specs.Print.{form_numbers}
use Rattle.store.specs.Rows.{store_program}
use Rattle.store.proofs.Laws.{program_length}
use Rattle.forms.specs.Forms.{form_in}
use Rattle.forms.proofs.Forms.{pair_at_lem, left_at_lem, right_at_lem, fun_at_lem}
use Rattle.asks.specs.Asks.{Names}
use Rattle.rule_adds.specs.declared.Ask.{Ask}
use Rattle.set_adds.specs.Adding.{Adds}
use Rattle.rule_adds.specs.Rules.{ask_rule, member_rule}
use Rattle.set_adds.proofs.Adding.{adds_as}
use Rattle.send_adds.specs.Sends.{Ready}
use Rattle.send_adds.proofs.Sending.{first_low, second_low, numbers_low}

-- ---- all rows

module _ (rows k : ℕ) (e : k ≡ rows) {s s' : Bytes} {more : Bool} where
  pub each_all : (n a : ℕ) (ask : Ask) → Adds (λ flow comm. all k (λ i. member_rule (store_program rows s) n ask a i flow comm)) s s' more
      → Adds (λ flow comm. for_each (store_program rows s) (flow a) (λ j. ask_rule (store_program rows s) n ask j flow comm)) s s' more
  unfolding member_rule for_each
  each_all n a ask h = rw (program_length rows s) (rw e at h)

-- ---- numbers below the limit

module _ {rows : ℕ} {s : Bytes} (ready : Ready rows s) (k : ℕ) {f : Form} (e : f ≡ form_in (row_at (store_program rows s) k)) where
  pub pair_low : {a b : ℕ} → f ≡ Pair a b → (a < row_limit) × (b < row_limit)
  unfolding form_numbers
  pair_low q = let h = numbers_low ready k e _ q in (first_low h, second_low h)

  pub left_low : {a : ℕ} → f ≡ Left a → a < row_limit
  unfolding form_numbers
  left_low q = first_low (numbers_low ready k e _ q)

  pub right_low : {a : ℕ} → f ≡ Right a → a < row_limit
  unfolding form_numbers
  right_low q = first_low (numbers_low ready k e _ q)

  pub fun_low : {g x t : ℕ} → f ≡ Fun g x t → x < row_limit
  unfolding form_numbers
  fun_low q = second_low (numbers_low ready k e _ q)

pub result_low : {rows : ℕ} {s : Bytes} → Ready rows s → (names : Bytes) → Names (store_program rows s) names → (t : ℕ) → byte_at names t < row_limit
unfolding Names result_name
result_low {rows} {s} ready names h t = rw (h t) (ready.names (result_row (store_program rows s) t))

-- ---- what a form asks of a row, by the row's form

module _ (p : Program) (n k : ℕ) {f : Form} (e : f ≡ form_in (row_at p k)) {s s' : Bytes} {more : Bool} where
  pub first_pair : {a b : ℕ} → f ≡ Pair a b → Adds (λ flow comm. lies p (flow a) (flow n)) s s' more → Adds (ask_rule p n Ask.First k) s s' more
  unfolding ask_rule when
  first_pair q h = adds_as _ _ (λ flow comm. rw (pair_at_lem p k e, q)) h

  pub second_pair : {a b : ℕ} → f ≡ Pair a b → Adds (λ flow comm. lies p (flow b) (flow n)) s s' more → Adds (ask_rule p n Ask.Second k) s s' more
  unfolding ask_rule when
  second_pair q h = adds_as _ _ (λ flow comm. rw (pair_at_lem p k e, q)) h

  pub case_left : {a : ℕ} (x l y r : ℕ) → f ≡ Left a → Adds (λ flow comm. lies p (flow a) (flow x) && lies p (flow l) (flow n)) s s' more → Adds (ask_rule p n (Ask.Case x l y r) k) s s' more
  unfolding ask_rule when
  case_left x l y r q h = adds_as _ _ (λ flow comm. rw (left_at_lem p k e, right_at_lem p k e, q) (sym (and-true _))) h

  pub case_right : {a : ℕ} (x l y r : ℕ) → f ≡ Right a → Adds (λ flow comm. lies p (flow a) (flow y) && lies p (flow r) (flow n)) s s' more → Adds (ask_rule p n (Ask.Case x l y r) k) s s' more
  unfolding ask_rule when
  case_right x l y r q h = adds_as _ _ (λ flow comm. rw (left_at_lem p k e, right_at_lem p k e, q)) h

  pub apply_fun : {g x t : ℕ} (a : ℕ) → f ≡ Fun g x t → Adds (λ flow comm. lies p (flow a) (flow x) && lies p (flow (result_name p t)) (flow n)) s s' more
      → Adds (ask_rule p n (Ask.Apply a) k) s s' more
  unfolding ask_rule when
  apply_fun a q h = adds_as _ _ (λ flow comm. rw (fun_at_lem p k e, q)) h
