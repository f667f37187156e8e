-- Rows of a store's program, and the forms that they hold.
use Prim.Native.Nat.{ℕ, ◌≤◌}
use mathlib.Core.Bool.{Bool, true, false, not}
use mathlib.Core.List.{List, [], ◌∷◌}
use Rattle.std.specs.Prelude.{Option, None as none, Some as some}
use mathlib.Core.Path.{◌≡◌, refl, sym, ap, ◌∙◌}
use lib.ListN.{get_or-eq_default}
use mir.Val.{has_key}
use types.Run.{OneOf, miss}
use lib.Dec.{T, eqb}
use denote.Enum.Declared.{tag_of}
use Rattle.program.specs.declared.Row.{Row}
use Rattle.program.specs.declared.Bind.{Bind}
use Rattle.program.specs.contracts.Form as form
use Rattle.program.specs.declared.Form.{Form}
use Rattle.program.specs.declared.Form.TheVariants.{Chan, Send, Recv, Pair, Left, Right, Fun, Spawn, Sync, First, Second, Case, Apply}
use Rattle.program.specs.Test.{pick, ◌⇒◌}
use Rattle.program.specs.Maybe.{◌>>=◌, when, has}
use Rattle.program.specs.Program.{Program, row_at, bind_of, bind_at, form_at, send_of, recv_of, pair_of, left_of, right_of, fun_of, spawn_of}
use Rattle.program.specs.Program.{sync_of, chan_of, is_chan, chan_at, chan_row, send_at, recv_at, pair_at, left_at, right_at, fun_at, sync_at, fork_at}
use Rattle.format.specs.Text.{Bytes}
use Rattle.store.specs.Rows.{store_program}
use Rattle.store.proofs.Laws.{program_length}
use Rattle.forms.specs.Forms.{form_in}

-- past the last row
pub row_past : (n : ℕ) (s : Bytes) (r : ℕ) → n ≤ r → row_at (store_program n s) r ≡ Row.Result 0
unfolding row_at
row_past n s r h = get_or-eq_default (store_program n s) (Row.Result 0) {n = r} (rw (program_length n s) h)

-- ---- the fourteen forms

pub every_form : (P : Form → Type 0)
    → P Form.Unit
    → P Chan
    → ((c m : ℕ) → P (Send c m))
    → ((c : ℕ) → P (Recv c))
    → ((a b : ℕ) → P (Pair a b))
    → ((a : ℕ) → P (Left a))
    → ((a : ℕ) → P (Right a))
    → ((f x t : ℕ) → P (Fun f x t))
    → ((t : ℕ) → P (Spawn t))
    → ((e : ℕ) → P (Sync e))
    → ((a : ℕ) → P (First a))
    → ((a : ℕ) → P (Second a))
    → ((s l t r w : ℕ) → P (Case s l t r w))
    → ((f a : ℕ) → P (Apply f a))
    → (f : Form) → P f
every_form P h0 h1 h2 h3 h4 h5 h6 h7 h8 h9 h10 h11 h12 h13 Form.Unit = h0
every_form P h0 h1 h2 h3 h4 h5 h6 h7 h8 h9 h10 h11 h12 h13 Chan = h1
every_form P h0 h1 h2 h3 h4 h5 h6 h7 h8 h9 h10 h11 h12 h13 (Send c m) = h2 c m
every_form P h0 h1 h2 h3 h4 h5 h6 h7 h8 h9 h10 h11 h12 h13 (Recv c) = h3 c
every_form P h0 h1 h2 h3 h4 h5 h6 h7 h8 h9 h10 h11 h12 h13 (Pair a b) = h4 a b
every_form P h0 h1 h2 h3 h4 h5 h6 h7 h8 h9 h10 h11 h12 h13 (Left a) = h5 a
every_form P h0 h1 h2 h3 h4 h5 h6 h7 h8 h9 h10 h11 h12 h13 (Right a) = h6 a
every_form P h0 h1 h2 h3 h4 h5 h6 h7 h8 h9 h10 h11 h12 h13 (Fun f x t) = h7 f x t
every_form P h0 h1 h2 h3 h4 h5 h6 h7 h8 h9 h10 h11 h12 h13 (Spawn t) = h8 t
every_form P h0 h1 h2 h3 h4 h5 h6 h7 h8 h9 h10 h11 h12 h13 (Sync e) = h9 e
every_form P h0 h1 h2 h3 h4 h5 h6 h7 h8 h9 h10 h11 h12 h13 (First a) = h10 a
every_form P h0 h1 h2 h3 h4 h5 h6 h7 h8 h9 h10 h11 h12 h13 (Second a) = h11 a
every_form P h0 h1 h2 h3 h4 h5 h6 h7 h8 h9 h10 h11 h12 h13 (Case s l t r w) = h12 s l t r w
every_form P h0 h1 h2 h3 h4 h5 h6 h7 h8 h9 h10 h11 h12 h13 (Apply f a) = h13 f a

chan_of_lem : (n : ℕ) (t : Bool) (f : Form) → when (chan_of n f) (λ n. t) ≡ is_chan f ⇒ t
unfolding when
chan_of_lem n t = every_form _ refl refl (λ c m. refl) (λ c. refl) (λ a b. refl) (λ a. refl) (λ a. refl) (λ f x t. refl) (λ t. refl) (λ e. refl) (λ a. refl) (λ a. refl) (λ s l t r w. refl) (λ f a. refl)

chan_has : (n : ℕ) (f : Form) → has (chan_of n f) (λ n. true) ≡ is_chan f
unfolding has
chan_has n = every_form _ refl refl (λ c m. refl) (λ c. refl) (λ a b. refl) (λ a. refl) (λ a. refl) (λ f x t. refl) (λ t. refl) (λ e. refl) (λ a. refl) (λ a. refl) (λ s l t r w. refl) (λ f a. refl)

-- ---- what a row's form holds

at_form : {A : Type 0} (p : Program) (r : ℕ) (g : Form → Option A) → g Form.Unit ≡ none → form_at p r >>= g ≡ g (form_in (row_at p r))
unfolding form_at bind_at bind_of form_in ◌>>=◌
at_form p r g e = go (row_at p r)
  where
    go : (w : Row) → (bind_of w >>= (λ b. some b.form)) >>= g ≡ g (form_in w)
    go (Row.Result n) = sym e
    go (Row.Bind b) = refl

module _ (p : Program) (r : ℕ) {f : Form} (e : f ≡ form_in (row_at p r)) where
  pub send_at_lem : send_at p r ≡ send_of f
  unfolding send_at
  send_at_lem = at_form p r send_of refl ∙ ap send_of (sym e)

  pub recv_at_lem : recv_at p r ≡ recv_of f
  unfolding recv_at
  recv_at_lem = at_form p r recv_of refl ∙ ap recv_of (sym e)

  pub pair_at_lem : pair_at p r ≡ pair_of f
  unfolding pair_at
  pair_at_lem = at_form p r pair_of refl ∙ ap pair_of (sym e)

  pub left_at_lem : left_at p r ≡ left_of f
  unfolding left_at
  left_at_lem = at_form p r left_of refl ∙ ap left_of (sym e)

  pub right_at_lem : right_at p r ≡ right_of f
  unfolding right_at
  right_at_lem = at_form p r right_of refl ∙ ap right_of (sym e)

  pub fun_at_lem : fun_at p r ≡ fun_of f
  unfolding fun_at
  fun_at_lem = at_form p r fun_of refl ∙ ap fun_of (sym e)

  pub sync_at_lem : sync_at p r ≡ sync_of f
  unfolding sync_at
  sync_at_lem = at_form p r sync_of refl ∙ ap sync_of (sym e)

  pub chan_at_lem : (t : Bool) → when (chan_at p r) (λ n. t) ≡ is_chan f ⇒ t
  unfolding chan_at bind_at bind_of form_in ◌>>=◌ when
  chan_at_lem t = go (row_at p r) ∙ ap (λ f. is_chan f ⇒ t) (sym e)
    where
      go : (w : Row) → when (bind_of w >>= λ b. chan_of b.name b.form) (λ n. t) ≡ is_chan (form_in w) ⇒ t
      go (Row.Result n) = refl
      go (Row.Bind b) = chan_of_lem b.name t b.form

  pub chan_row_lem : chan_row p r ≡ is_chan f
  unfolding chan_row chan_at bind_at bind_of form_in ◌>>=◌ has
  chan_row_lem = go (row_at p r) ∙ ap is_chan (sym e)
    where
      go : (w : Row) → has (bind_of w >>= λ b. chan_of b.name b.form) (λ n. true) ≡ is_chan (form_in w)
      go (Row.Result n) = refl
      go (Row.Bind b) = chan_has b.name b.form

-- past the last row there is no chan row
pub chan_past : (n : ℕ) (s : Bytes) (r : ℕ) → n ≤ r → chan_row (store_program n s) r ≡ false
unfolding form_in
chan_past n s r l = chan_row_lem (store_program n s) r {f = Form.Unit} (rw (row_past n s r l))

-- ---- the spawned row and the rest

module _ (p : Program) (r : ℕ) where
  pub fork_end : {n : ℕ} → row_at p r ≡ Row.Result n → fork_at p r ≡ none
  unfolding fork_at bind_at bind_of ◌>>=◌
  fork_end e = rw (e, bind_of, ◌>>=◌)

  pub fork_bind : {b : Bind} → row_at p r ≡ Row.Bind b → fork_at p r ≡ spawn_of b.form >>= λ t. some (t, b.rest)
  unfolding fork_at bind_at bind_of ◌>>=◌
  fork_bind e = rw (e, bind_of, ◌>>=◌)

-- ---- a form that is none of some kinds

-- the kinds are numbered in their order
abbrev pub kinds : List ℕ
kinds = 0 ∷ 1 ∷ 2 ∷ 3 ∷ 4 ∷ 5 ∷ 6 ∷ 7 ∷ 8 ∷ 9 ∷ 10 ∷ 11 ∷ 12 ∷ 13 ∷ []

abbrev pub but : ℕ → List ℕ → List ℕ
but k [] = []
but k (x ∷ xs) = pick (eqb x k) (but k xs) (x ∷ but k xs)

-- a form whose kind is one of ks, where a kind is not, is not of that kind
module _ (ks : List ℕ) (f : Form) where
  pub no_send : T (not (has_key ks 2)) → OneOf ks (tag_of form.the_type f) → send_of f ≡ none
  no_send h =
      every_form (λ f. OneOf ks (tag_of form.the_type f) → send_of f ≡ none)
      (λ o. refl) (λ o. refl) (λ c m o. absurd (miss ks 2 h o)) (λ c o. refl) (λ a b o. refl) (λ a o. refl) (λ a o. refl) (λ f x t o. refl) (λ t o. refl)
      (λ e o. refl) (λ a o. refl) (λ a o. refl) (λ s l t r w o. refl) (λ f a o. refl) f

  pub no_recv : T (not (has_key ks 3)) → OneOf ks (tag_of form.the_type f) → recv_of f ≡ none
  no_recv h =
      every_form (λ f. OneOf ks (tag_of form.the_type f) → recv_of f ≡ none)
      (λ o. refl) (λ o. refl) (λ c m o. refl) (λ c o. absurd (miss ks 3 h o)) (λ a b o. refl) (λ a o. refl) (λ a o. refl) (λ f x t o. refl) (λ t o. refl)
      (λ e o. refl) (λ a o. refl) (λ a o. refl) (λ s l t r w o. refl) (λ f a o. refl) f

  pub no_left : T (not (has_key ks 5)) → OneOf ks (tag_of form.the_type f) → left_of f ≡ none
  no_left h =
      every_form (λ f. OneOf ks (tag_of form.the_type f) → left_of f ≡ none)
      (λ o. refl) (λ o. refl) (λ c m o. refl) (λ c o. refl) (λ a b o. refl) (λ a o. absurd (miss ks 5 h o)) (λ a o. refl) (λ f x t o. refl) (λ t o. refl)
      (λ e o. refl) (λ a o. refl) (λ a o. refl) (λ s l t r w o. refl) (λ f a o. refl) f

  pub no_right : T (not (has_key ks 6)) → OneOf ks (tag_of form.the_type f) → right_of f ≡ none
  no_right h =
      every_form (λ f. OneOf ks (tag_of form.the_type f) → right_of f ≡ none)
      (λ o. refl) (λ o. refl) (λ c m o. refl) (λ c o. refl) (λ a b o. refl) (λ a o. refl) (λ a o. absurd (miss ks 6 h o)) (λ f x t o. refl) (λ t o. refl)
      (λ e o. refl) (λ a o. refl) (λ a o. refl) (λ s l t r w o. refl) (λ f a o. refl) f

  pub no_fun : T (not (has_key ks 7)) → OneOf ks (tag_of form.the_type f) → fun_of f ≡ none
  no_fun h =
      every_form (λ f. OneOf ks (tag_of form.the_type f) → fun_of f ≡ none)
      (λ o. refl) (λ o. refl) (λ c m o. refl) (λ c o. refl) (λ a b o. refl) (λ a o. refl) (λ a o. refl) (λ f x t o. absurd (miss ks 7 h o)) (λ t o. refl)
      (λ e o. refl) (λ a o. refl) (λ a o. refl) (λ s l t r w o. refl) (λ f a o. refl) f

  pub no_spawn : T (not (has_key ks 8)) → OneOf ks (tag_of form.the_type f) → spawn_of f ≡ none
  no_spawn h =
      every_form (λ f. OneOf ks (tag_of form.the_type f) → spawn_of f ≡ none)
      (λ o. refl) (λ o. refl) (λ c m o. refl) (λ c o. refl) (λ a b o. refl) (λ a o. refl) (λ a o. refl) (λ f x t o. refl) (λ t o. absurd (miss ks 8 h o))
      (λ e o. refl) (λ a o. refl) (λ a o. refl) (λ s l t r w o. refl) (λ f a o. refl) f

  pub no_sync : T (not (has_key ks 9)) → OneOf ks (tag_of form.the_type f) → sync_of f ≡ none
  no_sync h =
      every_form (λ f. OneOf ks (tag_of form.the_type f) → sync_of f ≡ none)
      (λ o. refl) (λ o. refl) (λ c m o. refl) (λ c o. refl) (λ a b o. refl) (λ a o. refl) (λ a o. refl) (λ f x t o. refl) (λ t o. refl)
      (λ e o. absurd (miss ks 9 h o)) (λ a o. refl) (λ a o. refl) (λ s l t r w o. refl) (λ f a o. refl) f

  pub no_chan : T (not (has_key ks 1)) → OneOf ks (tag_of form.the_type f) → is_chan f ≡ false
  no_chan h =
      every_form (λ f. OneOf ks (tag_of form.the_type f) → is_chan f ≡ false)
      (λ o. refl) (λ o. absurd (miss ks 1 h o)) (λ c m o. refl) (λ c o. refl) (λ a b o. refl) (λ a o. refl) (λ a o. refl) (λ f x t o. refl) (λ t o. refl)
      (λ e o. refl) (λ a o. refl) (λ a o. refl) (λ s l t r w o. refl) (λ f a o. refl) f

-- a form that is no value of some variant, as an arm of a `match` after that variant's knows
module _ (f : Form) where
  pub lacks_send : ((c m : ℕ) → f ≡ Send c m → ⊥) → send_of f ≡ none
  lacks_send =
      every_form (λ f. ((c m : ℕ) → f ≡ Send c m → ⊥) → send_of f ≡ none)
      (λ o. refl) (λ o. refl) (λ c m o. absurd (o c m refl)) (λ c o. refl) (λ a b o. refl) (λ a o. refl) (λ a o. refl) (λ f x t o. refl) (λ t o. refl)
      (λ e o. refl) (λ a o. refl) (λ a o. refl) (λ s l t r w o. refl) (λ f a o. refl) f

  pub lacks_recv : ((c : ℕ) → f ≡ Recv c → ⊥) → recv_of f ≡ none
  lacks_recv =
      every_form (λ f. ((c : ℕ) → f ≡ Recv c → ⊥) → recv_of f ≡ none)
      (λ o. refl) (λ o. refl) (λ c m o. refl) (λ c o. absurd (o c refl)) (λ a b o. refl) (λ a o. refl) (λ a o. refl) (λ f x t o. refl) (λ t o. refl)
      (λ e o. refl) (λ a o. refl) (λ a o. refl) (λ s l t r w o. refl) (λ f a o. refl) f

  pub lacks_pair : ((a b : ℕ) → f ≡ Pair a b → ⊥) → pair_of f ≡ none
  lacks_pair =
      every_form (λ f. ((a b : ℕ) → f ≡ Pair a b → ⊥) → pair_of f ≡ none)
      (λ o. refl) (λ o. refl) (λ c m o. refl) (λ c o. refl) (λ a b o. absurd (o a b refl)) (λ a o. refl) (λ a o. refl) (λ f x t o. refl) (λ t o. refl)
      (λ e o. refl) (λ a o. refl) (λ a o. refl) (λ s l t r w o. refl) (λ f a o. refl) f

  pub lacks_left : ((a : ℕ) → f ≡ Left a → ⊥) → left_of f ≡ none
  lacks_left =
      every_form (λ f. ((a : ℕ) → f ≡ Left a → ⊥) → left_of f ≡ none)
      (λ o. refl) (λ o. refl) (λ c m o. refl) (λ c o. refl) (λ a b o. refl) (λ a o. absurd (o a refl)) (λ a o. refl) (λ f x t o. refl) (λ t o. refl)
      (λ e o. refl) (λ a o. refl) (λ a o. refl) (λ s l t r w o. refl) (λ f a o. refl) f

  pub lacks_right : ((a : ℕ) → f ≡ Right a → ⊥) → right_of f ≡ none
  lacks_right =
      every_form (λ f. ((a : ℕ) → f ≡ Right a → ⊥) → right_of f ≡ none)
      (λ o. refl) (λ o. refl) (λ c m o. refl) (λ c o. refl) (λ a b o. refl) (λ a o. refl) (λ a o. absurd (o a refl)) (λ f x t o. refl) (λ t o. refl)
      (λ e o. refl) (λ a o. refl) (λ a o. refl) (λ s l t r w o. refl) (λ f a o. refl) f

  pub lacks_fun : ((g x t : ℕ) → f ≡ Fun g x t → ⊥) → fun_of f ≡ none
  lacks_fun =
      every_form (λ f. ((g x t : ℕ) → f ≡ Fun g x t → ⊥) → fun_of f ≡ none)
      (λ o. refl) (λ o. refl) (λ c m o. refl) (λ c o. refl) (λ a b o. refl) (λ a o. refl) (λ a o. refl) (λ f x t o. absurd (o f x t refl)) (λ t o. refl)
      (λ e o. refl) (λ a o. refl) (λ a o. refl) (λ s l t r w o. refl) (λ f a o. refl) f

  pub lacks_spawn : ((t : ℕ) → f ≡ Spawn t → ⊥) → spawn_of f ≡ none
  lacks_spawn =
      every_form (λ f. ((t : ℕ) → f ≡ Spawn t → ⊥) → spawn_of f ≡ none)
      (λ o. refl) (λ o. refl) (λ c m o. refl) (λ c o. refl) (λ a b o. refl) (λ a o. refl) (λ a o. refl) (λ f x t o. refl) (λ t o. absurd (o t refl))
      (λ e o. refl) (λ a o. refl) (λ a o. refl) (λ s l t r w o. refl) (λ f a o. refl) f

  pub lacks_sync : ((e : ℕ) → f ≡ Sync e → ⊥) → sync_of f ≡ none
  lacks_sync =
      every_form (λ f. ((e : ℕ) → f ≡ Sync e → ⊥) → sync_of f ≡ none)
      (λ o. refl) (λ o. refl) (λ c m o. refl) (λ c o. refl) (λ a b o. refl) (λ a o. refl) (λ a o. refl) (λ f x t o. refl) (λ t o. refl)
      (λ e o. absurd (o e refl)) (λ a o. refl) (λ a o. refl) (λ s l t r w o. refl) (λ f a o. refl) f

  pub lacks_chan : (f ≡ Chan → ⊥) → is_chan f ≡ false
  lacks_chan =
      every_form (λ f. (f ≡ Chan → ⊥) → is_chan f ≡ false)
      (λ o. refl) (λ o. absurd (o refl)) (λ c m o. refl) (λ c o. refl) (λ a b o. refl) (λ a o. refl) (λ a o. refl) (λ f x t o. refl) (λ t o. refl)
      (λ e o. refl) (λ a o. refl) (λ a o. refl) (λ s l t r w o. refl) (λ f a o. refl) f
