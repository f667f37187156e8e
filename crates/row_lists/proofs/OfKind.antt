-- The rows of a kind in a store, and what the program has at rows of other kinds.
use Prim.Native.Nat.{ℕ, ◌+◌, ◌*◌, ◌<◌}
use native.Mathlib.Omega.{arith}
use mathlib.Core.Bool.{Bool, true, false, ◌&&◌, So, false≢true}
use Rattle.std.specs.Prelude.{None as none}
use mathlib.Core.Path.{◌≡◌, refl, sym, ◌∙◌}
use mathlib.Core.List.{[], ◌∷◌, ◌++◌}
use lib.Dec.{ltb, eqb}
use borrow.Author.Tests.{lt-ltb, le-ltb, ltb-true, eq-eqb, eqb-true}
use Rattle.program.specs.declared.Row.{Row}
use Rattle.program.specs.declared.Bind.{Bind}
use Rattle.program.specs.declared.Form.{Form}
use Rattle.program.specs.Test.{pick}
use Rattle.program.specs.Maybe.{◌>>=◌}
use Rattle.program.specs.Program.{row_at, send_of, recv_of, sync_of, spawn_of, send_at, recv_at, sync_at, fork_at, is_chan}
use Rattle.program.proofs.Test.{and_left, and_right, and_intro}
use Rattle.format.specs.Forms.{form_with, form_of}
use Rattle.format.specs.Text.{Bytes, byte_at}
use Rattle.calls.specs.Layout.{row_size, row_of}
use Rattle.store.specs.Rows.{store_program, cells_at}
use Rattle.store.proofs.Laws.{row_at_program, row_cells}
use Rattle.forms.specs.Forms.{form_in}
use Rattle.forms.proofs.Forms.{send_at_lem, recv_at_lem, sync_at_lem, fork_end, fork_bind}
use Rattle.row_lists.specs.Lists.{Has, of_kind}
use Rattle.row_lists.proofs.Listing.{has_as, has_more}

-- ---- the list of a kind, row by row

module _ (s : Bytes) (kind : ℕ) where
  abbrev pub below : ℕ → ℕ → Bool
  below n r = ltb r n && of_kind s kind r

  pub below_none : (r : ℕ) → So (below 0 r) → ⊥
  below_none r h = false≢true (sym (le-ltb r 0 (omega arith)) ∙ and_left (ltb r 0) _ h)

  rises : (n r : ℕ) → So (below n r) → So (below (n + 1) r)
  rises n r h = let l : r < n = ltb-true r n (and_left (ltb r n) _ h) in and_intro (lt-ltb r (n + 1) (omega arith)) (and_right (ltb r n) _ h)

  falls : (n r : ℕ) → So (below (n + 1) r) → (r ≡ n → ⊥) → So (below n r)
  falls n r h d = let l : r < n + 1 = ltb-true r (n + 1) (and_left (ltb r (n + 1)) _ h) in and_intro (lt-ltb r n (omega arith)) (and_right (ltb r (n + 1)) _ h)

  -- row n is of another kind
  pub kind_other : (n : ℕ) {list : Bytes} {x : ℕ} → x ≡ byte_at s (n * row_size) → (x ≡ kind → ⊥) → Has (below n) list → Has (below (n + 1)) list
  unfolding of_kind
  kind_other n {x = x} e d h =
      has_as (rises n) (λ r t. falls n r t (λ q. d (e ∙ eqb-true _ kind (rw q at (and_right (ltb r (n + 1)) _ t))))) h

  -- row n is of the kind
  pub kind_here : (n : ℕ) {list : Bytes} {x : ℕ} → x ≡ byte_at s (n * row_size) → x ≡ kind → Has (below n) list → Has (below (n + 1)) (list ++ n ∷ [])
  unfolding of_kind
  kind_here n e k h = has_more n (and_intro (lt-ltb n (n + 1) (omega arith)) (eq-eqb _ kind (sym e ∙ k))) (rises n) (falls n) h

-- ---- rows of other kinds

other : {A : Type 0} (g : Form → A) {v : A} (t : Bool) {x y : Form} → g x ≡ v → g y ≡ v → g (pick t x y) ≡ v
other g true e d = e
other g false e d = d

module _ (k a b c d e : ℕ) where
  no_send : eqb k 4 ≡ false → send_of (form_with k a b c d e) ≡ none
  no_send h = other send_of (eqb k 2) refl (other send_of (eqb k 3) refl (rw h (other send_of (eqb k 5) refl (other send_of (eqb k 6) refl (other send_of (eqb k 7) refl (other send_of (eqb k 8) refl (other send_of (eqb k 9) refl (other send_of (eqb k 10) refl (other send_of (eqb k 11) refl (other send_of (eqb k 12) refl (other send_of (eqb k 13) refl (other send_of (eqb k 14) refl refl))))))))))))

  no_recv : eqb k 5 ≡ false → recv_of (form_with k a b c d e) ≡ none
  no_recv h = other recv_of (eqb k 2) refl (other recv_of (eqb k 3) refl (other recv_of (eqb k 4) refl (rw h (other recv_of (eqb k 6) refl (other recv_of (eqb k 7) refl (other recv_of (eqb k 8) refl (other recv_of (eqb k 9) refl (other recv_of (eqb k 10) refl (other recv_of (eqb k 11) refl (other recv_of (eqb k 12) refl (other recv_of (eqb k 13) refl (other recv_of (eqb k 14) refl refl))))))))))))

  no_spawn : eqb k 10 ≡ false → spawn_of (form_with k a b c d e) ≡ none
  no_spawn h = other spawn_of (eqb k 2) refl (other spawn_of (eqb k 3) refl (other spawn_of (eqb k 4) refl (other spawn_of (eqb k 5) refl (other spawn_of (eqb k 6) refl (other spawn_of (eqb k 7) refl (other spawn_of (eqb k 8) refl (other spawn_of (eqb k 9) refl (rw h (other spawn_of (eqb k 11) refl (other spawn_of (eqb k 12) refl (other spawn_of (eqb k 13) refl (other spawn_of (eqb k 14) refl refl))))))))))))

  no_sync : eqb k 11 ≡ false → sync_of (form_with k a b c d e) ≡ none
  no_sync h = other sync_of (eqb k 2) refl (other sync_of (eqb k 3) refl (other sync_of (eqb k 4) refl (other sync_of (eqb k 5) refl (other sync_of (eqb k 6) refl (other sync_of (eqb k 7) refl (other sync_of (eqb k 8) refl (other sync_of (eqb k 9) refl (other sync_of (eqb k 10) refl (rw h (other sync_of (eqb k 12) refl (other sync_of (eqb k 13) refl (other sync_of (eqb k 14) refl refl))))))))))))

module _ (k a b c d e : ℕ) where
  no_chan : eqb k 3 ≡ false → is_chan (form_with k a b c d e) ≡ false
  no_chan h = other is_chan (eqb k 2) refl (rw h (other is_chan (eqb k 4) refl (other is_chan (eqb k 5) refl (other is_chan (eqb k 6) refl (other is_chan (eqb k 7) refl (other is_chan (eqb k 8) refl (other is_chan (eqb k 9) refl (other is_chan (eqb k 10) refl (other is_chan (eqb k 11) refl (other is_chan (eqb k 12) refl (other is_chan (eqb k 13) refl (other is_chan (eqb k 14) refl refl))))))))))))

-- the form of a row, by its bytes
module _ {A : Type 0} (n : ℕ) (s : Bytes) (r : ℕ) (l : r < n) (g : Form → A) (v : A) where
  form_is : g Form.Unit ≡ v → ((a b c d e : ℕ) → g (form_with (byte_at s (r * row_size)) a b c d e) ≡ v) → g (form_in (row_at (store_program n s) r)) ≡ v
  unfolding row_of form_of cells_at form_in
  form_is u h = rw (row_at_program n s r l, row_cells s r) (go (eqb (byte_at s (r * row_size)) 1) _ _ (h _ _ _ _ _))
    where
      go : (t : Bool) (m : ℕ) (x : Bind) → g x.form ≡ v → g (form_in (pick t (Row.Result m) (Row.Bind x))) ≡ v
      go true m x e = u
      go false m x e = e

module _ (n : ℕ) (s : Bytes) (r : ℕ) (l : r < n) where
  pub send_none : of_kind s 4 r ≡ false → send_at (store_program n s) r ≡ none
  unfolding of_kind
  send_none h = send_at_lem (store_program n s) r refl ∙ form_is n s r l send_of none refl (λ a b c d e. no_send (byte_at s (r * row_size)) a b c d e h)

  pub recv_none : of_kind s 5 r ≡ false → recv_at (store_program n s) r ≡ none
  unfolding of_kind
  recv_none h = recv_at_lem (store_program n s) r refl ∙ form_is n s r l recv_of none refl (λ a b c d e. no_recv (byte_at s (r * row_size)) a b c d e h)

  pub sync_none : of_kind s 11 r ≡ false → sync_at (store_program n s) r ≡ none
  unfolding of_kind
  sync_none h = sync_at_lem (store_program n s) r refl ∙ form_is n s r l sync_of none refl (λ a b c d e. no_sync (byte_at s (r * row_size)) a b c d e h)

  pub fork_none : of_kind s 10 r ≡ false → fork_at (store_program n s) r ≡ none
  unfolding of_kind form_in ◌>>=◌
  fork_none h = go (row_at (store_program n s) r) refl (form_is n s r l spawn_of none refl (λ a b c d e. no_spawn (byte_at s (r * row_size)) a b c d e h))
    where
      go : (w : Row) → row_at (store_program n s) r ≡ w → spawn_of (form_in (row_at (store_program n s) r)) ≡ none → fork_at (store_program n s) r ≡ none
      go (Row.Result m) e i = fork_end (store_program n s) r e
      go (Row.Bind b) e i = fork_bind (store_program n s) r e ∙ rw (rw (e, form_in) at i, ◌>>=◌)

-- a row is a chan row exactly if its kind says so
module _ (n : ℕ) (s : Bytes) (r : ℕ) (l : r < n) where
  pub chan_none : of_kind s 3 r ≡ false → is_chan (form_in (row_at (store_program n s) r)) ≡ false
  unfolding of_kind
  chan_none h = form_is n s r l is_chan false refl (λ a b c d e. no_chan (byte_at s (r * row_size)) a b c d e h)

  pub is_chan_lem : So (of_kind s 3 r) → is_chan (form_in (row_at (store_program n s) r)) ≡ true
  unfolding of_kind row_of form_of cells_at form_in
  is_chan_lem h = let k : byte_at s (r * row_size) ≡ 3 = eqb-true _ 3 h in rw (row_at_program n s r l, row_cells s r, k)
