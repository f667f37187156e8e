-- The rule of a sync for what it sends, as changes of a store meet it.
use Prim.Native.Nat.{ℕ, ◌<◌, ◌≤◌}
use mathlib.Core.Bool.{Bool, true, false, false≢true, ◌||◌}
use mathlib.Core.List.{List, ◌∷◌}
use mathlib.Core.Path.{◌≡◌, refl, sym, ◌∙◌}
use Rattle.std.specs.Prelude.{Option, None as none, Some as some}
use Rattle.program.specs.declared.Form.{Form}
use Rattle.program.specs.declared.Form.TheVariants.{Send}
use Rattle.program.specs.Each.{Each, ◌&◌}
use Rattle.program.specs.Maybe.{when, has}
use Rattle.program.specs.Test.{all}
use Rattle.program.specs.Program.{Program, row_at, chan_row, chan_at}
use Rattle.program.specs.Flow.{u, lies, for_each, for_each_chan}
use Rattle.format.specs.Limits.{row_limit}
use Rattle.format.specs.Text.{Bytes, byte_at}
use Rattle.format.specs.Print.{form_numbers}
use Rattle.calls.specs.Layout.{rows_size}
use Rattle.store.specs.Rows.{store_program}
use Rattle.store.proofs.Laws.{program_length}
use Rattle.forms.specs.Forms.{form_in}
use Rattle.forms.proofs.Forms.{send_at_lem}
use Rattle.set_adds.specs.Adding.{Rule, Adds}
use Rattle.set_adds.proofs.Adding.{adds_none, adds_as, adds_after, rows_same}
use Rattle.send_adds.specs.Sends.{Ready, sent_rule, chan_rule, send_row_rule}
use lib.ListN.{length}

-- ---- a store that is ready stays so

pub ready_same : (rows : ℕ) (s s' : Bytes) → Ready rows s → length s' ≡ length s → ((q : ℕ) → q < rows_size → byte_at s' q ≡ byte_at s q) → Ready rows s'
ready_same rows s s' ready size h =
    let e = rows_same rows s s' ready.few h in
    record { size = rw size ready.size; few = ready.few; names = rw e ready.names; numbers = rw e ready.numbers }

pub ready_stays : (rows : ℕ) {rule : Rule} {s s' : Bytes} {more : Bool} → Ready rows s → Adds rule s s' more → Ready rows s'
ready_stays rows {s = s} {s'} ready h = ready_same rows s s' ready h.size h.rows

-- ---- a chan row

module _ (p : Program) (k : ℕ) where
  pub chan_none : chan_row p k ≡ false → (rule : Rule) (s : Bytes) → Adds (λ flow comm. when (chan_at p k) (λ m. rule flow comm)) s s false
  unfolding chan_row has when
  chan_none q rule s = go (chan_at p k) q
    where
      go : (o : Option ℕ) → has o (λ n. true) ≡ false → Adds (λ flow comm. when o (λ m. rule flow comm)) s s false
      go none q = adds_none _ s (λ flow comm. refl)
      go (some n) q = absurd (false≢true (sym q))

  pub chan_some : chan_row p k ≡ true → (rule : Rule) {s s' : Bytes} {more : Bool} → Adds rule s s' more → Adds (λ flow comm. when (chan_at p k) (λ m. rule flow comm)) s s' more
  unfolding chan_row has when
  chan_some q rule {s} {s'} {more} h = go (chan_at p k) q
    where
      go : (o : Option ℕ) → has o (λ n. true) ≡ true → Adds (λ flow comm. when o (λ m. rule flow comm)) s s' more
      go none q = absurd (false≢true q)
      go (some n) q = h

-- ---- all rows

module _ (rows k : ℕ) (e : k ≡ rows) {s s' : Bytes} {more : Bool} where
  pub chans_all : (n m c : ℕ) → Adds (λ flow comm. all k (λ i. chan_rule (store_program rows s) n m c i flow comm)) s s' more
      → Adds (λ flow comm. for_each_chan (store_program rows s) (flow c) (λ j. sent_rule (store_program rows s) n m j flow comm)) s s' more
  unfolding chan_rule for_each_chan for_each
  chans_all n m c h = rw (program_length rows s) (rw e at h)

-- ---- numbers below the limit

abbrev pub Low : List ℕ → Type 0
Low ns = Each (λ n. n < row_limit) ns

pub first_low : {a : ℕ} {ns : List ℕ} → Low (a ∷ ns) → a < row_limit
first_low (h & k) = h

pub second_low : {a b : ℕ} {ns : List ℕ} → Low (a ∷ b ∷ ns) → b < row_limit
second_low (h & k & l) = k

module _ {rows : ℕ} {s : Bytes} (ready : Ready rows s) (k : ℕ) {f : Form} (e : f ≡ form_in (row_at (store_program rows s) k)) where
  pub numbers_low : (g : Form) → f ≡ g → Low (form_numbers g)
  numbers_low g q = rw (sym e ∙ q) at (ready.numbers k)

  pub send_low : {c m : ℕ} → f ≡ Send c m → m < row_limit
  unfolding form_numbers
  send_low q = second_low (numbers_low _ q)

-- ---- what a sync asks of a send row

pub unit_sent : (rows n m k : ℕ) {s₀ s₁ s₂ : Bytes} {a b : Bool} → rows ≤ row_limit → Adds (λ flow comm. flow n u) s₀ s₁ a
    → Adds (λ flow comm. lies (store_program rows s₁) (flow m) (comm k)) s₁ s₂ b → Adds (sent_rule (store_program rows s₀) n m k) s₀ s₂ (a || b)
unfolding sent_rule
unit_sent rows n m k few h g = adds_after rows (λ p flow comm. lies p (flow m) (comm k)) few h g

module _ (p : Program) (n k : ℕ) {f : Form} (e : f ≡ form_in (row_at p k)) {s s' : Bytes} {more : Bool} where
  pub send_sent : {c m : ℕ} → f ≡ Send c m → Adds (λ flow comm. for_each_chan p (flow c) (λ j. sent_rule p n m j flow comm)) s s' more → Adds (send_row_rule p n k) s s' more
  unfolding send_row_rule when
  send_sent q h = adds_as _ _ (λ flow comm. rw (send_at_lem p k e, q)) h
