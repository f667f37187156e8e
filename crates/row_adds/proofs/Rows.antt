-- The rule of a row, as changes of a store meet it.
use Prim.Native.Nat.{ℕ, ◌+◌, ◌<◌, ◌≤◌}
use native.Mathlib.Numerals.{add-one}
use mathlib.Core.Bool.{Bool, false, ◌||◌}
use mathlib.Core.List.{[], ◌∷◌}
use mathlib.Core.Path.{◌≡◌, sym, ◌∙◌}
use Rattle.program.specs.declared.Row.{Row}
use Rattle.program.specs.declared.Bind.{Bind}
use Rattle.program.specs.declared.Form.{Form}
use Rattle.program.specs.declared.Form.TheVariants.{Fun, Sync, Case, Apply}
use Rattle.program.specs.Each.{Each, ◌&◌}
use Rattle.program.specs.Maybe.{when}
use Rattle.program.specs.Program.{Program, row_at, bind_of, bind_at, name_of}
use Rattle.program.specs.Flow.{row, for_each, send_rule, keeps_form, keeps_at}
use Rattle.format.specs.Limits.{row_limit}
use Rattle.format.specs.Text.{Bytes}
use Rattle.format.specs.Print.{form_numbers}
use Rattle.inference.specs.Inference.{abstract_of}
use Rattle.store.specs.Rows.{store_program}
use Rattle.forms.specs.Forms.{form_in}
use Rattle.set_adds.specs.Adding.{Adds}
use Rattle.set_adds.proofs.Adding.{adds_none, adds_as, adds_after}
use Rattle.received.specs.Received.{recvs_rule}
use Rattle.received.proofs.Receiving.{sync_parts}
use Rattle.send_adds.specs.Sends.{Ready, sent_rule, send_row_rule}
use Rattle.send_adds.proofs.Sending.{Low, first_low, second_low}
use Rattle.rule_adds.specs.declared.Ask.{Ask}
use Rattle.rule_adds.specs.Rules.{ask_rule}

-- ---- the form of a row

module _ {f : Form} (low : Each (λ n. n < row_limit) (form_numbers f)) where
  pub own_low : {g x t : ℕ} → f ≡ Fun g x t → g < row_limit
  unfolding form_numbers
  own_low q = first_low (rw q at low)

  pub branches_low : {a x t y w : ℕ} → f ≡ Case a x t y w → (x < row_limit) × (y < row_limit)
  unfolding form_numbers
  branches_low q = go (rw q at low)
    where
      go : {a x t y w : ℕ} → Low (a ∷ x ∷ t ∷ y ∷ w ∷ []) → (x < row_limit) × (y < row_limit)
      go (h & i & j & k & l) = (i, k)

  pub argument_low : {g a : ℕ} → f ≡ Apply g a → a < row_limit
  unfolding form_numbers
  argument_low q = second_low (rw q at low)

pub bind_low : {rows : ℕ} {s : Bytes} → Ready rows s → (r : ℕ) {x : Row} {b : Bind} → x ≡ row_at (store_program rows s) r → x ≡ Row.Bind b → (b.name < row_limit)
    × Each (λ n. n < row_limit) (form_numbers b.form)
unfolding name_of form_in
bind_low ready r e q = (rw (sym e ∙ q) at (ready.names r), rw (sym e ∙ q) at (ready.numbers r))

pub row_put : (n r : ℕ) {s s' : Bytes} {more : Bool} → Adds (λ flow comm. flow n (abstract_of (r + 1))) s s' more → Adds (λ flow comm. flow n (row r)) s s' more
unfolding abstract_of
row_put n r h = rw (add-one r) at h

pub result_keeps : (p : Program) (r : ℕ) {n : ℕ} {x : Row} (s : Bytes) → x ≡ row_at p r → x ≡ Row.Result n → Adds (λ flow comm. keeps_at p flow comm r) s s false
unfolding keeps_at bind_at bind_of when
result_keeps p r s e q = adds_none _ s λ flow comm. rw (sym e ∙ q)

pub bind_keeps : (p : Program) (r : ℕ) {x : Row} {b : Bind} {s s' : Bytes} {more : Bool} → x ≡ row_at p r → x ≡ Row.Bind b
    → Adds (λ flow comm. keeps_form p flow comm r b.name b.form) s s' more → Adds (λ flow comm. keeps_at p flow comm r) s s' more
unfolding keeps_at bind_at bind_of when
bind_keeps p r e q h = adds_as _ _ (λ flow comm. rw (sym e ∙ q)) h

-- ---- a sync: what it sends, and then what it receives

pub sync_both : (rows r n e : ℕ) {s₀ s₁ s₂ : Bytes} {a b : Bool} → rows ≤ row_limit
    → Adds (λ flow comm. for_each (store_program rows s₀) (flow e) (λ k. ask_rule (store_program rows s₀) n Ask.Send k flow comm)) s₀ s₁ a
    → Adds (recvs_rule (store_program rows s₁) n e) s₁ s₂ b
    → Adds (λ flow comm. keeps_form (store_program rows s₀) flow comm r n (Sync e)) s₀ s₂ (a || b)
unfolding send_rule ask_rule send_row_rule sent_rule
sync_both rows r n e {s₀} few h k = adds_as _ _ (λ flow comm. sym (sync_parts (store_program rows s₀) flow comm r n e)) (adds_after rows (λ p. recvs_rule p n e) few h k)
