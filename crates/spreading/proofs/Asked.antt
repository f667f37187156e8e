-- What the rule of a row asks of a member of its set is part of what the flow rules ask.
use Prim.Native.Nat.{ℕ, ◌<◌}
use mathlib.Core.Bool.{Bool, So}
use mathlib.Core.Path.{◌≡◌, sym, ◌∙◌}
use Rattle.program.specs.declared.Row.{Row}
use Rattle.program.specs.declared.Bind.{Bind}
use Rattle.program.specs.declared.Form.TheVariants.{Sync}
use Rattle.program.specs.Maybe.{when}
use Rattle.program.specs.Program.{Program, row_at, bind_of, bind_at}
use Rattle.program.specs.Flow.{Table, for_each, send_rule, keeps_form, keeps_at, keeps_all}
use Rattle.program.proofs.Test.{and_left, and_right, all_elim}
use Rattle.format.specs.Text.{Bytes}
use Rattle.store.specs.Rows.{store_program}
use Rattle.store.proofs.Laws.{program_length}
use Rattle.set_adds.specs.Adding.{Adds}
use Rattle.received.specs.Received.{recvs_rule}
use Rattle.received.proofs.Receiving.{sync_parts}
use Rattle.send_adds.specs.Sends.{sent_rule, send_row_rule}
use Rattle.rule_adds.specs.declared.Ask.{Ask}
use Rattle.rule_adds.specs.Rules.{ask_rule, member_rule}
use Rattle.spreading.specs.Growing.{Grows}
use Rattle.spreading.proofs.Growing.{row_keeps, grows_by}

form_keeps : (n r : ℕ) (s : Bytes) {x : Row} {b : Bind} → r < n → x ≡ row_at (store_program n s) r → x ≡ Row.Bind b
    → (flow comm : Table) → So (keeps_all (store_program n s) flow comm) → So (keeps_form (store_program n s) flow comm r b.name b.form)
unfolding keeps_at bind_at bind_of when
form_keeps n r s l e q flow comm t = rw (sym e ∙ q) at (row_keeps n r s flow comm l t)

-- of a sync: what it sends, and what it receives
module _ (p : Program) (flow comm : Table) (r n e : ℕ) (h : So (keeps_form p flow comm r n (Sync e))) where
  pub sync_sends : So (for_each p (flow e) (λ j. ask_rule p n Ask.Send j flow comm))
  unfolding send_rule ask_rule send_row_rule sent_rule
  sync_sends = and_left (for_each p (flow e) (send_rule p flow comm r n)) _ (rw (sync_parts p flow comm r n e) at h)

  pub sync_receives : So (recvs_rule p n e flow comm)
  sync_receives = and_right (for_each p (flow e) (send_rule p flow comm r n)) _ (rw (sync_parts p flow comm r n e) at h)

module _ (n r k : ℕ) {s s' : Bytes} {more : Bool} {x : Row} {b : Bind} (l : r < n) (m : k < n) (e : x ≡ row_at (store_program n s) r) (q : x ≡ Row.Bind b) where
  pub grows_member : (ask : Ask) (a : ℕ)
      → ((flow comm : Table) → So (keeps_form (store_program n s) flow comm r b.name b.form) → So (for_each (store_program n s) (flow a) (λ j. ask_rule (store_program n s)
      b.name ask j flow comm)))
      → Adds (member_rule (store_program n s) b.name ask a k) s s' more → Grows n s s' more
  unfolding for_each member_rule
  grows_member ask a told h = grows_by n _ (λ flow comm t. all_elim n _ (rw (program_length n s) at (told flow comm (form_keeps n r s l e q flow comm t))) k m) h

pub grows_receives : (n r : ℕ) {e : ℕ} {s s' : Bytes} {more : Bool} {x : Row} {b : Bind} → r < n → x ≡ row_at (store_program n s) r → x ≡ Row.Bind b → b.form ≡ Sync e
    → Adds (recvs_rule (store_program n s) b.name e) s s' more → Grows n s s' more
grows_receives n r {s = s} l e q f h = grows_by n _ (λ flow comm t. sync_receives (store_program n s) flow comm r _ _ (rw f at (form_keeps n r s l e q flow comm t))) h
