-- The call: a store that is refused stays, one with the set swapped is what replace leaves, with its counts.
use Rattle.std.specs.Prelude.{Ok, Err}
use Prim.Native.Nat.{ℕ}
use mathlib.Core.Bool.{Bool}
use mathlib.Core.Path.{◌≡◌, sym, ap, ◌∙◌}
use lib.ListN.{take}
use lib.Seq.{sets}
use Rattle.format.specs.declared.Refusal.{Refusal}
use Rattle.format.specs.Text.{Bytes}
use Rattle.calls.specs.declared.Counts.{Counts}
use Rattle.calls.specs.Answers.{LoadAnswer}
use Rattle.calls.specs.Layout.{store_size, flow_at}
use Rattle.calls.specs.Calls.{Outcome, Leaves}
use Rattle.replacement.specs.Replacement.{replace}
use Rattle.line_counts.specs.Counting.{store_counts}
use Rattle.line_counts.proofs.Counting.{own_counts}
use Rattle.replacing.specs.Replacing.{Replaceable}
use Rattle.replacing.proofs.Left.{left_is, left_document, left_rows, left_answer}

module _ (store : Bytes) (n : ℕ) (unit : Bool) (list : Bytes) where
  pub refused_left : {r : Refusal} → replace store n unit list ≡ record { answer = Err r; bytes = store } → Leaves (replace store n unit list) (Err r) store
  refused_left e = record { answer_is = ap (λ (o : Outcome LoadAnswer). o.answer) (sym e); bytes_are = ap (λ (o : Outcome LoadAnswer). o.bytes) (sym e) }

  pub replaced_left : {set left : Bytes} {rows : ℕ} {c : Counts} → (h : Replaceable store n unit list set rows) → left ≡ sets store (flow_at n) set
      → c ≡ store_counts rows (take store_size left) → Leaves (replace store n unit list) (Ok c) left
  replaced_left {left = left} {rows = rows} h q e = record {
    answer_is = ap Ok (e ∙ own_counts rows (take store_size left) _ (left_rows h q) (left_document h q)) ∙ sym (left_answer h q);
    bytes_are = left_is h q;
  }
