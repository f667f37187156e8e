-- The call: a refusal of replace is passed on; a store with the set swapped is judged as what replace leaves, and with the set swapped back is as it was.
use Rattle.std.specs.Prelude.{Err}
use Prim.Native.Nat.{ℕ}
use mathlib.Core.Bool.{Bool}
use mathlib.Core.Path.{◌≡◌, refl, sym, ap, ◌∙◌}
use lib.ListN.{take, drop}
use lib.Seq.{sets}
use Rattle.format.specs.declared.Refusal.{Refusal}
use Rattle.format.specs.Text.{Bytes}
use Rattle.format.specs.Document.{Document}
use Rattle.calls.specs.Answers.{LoadAnswer, JudgeAnswer}
use Rattle.calls.specs.Layout.{member_limit, store_size, flow_at, decode}
use Rattle.calls.specs.Judging.{judge_document}
use Rattle.calls.specs.Calls.{Outcome, Leaves, unaltered, judge_answered, judge}
use Rattle.calls.proofs.Calls.{judge-opened}
use Rattle.replacement.specs.Replacement.{replace, judge_left, preview}
use Rattle.replacing.specs.Replacing.{Replaceable}
use Rattle.replacing.proofs.Left.{left_is, left_opens, left_document, left_answer, back}

module _ (store : Bytes) (n : ℕ) (unit : Bool) (list : Bytes) where
  pub refused_left : {r : Refusal} → replace store n unit list ≡ record { answer = Err r; bytes = store }
      → Leaves (unaltered (preview store n unit list) store) (Err r) store
  unfolding preview judge_left
  refused_left e = record { answer_is = ap (λ (o : Outcome LoadAnswer). judge_left o.answer o.bytes) (sym e); bytes_are = refl }

  pub judged_left : {set left old after : Bytes} {rows : ℕ} {a : JudgeAnswer} → (h : Replaceable store n unit list set rows) → left ≡ sets store (flow_at n) set
      → old ≡ take member_limit (drop (flow_at n) store) → a ≡ judge_answered (judge_document (decode (take store_size left))) → after ≡ sets left (flow_at n) old
      → Leaves (unaltered (preview store n unit list) store) a after
  unfolding preview judge_left
  judged_left {left = left} h q o e p = record {
    answer_is = e ∙ ap (λ (d : Document). judge_answered (judge_document d)) (left_document h q) ∙ sym (judge-opened left _ (left_opens h q)) ∙ ap judge (left_is h q)
        ∙ ap (λ (x : LoadAnswer). judge_left x (replace store n unit list).bytes) (sym (left_answer h q));
    bytes_are = p ∙ back h q o;
  }
