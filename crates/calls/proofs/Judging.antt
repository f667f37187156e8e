-- Judge is exact: what it answers of a well-formed document, case by case.
use Prim.Native.Nat.{ℕ, ◌+◌, ◌<◌}
use mathlib.Core.Bool.{false, not, So, false≢true}
use mathlib.Core.List.{List, [], ◌∷◌, ◌++◌}
use Rattle.std.specs.Prelude.{Option, None as none, Some as some}
use mathlib.Core.Path.{◌≡◌, refl, sym, ap, ◌∙◌, subst}
use mathlib.Core.Logic.{◌↔◌}
use native.Mathlib.Omega.{arith}
use lib.ListN.{length}
use borrow.Author.Tests.{not-false, not-true}
use Rattle.program.specs.declared.Word.{Word}
use Rattle.program.specs.declared.Row.{Row}
use Rattle.program.specs.Program.{bind_at}
use Rattle.program.specs.Flow.{keeps_at, keeps_all}
use Rattle.program.specs.FlowRule.{KeepsAll}
use Rattle.program.specs.Walk.{send_place, receive_place}
use Rattle.program.proofs.Test.{all_intro, least_is, Least, none_passes, smallest}
use Rattle.program.proofs.Maybe.{when_intro}
use Rattle.program.specs.Each.{Each, ◌&◌}
use Rattle.program.proofs.Each.{each_imp, each_right}
use Rattle.program.proofs.WellFormed.{WellFormed}
use Rattle.program.proofs.FlowRule.{rule_iff, when_iff, keeps_iff}
use Rattle.program.proofs.Decides.Verdicts.{claim_iff}
use Rattle.format.specs.declared.Reason.TheVariants.{FlowRuleFails, ClaimFails}
use Rattle.format.specs.Refusals.{refusal, Result, refused, accepted}
use Rattle.format.specs.Document.{Claim, Document}
use Rattle.format.specs.Read.{present}
use Rattle.format.specs.Structure.{row_line, claim_line}
use Rattle.format.specs.WellFormed.{well_formed}
use Rattle.format.proofs.First.{First, all_pass, fails, first_is}
use Rattle.format.proofs.Order.{orderly_iff}
use Rattle.format.proofs.Structure.{well_formed_lem, orderly_of, faultless_of}
use Rattle.calls.specs.Judging.{flow_table, comm_table, word_holds, WordHolds, reaches, failing_row, failing_claim, after10, judge_claims, judge_document}
use Rattle.calls.specs.Exact.{RowKeeps, RulesHold, FirstBroken, ClaimHolds, ClaimsHold, FirstFailing}

-- a well-formed document has a row, and its program is well-formed
pub rows_well : (d : Document) → So (well_formed d) → WellFormed d.rows × (0 < length d.rows)
unfolding well_formed
rows_well d w = (well_formed_lem d (faultless_of d w), some_row d.rows ((orderly_iff d).0 (orderly_of d w)).0)
  where
    some_row : (p : List Row) → So (present p) → 0 < length p
    some_row [] t = absurd (false≢true (unfold present in t))
    some_row (x ∷ xs) t = omega arith

module _ (d : Document) (w : So (well_formed d)) where
  -- a verdict is yes exactly if the word holds over all pairs of walks that can share a run
  pub word_iff : (c : ℕ) (word : Word) → So (word_holds d (reaches d) c word) ↔ WordHolds d c word
  unfolding word_holds reaches WordHolds
  word_iff c word = let (well, rows) = rows_well d w in claim_iff d.rows well (flow_table d) rows word (send_place d.rows (flow_table d) c) (receive_place d.rows (flow_table d) c)

pub row_iff : (d : Document) (r : ℕ) → So (keeps_at d.rows (flow_table d) (comm_table d) r) ↔ RowKeeps d r
unfolding keeps_at RowKeeps
row_iff d r = (
  λ t b e. (rule_iff d.rows (flow_table d) (comm_table d) r b.name b.form).0 ((when_iff (bind_at d.rows r) _).0 t b e),
  λ h. when_intro _ (bind_at d.rows r) (λ b e. (rule_iff d.rows (flow_table d) (comm_table d) r b.name b.form).1 (h b e)),
)

-- what judge answers of a document: all holds; or the smallest row whose flow rule fails; or the rules hold, and the first claim that fails
pub data Judged (d : Document) : Result ℕ → Type 0 where
  holds : RulesHold d → ClaimsHold d → Judged d (accepted (length d.claims))
  rule_fails : (r : ℕ) → FirstBroken d r → Judged d (refused (refusal FlowRuleFails (row_line r)))
  claim_fails : {line : ℕ} → RulesHold d → (passed : ℕ) → FirstFailing d passed → line ≡ claim_line d + passed → Judged d (refused (refusal ClaimFails line))

-- the smallest row whose flow rule fails, or that all hold
pub data Broken (d : Document) : Option ℕ → Type 0 where
  none_broken : RulesHold d → Broken d none
  broken_at : {r : ℕ} → FirstBroken d r → Broken d (some r)

pub broken_is : (d : Document) → Broken d (failing_row d)
unfolding failing_row
broken_is d = go (failing_row d) (least_is (length d.rows) (λ r. not (keeps_at d.rows (flow_table d) (comm_table d) r)))
  where
    go : (o : Option ℕ) → Least (length d.rows) (λ r. not (keeps_at d.rows (flow_table d) (comm_table d) r)) o → Broken d o
    go none (none_passes h) = none_broken ((keeps_iff d.rows (flow_table d) (comm_table d)).0 (unfold keeps_all in all_intro (length d.rows) _ (λ r l. not-false _ (h r l))))
    go (some r) (smallest l t h) =
        broken_at (record {
          there = l;
          broken = λ k. false≢true (sym (not-true _ t) ∙ (row_iff d r).1 k);
          before = λ j m. (row_iff d j).0 (not-false _ (h j m));
        })

pub judge_exact : (d : Document) → So (well_formed d) → Judged d (judge_document d)
unfolding judge_document after10
judge_exact d w = rules (failing_row d) (broken_is d)
  where
    failing : (before : List Claim) (k : Claim) (after : List Claim) → d.claims ≡ before ++ (k ∷ after)
        → Each (λ (c : Claim). So (word_holds d (reaches d) c.channel c.word)) before → word_holds d (reaches d) k.channel k.word ≡ false → FirstFailing d (length before)
    failing before k after e passed failed = record {
      before = before;
      claim = k;
      after = after;
      split = e;
      count = refl;
      hold = each_imp (λ c t. (word_iff d w c.channel c.word).0 t) passed;
      fails = λ t. false≢true (sym failed ∙ (word_iff d w k.channel k.word).1 t);
    }

    claims : RulesHold d → (o : Option ℕ) → First (λ k. word_holds d (reaches d) k.channel k.word) (claim_line d) d.claims o → Judged d (judge_claims d o)
    claims h none (all_pass k) = unfold judge_claims in holds h (each_imp (λ c t. (word_iff d w c.channel c.word).0 t) k)
    claims h (some line) (fails before k after e passed failed m) = unfold judge_claims in claim_fails h (length before) (failing before k after e passed failed) m

    rules : (o : Option ℕ) → Broken d o
        → Judged d (elim o as (λ o. Result ℕ) [ some r ↦ refused (refusal FlowRuleFails (row_line r)) | none ↦ judge_claims d (failing_claim d (reaches d)) ])
    rules none (none_broken h) =
        unfold failing_claim in
        claims h (failing_claim d (reaches d)) (first_is (λ k. word_holds d (reaches d) k.channel k.word) (claim_line d) d.claims)
    rules (some r) (broken_at b) = rule_fails r b

-- judge accepts exactly if every row's flow rule and every claim hold
pub accepts_iff : (d : Document) → So (well_formed d) → (n : ℕ) → (judge_document d ≡ accepted n) ↔ (RulesHold d × ClaimsHold d × (n ≡ length d.claims))
accepts_iff d w n = (λ e. there (judge_document d) (judge_exact d w) e, λ (h, k, e). back h k e (judge_document d) (judge_exact d w))
  where
    there : (r : Result ℕ) → Judged d r → r ≡ accepted n → RulesHold d × ClaimsHold d × (n ≡ length d.claims)
    there r (holds h k) e = (h, k, let q : n ≡ length d.claims = cc in q)
    there r (rule_fails i b) e = let z : ◌≡◌ {A = ℕ} 0 1 = cc in absurd (omega arith)
    there r (claim_fails h passed f q) e = let z : ◌≡◌ {A = ℕ} 0 1 = cc in absurd (omega arith)

    back : RulesHold d → ClaimsHold d → n ≡ length d.claims → (r : Result ℕ) → Judged d r → r ≡ accepted n
    back h k e r (holds h' k') = ap accepted (sym e)
    back h k e r (rule_fails i b) = absurd (b.broken (unfold RowKeeps KeepsAll in h i))
    back h k e r (claim_fails h' passed f q) =
        absurd (f.fails (head (each_right f.before (f.claim ∷ f.after) (subst (λ (cs : List Claim). Each (ClaimHolds d) cs) f.split k))))
      where
        head : {c : Claim} {cs : List Claim} → Each (ClaimHolds d) (c ∷ cs) → ClaimHolds d c
        head (p & ps) = p
