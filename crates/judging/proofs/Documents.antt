-- Judge and verdict of the document in a store, by the store's bytes.
use Rattle.std.specs.Prelude.{Ok, Err}
use Prim.Native.Nat.{ℕ, ◌+◌, ◌-◌, ◌<◌, ◌≤◌}
use native.Mathlib.Omega.{arith}
use mathlib.Core.Bool.{Bool, true, false, not}
use mathlib.Core.List.{List, map}
use Rattle.std.specs.Prelude.{Option, None as none, Some as some}
use mathlib.Core.Path.{◌≡◌, refl, sym, ap, ◌∙◌, fun_ext}
use lib.ListN.{length, take, drop, length-take, length-drop}
use lib.Seq.{take_all}
use Rattle.program.specs.declared.Word.{Word}
use Rattle.program.specs.Test.{least}
use Rattle.program.specs.Program.{Program, chan_row}
use Rattle.program.specs.Flow.{keeps_at}
use Rattle.format.specs.declared.Refusal.{Refusal}
use Rattle.format.specs.declared.Reason.TheVariants.{FlowRuleFails, NotAChannel}
use Rattle.format.specs.Refusals.{refusal, Result, refused}
use Rattle.format.specs.Limits.{row_limit}
use Rattle.format.specs.Text.{Bytes}
use Rattle.format.specs.Document.{Claim, Document}
use Rattle.format.specs.Structure.{row_line, claim_line, first_failing}
use Rattle.calls.specs.Answers.{JudgeAnswer}
use Rattle.calls.specs.Layout.{rows_size, sets_size, store_size, decode, decode_sets, decode_claims, comms_start, claims_start}
use Rattle.calls.specs.Canonical.{count_rows}
use Rattle.calls.specs.Judging.{word_holds, reaches, failing_row, failing_claim, after10, judge_claims, judge_document, verdict_document, verdict_words}
use Rattle.calls.specs.Calls.{judge_answered, no_verdict, verdict_given, verdict_of}
use Rattle.calls.proofs.Canonical.Rows.{count_rows-le}
use Rattle.bounds.proofs.Bounds.{sets_few, claims_few}
use Rattle.store.specs.Rows.{store_program}
use Rattle.store.proofs.Laws.{program_length}
use Rattle.store.specs.Document.{store_document}
use Rattle.store.proofs.Document.{claims_are, claim_line_lem, rows_decode, flow_is, comm_is, document_is}
use Rattle.tables.specs.Tables.{store_flow, store_comm}
use Rattle.verdicts.specs.Words.{word_in}
use Rattle.claims.specs.Claims.{Held, claim_in, claims_held, judged_at}
use Rattle.claims.proofs.Claiming.{answer_of, judged_is}

-- the count of the claims
pub claims_counted : (s : Bytes) {many : ℕ} → length s ≡ store_size → many ≡ length (decode_claims 0 (take (length s - claims_start) (drop claims_start s)))
    → (many ≡ length (decode_claims 0 (take row_limit (drop claims_start s)))) × (many ≤ row_limit)
claims_counted s {many} size e =
    let q : length s - claims_start ≡ row_limit = omega (arith, size) in
    let same : many ≡ length (decode_claims 0 (take row_limit (drop claims_start s))) = rw q at e in
    (same, omega (arith, same, claims_few 0 (take row_limit (drop claims_start s)), length-take row_limit (drop claims_start s)))

-- ---- the store's document

module _ (n : ℕ) (s : Bytes) (rows : n ≡ count_rows row_limit s) where
  pub few_rows : n ≤ row_limit
  few_rows = omega (arith, rows, count_rows-le row_limit s)

  rows_are : (decode s).rows ≡ store_program n s
  rows_are = rows_decode s n rows

  word_is : (c : ℕ) (word : Word) → word_holds (decode s) (reaches (decode s)) c word ≡ word_in (store_program n s) (store_flow s) c word
  unfolding word_holds reaches word_in
  word_is c word = rw (flow_is s, rows_are)

  claim_is : (k : Claim) → claim_in (store_program n s) (store_flow s) k ≡ word_holds (decode s) (reaches (decode s)) k.channel k.word
  unfolding claim_in
  claim_is k = sym (word_is k.channel k.word)

  -- ---- 10

  abbrev keeps : ℕ → Bool
  keeps r = keeps_at (store_program n s) (store_flow s) (store_comm s) r

  failing_is : failing_row (decode s) ≡ least n (λ r. not (keeps r))
  unfolding failing_row
  failing_is = rw (flow_is s, comm_is s, rows_are, program_length n s)

  module _ {o : Option ℕ} (e : o ≡ least n (λ r. not (keeps r))) where
    pub flow_refused : {m : ℕ} → o ≡ some m → {A : Type 0} (rest : Result A) → after10 (decode s) rest ≡ refused (refusal FlowRuleFails (row_line m))
    unfolding after10
    flow_refused q rest = rw (after10, failing_is, ← e, q)

    pub flow_passed : o ≡ none → {A : Type 0} (rest : Result A) → after10 (decode s) rest ≡ rest
    unfolding after10
    flow_passed q rest = rw (after10, failing_is, ← e, q)

  -- ---- the words, and the claims

  module _ (size : length s ≡ store_size) where
    -- the last part of a store, as the code cuts it out
    part_is : (base k : ℕ) → base + k ≡ store_size → take (length s - base) (drop base s) ≡ drop base s
    part_is base k q = take_all (length s - base) (drop base s) (simp length-drop (omega arith))

    same_document : decode s ≡ store_document n s
    same_document = sym (document_is n s (omega (arith, size)) rows)

    claims_same_bytes : (decode s).claims ≡ decode_claims 0 (take row_limit (drop claims_start s))
    claims_same_bytes = ap (λ (d : Document). d.claims) same_document ∙ claims_are n s

    pub flows_few : {flows : ℕ} → flows ≡ length (decode_sets row_limit 0 (take (length s - rows_size) (drop rows_size s))) → flows ≤ row_limit
    flows_few f = omega (arith, f, sets_few row_limit 0 (take (length s - rows_size) (drop rows_size s)))

    pub comms_few : {comms : ℕ} → comms ≡ length (decode_sets row_limit 0 (take (length s - comms_start) (drop comms_start s))) → comms ≤ row_limit
    comms_few c = omega (arith, c, sets_few row_limit 0 (take (length s - comms_start) (drop comms_start s)))

    pub line_is : {flows comms : ℕ} → flows ≡ length (decode_sets row_limit 0 (take (length s - rows_size) (drop rows_size s)))
        → comms ≡ length (decode_sets row_limit 0 (take (length s - comms_start) (drop comms_start s)))
        → n + 2 + flows + comms ≡ claim_line (decode s)
    line_is {flows} {comms} f c =
        let f' : flows ≡ length (decode_sets row_limit 0 (drop rows_size s)) = rw (part_is rows_size (sets_size + sets_size + row_limit) refl) at f in
        let c' : comms ≡ length (decode_sets row_limit 0 (drop comms_start s)) = rw (part_is comms_start (sets_size + row_limit) refl) at c in
        rw (same_document, claim_line_lem n s, f', c')

    answer_is : (o : Option ℕ) → answer_of (length (decode s).claims) o ≡ judge_answered (judge_claims (decode s) o)
    unfolding answer_of judge_answered judge_claims
    answer_is none = refl
    answer_is (some line) = refl

    claims_same : judged_at (claim_line (decode s)) (claims_held (claim_in (store_program n s) (store_flow s)) 0 (decode_claims 0 (take row_limit (drop claims_start s))))
        ≡ judge_answered (judge_claims (decode s) (failing_claim (decode s) (reaches (decode s))))
    unfolding failing_claim
    claims_same =
        let same : claim_in (store_program n s) (store_flow s) ≡ (λ k. word_holds (decode s) (reaches (decode s)) k.channel k.word) = fun_ext claim_is in
        judged_is _ _ _ ∙ rw (← claims_same_bytes, same) (answer_is (first_failing (λ k. word_holds (decode s) (reaches (decode s)) k.channel k.word) (claim_line (decode s)) (decode s).claims))

    module _ {o : Option ℕ} (e : o ≡ least n (λ r. not (keeps r))) where
      pub judge_refused : {m : ℕ} → o ≡ some m → Err (refusal FlowRuleFails (row_line m)) ≡ judge_answered (judge_document (decode s))
      unfolding judge_document judge_answered
      judge_refused l = rw (flow_refused e l)

      pub judge_goes : o ≡ none → {a : JudgeAnswer} {held : Held} → held ≡ claims_held (claim_in (store_program n s) (store_flow s)) 0 (decode_claims 0 (take row_limit (drop claims_start s)))
          → a ≡ judged_at (claim_line (decode s)) held → a ≡ judge_answered (judge_document (decode s))
      unfolding judge_document
      judge_goes l q h = h ∙ rw (q, flow_passed e l) claims_same

  -- ---- verdict

  chan_is : (c : ℕ) {b : Bool} → chan_row (store_program n s) c ≡ b → chan_row (decode s).rows c ≡ b
  chan_is c q = ap (λ (p : Program). chan_row p c) rows_are ∙ q

  pub no_channel : (c : ℕ) → chan_row (store_program n s) c ≡ false
      → no_verdict (refusal NotAChannel 0) ≡ verdict_given (verdict_of c (decode s))
  unfolding verdict_of verdict_given
  no_channel c q = rw (chan_is c q, verdict_given) refl

  module _ (c : ℕ) (q : chan_row (store_program n s) c ≡ true) {o : Option ℕ} (e : o ≡ least n (λ r. not (keeps r))) where
    pub verdict_refused : {m : ℕ} → o ≡ some m → no_verdict (refusal FlowRuleFails (row_line m)) ≡ verdict_given (verdict_of c (decode s))
    unfolding verdict_of verdict_given verdict_document
    verdict_refused l = rw (chan_is c q, flow_refused e l, verdict_given) refl

    pub verdict_goes : o ≡ none → {words : List Bool} → words ≡ map (word_in (store_program n s) (store_flow s) c) verdict_words
        → record { status = Ok tt; words = words } ≡ verdict_given (verdict_of c (decode s))
    unfolding verdict_of verdict_given verdict_document
    verdict_goes l {words} w =
        let f : map (word_holds (decode s) (reaches (decode s)) c) verdict_words ≡ words = ap (λ (f : Word → Bool). map f verdict_words) (fun_ext (word_is c)) ∙ sym w in
        rw (chan_is c q, flow_passed e l, verdict_given, f) refl

-- a refusal is no acceptance
pub not_accepted : {r : Refusal} {k : ℕ} {P : Type 0} → Err r ≡ Ok k → P
not_accepted e = let z : ◌≡◌ {A = ℕ} 0 1 = cc in absurd (omega arith)
