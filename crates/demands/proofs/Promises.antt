-- The demands, of the functions. What each is given here of load, judge, verdict and write is the `ensures` of that function of crate checker, word for word:
-- the answer and the lent bytes are those of its definition. So what is proved of the definitions (`Demands`) holds of the functions.
use Prim.Native.Nat.{ℕ, ◌≤◌, ◌<◌}
use mathlib.Core.Bool.{Bool, So}
use mathlib.Core.List.{List, [], ◌∷◌, ◌++◌}
use Rattle.std.specs.Prelude.{Some as some}
use mathlib.Core.Path.{◌≡◌, refl, sym, ap, ap₂, subst, ◌∙◌}
use mathlib.Core.Logic.{◌↔◌, ◌≢◌}
use lib.ListN.{length, take, drop, replicate}
use Rattle.program.specs.Each.{Member, nil, ◌&◌}
use Rattle.program.specs.Program.{Program, chan_at}
use Rattle.program.specs.Run.{Path, made, Step, run}
use Rattle.program.specs.declared.Word.TheVariants.{OneSync}
use Rattle.program.specs.History.{AtMostOne, AtSend, AtReceive, HistoryFits}
use Rattle.format.specs.Limits.{byte_limit}
use Rattle.format.specs.Text.{Bytes}
use Rattle.format.specs.Document.{Claim, Document}
use Rattle.format.specs.Print.{document_text}
use Rattle.format.specs.WellFormed.{well_formed}
use Rattle.calls.specs.Answers.{LoadAnswer}
use Rattle.calls.specs.Answers.{JudgeAnswer}
use Rattle.calls.specs.declared.VerdictAnswer.{VerdictAnswer}
use Rattle.calls.specs.Answers.{WriteAnswer}
use Rattle.calls.specs.Answers.{turned_back, answered, load_answer, judge_answer, verdict_answer, write_answer}
use Rattle.calls.specs.Layout.{store_size}
use Rattle.calls.specs.Calls.{Outcome, Leaves, unaltered, load, judge, verdict, write}
use Rattle.calls.specs.Exact.{StoreHolds, RulesHold, ClaimsHold, JudgeIs, VerdictIs}
use Rattle.inference.specs.Inference.{infer}
use Rattle.inference.specs.Inferred.{InferIs}
use Rattle.replacement.specs.Replacement.{replace, preview}
use Rattle.replacement.specs.Replaced.{ReplaceIs, PreviewIs}
use Rattle.machine.specs.declared.ThreadRecord.{ThreadRecord}
use Rattle.machine.specs.Machine.{Order, thread_limit}
use Rattle.run_memory.specs.RunMemory.{run_size}
use Rattle.run_calls.specs.RunCalls.{RunAnswer}
use Rattle.run_calls.specs.RunCalls.{run_answer, LeavesRun, begin}
use Rattle.run_calls.specs.Watching.{Lent, lent_of, leaves, move_in, played, orders, RowsAre, AllRows, WatchedRun}
use Rattle.demands.proofs.Demands as definitions

-- a load
module _ (file store : Bytes) {answer : LoadAnswer} {left : Bytes} (loads : Leaves (load file store) answer left) where
  same : load_answer (load file store).answer ≡ load_answer answer
  same = ap load_answer (sym loads.answer_is)

  -- Demand 1: "a load refused for its file leaves the store empty, and every other refused call alters no lent byte"
  pub load_refused : (n line : ℕ) → load_answer answer ≡ turned_back n line → store_size ≤ length store → left ≡ replicate store_size 0 ++ drop store_size store
  load_refused n line e l = loads.bytes_are ∙ definitions.load_refused file store n line (same ∙ e) l

  pub load_too_short : length store < store_size → (load_answer answer ≡ turned_back 20 0) × (left ≡ store)
  load_too_short l = let (a, b) = definitions.load_too_short file store l in (sym same ∙ a, loads.bytes_are ∙ b)

  -- Demand 2: Load takes exactly the files of the format (docs/FORMAT.md)
  pub load_takes : store_size ≤ length store → (ns : List ℕ)
      → (load_answer answer ≡ answered ns)
      ↔ ((d : Document) × (file ≡ document_text d) × So (well_formed d) × (length file ≤ byte_limit)
      × (ns ≡ (length d.rows ∷ length d.flows ∷ length d.comms ∷ length d.claims ∷ [])))
  load_takes l ns = rw (sym same) (definitions.load_takes file store l ns)

  -- "Writing a loaded store gives back the file's bytes"
  pub write-load : (out : Bytes) {written : WriteAnswer} {after : Bytes} → Leaves (write left out) written after
      → (ns : List ℕ) → load_answer answer ≡ answered ns → length file ≤ length out
      → (write_answer written ≡ answered (length file ∷ [])) × (after ≡ file ++ drop (length file) out)
  write-load out writes ns e l =
      let (w, b) = definitions.write-load file store out ns (same ∙ e) l in
      (ap write_answer writes.answer_is ∙ rw loads.bytes_are w, writes.bytes_are ∙ rw loads.bytes_are b)

  -- judge of what load left, and the store afterwards
  module _ {judged : JudgeAnswer} {after : Bytes} (judges : Leaves (unaltered (judge left) left) judged after) where
    same_judged : judge_answer (judge (load file store).bytes) ≡ judge_answer judged
    same_judged = ap (λ (s : Bytes). judge_answer (judge s)) (sym loads.bytes_are) ∙ ap judge_answer (sym judges.answer_is)

    -- "Judge accepts exactly if the tables keep the flow rules .. and every claim holds over all pairs of walks that can share a run"
    pub judge_loaded : (ns : List ℕ) → load_answer answer ≡ answered ns → (n : ℕ)
        → (judge_answer judged ≡ answered (n ∷ []))
        ↔ ((d : Document) × (file ≡ document_text d) × So (well_formed d) × RulesHold d × ClaimsHold d × (n ≡ length d.claims))
    judge_loaded ns e n = rw (sym same_judged) (definitions.judge_loaded file store ns (same ∙ e) n)

    -- Demand 3: where load took the file and judge accepted the store as load left it, then after every list of steps the history of every instance of a
    -- claimed channel fits the claimed word
    pub sound : (ns : List ℕ) (n : ℕ) → load_answer answer ≡ answered ns → judge_answer judged ≡ answered (n ∷ [])
        → (d : Document) × (file ≡ document_text d) × So (well_formed d)
        × ((k : Claim) → Member k d.claims → (name : ℕ) → chan_at d.rows k.channel ≡ some name
        → (steps : List Step) (maker : Path) → HistoryFits d.rows (run d.rows steps) (made maker name) k.word)
    sound ns n e f = definitions.sound file store ns n (same ∙ e) (same_judged ∙ f)

    -- "For an instance so claimed in an accepted file, a history holds at most one path at sends and at most one at receives"
    pub one_sync : (ns : List ℕ) (n : ℕ) → load_answer answer ≡ answered ns → judge_answer judged ≡ answered (n ∷ [])
        → (d : Document) × (file ≡ document_text d) × So (well_formed d)
        × ((k : Claim) → Member k d.claims → k.word ≡ OneSync → (name : ℕ) → chan_at d.rows k.channel ≡ some name
        → (steps : List Step) (maker : Path) → let pool = run d.rows steps in
        AtMostOne (AtSend d.rows pool (made maker name)) × AtMostOne (AtReceive d.rows pool (made maker name)))
    one_sync ns n e f = definitions.one_sync file store ns n (same ∙ e) (same_judged ∙ f)

-- a write: what it leaves where it is refused; and loading what it wrote gives back the store
module _ (store out : Bytes) {answer : WriteAnswer} {left : Bytes} (writes : Leaves (write store out) answer left) where
  written_same : write_answer (write store out).answer ≡ write_answer answer
  written_same = ap write_answer (sym writes.answer_is)

  pub write_refused : (n line : ℕ) → write_answer answer ≡ turned_back n line → left ≡ out
  write_refused n line e = writes.bytes_are ∙ definitions.write_refused store out n line (written_same ∙ e)

  pub load-write : (other : Bytes) (n : ℕ) {loaded : LoadAnswer} {after : Bytes} → Leaves (load (take n left) other) loaded after
      → write_answer answer ≡ answered (n ∷ []) → n ≤ byte_limit → store_size ≤ length other → after ≡ take store_size store ++ drop store_size other
  load-write other n loads e l m = loads.bytes_are ∙ rw writes.bytes_are (definitions.load-write store out other n (written_same ∙ e) l m)

-- judge and verdict of any store: every answer, case by case; and the store is as it was
module _ (store : Bytes) where
  module _ {answer : JudgeAnswer} {left : Bytes} (judges : Leaves (unaltered (judge store) store) answer left) where
    pub judge_unaltered : left ≡ store
    judge_unaltered = judges.bytes_are

    pub judge_accepts : (n : ℕ) → (judge_answer answer ≡ answered (n ∷ [])) ↔ ((d : Document) × StoreHolds store d × RulesHold d × ClaimsHold d × (n ≡ length d.claims))
    judge_accepts n = rw judges.answer_is (definitions.judge_accepts store n)

    pub judge_exact : JudgeIs store (judge_answer answer)
    judge_exact = rw judges.answer_is (definitions.judge_exact store)

    -- Demand 3 of any store that the function accepts
    pub accepted_sound : (n : ℕ) → judge_answer answer ≡ answered (n ∷ []) → (d : Document) × StoreHolds store d
        × ((k : Claim) → Member k d.claims → (name : ℕ) → chan_at d.rows k.channel ≡ some name
        → (steps : List Step) (maker : Path) → HistoryFits d.rows (run d.rows steps) (made maker name) k.word)
    accepted_sound n e = definitions.accepted_sound store n (ap judge_answer (sym judges.answer_is) ∙ e)

  module _ (c : ℕ) {answer : VerdictAnswer} {left : Bytes} (gives : Leaves (unaltered (verdict store c) store) answer left) where
    pub verdict_unaltered : left ≡ store
    verdict_unaltered = gives.bytes_are

    pub verdict_exact : VerdictIs store c (verdict_answer answer)
    verdict_exact = rw gives.answer_is (definitions.verdict_exact store c)

-- infer
module _ (store : Bytes) {answer : LoadAnswer} {left : Bytes} (infers : Leaves (infer store) answer left) where
  -- All answers of infer, with what the store then holds
  pub infer_exact : InferIs store (load_answer answer)
  infer_exact = rw infers.answer_is (definitions.infer_exact store)

  -- "Judge never answers 10 on the outcome"
  pub infer_judged : {judged : JudgeAnswer} {after : Bytes} → Leaves (unaltered (judge left) left) judged after → (line : ℕ) → judge_answer judged ≢ turned_back 10 line
  infer_judged judges line e =
      definitions.infer_judged store line (ap (λ (s : Bytes). judge_answer (judge s)) (sym infers.bytes_are) ∙ ap judge_answer (sym judges.answer_is) ∙ e)

  -- inferring once more changes nothing and answers the same
  pub infer_twice : {other : LoadAnswer} {after : Bytes} → Leaves (infer left) other after → (other ≡ answer) × (after ≡ left)
  infer_twice again =
      let twice : infer left ≡ infer store = ap infer infers.bytes_are ∙ definitions.infer_twice store in (
        again.answer_is ∙ ap (λ (o : Outcome LoadAnswer). o.answer) twice ∙ sym infers.answer_is,
        again.bytes_are ∙ ap (λ (o : Outcome LoadAnswer). o.bytes) twice ∙ sym infers.bytes_are,
      )

-- replace and preview
module _ (store : Bytes) (n : ℕ) (unit : Bool) (rows : Bytes) where
  module _ {answer : LoadAnswer} {left : Bytes} (replaces : Leaves (replace store n unit rows) answer left) where
    -- All answers of replace, with what the store then holds
    pub replace_exact : ReplaceIs store n unit rows (load_answer answer)
    replace_exact = rw replaces.answer_is (definitions.replace_exact store n unit rows)

    -- "the store is unaltered"
    pub replace_refused : (number line : ℕ) → load_answer answer ≡ turned_back number line → left ≡ store
    replace_refused number line e = replaces.bytes_are ∙ definitions.replace_refused store n unit rows number line (ap load_answer (sym replaces.answer_is) ∙ e)

  module _ {answer : JudgeAnswer} {after : Bytes} (previews : Leaves (unaltered (preview store n unit rows) store) answer after) where
    -- "leaves the store unaltered"
    pub preview_unaltered : after ≡ store
    preview_unaltered = previews.bytes_are

    pub preview_exact : PreviewIs store n unit rows (judge_answer answer)
    preview_exact = rw previews.answer_is (definitions.preview_exact store n unit rows)

    -- "answers what judge would answer on a copy so replaced", where a copy was replaced and judged
    pub preview_judges : {counts : LoadAnswer} {left : Bytes} → Leaves (replace store n unit rows) counts left → (ns : List ℕ) → load_answer counts ≡ answered ns
        → {judged : JudgeAnswer} {same : Bytes} → Leaves (unaltered (judge left) left) judged same → answer ≡ judged
    preview_judges replaces ns e judges =
        previews.answer_is ∙ definitions.preview_judges store n unit rows ns (ap load_answer (sym replaces.answer_is) ∙ e) ∙ ap judge (sym replaces.bytes_are) ∙ sym judges.answer_is

    -- or its refusal
    pub preview_refuses : {counts : LoadAnswer} {left : Bytes} → Leaves (replace store n unit rows) counts left → (number line : ℕ) → load_answer counts ≡ turned_back number line
        → judge_answer answer ≡ turned_back number line
    preview_refuses replaces number line e =
        ap judge_answer previews.answer_is ∙ definitions.preview_refuses store n unit rows number line (ap load_answer (sym replaces.answer_is) ∙ e)

-- ---- the run calls: each leaves what its definition gives

-- moves by the functions, one after the other, each with a store of the same rows
pub data Moved (p : Program) : Lent → List Order → Lent → Type 0 where
  no_move : {l : Lent} → Moved p l [] l
  next_move : {l l' l'' : Lent} {o : Order} {os : List Order} (store : Bytes) {answer : RunAnswer} → RowsAre p store → LeavesRun (move_in store l o) answer l'.run l'.threads → Moved p l' os l'' → Moved p l (o ∷ os) l''

-- the same as calls of the definitions
record AsCalls (p : Program) (l : Lent) (os : List Order) (l' : Lent) : Type 0 where
  calls : List (Bytes × Order)
  rows : AllRows p calls
  moves : orders calls ≡ os
  left : played l calls ≡ l'

as_calls : {p : Program} {l : Lent} {os : List Order} {l' : Lent} → Moved p l os l' → AsCalls p l os l'
unfolding played orders
as_calls no_move = record { calls = []; rows = nil; moves = refl; left = refl }
as_calls (next_move {l = l} {o = o} store rows left_by more) =
    let k = as_calls more in
    let e = ap₂ lent_of (sym left_by.run_is) (sym left_by.threads_are) in
    record { calls = (store, o) ∷ k.calls; rows = rows & k.rows; moves = ap (λ (os : List Order). o ∷ os) k.moves; left = ap (λ (l : Lent). played l k.calls) e ∙ k.left }

module _ (store run : Bytes) (ts : List ThreadRecord) {answer : RunAnswer} {run' : Bytes} {ts' : List ThreadRecord} where
  pub begin_refused : LeavesRun (begin store run ts) answer run' ts' → (n line : ℕ) → run_answer answer ≡ turned_back n line → (run' ≡ run) × (ts' ≡ ts)
  begin_refused leaves n line e = let (r, t) = definitions.begin_refused store run ts n line (ap run_answer (sym leaves.answer_is) ∙ e) in (leaves.run_is ∙ r, leaves.threads_are ∙ t)

  pub move_refused : (o : Order) → LeavesRun (move_in store (lent_of run ts) o) answer run' ts' → (n line : ℕ) → run_answer answer ≡ turned_back n line → (run' ≡ run) × (ts' ≡ ts)
  move_refused o leaves n line e = let (r, t) = definitions.move_refused store run ts n line o (ap run_answer (sym leaves.answer_is) ∙ e) in (leaves.run_is ∙ r, leaves.threads_are ∙ t)

  -- A run that was begun, and then moved, stands for the pool that the steps of its accepted moves leave, and the next move answers as the run rules say
  pub watched_run : (p : Program) → LeavesRun (begin store run ts) answer run' ts' → RowsAre p store → run_size ≤ length run → thread_limit ≤ length ts
      → (run_answer answer ≡ answered (1 ∷ [])) × ((os : List Order) (l : Lent) → Moved p (lent_of run' ts') os l → WatchedRun p l os)
  watched_run p begins rows long records =
      let (a, w) = definitions.watched_run p store run ts rows long records in
      (ap run_answer begins.answer_is ∙ a, λ os l moved. go os l (as_calls moved) w)
    where
      go : (os : List Order) (l : Lent) → AsCalls p (lent_of run' ts') os l → ((calls : List (Bytes × Order)) → AllRows p calls → WatchedRun p (played (leaves (begin store run ts)) calls) (orders calls)) → WatchedRun p l os
      go os l k w =
          let e : lent_of run' ts' ≡ leaves (begin store run ts) = ap₂ lent_of begins.run_is begins.threads_are in
          let q : played (leaves (begin store run ts)) k.calls ≡ l = ap (λ (l : Lent). played l k.calls) (sym e) ∙ k.left in
          subst (λ (l : Lent). WatchedRun p l os) q (subst (λ (os : List Order). WatchedRun p (played (leaves (begin store run ts)) k.calls) os) k.moves (w k.calls k.rows))
