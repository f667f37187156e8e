-- The demands, and what is promised of infer, runs, one-sync, replace and preview, as theorems about the definitions of the calls, in the numbers and values of answers (`Answers` of crate calls).
-- Their proofs stand in `Calls`, `Exact` and `Numbers` of crate calls, in `Sound/Histories` of crate program and in crates least, inference, replacement, machine and run_calls; here is what they say.
use Prim.Native.Nat.{ℕ, ◌≤◌, ◌<◌}
use mathlib.Core.Bool.{Bool, false, So}
use mathlib.Core.List.{List, [], ◌∷◌, ◌++◌}
use Rattle.std.specs.Prelude.{Some as some}
use mathlib.Core.Path.{◌≡◌, subst}
use mathlib.Core.Logic.{◌↔◌, ◌≢◌}
use lib.ListN.{length, take, drop, replicate}
use Rattle.program.specs.Each.{Member}
use Rattle.program.specs.declared.Word.{Word}
use Rattle.program.specs.declared.Word.TheVariants.{OneSync}
use Rattle.program.specs.Program.{Program, chan_at}
use Rattle.program.specs.Flow.{Table}
use Rattle.program.specs.FlowRule.{KeepsAll}
use Rattle.program.specs.Run.{Path, made, Step, run}
use Rattle.program.specs.History.{AtMostOne, AtSend, AtReceive, HistoryFits}
use Rattle.format.specs.Limits.{byte_limit}
use Rattle.format.specs.Text.{Bytes}
use Rattle.format.specs.Refusals.{accepted}
use Rattle.format.specs.Document.{Claim, Document}
use Rattle.format.specs.Print.{document_text}
use Rattle.format.specs.WellFormed.{well_formed}
use Rattle.format.specs.Check.{check_any}
use Rattle.calls.specs.Answers.{turned_back, answered, load_answer, judge_answer, verdict_answer, write_answer}
use Rattle.calls.specs.Layout.{store_size, encode}
use Rattle.calls.specs.Judging.{word_holds, WordHolds, reaches}
use Rattle.calls.specs.Calls.{load, judge, verdict, write, unsound}
use Rattle.calls.specs.Exact.{StoreHolds, RulesHold, ClaimsHold, JudgeIs, VerdictIs}
use Rattle.program.proofs.Sound.Histories as histories
use Rattle.least.specs.Least.{Within, smallest_flow, smallest_comm}
use Rattle.least.proofs.Least as least
use Rattle.inference.specs.Inference.{infer}
use Rattle.inference.specs.Inferred.{InferIs}
use Rattle.inference.proofs.Inference as inference
use Rattle.replacement.specs.Replacement.{replace, preview}
use Rattle.replacement.specs.Replaced.{ReplaceIs, PreviewIs}
use Rattle.replacement.proofs.Replacement as replacement
use Rattle.machine.specs.declared.ThreadRecord.{ThreadRecord}
use Rattle.machine.specs.Machine.{Order, thread_limit}
use Rattle.machine.specs.Standing.{Shown}
use Rattle.run_memory.specs.RunMemory.{run_size}
use Rattle.run_calls.specs.RunCalls.{run_answer, begin}
use Rattle.run_calls.specs.Watching.{lent_of, leaves, move_in, played, orders, RowsAre, AllRows, WatchedRun}
use Rattle.run_calls.proofs.Watching as watching
use Rattle.calls.proofs.Judging as judging
use Rattle.calls.proofs.Calls as the
use Rattle.calls.proofs.Exact as exact
use Rattle.calls.proofs.Numbers as numbers

-- Demand 1: "a load refused for its file leaves the store empty, and every other refused call alters no lent byte"
pub load_refused : (file store : Bytes) (n line : ℕ) → load_answer (load file store).answer ≡ turned_back n line → store_size ≤ length store
    → (load file store).bytes ≡ replicate store_size 0 ++ drop store_size store
load_refused = numbers.load_refused

pub load_too_short : (file store : Bytes) → length store < store_size → (load_answer (load file store).answer ≡ turned_back 20 0) × ((load file store).bytes ≡ store)
load_too_short = numbers.load_too_short

pub write_refused : (store out : Bytes) (n line : ℕ) → write_answer (write store out).answer ≡ turned_back n line → (write store out).bytes ≡ out
write_refused = numbers.write_refused

-- Demand 2: Load takes exactly the files of the format (docs/FORMAT.md), answers "the counts of row, flow, comm and claim lines", and the store then holds the file's document
pub load_takes : (file store : Bytes) → store_size ≤ length store → (ns : List ℕ)
    → (load_answer (load file store).answer ≡ answered ns)
    ↔ ((d : Document) × (file ≡ document_text d) × So (well_formed d) × (length file ≤ byte_limit)
    × (ns ≡ (length d.rows ∷ length d.flows ∷ length d.comms ∷ length d.claims ∷ [])))
load_takes = numbers.load_takes

pub load_keeps : (d : Document) → So (well_formed d) → length (document_text d) ≤ byte_limit → (store : Bytes) → store_size ≤ length store
    → (load (document_text d) store).bytes ≡ encode d ++ drop store_size store
load_keeps = the.load_keeps

-- "bytes that no load leaves, the length limit set aside": 22 is given exactly for these
pub sound_iff : (fixed : Bytes) → (unsound fixed ≡ false) ↔ ((file : Bytes) × (d : Document) × (check_any file ≡ accepted d) × (encode d ≡ fixed))
sound_iff = the.sound_iff

-- "Writing a loaded store gives back the file's bytes"
pub write-load : (file store out : Bytes) (ns : List ℕ) → load_answer (load file store).answer ≡ answered ns → length file ≤ length out
    → (write_answer (write (load file store).bytes out).answer ≡ answered (length file ∷ [])) × ((write (load file store).bytes out).bytes ≡ file ++ drop (length file) out)
write-load = numbers.write-load

-- "and loading these gives back the store"
pub load-write : (store out other : Bytes) (n : ℕ) → write_answer (write store out).answer ≡ answered (n ∷ []) → n ≤ byte_limit → store_size ≤ length other
    → (load (take n (write store out).bytes) other).bytes ≡ take store_size store ++ drop store_size other
load-write = numbers.load-write

-- "Judge accepts exactly if the tables keep the flow rules .. and every claim holds over all pairs of walks that can share a run": of any store, and of the store that load left of a file
pub judge_accepts : (store : Bytes) (n : ℕ)
    → (judge_answer (judge store) ≡ answered (n ∷ [])) ↔ ((d : Document) × StoreHolds store d × RulesHold d × ClaimsHold d × (n ≡ length d.claims))
judge_accepts = exact.judge_accepts_iff

pub judge_loaded : (file store : Bytes) (ns : List ℕ) → load_answer (load file store).answer ≡ answered ns → (n : ℕ)
    → (judge_answer (judge (load file store).bytes) ≡ answered (n ∷ []))
    ↔ ((d : Document) × (file ≡ document_text d) × So (well_formed d) × RulesHold d × ClaimsHold d × (n ≡ length d.claims))
judge_loaded = numbers.judge_loaded

-- all answers of judge: 20, 21, 22, 10 with the smallest row, 11 with the first claim, or the count
pub judge_exact : (store : Bytes) → JudgeIs store (judge_answer (judge store))
judge_exact = exact.judge_answers

-- all answers of verdict: 20, 21, 22, 24, 10 with the smallest row, or the five words, each exact over all pairs of walks that can share a run
pub verdict_exact : (store : Bytes) (c : ℕ) → VerdictIs store c (verdict_answer (verdict store c))
verdict_exact = exact.verdict_exact

-- a word is decided exactly whether or not the tables keep the flow rules
pub word_exact : (d : Document) → So (well_formed d) → (c : ℕ) (word : Word) → So (word_holds d (reaches d) c word) ↔ WordHolds d c word
word_exact = judging.word_iff

-- Demand 3: where load took the file and judge accepted the store as load left it, then after every list of steps the history of every instance of a claimed channel fits the claimed word
pub sound : (file store : Bytes) (ns : List ℕ) (n : ℕ) → load_answer (load file store).answer ≡ answered ns → judge_answer (judge (load file store).bytes) ≡ answered (n ∷ [])
    → (d : Document) × (file ≡ document_text d) × So (well_formed d)
    × ((k : Claim) → Member k d.claims → (name : ℕ) → chan_at d.rows k.channel ≡ some name
    → (steps : List Step) (maker : Path) → HistoryFits d.rows (run d.rows steps) (made maker name) k.word)
sound = numbers.sound

-- the same of any store that judge accepts, however its bytes came to be there: by load, by infer or by replace
pub accepted_sound : (store : Bytes) (n : ℕ) → judge_answer (judge store) ≡ answered (n ∷ []) → (d : Document) × StoreHolds store d
    × ((k : Claim) → Member k d.claims → (name : ℕ) → chan_at d.rows k.channel ≡ some name
    → (steps : List Step) (maker : Path) → HistoryFits d.rows (run d.rows steps) (made maker name) k.word)
accepted_sound = exact.accepted_sound

-- ---- "The smallest tables from the program alone"

-- infer of any store: 20, 21 and 22 alter nothing; else the rows and claims keep their bytes, the sets "keep every flow rule, and each set lies inside the same set of any other
-- tables that do", the outcome is a store that a file would leave, and the answer is the counts of its lines (`Inferred`)
pub infer_exact : (store : Bytes) → InferIs store (load_answer (infer store).answer)
infer_exact = inference.infer_exact

-- "Judge never answers 10 on the outcome"
pub infer_judged : (store : Bytes) (line : ℕ) → judge_answer (judge (infer store).bytes) ≢ turned_back 10 line
infer_judged = inference.never_10

-- the outcome's own outcome is itself
pub infer_twice : (store : Bytes) → infer (infer store).bytes ≡ infer store
infer_twice = inference.infer_twice

-- no other tables keep every rule and lie in all tables that do, whatever membership functions they are
pub smallest_unique : (p : Program) (flow comm : Table) → KeepsAll p flow comm
    → ((flow' comm' : Table) → KeepsAll p flow' comm' → Within flow flow' × Within comm comm') → (flow ≡ smallest_flow p) × (comm ≡ smallest_comm p)
smallest_unique = least.smallest_unique

-- ---- "A run on the workbench"

-- "both leave the run as before", and so does every refused call: of any store, run memory and records
pub begin_refused : (store run : Bytes) (ts : List ThreadRecord) (n line : ℕ) → run_answer (begin store run ts).answer ≡ turned_back n line
    → ((begin store run ts).run ≡ run) × ((begin store run ts).threads ≡ ts)
begin_refused = watching.begin_refused

pub move_refused : (store run : Bytes) (ts : List ThreadRecord) (n line : ℕ) (o : Order) → run_answer (move_in store (lent_of run ts) o).answer ≡ turned_back n line
    → ((move_in store (lent_of run ts) o).run ≡ run) × ((move_in store (lent_of run ts) o).threads ≡ ts)
move_refused = watching.move_refused

-- beginning is accepted wherever the store holds a document and the run memory and records are long enough; then, after any moves, accepted or refused, each with a store of the
-- same rows, the run "stands for the pool that the steps of its accepted moves leave, thread for leaf, instance for instance", and the next move is refused with 30 exactly
-- where the run rules don't allow its step or a thread isn't there, with 31 exactly where the step is allowed and would exceed a limit, and never with 20 to 22 (`WatchedRun`)
pub watched_run : (p : Program) (store run : Bytes) (ts : List ThreadRecord) → RowsAre p store → run_size ≤ length run → thread_limit ≤ length ts
    → (run_answer (begin store run ts).answer ≡ answered (1 ∷ []))
    × ((calls : List (Bytes × Order)) → AllRows p calls → WatchedRun p (played (leaves (begin store run ts)) calls) (orders calls))
watched_run = watching.watched_run

-- "What is promised of an accepted program's history holds of each run watched here": of the pool that any moves on the rows of an accepted file stand for
pub watched_histories : (file store : Bytes) (ns : List ℕ) (n : ℕ) → load_answer (load file store).answer ≡ answered ns → judge_answer (judge (load file store).bytes) ≡ answered (n ∷ [])
    → (d : Document) × (file ≡ document_text d) × So (well_formed d)
    × ((k : Claim) → Member k d.claims → (name : ℕ) → chan_at d.rows k.channel ≡ some name
    → (os : List Order) (s : Shown d.rows os) (maker : Path) → HistoryFits d.rows (run d.rows s.steps) (made maker name) k.word)
watched_histories file store ns n e f = let (d, text, well, fits) = sound file store ns n e f in (d, text, well, λ k m name c os s maker. fits k m name c s.steps maker)

-- ---- "One-sync"

-- "For an instance so claimed in an accepted file, a history holds at most one path at sends and at most one at receives"
pub one_sync : (file store : Bytes) (ns : List ℕ) (n : ℕ) → load_answer (load file store).answer ≡ answered ns → judge_answer (judge (load file store).bytes) ≡ answered (n ∷ [])
    → (d : Document) × (file ≡ document_text d) × So (well_formed d)
    × ((k : Claim) → Member k d.claims → k.word ≡ OneSync → (name : ℕ) → chan_at d.rows k.channel ≡ some name
    → (steps : List Step) (maker : Path) → let pool = run d.rows steps in
    AtMostOne (AtSend d.rows pool (made maker name)) × AtMostOne (AtReceive d.rows pool (made maker name)))
one_sync file store ns n e f =
    let (d, text, well, fits) = sound file store ns n e f in (
      d,
      text,
      well,
      λ k m w name c steps maker.
          (histories.one_sync_iff d.rows (run d.rows steps) (made maker name)).0 (subst (HistoryFits d.rows (run d.rows steps) (made maker name)) w (fits k m name c steps maker)),
    )

-- ---- "Try a set before keeping it"

-- replace of any store, name and set: 20 to 22, then 32, then 33; else the document differs in that one set only, the outcome is a store that a file would leave, and the answer is
-- the counts of its lines (`Replaced`)
pub replace_exact : (store : Bytes) (n : ℕ) (unit : Bool) (rows : Bytes) → ReplaceIs store n unit rows (load_answer (replace store n unit rows).answer)
replace_exact = replacement.replace_exact

-- "the store is unaltered"
pub replace_refused : (store : Bytes) (n : ℕ) (unit : Bool) (rows : Bytes) (number line : ℕ) → load_answer (replace store n unit rows).answer ≡ turned_back number line
    → (replace store n unit rows).bytes ≡ store
replace_refused = replacement.replace_refused

-- preview "answers what judge would answer on a copy so replaced", or replace's refusal; lines count in the text after the change (`PreviewIs`)
pub preview_judges : (store : Bytes) (n : ℕ) (unit : Bool) (rows : Bytes) (ns : List ℕ) → load_answer (replace store n unit rows).answer ≡ answered ns
    → preview store n unit rows ≡ judge (replace store n unit rows).bytes
preview_judges = replacement.preview_judges

pub preview_refuses : (store : Bytes) (n : ℕ) (unit : Bool) (rows : Bytes) (number line : ℕ) → load_answer (replace store n unit rows).answer ≡ turned_back number line
    → judge_answer (preview store n unit rows) ≡ turned_back number line
preview_refuses = replacement.preview_refuses

pub preview_exact : (store : Bytes) (n : ℕ) (unit : Bool) (rows : Bytes) → PreviewIs store n unit rows (judge_answer (preview store n unit rows))
preview_exact = replacement.preview_exact
