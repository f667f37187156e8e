-- Example A (examples/a.txt), files that differ from it in a line, and what load and judge answer of a file: one definition that opens all that computing it needs.
use Prim.Native.Nat.{ℕ, zero, suc}
use Prim.Native.String.{String}
use mathlib.Core.List.{List, [], ◌∷◌, ◌++◌}
use lib.ListN.{replicate}
use Rattle.program.specs.Maybe
use Rattle.program.specs.Test
use Rattle.program.specs.Each
use Rattle.program.specs.Program
use Rattle.program.specs.Flow
use Rattle.program.specs.Walk
use Rattle.program.specs.Closure
use Rattle.program.specs.Verdict
use Rattle.format.specs.Refusals
use Rattle.format.specs.Text
use Rattle.format.specs.Forms
use Rattle.format.specs.Document
use Rattle.format.specs.Print
use Rattle.format.specs.Read
use Rattle.format.specs.Scope
use Rattle.format.specs.Structure
use Rattle.format.specs.WellFormed
use Rattle.format.specs.Check
use Rattle.calls.specs.Layout
use Rattle.calls.specs.Answers
use Rattle.calls.specs.Answers.{Answer}
use Rattle.calls.specs.Judging
use Rattle.calls.specs.Calls

-- lines, each ended by byte 10
unfoldable pub file : List String → Text.Bytes
unfolding Each.collect Text.ascii
file ls = Each.collect (λ l. Text.ascii l ++ (10 ∷ [])) ls

-- the lines with line n, counted from 1, replaced
unfoldable pub swap : ℕ → List String → List String → List String
swap n new [] = []
swap zero new (l ∷ ls) = l ∷ ls
swap (suc zero) new (l ∷ ls) = new ++ ls
swap (suc (suc n)) new (l ∷ ls) = l ∷ swap (suc n) new ls

-- standard input A
unfoldable pub lines_a : List String
lines_a =
    "[dispenser 1]" ∷
    "[row 0 [bind 0 [unit] 1]]" ∷
    "[row 1 [bind 1 [chan] 2]]" ∷
    "[row 2 [bind 2 [spawn 3] 6]]" ∷
    "[row 3 [bind 3 [recv 1] 4]]" ∷
    "[row 4 [bind 4 [sync 3] 5]]" ∷
    "[row 5 [result 4]]" ∷
    "[row 6 [bind 5 [send 1 0] 7]]" ∷
    "[row 7 [bind 6 [sync 5] 8]]" ∷
    "[row 8 [result 6]]" ∷
    "[flow 0 [u]]" ∷
    "[flow 1 [1]]" ∷
    "[flow 2 [u]]" ∷
    "[flow 3 [3]]" ∷
    "[flow 4 [u]]" ∷
    "[flow 5 [6]]" ∷
    "[flow 6 [u]]" ∷
    "[comm 1 [u]]" ∷
    "[claim 1 one-shot]" ∷
    []

-- A with a line replaced
unfoldable pub variant : ℕ → List String → Text.Bytes
unfolding file swap lines_a
variant n new = file (swap n new lines_a)

-- what load answers on a store that is not empty, and judge on the store that load leaves
unfoldable pub tried : Text.Bytes → List Answer
unfolding Calls.load Calls.loaded Calls.counts Calls.refilled Calls.judge Calls.judge_answered Calls.and_then Calls.opened Calls.opened_fixed Calls.is_empty Calls.unsound
    Answers.load_answer Answers.judge_answer Answers.refusal_answer Refusals.number
    Check.check Check.check_any Check.check_structure
    Read.read_file Read.read_lines Read.read_line Read.read_content Read.read_row Read.read_bind Read.read_result Read.read_form Read.form_words Read.row_words Read.line_words Read.claim_words
    Read.read_members Read.read_first Read.read_set Read.present Read.out_of_order Read.row_numbers Read.set_rows Read.line_numbers Read.above_limit Read.out_of_count Read.rising
    Read.not_rising Read.line_fault Read.add Read.no_lines
    Text.ascii Text.read_number Text.digit_at Text.digit_of Text.expect Text.one_of Text.read_argument Text.read_arguments Print.header Print.form_numbers Print.lines_of
    Print.row_lines Forms.arity Forms.form_of Forms.form_code
    Structure.structure_fault Structure.pointer_fault Structure.wrong_pointers Structure.binder_fault Structure.bound_earlier Structure.scope_line Structure.not_allowed
    Structure.first_failing Structure.flow_allowed Structure.comm_allowed Structure.claim_allowed Structure.member_allowed Structure.flow_line Structure.comm_line
    Structure.claim_line
    Scope.scope_fault Scope.row_fault Scope.use_fault
    WellFormed.well_formed WellFormed.orderly WellFormed.entries_rise
    Layout.encode Layout.decode Layout.same Layout.counting Layout.padded Layout.row_bytes Layout.flags_of Layout.sets_bytes Layout.word_code Layout.claim_code Layout.row_of
    Layout.decode_rows Layout.members_from Layout.with_entry Layout.decode_sets Layout.word_of Layout.decode_claims
    Judging.flow_table Judging.comm_table Judging.word_holds Judging.reaches Judging.failing_row Judging.failing_claim Judging.after10 Judging.judge_claims Judging.judge_document
    Document.table_of Document.members_at Document.member
    Flow.keeps_at Flow.keeps_form Flow.send_rule Flow.recv_rule Flow.lies Flow.for_each Flow.for_each_chan
    Walk.enters Walk.some_called Walk.to_rest Walk.to_child Walk.to_called Walk.to_caller Walk.edge Walk.send_place Walk.receive_place
    Closure.cell Closure.table Closure.join Closure.through Closure.closure Closure.grid Closure.closed
    Verdict.reach Verdict.reached Verdict.leads Verdict.in_a_row Verdict.rivals Verdict.ends Verdict.facts Verdict.says Verdict.verdict
    Test.least Test.all Test.any Each.every Each.collect Each.elem Maybe.◌>>=◌ Maybe.◌<|>◌ Maybe.has Maybe.when
    Program.row_at Program.bind_at Program.bind_of Program.form_at Program.chan_at Program.send_at Program.recv_at Program.pair_at Program.left_at Program.right_at Program.fun_at
    Program.sync_at Program.fork_at Program.pointers Program.binders Program.value_row Program.chan_row Program.result_name Program.result_row Program.result_from Program.name_of
tried text =
    let o = Calls.load text (replicate Layout.store_size 7) in
    Answers.load_answer o.answer ∷ Answers.judge_answer (Calls.judge o.bytes) ∷ []
