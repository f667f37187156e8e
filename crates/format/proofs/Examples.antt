-- Files that load turns back, by computation: each refusal from 1 to 9, at the places where one comes before another.
use Prim.Native.Nat.{ℕ}
use Prim.Native.String.{String}
use mathlib.Core.List.{List, [], ◌∷◌, map}
use mathlib.Core.Path.{◌≡◌, refl}
use lib.ListN.{replicate}
use Rattle.program.specs.Maybe
use Rattle.program.specs.Test
use Rattle.program.specs.Each
use Rattle.program.specs.Program
use Rattle.format.specs.Refusals
use Rattle.format.specs.Refusals.{Result, refused, accepted}
use Rattle.format.specs.Document.{Document}
use Rattle.format.specs.Text
use Rattle.format.specs.Forms
use Rattle.format.specs.Print
use Rattle.format.specs.Read
use Rattle.format.specs.Scope
use Rattle.format.specs.Structure
use Rattle.format.specs.Check

-- number and line of a refusal, or nothing
answer : Result Document → List ℕ
unfolding Refusals.number
answer (refused r) = Refusals.number r.reason ∷ r.line ∷ []
answer (accepted d) = []

-- what load answers on a text
checked : String → List ℕ
unfolding answer Check.check Check.check_any Check.check_structure
    Read.read_file Read.read_lines Read.read_line Read.read_content Read.read_row Read.read_bind Read.read_result Read.read_form Read.form_words Read.row_words Read.line_words Read.claim_words
    Read.read_members Read.read_first Read.read_set Read.present Read.out_of_order Read.row_numbers Read.set_rows Read.line_numbers Read.above_limit Read.out_of_count Read.rising
    Read.not_rising Read.line_fault Read.add Read.no_lines
    Text.ascii Text.read_number Text.digit_at Text.digit_of Text.expect Text.one_of Text.read_argument Text.read_arguments Print.header Print.form_numbers Forms.arity Forms.form_of
    Structure.structure_fault Structure.pointer_fault Structure.wrong_pointers Structure.binder_fault Structure.bound_earlier Structure.scope_line Structure.not_allowed
    Structure.first_failing Structure.flow_allowed Structure.comm_allowed Structure.claim_allowed Structure.member_allowed Structure.flow_line Structure.comm_line
    Structure.claim_line
    Scope.scope_fault Scope.row_fault Scope.use_fault
    Test.least Each.every Each.collect Each.elem Maybe.◌>>=◌ Maybe.◌<|>◌ Maybe.has
    Program.row_at Program.bind_at Program.bind_of Program.form_at Program.chan_at Program.pointers Program.binders Program.value_row Program.chan_row
checked text = answer (Check.check (Text.ascii text))

-- 1: one byte more than the limit; at the limit the file is read
too_long : answer (Check.check (replicate 32769 10)) ∷ answer (Check.check (replicate 32768 10)) ∷ [] ≡ (1 ∷ 0 ∷ []) ∷ (2 ∷ 1 ∷ []) ∷ []
unfolding checked
too_long = refl

-- 2: the first line, the last byte, the words, the numbers
first_line : map checked ("" ∷ "\n" ∷ "[dispenser 1]" ∷ "[dispenser 2]\n" ∷ "[dispenser 1]\n[dispenser 1]\n" ∷ "[dispenser 1]\n\n" ∷ [])
    ≡ ((2 ∷ 1 ∷ []) ∷ (2 ∷ 1 ∷ []) ∷ (2 ∷ 1 ∷ []) ∷ (2 ∷ 1 ∷ []) ∷ (2 ∷ 2 ∷ []) ∷ (2 ∷ 2 ∷ []) ∷ [])
unfolding checked
first_line = refl

-- line 2: 2 before 3 before 4 before 5
line2 : map checked
    ("[dispenser 1]\n" ∷
    "[dispenser 1]\n[row 0 [result 0]]" ∷
    "[dispenser 1]\n[flow 0 []]\n" ∷
    "[dispenser 1]\n[flow 999 [u]]\n" ∷
    "[dispenser 1]\n[flow 0 [3 2]]\n" ∷
    "[dispenser 1]\n[row 0 [result 1000]]\n" ∷
    "[dispenser 1]\n[row 0 [result 0160]]\n" ∷
    "[dispenser 1]\n[row 7 [result 160]]\n" ∷
    "[dispenser 1]\n[row 7 [result 159]]\n" ∷
    "[dispenser 1]\n[row 0 [result 0] ]\n" ∷ [])
    ≡ ((4 ∷ 2 ∷ []) ∷ (2 ∷ 2 ∷ []) ∷ (2 ∷ 2 ∷ []) ∷ (3 ∷ 2 ∷ []) ∷ (4 ∷ 2 ∷ []) ∷ (2 ∷ 2 ∷ []) ∷ (2 ∷ 2 ∷ []) ∷ (3 ∷ 2 ∷ []) ∷ (4 ∷ 2 ∷ []) ∷ (2 ∷ 2 ∷ []) ∷ [])
unfolding checked
line2 = refl

-- behind two good rows and a flow line
tail : String → String
unfolding Text.ascii
tail text = Prim.Native.String.◌++◌ "[dispenser 1]\n[row 0 [bind 0 [chan] 1]]\n[row 1 [result 0]]\n[flow 0 [u 0]]\n" text

-- an earlier section is 2, whatever its numbers; `u` elsewhere than first is 2; 5 is for what does not rise, equal numbers too; then 9
later : map checked
    (tail "" ∷
    tail "[row 999 [result 0]]\n" ∷
    tail "[comm 0 [0 u]]\n" ∷
    tail "[comm 0 [u u]]\n" ∷
    tail "[comm 0 [u 0 0]]\n" ∷
    tail "[comm 0 [0 160 0]]\n" ∷
    tail "[flow 0 [u]]\n" ∷
    tail "[claim 0 many]\n[claim 0 many]\n" ∷
    tail "[claim 0 one-sync]\n" ∷
    tail "[claim 0 one-synch]\n" ∷
    tail "[flow 1 [u]]\n" ∷
    tail "[comm 0 [1]]\n" ∷
    tail "[comm 1 [u]]\n" ∷
    tail "[claim 1 many]\n" ∷ [])
    ≡ ([] ∷ (2 ∷ 5 ∷ []) ∷ (2 ∷ 5 ∷ []) ∷ (2 ∷ 5 ∷ []) ∷ (5 ∷ 5 ∷ []) ∷ (3 ∷ 5 ∷ []) ∷ (5 ∷ 5 ∷ []) ∷ (5 ∷ 6 ∷ []) ∷ [] ∷ (2 ∷ 5 ∷ []) ∷ (9 ∷ 5 ∷ []) ∷ (9 ∷ 5 ∷ []) ∷ (9 ∷ 5 ∷ []) ∷ (9 ∷ 5 ∷ []) ∷ [])
unfolding checked tail
later = refl

-- 6, 7 and 8, each at its smallest line, one number after the other
structure : map checked
    ("[dispenser 1]\n[row 0 [result 5]]\n[row 1 [result 5]]\n" ∷
    "[dispenser 1]\n[row 0 [bind 0 [unit] 0]]\n" ∷
    "[dispenser 1]\n[row 0 [bind 0 [spawn 1] 1]]\n[row 1 [result 0]]\n" ∷
    "[dispenser 1]\n[row 0 [bind 0 [unit] 1]]\n[row 1 [bind 0 [unit] 2]]\n[row 2 [result 5]]\n" ∷
    "[dispenser 1]\n[row 0 [bind 0 [fun 1 1 1] 2]]\n[row 1 [result 1]]\n[row 2 [result 0]]\n" ∷
    "[dispenser 1]\n[row 0 [bind 0 [left 0] 1]]\n[row 1 [result 0]]\n" ∷
    "[dispenser 1]\n[row 0 [bind 0 [spawn 1] 2]]\n[row 1 [result 0]]\n[row 2 [result 0]]\n" ∷
    "[dispenser 1]\n[row 0 [bind 0 [fun 1 2 1] 2]]\n[row 1 [bind 3 [pair 1 2] 3]]\n[row 2 [result 0]]\n[row 3 [result 3]]\n" ∷
    "[dispenser 1]\n[row 0 [bind 0 [fun 1 2 1] 2]]\n[row 1 [result 0]]\n[row 2 [result 1]]\n" ∷ [])
    ≡ ((6 ∷ 3 ∷ []) ∷ (6 ∷ 2 ∷ []) ∷ (6 ∷ 2 ∷ []) ∷ (7 ∷ 3 ∷ []) ∷ (7 ∷ 2 ∷ []) ∷ (8 ∷ 2 ∷ []) ∷ (8 ∷ 3 ∷ []) ∷ [] ∷ (8 ∷ 3 ∷ []) ∷ [])
unfolding checked
structure = refl
