-- Replace and preview on the store that load leaves of example A, in which name 4 has the set `[u]`, rows 3 and 6 are value rows and row 2 is none, and name 7 is not bound.
use Prim.Native.Nat.{ℕ}
use mathlib.Core.Bool.{Bool, true, false}
use mathlib.Core.List.{List, [], ◌∷◌, map}
use mathlib.Core.Path.{◌≡◌, refl}
use lib.ListN.{replicate}
use Rattle.format.specs.Refusals
use Rattle.format.specs.Text
use Rattle.format.specs.Print
use Rattle.calls.specs.Layout
use Rattle.calls.specs.Answers
use Rattle.calls.specs.Answers.{Answer, turned_back, answered}
use Rattle.calls.specs.Calls
use Rattle.replacement.specs.Replacement
use Rattle.example_files.proofs.Files.{file, lines_a, variant, tried}

-- what preview answers of a name, a yes or no for unit and a list of rows
previewed : List (ℕ × Bool × Text.Bytes) → List Answer
unfolding tried variant Answers.refusal_answer Refusals.number Replacement.members_of Replacement.keep Replacement.with_set Replacement.with_flow Replacement.is_bound Replacement.set_allowed
    Replacement.replacing Calls.stored Replacement.replace Replacement.judge_left Replacement.preview
previewed = let store = (Calls.load (file lines_a) (replicate Layout.store_size 7)).bytes in map λ x. Answers.judge_answer (Replacement.preview store x.0 x.1 x.2)

-- a wider set than the one that is there: as judge of A; no set: 10 at line 6, as judge of A without flow 4; 32 before 33
answers : previewed ((4, true, 3 ∷ 6 ∷ []) ∷ (4, false, []) ∷ (7, true, 6 ∷ 3 ∷ []) ∷ []) ≡ (answered (1 ∷ []) ∷ turned_back 10 6 ∷ turned_back 32 0 ∷ [])
unfolding previewed
answers = refl

-- whether a list of rows may be a set of A's program, without unit and with it
sets_of_a : List Text.Bytes → List (Bool × Bool)
unfolding tried variant Replacement.members_of Replacement.set_allowed
sets_of_a = let rows = (Layout.decode (Calls.load (file lines_a) (replicate Layout.store_size 7)).bytes).rows in
    map λ x. (Replacement.set_allowed rows (Replacement.members_of false x), Replacement.set_allowed rows (Replacement.members_of true x))

-- none, rising; 33: falling, equal, no value row, absent, above the limit
lists : sets_of_a ([] ∷ (1 ∷ 3 ∷ 6 ∷ []) ∷ (6 ∷ 3 ∷ []) ∷ (3 ∷ 3 ∷ []) ∷ (2 ∷ []) ∷ (9 ∷ []) ∷ (160 ∷ []) ∷ [])
    ≡ ((true, true) ∷ (true, true) ∷ (false, false) ∷ (false, false) ∷ (false, false) ∷ (false, false) ∷ (false, false) ∷ [])
unfolding sets_of_a
lists = refl

-- what replace answers of a name, a yes or no for unit and a list of rows, and what write then gives, where it fits in so many bytes
replaced : ℕ → ℕ × Bool × Text.Bytes → Answer × Text.Bytes
unfolding tried variant Answers.refusal_answer Refusals.number Replacement.members_of Replacement.keep Replacement.with_set Replacement.with_flow Replacement.is_bound Replacement.set_allowed
    Replacement.replacing Calls.stored Replacement.replace Calls.write Calls.written
    Print.document_text Print.line_text Print.row_text Print.form_text Print.form_word Print.set_text Print.members_text Print.member_text Print.word_text Text.digits Text.place Text.argument Text.arguments
replaced size x =
    let store = (Calls.load (file lines_a) (replicate Layout.store_size 7)).bytes in
    let o = Replacement.replace store x.0 x.1 x.2 in
    (Answers.load_answer o.answer, (Calls.write o.bytes (replicate size 7)).bytes)

-- no set: a flow line less, and the text of A without flow 4
line_gone : replaced 357 (4, false, []) ≡ (answered (9 ∷ 6 ∷ 1 ∷ 1 ∷ []), variant 15 [])
unfolding replaced
line_gone = refl
