-- "Try a set before keeping it", as two calls: the answer and the lent bytes afterwards, as a function of the store and of what is handed over.
--   replace   `opened` of calls, then `replacing`, then `stored` of calls   (20, 21, 22; 32, 33)
--   preview   judge of the bytes that replace leaves                        (20, 21, 22; 32, 33; 10, 11)
-- The contract of each public function is equality with its definition here; by `Leaves` of calls, for the answer and the lent bytes.
use Rattle.std.specs.Prelude.{Ok, Err}
use Rattle.std.specs.Prelude.{ℕ, suc, Bool, true, false, ◌&&◌, List, [], ◌∷◌, ◌++◌, map, ltb}
use Rattle.program.specs.Test.{pick}
use Rattle.program.specs.Each.{every, collect, elem}
use Rattle.program.specs.Program.{Program, binders}
use Rattle.format.specs.declared.Reason.TheVariants.{NotBound, SetNotAllowed}
use Rattle.format.specs.Text.{Bytes}
use Rattle.format.specs.Refusals.{refusal, Result, refused, accepted}
use Rattle.format.specs.Document.{Entry, Document, with_tables}
use Rattle.format.specs.Read.{rising}
use Rattle.format.specs.Structure.{member_allowed}
use Rattle.calls.specs.Answers.{LoadAnswer}
use Rattle.calls.specs.Answers.{JudgeAnswer}
use Rattle.calls.specs.Layout.{with_entry}
use Rattle.calls.specs.Calls.{Outcome, opened, and_then, stored, judge}

-- "handed over as a yes or no for `u` and a list of row numbers": the members of the set; unit is member 0, row r is member r + 1
unfoldable pub members_of : Bool → Bytes → List ℕ
members_of unit rows = pick unit (0 ∷ []) [] ++ map suc rows

-- the elements that pass the test
unfoldable pub keep : {A : Type 0} → (A → Bool) → List A → List A
keep f [] = []
keep f (x ∷ xs) = pick (f x) (x ∷ keep f xs) (keep f xs)

-- "replace the set of a bound name with a given one (empty allowed)": the lines of the names below, then its own, if the set is not empty, then the lines of the names above
unfoldable pub with_set : ℕ → List ℕ → List Entry → List Entry
with_set n ms es = keep (λ e. ltb e.key n) es ++ with_entry n ms (keep (λ e. ltb n e.key) es)

-- the document with one name's set replaced
unfoldable pub with_flow : ℕ → List ℕ → Document → Document
with_flow n ms d = with_tables d (with_set n ms d.flows) d.comms

-- some row binds the name
unfoldable pub is_bound : Program → ℕ → Bool
is_bound p n = elem n (collect binders p)

-- "Sets hold `u` and value rows only", and rise
unfoldable pub set_allowed : Program → List ℕ → Bool
set_allowed p ms = rising ms && every (member_allowed p) ms

-- "32: the name isn't bound; then 33: the set isn't rising or holds what a set may not"
unfoldable pub replacing : ℕ → List ℕ → Document → Result Document
replacing n ms d =
    elim (is_bound d.rows n) [
      | true ↦ elim (set_allowed d.rows ms) [ true ↦ accepted (with_flow n ms d) | false ↦ refused (refusal SetNotAllowed 0) ]
      | false ↦ refused (refusal NotBound 0)
    ]

-- Replace answers counts as infer does; "the store is unaltered" where it is refused
unfoldable pub replace : Bytes → ℕ → Bool → Bytes → Outcome LoadAnswer
replace store n unit rows = stored store (and_then (opened store) (replacing n (members_of unit rows)))

-- judge of the bytes that a call left, or its refusal
unfoldable pub judge_left : LoadAnswer → Bytes → JudgeAnswer
judge_left (Ok c) left = judge left
judge_left (Err r) left = Err r

-- "a preview, which answers what judge would answer on a copy so replaced and leaves the store unaltered": the contract has the latter, by `unaltered` of calls
unfoldable pub preview : Bytes → ℕ → Bool → Bytes → JudgeAnswer
preview store n unit rows = let o = replace store n unit rows in judge_left o.answer o.bytes
