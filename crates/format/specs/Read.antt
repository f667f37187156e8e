-- Reading a file line by line, with refusals 2 to 5.
use Rattle.std.specs.Prelude.{ℕ, zero, suc, ◌+◌, Bool, true, false, not, ◌&&◌, ◌||◌, List, [], ◌∷◌, ◌++◌, length, ltb, eqb}
use Prim.Native.String.{String}
use Rattle.std.specs.Prelude.{Option, None as none, Some as some}
use Rattle.program.specs.declared.Row.{Row}
use Rattle.program.specs.declared.Form.{Form}
use Rattle.program.specs.declared.Word.{Word}
use Rattle.program.specs.declared.Word.TheVariants.{OneShot, OneToOne, FanOut, FanIn, Many, OneSync}
use Rattle.program.specs.Maybe.{◌>>=◌}
use Rattle.program.specs.Test.{pick}
use Rattle.program.specs.Each.{every}
use Rattle.format.specs.declared.Reason.{Reason}
use Rattle.format.specs.declared.Reason.TheVariants.{NotALine, AboveLimit, OutOfCount, NotRising}
use Rattle.format.specs.declared.Section.{Section}
use Rattle.format.specs.declared.Section.TheVariants.{Rows, Flows, Comms, Claims}
use Rattle.format.specs.Limits.{row_limit}
use Rattle.format.specs.Refusals.{refusal, Result, refused, accepted}
use Rattle.format.specs.Text.{Bytes, ascii, read_number, expect, one_of, read_argument, read_arguments}
use Rattle.format.specs.Document.{Document, Line, row, flow, comm, claim}
use Rattle.format.specs.Forms.{arity, form_of}
use Rattle.format.specs.Print.{form_numbers, header}

-- the word of each form, with its code
unfoldable pub form_words : List (String × ℕ)
form_words =
    ("[unit", 2) ∷ ("[chan", 3) ∷ ("[send", 4) ∷ ("[recv", 5) ∷ ("[pair", 6) ∷ ("[left", 7) ∷ ("[right", 8) ∷ ("[fun", 9) ∷
    ("[spawn", 10) ∷ ("[sync", 11) ∷ ("[first", 12) ∷ ("[second", 13) ∷ ("[case", 14) ∷ ("[apply", 15) ∷ []

unfoldable pub read_form : Bytes → ℕ → Option (Form × ℕ)
read_form s at = do
  (k, p) ← one_of form_words s at
  (ns, q) ← read_arguments (arity k) s p
  e ← expect (ascii "]") s q
  some (form_of k ns, e)

-- `[result N]` or `[bind N FORM T]`; whether it is a bind
unfoldable pub row_words : List (String × Bool)
row_words = ("[result", false) ∷ ("[bind", true) ∷ []

unfoldable pub read_result : ℕ → Bytes → ℕ → Option (Row × ℕ)
read_result n s at = do
  e ← expect (ascii "]") s at
  some (Row.Result n, e)

unfoldable pub read_bind : ℕ → Bytes → ℕ → Option (Row × ℕ)
read_bind n s at = do
  p ← expect (ascii " ") s at
  (f, q) ← read_form s p
  (t, r) ← read_argument s q
  e ← expect (ascii "]") s r
  some (Row.Bind (record { name = n; form = f; rest = t }), e)

unfoldable pub read_row : Bytes → ℕ → Option (Row × ℕ)
read_row s at = do
  (bind, p) ← one_of row_words s at
  (n, q) ← read_argument s p
  elim bind [ true ↦ read_bind n s q | false ↦ read_result n s q ]

-- the first member: `u` or a row
unfoldable pub read_first : Bytes → ℕ → Option (ℕ × ℕ)
read_first s at =
    elim (expect (ascii "u") s at) [
      | some p ↦ some (0, p)
      | none ↦ (do
        (r, p) ← read_number s at
        some (suc r, p))
    ]

-- the rest of a set: rows, each with a space before it, at most k of them, and the bracket
unfoldable pub read_members : ℕ → Bytes → ℕ → Option (List ℕ × ℕ)
read_members zero s at = none
read_members (suc k) s at =
    elim (expect (ascii "]") s at) [
      | some e ↦ some ([], e)
      | none ↦ (do
        (r, p) ← read_argument s at
        (ms, e) ← read_members k s p
        some (suc r ∷ ms, e))
    ]

unfoldable pub read_set : Bytes → ℕ → Option (List ℕ × ℕ)
read_set s at = do
  p ← expect (ascii "[") s at
  (m, q) ← read_first s p
  (ms, e) ← read_members (length s) s q
  some (m ∷ ms, e)

unfoldable pub claim_words : List (String × Word)
claim_words = ("one-shot", OneShot) ∷ ("one-to-one", OneToOne) ∷ ("fan-out", FanOut) ∷ ("fan-in", FanIn) ∷ ("many", Many) ∷ ("one-sync", OneSync) ∷ []

-- the first word of a line
unfoldable pub line_words : List (String × Section)
line_words = ("[row", Rows) ∷ ("[flow", Flows) ∷ ("[comm", Comms) ∷ ("[claim", Claims) ∷ []

-- what stands behind the number n of a line
unfoldable pub read_content : Section → ℕ → Bytes → ℕ → Option (Line × ℕ)
read_content Rows n s at = do
  (x, e) ← read_row s at
  some (row n x, e)
read_content Flows n s at = do
  (ms, e) ← read_set s at
  some (flow (record { key = n; members = ms }), e)
read_content Comms n s at = do
  (ms, e) ← read_set s at
  some (comm (record { key = n; members = ms }), e)
read_content Claims n s at = do
  (w, e) ← one_of claim_words s at
  some (claim (record { channel = n; word = w }), e)

-- the line at a position, whatever its numbers, and the position of the next line
unfoldable pub read_line : Bytes → ℕ → Option (Line × ℕ)
read_line s at = do
  (section, p) ← one_of line_words s at
  (n, q) ← read_argument s p
  r ← expect (ascii " ") s q
  (line, t) ← read_content section n s r
  next ← expect (ascii "]\n") s t
  some (line, next)

unfoldable pub present : {A : Type 0} → List A → Bool
present [] = false
present (x ∷ xs) = true

-- 2: "in this order": a line of a later section stands before this line
unfoldable pub out_of_order : Document → Line → Bool
out_of_order d (row r x) = present d.flows || present d.comms || present d.claims
out_of_order d (flow e) = present d.comms || present d.claims
out_of_order d (comm e) = present d.claims
out_of_order d (claim c) = false

-- the numbers of a line
unfoldable pub row_numbers : Row → List ℕ
row_numbers (Row.Result n) = n ∷ []
row_numbers (Row.Bind b) = b.name ∷ (form_numbers b.form ++ (b.rest ∷ []))

unfoldable pub set_rows : List ℕ → List ℕ
set_rows [] = []
set_rows (zero ∷ ms) = set_rows ms
set_rows (suc r ∷ ms) = r ∷ set_rows ms

unfoldable pub line_numbers : Line → List ℕ
line_numbers (row r x) = r ∷ row_numbers x
line_numbers (flow e) = e.key ∷ set_rows e.members
line_numbers (comm e) = e.key ∷ set_rows e.members
line_numbers (claim c) = c.channel ∷ []

-- 3: "A number above 159"
unfoldable pub above_limit : Line → Bool
above_limit l = not (every (λ n. ltb n row_limit) (line_numbers l))

-- 4: "A row out of count; or line 2 .. of a later kind"
unfoldable pub out_of_count : Document → Line → Bool
out_of_count d (row r x) = not (eqb r (length d.rows))
out_of_count d (flow e) = not (present d.rows)
out_of_count d (comm e) = not (present d.rows)
out_of_count d (claim c) = not (present d.rows)

-- each number is below all that follow it
unfoldable pub rising : List ℕ → Bool
rising [] = true
rising (x ∷ xs) = every (ltb x) xs && rising xs

-- 5: "Flow, comm or claim not rising, or a set not rising; an equal number is not rising"
unfoldable pub not_rising : Document → Line → Bool
not_rising d (row r x) = false
not_rising d (flow e) = not (every (λ f. ltb f.key e.key) d.flows && rising e.members)
not_rising d (comm e) = not (every (λ f. ltb f.key e.key) d.comms && rising e.members)
not_rising d (claim c) = not (every (λ f. ltb f.channel c.channel) d.claims)

-- "2 before 3 before 4 before 5": what is wrong with a line, where d has been read before it
unfoldable pub line_fault : Document → Line → Option Reason
line_fault d l =
    pick (out_of_order d l) (some NotALine)
    (pick (above_limit l) (some AboveLimit)
    (pick (out_of_count d l) (some OutOfCount)
    (pick (not_rising d l) (some NotRising) none)))

-- the document with one line more
unfoldable pub add : Document → Line → Document
add d (row r x) = record { rows = d.rows ++ (x ∷ []); flows = d.flows; comms = d.comms; claims = d.claims }
add d (flow e) = record { rows = d.rows; flows = d.flows ++ (e ∷ []); comms = d.comms; claims = d.claims }
add d (comm e) = record { rows = d.rows; flows = d.flows; comms = d.comms ++ (e ∷ []); claims = d.claims }
add d (claim c) = record { rows = d.rows; flows = d.flows; comms = d.comms; claims = d.claims ++ (c ∷ []) }

unfoldable pub no_lines : Document
no_lines = record { rows = []; flows = []; comms = []; claims = [] }

-- "the first line that fails ends the load": from a position on, where d has been read before it, at most k lines
unfoldable pub read_lines : ℕ → Bytes → ℕ → ℕ → Document → Result Document
read_lines zero s at line d = refused (refusal NotALine line)
read_lines (suc k) s at line d =
    elim (eqb at (length s)) [
      -- 4: "line 2 absent"
      | true ↦ pick (present d.rows) (accepted d) (refused (refusal OutOfCount line))
      | false ↦ elim (read_line s at) [
        | none ↦ refused (refusal NotALine line)
        | some x ↦ elim (line_fault d x.0) [
          | some reason ↦ refused (refusal reason line)
          | none ↦ read_lines k s x.1 (line + 1) (add d x.0)
        ]
      ]
    ]

-- a file of any length: the first line, then the others. Each line takes a byte, so as many rounds as bytes suffice
unfoldable pub read_file : Bytes → Result Document
read_file s =
    elim (expect header s 0) [
      | some at ↦ read_lines (length s) s at 2 no_lines
      | none ↦ refused (refusal NotALine 1)
    ]
