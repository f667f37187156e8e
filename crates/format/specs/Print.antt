-- "The file": the text of a document. That reading gives a document back from its text, and no other file, is a theorem.
use Rattle.std.specs.Prelude.{ℕ, zero, suc, List, [], ◌∷◌, ◌++◌, map}
use Prim.Native.String.{String}
use Rattle.program.specs.declared.Row.{Row}
use Rattle.program.specs.declared.Form.{Form}
use Rattle.program.specs.declared.Form.TheVariants.{Chan, Send, Recv, Pair, Left, Right, Fun, Spawn, Sync, First, Second, Case, Apply}
use Rattle.program.specs.declared.Word.{Word}
use Rattle.program.specs.declared.Word.TheVariants.{OneShot, OneToOne, FanOut, FanIn, Many, OneSync}
use Rattle.program.specs.Each.{collect}
use Rattle.program.specs.Program.{Program}
use Rattle.format.specs.Text.{Bytes, ascii, digits, argument, arguments}
use Rattle.format.specs.Document.{Document, Line, row, flow, comm, claim}

-- "A form is one of these fourteen, with exactly its own names and rows"
unfoldable pub form_word : Form → String
form_word Form.Unit = "[unit"
form_word Chan = "[chan"
form_word (Send c m) = "[send"
form_word (Recv c) = "[recv"
form_word (Pair a b) = "[pair"
form_word (Left a) = "[left"
form_word (Right a) = "[right"
form_word (Fun f x t) = "[fun"
form_word (Spawn t) = "[spawn"
form_word (Sync e) = "[sync"
form_word (First a) = "[first"
form_word (Second a) = "[second"
form_word (Case s l t r w) = "[case"
form_word (Apply f a) = "[apply"

unfoldable pub form_numbers : Form → List ℕ
form_numbers Form.Unit = []
form_numbers Chan = []
form_numbers (Send c m) = c ∷ m ∷ []
form_numbers (Recv c) = c ∷ []
form_numbers (Pair a b) = a ∷ b ∷ []
form_numbers (Left a) = a ∷ []
form_numbers (Right a) = a ∷ []
form_numbers (Fun f x t) = f ∷ x ∷ t ∷ []
form_numbers (Spawn t) = t ∷ []
form_numbers (Sync e) = e ∷ []
form_numbers (First a) = a ∷ []
form_numbers (Second a) = a ∷ []
form_numbers (Case s l t r w) = s ∷ l ∷ t ∷ r ∷ w ∷ []
form_numbers (Apply f a) = f ∷ a ∷ []

unfoldable pub form_text : Form → Bytes
form_text f = ascii (form_word f) ++ (arguments (form_numbers f) ++ ascii "]")

-- `[result N]` or `[bind N FORM T]`
unfoldable pub row_text : Row → Bytes
row_text (Row.Result n) = ascii "[result" ++ (argument n ++ ascii "]")
row_text (Row.Bind b) = ascii "[bind" ++ (argument b.name ++ (ascii " " ++ (form_text b.form ++ (argument b.rest ++ ascii "]"))))

-- a member: `u`, or the row's number
unfoldable pub member_text : ℕ → Bytes
member_text zero = ascii "u"
member_text (suc r) = digits r

-- members, each with a space before it, and the closing bracket
unfoldable pub members_text : List ℕ → Bytes
members_text [] = ascii "]"
members_text (m ∷ ms) = ascii " " ++ (member_text m ++ members_text ms)

-- "A set holds `u` first if at all, then rising row numbers, one space between; it is never written empty" (`[]` is the text of no file)
unfoldable pub set_text : List ℕ → Bytes
set_text [] = ascii "[]"
set_text (m ∷ ms) = ascii "[" ++ (member_text m ++ members_text ms)

unfoldable pub word_text : Word → String
word_text OneShot = "one-shot"
word_text OneToOne = "one-to-one"
word_text FanOut = "fan-out"
word_text FanIn = "fan-in"
word_text Many = "many"
word_text OneSync = "one-sync"

-- the lines after the first
unfoldable pub line_text : Line → Bytes
line_text (row r x) = ascii "[row" ++ (argument r ++ (ascii " " ++ (row_text x ++ ascii "]\n")))
line_text (flow e) = ascii "[flow" ++ (argument e.key ++ (ascii " " ++ (set_text e.members ++ ascii "]\n")))
line_text (comm e) = ascii "[comm" ++ (argument e.key ++ (ascii " " ++ (set_text e.members ++ ascii "]\n")))
line_text (claim c) = ascii "[claim" ++ (argument c.channel ++ (ascii " " ++ (ascii (word_text c.word) ++ ascii "]\n")))

-- "R counting 0, 1, 2 and on"
unfoldable pub row_lines : ℕ → Program → List Line
row_lines r [] = []
row_lines r (x ∷ xs) = row r x ∷ row_lines (suc r) xs

-- "Lines in this order"
unfoldable pub lines_of : Document → List Line
lines_of d = row_lines 0 d.rows ++ (map flow d.flows ++ (map comm d.comms ++ map claim d.claims))

unfoldable pub header : Bytes
header = ascii "[dispenser 1]\n"

unfoldable pub document_text : Document → Bytes
document_text d = header ++ collect line_text (lines_of d)
