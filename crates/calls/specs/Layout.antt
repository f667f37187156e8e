-- The store: its fixed size and layout, which are ours to choose; a file's document can be read back from it.
--   rows    8 bytes for each row number: kind, name, rest and five arguments; kind 0 is no row
--   flows   for each name, a byte of 0 or 1 for each member: unit, then the rows
--   comms   the same for each row number, of which chan rows have a set
--   claims  for each row number a byte: 0 for no claim, else the word's code
-- Every byte that a document does not use is 0. `decode` reads any bytes; that they are a document's own is tested by encoding it again (`Calls.unsound`).
use Rattle.std.specs.Prelude.{ℕ, zero, suc, ◌+◌, ◌*◌, ◌-◌, Bool, true, false, ◌&&◌, List, [], ◌∷◌, ◌++◌, length, get_or, take, drop, replicate, eqb}
use Rattle.program.specs.declared.Row.{Row}
use Rattle.program.specs.declared.Word.{Word}
use Rattle.program.specs.declared.Word.TheVariants.{OneShot, OneToOne, FanOut, FanIn, Many, OneSync}
use Rattle.program.specs.Test.{pick}
use Rattle.program.specs.Each.{collect, elem}
use Rattle.program.specs.Program.{Program}
use Rattle.format.specs.Limits.{row_limit}
use Rattle.format.specs.Text.{Bytes}
use Rattle.format.specs.Forms.{form_code, form_of}
use Rattle.format.specs.Print.{form_numbers}
use Rattle.format.specs.Document.{Entry, Claim, Document, members_at}

-- the members of a set: unit and the rows
abbrev pub member_limit : ℕ
member_limit = row_limit + 1

abbrev pub row_size : ℕ
row_size = 8

abbrev pub rows_size : ℕ
rows_size = row_limit * row_size

abbrev pub sets_size : ℕ
sets_size = row_limit * member_limit

-- where the comms and the claims begin; the flows begin at `rows_size`
abbrev pub comms_start : ℕ
comms_start = rows_size + sets_size

abbrev pub claims_start : ℕ
claims_start = comms_start + sets_size

-- the store's fixed size
abbrev pub store_size : ℕ
store_size = claims_start + row_limit

-- where the set of name n, that of channel row c, and the claim on row c stand
abbrev pub flow_at : ℕ → ℕ
flow_at n = rows_size + n * member_limit

abbrev pub comm_at : ℕ → ℕ
comm_at c = comms_start + c * member_limit

abbrev pub claim_at : ℕ → ℕ
claim_at c = claims_start + c

-- f i, f (i + 1) and so on, n of them
unfoldable pub counting : {A : Type 0} → ℕ → ℕ → (ℕ → A) → List A
counting zero i f = []
counting (suc n) i f = f i ∷ counting n (suc i) f

-- n bytes: those given, then zeros
unfoldable pub padded : ℕ → Bytes → Bytes
padded n bs = bs ++ replicate (n - length bs) 0

unfoldable pub row_bytes : Row → Bytes
row_bytes (Row.Result n) = padded row_size (1 ∷ n ∷ [])
row_bytes (Row.Bind b) = padded row_size (form_code b.form ∷ b.name ∷ b.rest ∷ form_numbers b.form)

unfoldable pub flags_of : List ℕ → Bytes
flags_of ms = counting member_limit 0 λ m. pick (elem m ms) 1 0

unfoldable pub sets_bytes : List Entry → Bytes
sets_bytes es = collect (λ n. flags_of (members_at es n)) (counting row_limit 0 λ n. n)

-- a word that came later has a later code, so that stores of before mean what they meant
unfoldable pub word_code : Word → ℕ
word_code OneShot = 1
word_code OneToOne = 2
word_code FanOut = 3
word_code FanIn = 4
word_code Many = 5
word_code OneSync = 6

-- every code is below this
abbrev pub code_limit : ℕ
code_limit = 7

unfoldable pub claim_code : List Claim → ℕ → ℕ
claim_code [] c = 0
claim_code (k ∷ ks) c = elim (eqb c k.channel) [ true ↦ word_code k.word | false ↦ claim_code ks c ]

-- the document in the store
unfoldable pub encode : Document → Bytes
encode d =
    padded rows_size (collect row_bytes d.rows) ++ (sets_bytes d.flows ++ (sets_bytes d.comms ++ counting row_limit 0 (claim_code d.claims)))

-- back again: a row of eight bytes
unfoldable pub row_of : Bytes → Row
row_of bs =
    pick (eqb (get_or bs 0 0) 1) (Row.Result (get_or bs 1 0))
    (Row.Bind (record { name = get_or bs 1 0; form = form_of (get_or bs 0 0) (drop 3 bs); rest = get_or bs 2 0 }))

-- the rows before the first of kind 0, k at most
unfoldable pub decode_rows : ℕ → Bytes → Program
decode_rows zero bs = []
decode_rows (suc k) bs = elim (eqb (get_or bs 0 0) 0) [ true ↦ [] | false ↦ row_of (take row_size bs) ∷ decode_rows k (drop row_size bs) ]

-- the members whose bytes are not 0, where the first byte is that of member m
unfoldable pub members_from : ℕ → Bytes → List ℕ
members_from m [] = []
members_from m (b ∷ bs) = elim (eqb b 0) [ true ↦ members_from (suc m) bs | false ↦ m ∷ members_from (suc m) bs ]

-- a set that is not empty is a line
unfoldable pub with_entry : ℕ → List ℕ → List Entry → List Entry
with_entry n [] es = es
with_entry n (m ∷ ms) es = record { key = n; members = m ∷ ms } ∷ es

-- the sets of k names or channels from n on
unfoldable pub decode_sets : ℕ → ℕ → Bytes → List Entry
decode_sets zero n bs = []
decode_sets (suc k) n bs = with_entry n (members_from 0 (take member_limit bs)) (decode_sets k (suc n) (drop member_limit bs))

unfoldable pub word_of : ℕ → Word
word_of k = pick (eqb k 1) OneShot (pick (eqb k 2) OneToOne (pick (eqb k 3) FanOut (pick (eqb k 4) FanIn (pick (eqb k 6) OneSync Many))))

-- the claims, where the first byte is that of row c
unfoldable pub decode_claims : ℕ → Bytes → List Claim
decode_claims c [] = []
decode_claims c (k ∷ ks) =
    elim (eqb k 0) [ true ↦ decode_claims (suc c) ks | false ↦ record { channel = c; word = word_of k } ∷ decode_claims (suc c) ks ]

unfoldable pub decode : Bytes → Document
decode bs =
    let sets = drop rows_size bs in
    let more = drop sets_size sets in
    record {
      rows = decode_rows row_limit bs;
      flows = decode_sets row_limit 0 sets;
      comms = decode_sets row_limit 0 more;
      claims = decode_claims 0 (drop sets_size more);
    }

-- the same bytes
unfoldable pub same : Bytes → Bytes → Bool
same [] [] = true
same [] (y ∷ ys) = false
same (x ∷ xs) [] = false
same (x ∷ xs) (y ∷ ys) = eqb x y && same xs ys
