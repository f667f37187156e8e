-- A line is read exactly where it stands.
use Prim.Native.Nat.{ℕ, ◌+◌, ◌<◌}
use Prim.Native.String.{String}
use mathlib.Core.Bool.{So}
use mathlib.Core.List.{List, [], ◌∷◌, ◌++◌}
use Rattle.std.specs.Prelude.{Some as some}
use mathlib.Core.Path.{◌≡◌, refl}
use lib.ListN.{length}
use Rattle.program.specs.declared.Word.{Word}
use Rattle.program.specs.declared.Word.TheVariants.{OneShot, OneToOne, FanOut, FanIn, Many, OneSync}
use Rattle.program.specs.Maybe.{◌>>=◌}
use Rattle.program.specs.Each.{Member, here, there, every, Each, nil, ◌&◌}
use Rattle.program.proofs.Maybe.{Found, found, found_bind}
use Rattle.format.specs.declared.Section.{Section}
use Rattle.format.specs.declared.Section.TheVariants.{Rows, Flows, Comms, Claims}
use Rattle.format.specs.Text.{Bytes, ascii, digit_of, argument, one_of}
use Rattle.format.specs.Document.{Line, row, flow, comm, claim}
use Rattle.format.specs.Print.{row_text, set_text, word_text, line_text}
use Rattle.format.specs.Read.{present, row_numbers, claim_words, line_words, read_content, read_line}
use Rattle.format.proofs.Stands.{Stands, stands_append, stands_left, stands_right, expect_found, expect_stands, clash, nonzero, apart, one_of_found, one_of_stands}
use Rattle.format.proofs.Number.{no_digit, argument_found, argument_stands}
use Rattle.format.proofs.Rows.{row_found, row_stands}
use Rattle.format.proofs.Sets.{RowMember, FirstMember, set_found, set_stands}

-- the parts of a line: its section, its number and what stands behind that
abbrev section_of : Line → Section
section_of (row r x) = Rows
section_of (flow e) = Flows
section_of (comm e) = Comms
section_of (claim c) = Claims

abbrev section_word : Section → String
section_word Rows = "[row"
section_word Flows = "[flow"
section_word Comms = "[comm"
section_word Claims = "[claim"

abbrev key_of : Line → ℕ
key_of (row r x) = r
key_of (flow e) = e.key
key_of (comm e) = e.key
key_of (claim c) = c.channel

content_text : Line → Bytes
content_text (row r x) = row_text x
content_text (flow e) = set_text e.members
content_text (comm e) = set_text e.members
content_text (claim c) = ascii (word_text c.word)

parts : (l : Line) → line_text l ≡ ascii (section_word (section_of l)) ++ (argument (key_of l) ++ (ascii " " ++ (content_text l ++ ascii "]\n")))
unfolding line_text content_text
parts (row r x) = refl
parts (flow e) = refl
parts (comm e) = refl
parts (claim c) = refl

-- ---- what is read stands there

-- the sets of a line are not empty
abbrev pub Written : Line → Type 0
Written (row r x) = Unit {0}
Written (flow e) = So (present e.members)
Written (comm e) = So (present e.members)
Written (claim c) = Unit {0}

module _ (s : Bytes) where
  word_found : (at : ℕ) → Found (λ x. Stands (ascii (word_text x.0)) s at x.1) (one_of claim_words s at)
  unfolding claim_words nonzero every ascii word_text
  word_found at =
      one_of_found claim_words (λ x. Stands (ascii (word_text x.0)) s at x.1) s at refl
      ((λ next h. h) & ((λ next h. h) & ((λ next h. h) & ((λ next h. h) & ((λ next h. h) & ((λ next h. h) & nil))))))

  -- the line that was read behind its number
  record Content (section : Section) (n at : ℕ) (l : Line) (next : ℕ) : Type 0 where
    section_is : section_of l ≡ section
    key_is : key_of l ≡ n
    stands : Stands (content_text l) s at next
    written : Written l

  content_found : (section : Section) (n at : ℕ) → Found (λ x. Content section n at x.0 x.1) (read_content section n s at)
  unfolding read_content content_text
  content_found Rows n at = found_bind (row_found s at) λ (x, e) h. found (record { section_is = refl; key_is = refl; stands = h; written = tt })
  content_found Flows n at = found_bind (set_found s at) λ (ms, e) (h, p). found (record { section_is = refl; key_is = refl; stands = h; written = p })
  content_found Comms n at = found_bind (set_found s at) λ (ms, e) (h, p). found (record { section_is = refl; key_is = refl; stands = h; written = p })
  content_found Claims n at = found_bind (word_found at) λ (w, e) h. found (record { section_is = refl; key_is = refl; stands = h; written = tt })

  pub line_found : (at : ℕ) → Found (λ x. Stands (line_text x.0) s at x.1 × Written x.0) (read_line s at)
  unfolding read_line line_words nonzero every ascii
  line_found at =
      found_bind (one_of_found line_words (λ x. Stands (ascii (section_word x.0)) s at x.1) s at refl ((λ next h. h) & ((λ next h. h) & ((λ next h. h) & ((λ next h. h) & nil))))) λ (section, p) h.
      found_bind (argument_found s p) λ (n, q) (b, k).
      found_bind (expect_found (ascii " ") s q refl) λ r t.
      found_bind (content_found section n r) λ (l, e) c.
      found_bind (expect_found (ascii "]\n") s e refl) λ next v.
      found (whole section n l p q r e next h k t c v, c.written)
    where
      whole : (section : Section) (n : ℕ) (l : Line) (p q r e next : ℕ) → Stands (ascii (section_word section)) s at p → Stands (argument n) s p q → Stands (ascii " ") s q r
          → Content section n r l e → Stands (ascii "]\n") s e next → Stands (line_text l) s at next
      whole section n l p q r e next h k t c v =
          rw (parts l, c.section_is, c.key_is)
          (stands_append (ascii (section_word section)) _ s at p next h
          (stands_append (argument n) _ s p q next k (stands_append (ascii " ") _ s q r next t (stands_append (content_text l) (ascii "]\n") s r e next c.stands v))))

-- ---- what stands there is read

abbrev pub SetReadable : List ℕ → Type 0
SetReadable [] = ⊥
SetReadable (m ∷ ms) = FirstMember m × Each RowMember ms

abbrev pub Readable : Line → Type 0
Readable (row r x) = (r < 1000) × Each (λ n. n < 1000) (row_numbers x)
Readable (flow e) = (e.key < 1000) × SetReadable e.members
Readable (comm e) = (e.key < 1000) × SetReadable e.members
Readable (claim c) = (c.channel < 1000) × Unit {0}

key_small : (l : Line) → Readable l → key_of l < 1000
key_small (row r x) h = h.0
key_small (flow e) h = h.0
key_small (comm e) h = h.0
key_small (claim c) h = h.0

section_listed : (t : Section) → Member (section_word t, t) line_words
unfolding line_words
section_listed Rows = here refl
section_listed Flows = there (here refl)
section_listed Comms = there (there (here refl))
section_listed Claims = there (there (there (here refl)))

word_listed : (w : Word) → Member (word_text w, w) claim_words
unfolding claim_words word_text
word_listed OneShot = here refl
word_listed OneToOne = there (here refl)
word_listed FanOut = there (there (here refl))
word_listed FanIn = there (there (there (here refl)))
word_listed Many = there (there (there (there (here refl))))
word_listed OneSync = there (there (there (there (there (here refl)))))

module _ (s : Bytes) where
  any_set_stands : (ms : List ℕ) (at next : ℕ) → SetReadable ms → Stands (set_text ms) s at next → Rattle.format.specs.Read.read_set s at ≡ some (ms, next)
  any_set_stands [] at next b h = absurd b
  any_set_stands (m ∷ ms) at next (b, bs) h = set_stands s m ms at next b bs h

  content_stands : (l : Line) (at next : ℕ) → Readable l → Stands (content_text l) s at next → read_content (section_of l) (key_of l) s at ≡ some (l, next)
  unfolding read_content content_text claim_words apart clash every ascii ◌>>=◌
  content_stands (row r x) at next (b, bs) h = rw (row_stands s at x next bs h)
  content_stands (flow e) at next (b, bs) h = rw (any_set_stands e.members at next bs h)
  content_stands (comm e) at next (b, bs) h = rw (any_set_stands e.members at next bs h)
  content_stands (claim c) at next b h = rw (one_of_stands {w = (word_text c.word, c.word)} {ws = claim_words} s at next refl (word_listed c.word) h)

  pub line_stands : (l : Line) (at next : ℕ) → Readable l → Stands (line_text l) s at next → read_line s at ≡ some (l, next)
  unfolding read_line line_words apart clash every ascii digit_of ◌>>=◌
  line_stands l at next b h =
      let w = ascii (section_word (section_of l)) in
      let a = argument (key_of l) in
      let c = content_text l in
      let h₀ : Stands (w ++ (a ++ (ascii " " ++ (c ++ ascii "]\n")))) s at next = rw (parts l) at h in
      let p = at + length w in
      let h₁ = stands_right w (a ++ (ascii " " ++ (c ++ ascii "]\n"))) s at next h₀ in
      let q = p + length a in
      let h₂ = stands_right a (ascii " " ++ (c ++ ascii "]\n")) s p next h₁ in
      let r = q + 1 in
      let h₃ = stands_right (ascii " ") (c ++ ascii "]\n") s q next h₂ in
      let e = r + length c in
      let h₄ = stands_right c (ascii "]\n") s r next h₃ in
      rw (one_of_stands {w = (section_word (section_of l), section_of l)} {ws = line_words} s at p refl (section_listed (section_of l)) (stands_left w _ s at next h₀))
      (rw (argument_stands s p (key_of l) q (key_small l b) (stands_left a _ s p next h₁) (no_digit 32 _ s q next refl h₂))
      (rw (expect_stands (ascii " ") s q r (stands_left (ascii " ") _ s q next h₂))
      (rw (content_stands l r e b (stands_left c _ s r next h₃))
      (rw (expect_stands (ascii "]\n") s e next h₄)))))
