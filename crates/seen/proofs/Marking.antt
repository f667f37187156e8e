-- Flags as numbers, and marks: what one number more changes, and numbers one after the other.
use Prim.Native.Nat.{ℕ, ◌+◌, ◌<◌}
use native.Mathlib.Omega.{arith}
use native.Mathlib.Decide.{ℕ_discrete}
use mathlib.Core.Bool.{Bool, true, false, not, ◌||◌, or_assoc, or-true, or-false}
use mathlib.Core.List.{List, [], ◌∷◌, ◌++◌, append_assoc, append-nil}
use mathlib.Core.Path.{◌≡◌, refl, ap, ◌∙◌}
use lib.ListN.{length, get_or, take, set, replicate, length-set, length-replicate}
use lib.Seq.{get_or-set_same, get_or-set_other}
use lib.Dec.{eqb}
use borrow.Author.Tests.{ne_eqb}
use Rattle.std.proofs.lemmas.List.{take_more}
use Rattle.program.specs.Each.{elem}
use Rattle.program.proofs.Test.{eqb_same}
use Rattle.program.proofs.Each.{elem-append}
use Rattle.format.specs.Text.{Bytes, byte_at}
use Rattle.format.specs.Structure.{bound_earlier}
use Rattle.seen.specs.Flags.{flag, Tells}
use Rattle.seen.specs.Seen.{number_count, Marks, Adds}
use Rattle.store.proofs.Laws.{zeros_at}

-- ---- flags

pub flag_set : (b : Bool) → (flag b ≡ 0 → ⊥) → b ≡ true
flag_set true h = refl
flag_set false h = absurd (h refl)

pub flag_clear : (b : Bool) → flag b ≡ 0 → b ≡ false
flag_clear true h = absurd (omega arith)
flag_clear false h = refl

-- ---- numbers of a list, and numbers that were seen earlier

-- the first of a list may stand after others
elem_moved : (n x : ℕ) (xs ys : List ℕ) → elem n (x ∷ (xs ++ ys)) ≡ elem n (xs ++ (x ∷ ys))
unfolding elem
elem_moved n x xs ys = rw (elem-append n xs ys, elem-append n xs (x ∷ ys)) (swapped (eqb n x) (elem n xs) (elem n ys))
  where
    swapped : (a b c : Bool) → (a || (b || c)) ≡ (b || (a || c))
    swapped true true c = refl
    swapped true false c = refl
    swapped false b c = refl

bound_same : (xs ys ns : List ℕ) → ((n : ℕ) → elem n xs ≡ elem n ys) → bound_earlier xs ns ≡ bound_earlier ys ns
unfolding bound_earlier elem
bound_same xs ys [] h = refl
bound_same xs ys (n ∷ ns) h = rw (h n, bound_same (n ∷ xs) (n ∷ ys) ns (λ m. ap (λ (b : Bool). eqb m n || b) (h m)))

bound_append : (xs ns ms : List ℕ) → bound_earlier xs (ns ++ ms) ≡ (bound_earlier xs ns || bound_earlier (xs ++ ns) ms)
unfolding bound_earlier
bound_append xs [] ms = rw append-nil
bound_append xs (n ∷ ns) ms =
    rw (bound_append (n ∷ xs) ns ms, bound_same (n ∷ (xs ++ ns)) (xs ++ (n ∷ ns)) ms (λ m. elem_moved m n xs ns), or_assoc)

-- ---- marks

-- one flag more, where the tests differ at its number alone
pub tells_set : (f g : ℕ → Bool) (bs : Bytes) (i : ℕ) {v : ℕ} → i < length bs → Tells f bs → v ≡ flag (g i) → ((j : ℕ) → (j ≡ i → ⊥) → f j ≡ g j) → Tells g (set bs i v)
tells_set f g bs i {v} l h e same = record { at = λ j. go j (ℕ_discrete j i) }
  where
    go : (j : ℕ) → Dec (j ≡ i) → byte_at (set bs i v) j ≡ flag (g j)
    go j (yes q) = rw (q, get_or-set_same bs i v 0 l) e
    go j (no d) = get_or-set_other bs i j v 0 d ∙ h.at j ∙ ap flag (same j d)

pub marks_none : (marks : Bytes) → marks ≡ replicate number_count 0 → Marks [] marks
unfolding elem
marks_none marks e =
    record {
      size = ap length e ∙ length-replicate {A = ℕ} number_count 0;
      tells = record { at = λ n. ap (λ (bs : Bytes). byte_at bs n) e ∙ zeros_at number_count n };
    }

marks_one : (marks : Bytes) (xs : List ℕ) (n : ℕ) → n < number_count → Marks xs marks → Marks (xs ++ (n ∷ [])) (set marks n 1)
unfolding elem
marks_one marks xs n l h =
    record {
      size = simp length-set h.size;
      tells = tells_set _ _ marks n (omega (arith, h.size)) h.tells (rw (elem-append, eqb_same n, or-true)) (λ j d. rw (elem-append, ne_eqb j n d, or-false));
    }

-- ---- numbers one after the other

pub adds_none : (a : Bytes) → Adds a [] a false
unfolding bound_earlier
adds_none a = record { marks = λ xs h. rw append-nil h; again = λ xs h. refl }

pub adds_one : (a : Bytes) (n : ℕ) {again : Bool} → n < number_count → again ≡ not (eqb (byte_at a n) 0) → Adds a (n ∷ []) (set a n 1) again
unfolding bound_earlier
adds_one a n l e = record { marks = λ xs h. marks_one a xs n l h; again = λ xs h. rw (e, h.tells.at n) (is (elem n xs)) }
  where
    is : (b : Bool) → not (eqb (flag b) 0) ≡ (b || false)
    is true = refl
    is false = refl

pub adds_then : {a b c : Bytes} {ns ms : List ℕ} {i j : Bool} → Adds a ns b i → Adds b ms c j → Adds a (ns ++ ms) c (i || j)
adds_then {a} {b} {c} {ns} {ms} h k =
    record {
      marks = λ xs m. rw (← append_assoc) (k.marks (xs ++ ns) (h.marks xs m));
      again = λ xs m. rw (bound_append xs ns ms, ← (h.again xs m), ← (k.again (xs ++ ns) (h.marks xs m))) refl;
    }

-- one number more of a list
pub adds_more : {a b c : Bytes} (ns : List ℕ) (k : ℕ) {i j : Bool} → k < length ns → Adds a (take k ns) b i → Adds b (get_or ns k 0 ∷ []) c j → Adds a (take (k + 1) ns) c (i || j)
adds_more ns k l h m = rw (take_more ns k 0 l) (adds_then h m)
