-- Rows and members as flags, and the members of a set by the bytes of the store.
use Prim.Native.Nat.{ℕ, zero, suc, ◌+◌, ◌≤◌, ◌<◌, max, ◌-◌}
use native.Mathlib.Omega.{arith}
use native.Mathlib.Nat.{add-zero}
use native.Mathlib.Numerals.{add-one}
use native.Mathlib.Decide.{dec_lt}
use mathlib.Core.Bool.{Bool, true, false, not, ◌&&◌, and-true, and-false}
use mathlib.Core.List.{List, [], ◌∷◌}
use Rattle.std.specs.Prelude.{None as none, Some as some}
use mathlib.Core.Path.{◌≡◌, refl, sym, ap, ◌∙◌}
use lib.ListN.{length, set, take, drop, replicate, get_or-eq_default}
use lib.Dec.{eqb}
use borrow.Author.Tests.{eq-eqb}
use Rattle.program.specs.declared.Row.{Row}
use Rattle.program.specs.declared.Form.{Form}
use Rattle.program.specs.declared.Form.TheVariants.{Chan, Send, Recv, Pair, Left, Right, Fun, Spawn, Sync, First, Second, Case, Apply}
use Rattle.program.specs.Test.{pick}
use Rattle.program.specs.Maybe.{◌>>=◌, has}
use Rattle.program.specs.Each.{every}
use Rattle.program.specs.Program.{row_at, bind_of, bind_at, form_at, chan_at, chan_of, is_value, value_row, chan_row, is_chan}
use Rattle.format.specs.Limits.{row_limit}
use Rattle.format.specs.Text.{Bytes, byte_at}
use Rattle.format.specs.Structure.{member_allowed}
use Rattle.calls.specs.Layout.{member_limit, counting, members_from}
use Rattle.calls.proofs.Codec.Sparse.{either}
use Rattle.store.specs.Rows.{store_row, store_program}
use Rattle.store.proofs.Laws.{program_length, row_at_program, zeros_at}
use Rattle.store.proofs.Claims.{part_inside, part_past}
use Rattle.seen.specs.Flags.{flag, Tells}
use Rattle.seen.proofs.Marking.{tells_set}
use Rattle.allowed_lines.specs.Lines.{is_value_row, is_chan_row, marked, member_code, set_code, set_at, entry_marked, line_allowed}

-- ---- flags of the first rows

value_is : (row : Row) → has (bind_of row >>= λ b. some b.form) is_value ≡ is_value_row row
unfolding bind_of ◌>>=◌ has
value_is (Row.Result n) = refl
value_is (Row.Bind b) = refl

chan_form : (n : ℕ) (f : Form) → has (chan_of n f) (λ m. true) ≡ is_chan f
unfolding has
chan_form n Form.Unit = refl
chan_form n Chan = refl
chan_form n (Send c m) = refl
chan_form n (Recv c) = refl
chan_form n (Pair a b) = refl
chan_form n (Left a) = refl
chan_form n (Right a) = refl
chan_form n (Fun f x t) = refl
chan_form n (Spawn t) = refl
chan_form n (Sync e) = refl
chan_form n (First a) = refl
chan_form n (Second a) = refl
chan_form n (Case s l t r u) = refl
chan_form n (Apply f a) = refl

chan_is : (row : Row) → has (bind_of row >>= λ b. chan_of b.name b.form) (λ m. true) ≡ is_chan_row row
unfolding bind_of ◌>>=◌ has
chan_is (Row.Result n) = refl
chan_is (Row.Bind b) = chan_form b.name b.form

module _ (n : ℕ) (s : Bytes) where
  row_same : (j : ℕ) → (j ≡ n → ⊥) → row_at (store_program n s) j ≡ row_at (store_program (n + 1) s) j
  unfolding row_at
  row_same j d = go (dec_lt j n)
    where
      go : Dec (j < n) → row_at (store_program n s) j ≡ row_at (store_program (n + 1) s) j
      go (yes l) = row_at_program n s j l ∙ sym (row_at_program (n + 1) s j (omega arith))
      go (no m) = past n (omega arith) ∙ sym (past (n + 1) (omega arith))
        where
          past : (k : ℕ) → k ≤ j → row_at (store_program k s) j ≡ Row.Result 0
          past k l = get_or-eq_default (store_program k s) (Row.Result 0) (omega (arith, program_length k s))

  row_last : row_at (store_program (n + 1) s) n ≡ store_row s n
  row_last = row_at_program (n + 1) s n (omega arith)

  pub chans_more : (bs : Bytes) {v : ℕ} → n < length bs → Tells (chan_row (store_program n s)) bs → v ≡ flag (is_chan_row (store_row s n))
      → Tells (chan_row (store_program (n + 1) s)) (set bs n v)
  unfolding chan_row chan_at bind_at
  chans_more bs l h e = tells_set _ _ bs n l h (rw row_last (e ∙ ap flag (sym (chan_is (store_row s n))))) (λ j d. rw (row_same j d))

  pub members_more : (bs : Bytes) {v : ℕ} → n + 1 < length bs → Tells (member_allowed (store_program n s)) bs → v ≡ flag (is_value_row (store_row s n))
      → Tells (member_allowed (store_program (n + 1) s)) (set bs (n + 1) v)
  unfolding member_allowed value_row form_at bind_at
  members_more bs l h e = tells_set _ _ bs (n + 1) l h (e ∙ ap flag (sym (last (n + 1) (omega arith)))) same
    where
      last : (k : ℕ) → k ≡ suc n → member_allowed (store_program (n + 1) s) k ≡ is_value_row (store_row s n)
      last k q = rw (q, row_last) (value_is (store_row s n))

      same : (j : ℕ) → (j ≡ n + 1 → ⊥) → member_allowed (store_program n s) j ≡ member_allowed (store_program (n + 1) s) j
      same zero d = refl
      same (suc j) d = rw (row_same j (omega arith))

pub chans_none : (s bs : Bytes) → bs ≡ replicate row_limit 0 → Tells (chan_row (store_program 0 s)) bs
unfolding chan_row chan_at bind_at bind_of ◌>>=◌ has store_program counting row_at
chans_none s bs e = record { at = λ j. rw e (zeros_at row_limit j) }

pub members_none : (s bs : Bytes) → bs ≡ 1 ∷ replicate row_limit 0 → Tells (member_allowed (store_program 0 s)) bs
unfolding member_allowed value_row form_at bind_at bind_of ◌>>=◌ has store_program counting row_at
members_none s bs e = record { at = at }
  where
    at : (j : ℕ) → byte_at bs j ≡ flag (member_allowed (store_program 0 s) j)
    at zero = rw e
    at (suc j) = rw e (zeros_at row_limit j)

-- ---- the code of a set

members_step : (s : Bytes) (i k m : ℕ) → members_from m (take (suc k) (drop i s))
    ≡ pick (eqb (byte_at s i) 0) (members_from (m + 1) (take k (drop (i + 1) s))) (m ∷ members_from (m + 1) (take k (drop (i + 1) s)))
unfolding members_from
members_step s i k m = go (dec_lt i (length s))
  where
    go : Dec (i < length s) → members_from m (take (suc k) (drop i s))
        ≡ pick (eqb (byte_at s i) 0) (members_from (m + 1) (take k (drop (i + 1) s))) (m ∷ members_from (m + 1) (take k (drop (i + 1) s)))
    go (yes l) = rw (part_inside s i k l) (either (eqb (byte_at s i) 0) (λ e. rw (e, members_from, add-one m)) (λ e. rw (e, members_from, add-one m)))
    go (no l) = rw (part_past s i (suc k) (omega arith), part_past s (i + 1) k (omega arith), eq-eqb (byte_at s i) 0 (get_or-eq_default s 0 (omega arith)))

-- the members of the set at a position from member m on
abbrev pub members_on : Bytes → ℕ → ℕ → List ℕ
members_on s at m = members_from m (take (member_limit - m) (drop (at + m) s))

module _ (s members : Bytes) (at : ℕ) where
  pub set_start : set_code members (members_on s at 0) ≡ set_code members (set_at s at)
  unfolding set_at
  set_start = rw add-zero

  pub set_step : (m : ℕ) → m < member_limit
      → set_code members (members_on s at m) ≡ max (member_code (byte_at s (at + m)) (byte_at members m)) (set_code members (members_on s at (m + 1)))
  unfolding set_code
  set_step m l =
      let q : member_limit - m ≡ suc (member_limit - (m + 1)) = omega arith in
      let e : at + m + 1 ≡ at + (m + 1) = omega arith in
      rw (q, members_step s (at + m) (member_limit - (m + 1)) m, e) (either (eqb (byte_at s (at + m)) 0) (λ h. rw h (omega arith)) (λ h. rw h))

  pub set_end : (m : ℕ) → member_limit ≤ m → set_code members (members_on s at m) ≡ 0
  unfolding set_code members_from
  set_end m l = let q : member_limit - m ≡ 0 = omega arith in rw q

-- ---- the code of a line

all_code : (bs : Bytes) (m : ℕ) (ms : List ℕ) → set_code bs (m ∷ ms) ≡ pick (every (marked bs) (m ∷ ms)) 1 2
unfolding set_code every
all_code bs m [] = one (eqb (byte_at bs m) 0)
  where
    one : (b : Bool) → max (pick b 2 1) 0 ≡ pick (not b && true) 1 2
    one true = refl
    one false = refl
all_code bs m (k ∷ ms) = rw (all_code bs k ms) (more (eqb (byte_at bs m) 0) (every (marked bs) (k ∷ ms)))
  where
    more : (b c : Bool) → max (pick b 2 1) (pick c 1 2) ≡ pick (not b && c) 1 2
    more true true = refl
    more true false = refl
    more false true = refl
    more false false = refl

module _ (keys members : Bytes) (n : ℕ) where
  pub allowed_none : (ms : List ℕ) → set_code members ms ≡ 0 → none ≡ line_allowed keys members n ms
  unfolding line_allowed
  allowed_none [] h = refl
  allowed_none (m ∷ ms) h = absurd (above (every (marked members) (m ∷ ms)) (sym (all_code members m ms) ∙ h))
    where
      above : (b : Bool) → ◌≡◌ {A = ℕ} (pick b 1 2) 0 → ⊥
      above true e = omega arith
      above false e = omega arith

  pub allowed_key : (ms : List ℕ) → set_code members ms ≡ 1 → some (marked keys n) ≡ line_allowed keys members n ms
  unfolding set_code line_allowed entry_marked
  allowed_key [] h = absurd (omega arith)
  allowed_key (m ∷ ms) h = rw (passed (every (marked members) (m ∷ ms)) (sym (all_code members m ms) ∙ h), and-true)
    where
      passed : (b : Bool) → ◌≡◌ {A = ℕ} (pick b 1 2) 1 → b ≡ true
      passed true e = refl
      passed false e = absurd (omega arith)

  pub allowed_other : (ms : List ℕ) → (set_code members ms ≡ 0 → ⊥) → (set_code members ms ≡ 1 → ⊥) → some false ≡ line_allowed keys members n ms
  unfolding set_code line_allowed entry_marked
  allowed_other [] h k = absurd (h refl)
  allowed_other (m ∷ ms) h k = rw (failed (every (marked members) (m ∷ ms)) λ e. k (all_code members m ms ∙ e), and-false)
    where
      failed : (b : Bool) → (◌≡◌ {A = ℕ} (pick b 1 2) 1 → ⊥) → b ≡ false
      failed true f = absurd (f refl)
      failed false f = refl
