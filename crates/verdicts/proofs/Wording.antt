-- What is found at the two ends of a channel, from the marks of its places and of the rows that walks come to, and the words that follow.
use Prim.Native.Nat.{ℕ, ◌<◌, ◌≤◌}
use native.Mathlib.Omega.{arith}
use native.Mathlib.Nat.{add-zero}
use native.Mathlib.Decide.{dec_lt}
use mathlib.Core.Bool.{Bool, true, false, ◌||◌}
use mathlib.Core.List.{map}
use Rattle.std.specs.Prelude.{None as none}
use mathlib.Core.Path.{◌≡◌, refl, sym, ap, ◌∙◌, fun_ext}
use lib.ListN.{length}
use lib.Dec.{eqb}
use Rattle.program.specs.declared.Facts.{Facts}
use Rattle.program.specs.declared.Word.{Word}
use Rattle.program.specs.declared.Word.TheVariants.{OneShot, OneToOne, FanOut, FanIn, Many, OneSync}
use Rattle.program.specs.Maybe.{has, ◌>>=◌}
use Rattle.program.specs.Flow.{Table}
use Rattle.program.specs.Program.{Program, bind_at, bind_of, form_at, sync_at}
use Rattle.program.specs.Walk.{send_place, receive_place}
use Rattle.program.specs.Verdict.{reach, says, reached, in_a_row, rivals, ends, facts, verdict}
use Rattle.program.proofs.Test.{any_same}
use Rattle.format.specs.Limits.{row_limit}
use Rattle.format.specs.Text.{Bytes}
use Rattle.calls.specs.Judging.{verdict_words}
use Rattle.store.specs.Rows.{store_program}
use Rattle.store.proofs.Laws.{program_length}
use Rattle.tables.specs.Tables.{store_flow}
use Rattle.forms.proofs.Forms.{row_past}
use Rattle.grids.specs.Grid.{Shows}
use Rattle.row_lists.specs.Lists.{Lists, of_kind, sync_kind}
use Rattle.row_lists.proofs.OfKind.{sync_none}
use Rattle.row_marks.specs.RowMarks.{on, marked, Marked, NoneMarked}
use Rattle.row_marks.proofs.Marking.{marked_in, marked_is}
use Rattle.place_marks.specs.declared.Side.{Side}
use Rattle.place_marks.specs.declared.Side.TheVariants.{Sends, Receives}
use Rattle.place_marks.specs.Places.{place}
use Rattle.walks.specs.Walks.{comes_to}
use Rattle.verdicts.specs.Words.{word_in, facts_in, no_facts}
use Rattle.verdicts.proofs.Ends.{on_pick, ends_nowhere, none_there}

-- what is found depends on the rows of the program that shared beginnings come to, and on no other
ends_same : (p : Program) (reach : ℕ → ℕ → Bool) (f g places : ℕ → Bool) → ((r : ℕ) → r < length p → f r ≡ g r) → ends p reach f places ≡ ends p reach g places
unfolding ends in_a_row rivals
ends_same p reach f g places e =
    let twice : in_a_row p reach f places ≡ in_a_row p reach g places = any_same (length p) _ _ (λ r l. rw (e r l)) in
    let rival : rivals p reach f places ≡ rivals p reach g places = any_same (length p) _ _ (λ r l. rw (e r l)) in
    rw (twice, rival)

module _ (n : ℕ) (s : Bytes) where
  abbrev p : Program
  p = store_program n s

  abbrev reaches : ℕ → ℕ → Bool
  reaches = reach p (store_flow s)

  -- past the last row there is no place
  sync_past : (r : ℕ) → n ≤ r → sync_at p r ≡ none
  unfolding sync_at form_at bind_at bind_of ◌>>=◌
  sync_past r l = rw (row_past n s r l, bind_of, ◌>>=◌, ◌>>=◌)

  place_past : (side : Side) (c r : ℕ) → n ≤ r → place p (store_flow s) side c r ≡ false
  unfolding place send_place receive_place has
  place_past Sends c r l = rw (sync_past r l)
  place_past Receives c r l = rw (sync_past r l)

  -- the rows that a walk comes to
  comes_is : (grid : Bytes) {marks : Bytes} → n ≤ row_limit → Shows reaches grid → Marked n (comes_to grid) marks → (r : ℕ) → r < n → marked n marks r ≡ reached p reaches r
  unfolding comes_to reached on
  comes_is grid {marks} few shows m r l =
      sym (marked_in n marks r l) ∙ m.rows r l
      ∙ ap (λ (b : Bool). eqb r 0 || b) (rw (rw add-zero at (shows 0 r (omega arith) (omega arith))) (on_pick _))

  pub channel_facts : (c : ℕ) (grid : Bytes) {comes sends receives : Bytes} {f : Facts} → n ≤ row_limit → Shows reaches grid → Marked n (comes_to grid) comes
      → Marked n (place p (store_flow s) Sends c) sends → Marked n (place p (store_flow s) Receives c) receives
      → f ≡ facts p reaches (marked n comes) (marked n sends) (marked n receives) → f ≡ facts_in p (store_flow s) c
  unfolding facts_in facts place
  channel_facts c grid {comes} few shows m a b e =
      let same : (places : ℕ → Bool) → ends p reaches (marked n comes) places ≡ ends p reaches (reached p reaches) places =
      λ places. ends_same p reaches _ _ places λ r l. comes_is grid few shows m r (rw (program_length n s) at l) in
      e ∙ rw (marked_is n a (place_past Sends c), marked_is n b (place_past Receives c), same (send_place p (store_flow s) c), same (receive_place p (store_flow s) c))

-- a channel without places
module _ (n : ℕ) (s : Bytes) (c : ℕ) {sends receives : Bytes} (few : n ≤ row_limit)
    (a : Marked n (place (store_program n s) (store_flow s) Sends c) sends) (b : Marked n (place (store_program n s) (store_flow s) Receives c) receives)
  where
    pub no_places : NoneMarked sends → NoneMarked receives → no_facts ≡ facts_in (store_program n s) (store_flow s) c
    unfolding facts_in facts place
    no_places h k =
        let e : send_place (store_program n s) (store_flow s) c ≡ (λ r. false) = sym (marked_is n a (place_past n s Sends c)) ∙ none_there n sends few h in
        let d : receive_place (store_program n s) (store_flow s) c ≡ (λ r. false) = sym (marked_is n b (place_past n s Receives c)) ∙ none_there n receives few k in
        rw (e, d, ← ends_nowhere (store_program n s) (reach (store_program n s) (store_flow s)) (reached (store_program n s) (reach (store_program n s) (store_flow s))))

-- a program without syncs
module _ (n : ℕ) (s : Bytes) {syncs : Bytes} (h : Lists n (of_kind s sync_kind) syncs) (z : length syncs ≡ 0) where
  none_of : (r : ℕ) → r < n → of_kind s sync_kind r ≡ false
  none_of r l = go (of_kind s sync_kind r) refl
    where
      go : (b : Bool) → of_kind s sync_kind r ≡ b → b ≡ false
      go true e = let (i, k, q) = h.all r l e in absurd (omega (arith, k, z))
      go false e = refl

  no_sync : (r : ℕ) → sync_at (store_program n s) r ≡ none
  no_sync r =
      elim (dec_lt r n) [
        | yes l ↦ sync_none n s r l (none_of r l)
        | no g ↦ sync_past n s r (omega arith)
      ]

  says_nothing : (word : Word) → says word no_facts ≡ true
  unfolding says
  says_nothing OneShot = refl
  says_nothing OneToOne = refl
  says_nothing FanOut = refl
  says_nothing FanIn = refl
  says_nothing Many = refl
  says_nothing OneSync = refl

  pub words_hold : (c : ℕ) (word : Word) → word_in (store_program n s) (store_flow s) c word ≡ true
  unfolding word_in verdict facts send_place receive_place has
  words_hold c word =
      let e : send_place (store_program n s) (store_flow s) c ≡ (λ r. false) = fun_ext λ r. rw (no_sync r) in
      let d : receive_place (store_program n s) (store_flow s) c ≡ (λ r. false) = fun_ext λ r. rw (no_sync r) in
      rw (e, d, ← ends_nowhere (store_program n s) (reach (store_program n s) (store_flow s)) (reached (store_program n s) (reach (store_program n s) (store_flow s)))) (says_nothing word)

-- the words
module _ (p : Program) (flow : Table) (c : ℕ) {f : Facts} (e : f ≡ facts_in p flow c) where
  pub word_is : (word : Word) {b : Bool} → b ≡ says word f → b ≡ word_in p flow c word
  unfolding word_in verdict facts_in
  word_is word q = q ∙ rw e

  pub words_are : map (λ word. says word f) verdict_words ≡ map (word_in p flow c) verdict_words
  unfolding word_in verdict facts_in
  words_are = rw e
