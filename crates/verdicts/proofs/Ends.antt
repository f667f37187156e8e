-- What the bytes find of the walks that come to marked places is what the definitions say.
use Prim.Native.Nat.{ℕ, ◌+◌, ◌*◌, ◌<◌, ◌≤◌}
use native.Mathlib.Omega.{arith}
use native.Mathlib.Decide.{dec_lt}
use mathlib.Core.Bool.{Bool, true, false, ◌&&◌, ◌||◌, and_comm, and-false}
use Rattle.std.specs.Prelude.{Option, None as none, Some as some}
use mathlib.Core.Path.{◌≡◌, refl, sym, ap, ap₂, ◌∙◌, fun_ext}
use lib.ListN.{length}
use lib.Dec.{ltb}
use borrow.Author.Tests.{lt-ltb, le-ltb}
use Rattle.program.specs.Test.{pick, any}
use Rattle.program.specs.Maybe.{has}
use Rattle.program.specs.Program.{Program, fork_at}
use Rattle.program.specs.Verdict.{reach, leads, in_a_row, rivals, ends}
use Rattle.program.proofs.Decides.Closure.{closed_past}
use Rattle.program.proofs.Test.{any_same}
use Rattle.format.specs.Limits.{row_limit}
use Rattle.format.specs.Text.{Bytes}
use Rattle.store.specs.Rows.{store_program}
use Rattle.store.proofs.Laws.{program_length}
use Rattle.tables.specs.Tables.{store_flow}
use Rattle.grids.specs.Grid.{Shows}
use Rattle.row_marks.specs.RowMarks.{on, marked, Marked, three_meet, NoneMarked}
use Rattle.row_marks.proofs.Marking.{marked_in, marked_past}
use Rattle.place_marks.proofs.Placing.{any_none}
use Rattle.walks.specs.Walks.{ahead_of, leads_on, forks_on, rivals_on}

pub on_pick : (b : Bool) → ltb 0 (pick b 1 0) ≡ b
on_pick true = refl
on_pick false = refl

or_none : (b : Bool) → b ≡ false → (c : Bool) → c ≡ false → b || c ≡ false
or_none b e c d = rw (e, d)

module _ (n : ℕ) (s : Bytes) (few : n ≤ row_limit) (grid comes places : Bytes) {ahead : Bytes}
    (shows : Shows (reach (store_program n s) (store_flow s)) grid)
    (leading : Marked n (ahead_of n grid places) ahead)
  where
    abbrev p : Program
    p = store_program n s

    abbrev reaches : ℕ → ℕ → Bool
    reaches = reach p (store_flow s)

    abbrev at : ℕ → Bool
    at = marked n places

    pub pair_on : (r k : ℕ) → r < n → k < n → on grid (k * row_limit + r) ≡ reaches r k
    unfolding on
    pair_on r k l m = rw (shows r k (omega arith) (omega arith)) (on_pick _)

    -- past the last row nothing is reached
    reach_past : (r k : ℕ) → n ≤ r → reaches r k ≡ false
    unfolding reach
    reach_past r k l = closed_past (length p) _ r k (rw (program_length n s) l)

    ahead_is : (r : ℕ) → r < n → on ahead r ≡ any (length p) (λ k. reaches r k && at k)
    unfolding ahead_of
    ahead_is r l =
        leading.rows r l
        ∙ rw (program_length n s) (any_same n _ _ λ k m. ap₂ ◌&&◌ (marked_in n places k m) (pair_on r k l m) ∙ and_comm (at k) (reaches r k))

    twice_is : three_meet n comes places ahead ≡ in_a_row p reaches (marked n comes) at
    unfolding three_meet in_a_row
    twice_is =
        any_same n _ _ (λ r l. ap₂ ◌&&◌ (marked_in n comes r l) (ap₂ ◌&&◌ (marked_in n places r l) (ahead_is r l)))
        ∙ rw (program_length n s)

    leads_is : (r : ℕ) → leads_on n places ahead r ≡ leads p reaches at r
    unfolding leads_on leads
    leads_is r =
        elim (dec_lt r n) [
          | yes l ↦ rw (lt-ltb r n l) (ap₂ ◌||◌ (marked_in n places r l) (ahead_is r l))
          | no g ↦
              rw (le-ltb r n (omega arith))
              (sym
              (or_none _ (marked_past n places r (omega arith)) _
              (any_same (length p) _ (λ k. false) (λ k l. ap (λ b. b && at k) (reach_past r k (omega arith))) ∙ any_none (length p))))
        ]

    forks_is : (o : Option (ℕ × ℕ))
        → has o (λ (t, rest). leads_on n places ahead t && leads_on n places ahead rest) ≡ has o (λ (t, rest). leads p reaches at t && leads p reaches at rest)
    unfolding has
    forks_is none = refl
    forks_is (some (t, rest)) = ap₂ ◌&&◌ (leads_is t) (leads_is rest)

    rivals_are : rivals_on n p comes places ahead ≡ rivals p reaches (marked n comes) at
    unfolding rivals_on forks_on rivals
    rivals_are = any_same n _ _ (λ q l. ap₂ ◌&&◌ (marked_in n comes q l) (forks_is (fork_at p q))) ∙ rw (program_length n s)

    pub ends_are : {twice rival : Bool} → twice ≡ three_meet n comes places ahead → rival ≡ rivals_on n p comes places ahead
        → record { twice = twice; rivals = rival } ≡ ends p reaches (marked n comes) at
    unfolding ends
    ends_are e f = rw (e ∙ twice_is, f ∙ rivals_are)

-- ---- no places

-- no walk comes to a place where there is none
module _ (p : Program) (reaches : ℕ → ℕ → Bool) (comes : ℕ → Bool) where
  abbrev nowhere : ℕ → Bool
  nowhere r = false

  leads-nowhere : (r : ℕ) → leads p reaches nowhere r ≡ false
  unfolding leads
  leads-nowhere r = any_same (length p) _ (λ k. false) (λ k l. and-false (reaches r k)) ∙ any_none (length p)

  forks_nowhere : (o : Option (ℕ × ℕ)) → has o (λ (t, rest). leads p reaches nowhere t && leads p reaches nowhere rest) ≡ false
  unfolding has
  forks_nowhere none = refl
  forks_nowhere (some (t, rest)) = rw (leads-nowhere t)

  pub ends_nowhere : record { twice = false; rivals = false } ≡ ends p reaches comes nowhere
  unfolding ends in_a_row rivals
  ends_nowhere =
      let twice : in_a_row p reaches comes nowhere ≡ false = any_same (length p) _ (λ r. false) (λ r l. and-false (comes r)) ∙ any_none (length p) in
      let rival : rivals p reaches comes nowhere ≡ false =
      any_same (length p) _ (λ q. false) (λ q l. ap (λ b. comes q && b) (forks_nowhere (fork_at p q)) ∙ and-false (comes q)) ∙ any_none (length p) in
      rw (twice, rival)

pub none_there : (n : ℕ) (places : Bytes) → n ≤ row_limit → NoneMarked places → marked n places ≡ (λ r. false)
unfolding NoneMarked marked
none_there n places few h =
    fun_ext λ r.
    elim (dec_lt r n) [
      | yes l ↦ rw (h r (omega arith), and-false)
      | no g ↦ rw (le-ltb r n (omega arith))
    ]
