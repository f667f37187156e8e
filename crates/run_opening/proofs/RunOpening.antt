-- Opening a run: what its tests tell, one after the other.
use Rattle.std.specs.Prelude.{Ok, Err}
use Prim.Native.Nat.{ℕ, ◌≤◌}
use native.Mathlib.Omega.{arith}
use mathlib.Core.Bool.{Bool, true, false, or-true}
use mathlib.Core.List.{List}
use mathlib.Core.Path.{◌≡◌, refl, sym, ◌∙◌, ap, subst}
use lib.ListN.{length, take}
use lib.Seq.{length-take-le}
use lib.Dec.{eqb}
use borrow.Author.Tests.{eq-eqb, ne_eqb}
use Rattle.program.specs.Program.{Program}
use Rattle.format.specs.declared.Refusal.{Refusal}
use Rattle.format.specs.declared.Reason.TheVariants.{StoreTooShort, StoreEmpty, StoreUnsound}
use Rattle.format.specs.Limits.{row_limit}
use Rattle.format.specs.Refusals.{refusal, Result, refused, accepted}
use Rattle.format.specs.Text.{Bytes}
use Rattle.format.specs.Document.{Document}
use Rattle.calls.specs.Calls.{is_empty, unsound, opened_fixed, opened}
use Rattle.calls.specs.Canonical.{count_rows}
use Rattle.calls.specs.Layout.{store_size, decode}
use Rattle.store.specs.Rows.{store_program}
use Rattle.opening.specs.Opening.{Opened}
use Rattle.opening.specs.Opening.{OpenedIs}
use Rattle.opening.proofs.Opening.{refused_is, opens_is}
use Rattle.machine.specs.declared.ThreadRecord.{ThreadRecord}
use Rattle.machine.specs.Machine.{thread_limit}
use Rattle.run_memory.specs.declared.InUse.{InUse}
use Rattle.run_memory.specs.RunMemory.{in_use, sound_run}
use Rattle.run_calls.specs.RunCalls.{too_short, not_begun, run_opened}
use Rattle.run_calls.proofs.Opened.{fixed_told, long_opened, long_told, opened_told, is_lent, is_limited}
use Rattle.store.proofs.Document.{rows_decode}
use Rattle.run_opening.specs.RunOpening.{RunOpenedIs}

module _ (store run : Bytes) (lent : ℕ) (ts : List ThreadRecord) where
  abbrev fixed : Bytes
  fixed = take store_size store

  abbrev Answers : Opened → Type 0
  Answers o = RunOpenedIs (run_opened store run lent ts) fixed run ts o

  pub short_refused : too_short store run lent ≡ true → Answers (Err (refusal StoreTooShort 0))
  unfolding run_opened
  short_refused e = rw e refl

  module _ (long : too_short store run lent ≡ false) where
    -- a store that is long enough
    fixed-opened : opened store ≡ opened_fixed fixed
    fixed-opened = long_opened store (long_told store run lent long).store_long

    pub not_begun_refused : (n : InUse) → n ≡ in_use run → n.threads ≡ 0 → Answers (Err (refusal StoreEmpty 0))
    unfolding run_opened not_begun
    not_begun_refused n e z =
        let q : eqb (in_use run).threads 0 ≡ true = eq-eqb (in_use run).threads 0 (sym (ap (λ (n : InUse). n.threads) e) ∙ z) in
        rw (long, q, or-true (is_empty fixed)) refl

    module _ (n : InUse) (e : n ≡ in_use run) (z : n.threads ≡ 0 → ⊥) where
      begun : not_begun run ≡ false
      unfolding not_begun
      begun = ne_eqb (in_use run).threads 0 (λ q. z (ap (λ (n : InUse). n.threads) e ∙ q))

      pub store_refused : (r : Refusal) → OpenedIs (opened store) fixed (Err r) → Answers (Err r)
      unfolding run_opened opened_fixed
      store_refused r h = go (is_empty fixed) (unsound fixed) refl refl
        where
          is : opened_fixed fixed ≡ refused r
          is = sym fixed-opened ∙ refused_is fixed (opened store) r h

          same : {q : Refusal} → ◌≡◌ {A = Result Document} (refused q) (refused r) → r ≡ q
          same e = cc

          go : (a b : Bool) → is_empty fixed ≡ a → unsound fixed ≡ b → Answers (Err r)
          go true b p q = let f : ◌≡◌ {A = Result Document} (refused (refusal StoreEmpty 0)) (refused r) = (rw (p, opened_fixed) at is) in rw (long, p, run_opened) (ap Err (same f))
          go false true p q = let f : ◌≡◌ {A = Result Document} (refused (refusal StoreUnsound 0)) (refused r) = (rw (p, q, opened_fixed) at is) in rw (long, p, begun, q, run_opened) (ap Err (same f))
          go false false p q = let f = rw (p, q, opened_fixed) at is in let z : ◌≡◌ {A = ℕ} 0 1 = cc in absurd (omega arith)

      module _ (rows : ℕ) (h : OpenedIs (opened store) fixed (Ok rows)) where
        count : rows ≡ count_rows row_limit fixed
        count = (opens_is fixed (opened store) rows h).1

        program : (decode fixed).rows ≡ store_program rows fixed
        program = rows_decode fixed rows count

        passes : (is_empty fixed ≡ false) × (unsound fixed ≡ false) × (decode fixed ≡ decode fixed)
        passes = fixed_told fixed (decode fixed) (sym fixed-opened ∙ (opens_is fixed (opened store) rows h).0)

        pub run_refused : sound_run (store_program rows fixed) run ts ≡ false → Answers (Err (refusal StoreUnsound 0))
        unfolding run_opened
        run_refused s = let t : sound_run (decode fixed).rows run ts ≡ false = ap (λ (p : Program). sound_run p run ts) program ∙ s in rw (long, passes.0, begun, passes.1, t) refl

        pub run_opens : sound_run (store_program rows fixed) run ts ≡ true → thread_limit ≤ length ts → Answers (Ok rows)
        unfolding run_opened
        run_opens s l =
            let t : sound_run (decode fixed).rows run ts ≡ true = ap (λ (p : Program). sound_run p run ts) program ∙ s in
            let opened : run_opened store run lent ts ≡ accepted (decode fixed).rows = rw (long, passes.0, begun, passes.1, t) in
            let told = opened_told store run lent ts (decode fixed).rows opened in
            subst (λ (x : Result Program). RunOpenedIs x fixed run ts (Ok rows)) (sym opened) (
              rows,
              refl,
              record {
                program_is = program;
                size = length-take-le store_size store told.long.store_long;
                lends = is_lent store run lent ts (decode fixed).rows told l;
                limits = is_limited store run lent ts (decode fixed).rows told;
              },
            )
