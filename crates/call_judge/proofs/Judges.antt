-- Judge of a store: what opening it answers, then that of its document.
use Rattle.std.specs.Prelude.{Ok, Err}
use Prim.Native.Nat.{ℕ}
use mathlib.Core.Path.{◌≡◌}
use lib.ListN.{take}
use Rattle.format.specs.declared.Refusal.{Refusal}
use Rattle.format.specs.Text.{Bytes}
use Rattle.calls.specs.Answers.{JudgeAnswer}
use Rattle.calls.specs.Layout.{store_size, decode}
use Rattle.calls.specs.Judging.{judge_document}
use Rattle.calls.specs.Calls.{opened, and_then, judge_answered, judge}
use Rattle.opening.specs.Opening.{OpenedIs}
use Rattle.opening.proofs.Opening.{refused_is, opens_is}

module _ (store : Bytes) where
  abbrev fixed : Bytes
  fixed = take store_size store

  pub judge_closed : {r : Refusal} → OpenedIs (opened store) fixed (Err r) → Err r ≡ judge store
  unfolding judge and_then judge_answered
  judge_closed {r} h = rw (refused_is fixed (opened store) r h)

  pub judge-opened : (n : ℕ) → OpenedIs (opened store) fixed (Ok n) → {a : JudgeAnswer} → a ≡ judge_answered (judge_document (decode fixed)) → a ≡ judge store
  unfolding judge and_then
  judge-opened n h e = rw (opens_is fixed (opened store) n h).0 e
