-- Verdict of a store: what opening it answers, then that of its document.
use Rattle.std.specs.Prelude.{Ok, Err}
use Prim.Native.Nat.{ℕ}
use mathlib.Core.Path.{◌≡◌, refl}
use lib.ListN.{take}
use Rattle.format.specs.declared.Refusal.{Refusal}
use Rattle.format.specs.Text.{Bytes}
use Rattle.calls.specs.declared.VerdictAnswer.{VerdictAnswer}
use Rattle.calls.specs.Layout.{store_size, decode}
use Rattle.calls.specs.Calls.{opened, and_then, no_verdict, verdict_given, verdict_of, verdict}
use Rattle.opening.specs.Opening.{OpenedIs}
use Rattle.opening.proofs.Opening.{refused_is, opens_is}

module _ (store : Bytes) where
  abbrev fixed : Bytes
  fixed = take store_size store

  pub verdict_closed : {r : Refusal} → OpenedIs (opened store) fixed (Err r) → (c : ℕ) → no_verdict r ≡ verdict store c
  unfolding verdict and_then verdict_given
  verdict_closed {r} h c = rw (refused_is fixed (opened store) r h, verdict_given) refl

  pub verdict-opened : (n : ℕ) → OpenedIs (opened store) fixed (Ok n) → (c : ℕ) {a : VerdictAnswer} → a ≡ verdict_given (verdict_of c (decode fixed)) → a ≡ verdict store c
  unfolding verdict and_then
  verdict-opened n h c e = rw (opens_is fixed (opened store) n h).0 e
