-- Writing a store that opens: its text, where it fits the output.
use Rattle.std.specs.Prelude.{Ok, Err}
use Prim.Native.Nat.{ℕ, ◌+◌, ◌≤◌, ◌<◌}
use native.Mathlib.Omega.{arith}
use mathlib.Core.Bool.{true, false}
use mathlib.Core.List.{◌++◌}
use mathlib.Core.Path.{◌≡◌, refl, sym, ap, ◌∙◌}
use lib.ListN.{length, take, drop, length-take}
use lib.Seq.{sets, sets-eq}
use lib.Dec.{ltb}
use borrow.Author.Tests.{lt-ltb, le-ltb}
use Rattle.format.specs.declared.Refusal.{Refusal}
use Rattle.format.specs.declared.Reason.TheVariants.{OutputTooShort}
use Rattle.format.specs.Text.{Bytes}
use Rattle.format.specs.Refusals.{refusal, accepted}
use Rattle.format.specs.Document.{Document}
use Rattle.format.specs.Print.{document_text}
use Rattle.calls.specs.Layout.{store_size, decode}
use Rattle.calls.specs.Calls.{Leaves, opened, and_then, written, write}
use Rattle.write_bytes.specs.Write.{Room, Wrote}
use Rattle.store.specs.Document.{store_document}
use Rattle.store.proofs.Document.{document_is}
use Rattle.opening.specs.Opening.{OpenedIs}
use Rattle.opening.proofs.Opening.{refused_is, opens_is}

-- a text that fits, written at the head of the output
at_head : (text out : Bytes) → length text ≤ length out → sets out 0 text ≡ text ++ drop (length text) out
at_head text out l =
    let q : 0 + length text ≡ length text = omega arith in
    sets-eq text out 0 (omega (arith, l)) ∙ ap (λ (k : ℕ). text ++ drop k out) q

-- a text that is not longer than the output has room
pub text_room : {text out : Bytes} {n : ℕ} → n ≡ length text → n ≤ length out → Room out 0 text
text_room e l = record { room = omega (arith, e, l) }

module _ (store out : Bytes) where
  abbrev fixed : Bytes
  fixed = take store_size store

  abbrev text : ℕ → Bytes
  text n = document_text (store_document n fixed)

  pub refused_store : (r : Refusal) → OpenedIs (opened store) fixed (Err r) → Leaves (write store out) (Err r) out
  unfolding write and_then written
  refused_store r h = rw (refused_is fixed (opened store) r h) (record { answer_is = refl; bytes_are = refl })

  opens_to : (n : ℕ) → OpenedIs (opened store) fixed (Ok n) → (d : Document) × (opened store ≡ accepted d) × (document_text d ≡ text n)
  opens_to n h = let (e, same) = opens_is fixed (opened store) n h in (decode fixed, e, ap document_text (sym (document_is n fixed (simp length-take (omega arith)) same)))

  pub no_room : (n m : ℕ) → OpenedIs (opened store) fixed (Ok n) → m ≡ length (text n) → length out < m → Leaves (write store out) (Err (refusal OutputTooShort 0)) out
  unfolding write and_then written
  no_room n m h e l =
      let (d, o, t) = opens_to n h in
      let q : ltb (length out) (length (document_text d)) ≡ true = rw (t, ← e) (lt-ltb (length out) m l) in
      rw (o, q, written) (record { answer_is = refl; bytes_are = refl })

  pub whole_text : (n m next : ℕ) (left : Bytes) → OpenedIs (opened store) fixed (Ok n) → m ≡ length (text n) → m ≤ length out → Wrote out 0 (text n) next left
      → Leaves (write store out) (Ok m) left
  unfolding write and_then written
  whole_text n m next left h e l w =
      let (d, o, t) = opens_to n h in
      let q : ltb (length out) (length (document_text d)) ≡ false = rw (t, ← e) (le-ltb (length out) m l) in
      rw (o, q, written) (record { answer_is = ap Ok (e ∙ ap length (sym t)); bytes_are = w.left_is ∙ rw (← t) (at_head (document_text d) out (rw (t, ← e) l)) })
