-- The call: a store that does not open stays, one that opens gets the smallest tables and their counts.
use Rattle.std.specs.Prelude.{Ok, Err}
use Prim.Native.Nat.{ℕ, ◌≤◌}
use native.Mathlib.Omega.{arith}
use mathlib.Core.Path.{◌≡◌, refl, sym, ap, ◌∙◌}
use lib.ListN.{length, take, drop, length-take}
use lib.Seq.{take_at}
use Rattle.format.specs.declared.Refusal.{Refusal}
use Rattle.format.specs.Limits.{row_limit}
use Rattle.format.specs.Text.{Bytes}
use Rattle.format.specs.Refusals.{accepted}
use Rattle.format.specs.Document.{Document}
use Rattle.format.proofs.Structure.{orderly_of}
use Rattle.program.specs.Program.{Program}
use Rattle.calls.specs.declared.Counts.{Counts}
use Rattle.calls.specs.Layout.{store_size, encode, decode}
use Rattle.calls.specs.Canonical.{count_rows}
use Rattle.calls.specs.Calls.{Leaves, opened, refilled, loaded, stored, and_then}
use Rattle.inference.specs.Inference.{smallest_document, infer}
use Rattle.calls.proofs.Codec.{encode-length, decode-encode}
use Rattle.calls.proofs.Calls.{opened_is}
use Rattle.inference.proofs.Inference.{smallest_well}
use Rattle.store.proofs.Laws.{program_length}
use Rattle.opening.specs.Opening.{OpenedIs}
use Rattle.opening.proofs.Opening.{refused_is, opens_is}
use Rattle.send_adds.specs.Sends.{Ready}
use Rattle.smallest.specs.Smallest.{Least}
use Rattle.call_infer.proofs.Stores as stores
use Rattle.line_counts.specs.Counting.{store_counts}
use Rattle.line_counts.proofs.Counting.{own_counts}

same_rows : (d : Document) → (smallest_document d).rows ≡ d.rows
unfolding smallest_document
same_rows d = refl

module _ (store : Bytes) where
  abbrev fixed : Bytes
  fixed = take store_size store

  pub refused_store : (r : Refusal) → OpenedIs (opened store) fixed (Err r) → Leaves (infer store) (Err r) store
  unfolding infer stored and_then
  refused_store r h = rw (refused_is fixed (opened store) r h) (record { answer_is = refl; bytes_are = refl })

  module _ (n : ℕ) (o : OpenedIs (opened store) fixed (Ok n)) where
    opens : (opened store ≡ accepted (decode fixed)) × (n ≡ count_rows row_limit fixed)
    opens = opens_is fixed (opened store) n o

    pub ready_store : Ready n store
    ready_store = stores.ready store (decode fixed) opens.0 n opens.1

    pub long_left : (left : Bytes) → Least n store left → store_size ≤ length left
    long_left left h = omega (arith, h.resets.size, ready_store.size)

    pub size_left : (left : Bytes) → Least n store left → length (take store_size left) ≡ store_size
    size_left left h = let l = long_left left h in simp length-take (omega arith)

    pub left_store : (left : Bytes) (c : Counts) → Least n store left → c ≡ store_counts n (take store_size left) → Leaves (infer store) (Ok c) left
    unfolding infer stored loaded and_then refilled
    left_store left c h e =
        let d : Document = decode fixed in
        let d' = smallest_document d in
        let w = smallest_well d (opened_is store d opens.0).well in
        let b = stores.bytes_left store d opens.0 n opens.1 left h in
        let back : decode (take store_size left) ≡ d' = ap decode (ap (take store_size) b ∙ take_at (encode d') (drop store_size store) store_size (encode-length d' (orderly_of d' w)))
        ∙ decode-encode d' (orderly_of d' w) in
        let rows : n ≡ length d'.rows = sym (program_length n store) ∙ ap (λ (p : Program). length p) (stores.program_is store d opens.0 n opens.1 ∙ sym (same_rows d)) in
        rw opens.0 (record { answer_is = ap Ok (e ∙ own_counts n (take store_size left) d' rows back); bytes_are = b })
