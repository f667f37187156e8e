-- A store of which a name's set was swapped with one that may be there: it is the store that replace leaves, and swapped once more it is as it was.
use Rattle.std.specs.Prelude.{Ok}
use Prim.Native.Nat.{ℕ, ◌+◌, ◌<◌, ◌≤◌}
use native.Mathlib.Omega.{arith}
use mathlib.Core.Bool.{Bool, So}
use mathlib.Core.List.{List}
use mathlib.Core.Path.{◌≡◌, sym, ap, ◌∙◌}
use lib.ListN.{length, take, drop, length-drop}
use lib.Seq.{sets, length-take-le}
use Rattle.program.specs.Program.{Program}
use Rattle.format.specs.Limits.{row_limit}
use Rattle.format.specs.Text.{Bytes}
use Rattle.format.specs.Refusals.{accepted}
use Rattle.format.specs.Document.{Document}
use Rattle.format.specs.WellFormed.{well_formed}
use Rattle.format.proofs.Structure.{orderly_of}
use Rattle.calls.specs.Answers.{LoadAnswer}
use Rattle.calls.specs.Layout.{member_limit, store_size, flow_at, decode}
use Rattle.calls.specs.Canonical.{count_rows}
use Rattle.calls.specs.Calls.{Outcome, opened, counts}
use Rattle.calls.proofs.Patches.{patch, sets_patched, patch_back}
use Rattle.calls.proofs.Codec.{decode-encode}
use Rattle.calls.proofs.Codec.Sparse.{counting-length}
use Rattle.calls.proofs.Codec.Sets.{flags_length}
use Rattle.calls.proofs.Canonical.{rows_decoded}
use Rattle.calls.proofs.Calls.{opened_is, stored_is}
use Rattle.replacement.specs.Replacement.{members_of, with_flow, replace}
use Rattle.replacement.proofs.Replacement.{bound_low, with_well, replace_done, replace_bytes, replace_opens}
use Rattle.opening.proofs.Opening.{opens_is, opens_long}
use Rattle.replacing.specs.Replacing.{Replaceable}

-- a store's rows are as many as those of its document
counted_rows : (s : Bytes) → count_rows row_limit s ≡ length (decode s).rows
counted_rows s = sym (ap (λ (p : Program). length p) (rows_decoded s) ∙ counting-length (count_rows row_limit s) 0 _)

module _ {store : Bytes} {n : ℕ} {unit : Bool} {list set : Bytes} {rows : ℕ} (h : Replaceable store n unit list set rows) where
  abbrev d : Document
  d = decode (take store_size store)

  abbrev ms : List ℕ
  ms = members_of unit list

  abbrev d' : Document
  d' = with_flow n ms d

  opens : opened store ≡ accepted d
  opens = (opens_is (take store_size store) (opened store) rows h.opens).0

  well : So (well_formed d)
  well = (opened_is store d opens).well

  -- the set can be swapped
  pub swap_ready : (n < row_limit) × (store_size ≤ length store) × (length set ≡ member_limit)
  swap_ready = (bound_low d well n h.bound, opens_long store rows h.opens, ap (λ (x : Bytes). length x) h.flags ∙ flags_length ms)

  room : flow_at n + member_limit ≤ length store
  room = let (low, long, size) = swap_ready in omega arith

  module _ {left : Bytes} (q : left ≡ sets store (flow_at n) set) where
    patched : left ≡ patch (flow_at n) set store
    patched = let (low, long, size) = swap_ready in q ∙ sets_patched store (flow_at n) set (omega (arith, room))

    pub left_is : left ≡ (replace store n unit list).bytes
    left_is = patched ∙ ap (λ (x : Bytes). patch (flow_at n) x store) h.flags ∙ sym (replace_bytes store d opens n unit list h.bound h.allowed)

    pub left_opens : opened left ≡ accepted d'
    left_opens = ap opened left_is ∙ replace_opens store d opens n unit list h.bound h.allowed

    pub left_long : store_size ≤ length left
    left_long = (opened_is left d' left_opens).long

    pub left_size : length (take store_size left) ≡ store_size
    left_size = length-take-le store_size left left_long

    pub left_document : decode (take store_size left) ≡ d'
    left_document = ap decode (opened_is left d' left_opens).holds ∙ decode-encode d' (orderly_of d' (with_well d well n h.bound ms h.allowed))

    pub left_rows : rows ≡ length d'.rows
    unfolding with_flow
    left_rows = (opens_is (take store_size store) (opened store) rows h.opens).1 ∙ counted_rows (take store_size store)

    pub left_counted : rows ≡ count_rows row_limit (take store_size left)
    left_counted = left_rows ∙ ap (λ (x : Document). length x.rows) (sym left_document) ∙ sym (counted_rows (take store_size left))

    pub left_answer : (replace store n unit list).answer ≡ Ok (counts d')
    left_answer = ap (λ (o : Outcome LoadAnswer). o.answer) (replace_done store d opens n unit list h.bound h.allowed ∙ stored_is store d')

    -- it can be swapped back
    pub back_ready : {old : Bytes} → old ≡ take member_limit (drop (flow_at n) store) → (n < row_limit) × (store_size ≤ length left) × (length old ≡ member_limit)
    back_ready e = (swap_ready.0, left_long, ap (λ (x : Bytes). length x) e ∙ length-take-le member_limit (drop (flow_at n) store) (omega (arith, room, length-drop (flow_at n) store)))

    pub back : {old : Bytes} → old ≡ take member_limit (drop (flow_at n) store) → sets left (flow_at n) old ≡ store
    back {old} e =
        let (low, long, size) = back_ready e in
        sets_patched left (flow_at n) old (omega arith) ∙ ap (λ (x : Bytes). patch (flow_at n) x left) e ∙ ap (patch (flow_at n) (take member_limit (drop (flow_at n) store))) patched
        ∙ patch_back store set (flow_at n) member_limit swap_ready.2 room
