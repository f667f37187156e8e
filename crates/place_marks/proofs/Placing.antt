-- The places of a channel, from the bytes of the sets and lists of rows.
use Prim.Native.Nat.{ℕ, zero, suc, ◌+◌, ◌*◌, ◌<◌, ◌≤◌}
use native.Mathlib.Omega.{arith}
use native.Mathlib.Decide.{ℕ_discrete as dec_eq}
use native.Mathlib.Numerals.{add-one}
use mathlib.Core.Bool.{Bool, true, false, ◌&&◌, So, and_comm}
use mathlib.Core.Path.{◌≡◌, refl, sym, ap, ◌∙◌}
use Rattle.std.specs.Prelude.{None as none, Some as some}
use lib.ListN.{length, set, replicate, length-set, length-replicate}
use lib.Seq.{get_or-set_same, get_or-set_other}
use lib.Dec.{ltb}
use borrow.Author.Tests.{le-leb, lt-leb, lt-ltb}
use Rattle.program.specs.Test.{any}
use Rattle.program.specs.Maybe.{has}
use Rattle.program.specs.Program.{Program, sync_at}
use Rattle.program.specs.Flow.{Table, row}
use Rattle.program.specs.Walk.{send_place, receive_place}
use Rattle.program.proofs.Test.{any_same, any_intro}
use Rattle.format.specs.Limits.{row_limit}
use Rattle.format.specs.Text.{Bytes, byte_at}
use Rattle.format.specs.Document.{member}
use Rattle.calls.specs.Layout.{member_limit, rows_size, flow_at}
use Rattle.store.specs.Rows.{store_program}
use Rattle.store.proofs.Laws.{program_length, zeros_at}
use Rattle.tables.specs.Tables.{flag_at, flow_flag, store_flow}
use Rattle.row_lists.specs.Lists.{Lists, of_kind}
use Rattle.row_lists.proofs.Listing.{any_listed, one_listed, among, among_here, among_other}
use Rattle.row_lists.proofs.OfKind.{send_none, recv_none, sync_none}
use Rattle.place_marks.specs.declared.Side.{Side}
use Rattle.place_marks.specs.declared.Side.TheVariants.{Sends, Receives}
use Rattle.row_marks.specs.RowMarks.{on, Marked}
use Rattle.place_marks.specs.Places.{kind_on, event_on, place, one_in}

pub any_none : (n : ℕ) → any n (λ i. false) ≡ false
unfolding any
any_none zero = refl
any_none (suc n) = any_none n

-- ---- the rows of a side

-- a row of another kind is no event
pub event_kind : (n : ℕ) (s : Bytes) (side : Side) (c q : ℕ) → q < n → of_kind s (kind_on side) q ≡ false → event_on (store_program n s) (store_flow s) side c q ≡ false
unfolding event_on kind_on has
event_kind n s Sends c q l h = rw (send_none n s q l h)
event_kind n s Receives c q l h = rw (recv_none n s q l h)

-- so an event has the kind of its side
pub kind_of_event : (n : ℕ) (s : Bytes) (side : Side) (c q : ℕ) → q < n → So (event_on (store_program n s) (store_flow s) side c q) → So (of_kind s (kind_on side) q)
kind_of_event n s side c q l h = go (of_kind s (kind_on side) q) refl
  where
    go : (t : Bool) → of_kind s (kind_on side) q ≡ t → So t
    go true e = refl
    go false e = sym (event_kind n s side c q l e) ∙ h

-- ---- one of a list in a set

module _ (s : Bytes) (at : ℕ) (list : Bytes) where
  abbrev one_of : ℕ → Bool
  one_of i = any i λ j. on s (at + byte_at list j)

  module _ (i x : ℕ) (d : x ≡ byte_at s (at + byte_at list i)) where
    pub one_more : x ≤ 0 → one_of i ≡ false → one_of (i + 1) ≡ false
    unfolding any on
    one_more z h =
        let q : byte_at s (at + byte_at list i) ≡ 0 = omega (arith, d, z) in
        rw (add-one i, q) h

    pub one_here : i < length list → 0 < x → true ≡ one_in s at list
    unfolding one_in on
    one_here l h = sym (any_intro (λ j. on s (at + byte_at list j)) i l (rw (← d) (lt-ltb 0 x h)))

  pub one_end : (i : ℕ) → i ≡ length list → one_of i ≡ false → false ≡ one_in s at list
  unfolding one_in
  one_end i e h = sym (rw e at h)

-- ---- places

-- a place by the events of its side
abbrev place_by : Program → Table → (ℕ → Bool) → ℕ → Bool
place_by p flow f r = has (sync_at p r) λ e. any (length p) λ q. flow e (row q) && f q

place_by_lem : (p : Program) (flow : Table) (side : Side) (c r : ℕ) → place p flow side c r ≡ place_by p flow (event_on p flow side c) r
unfolding place event_on send_place receive_place
place_by_lem p flow Sends c r = refl
place_by_lem p flow Receives c r = refl

module _ (n : ℕ) (s : Bytes) (side : Side) (c r : ℕ) where
  pub place_none : sync_at (store_program n s) r ≡ none → place (store_program n s) (store_flow s) side c r ≡ false
  unfolding has
  place_none e = place_by_lem (store_program n s) (store_flow s) side c r ∙ rw e

  -- a name past the last has no set
  pub place_past : {e : ℕ} → sync_at (store_program n s) r ≡ some e → row_limit ≤ e → place (store_program n s) (store_flow s) side c r ≡ false
  unfolding has store_flow flow_flag flag_at
  place_past {e} q l = place_by_lem (store_program n s) (store_flow s) side c r ∙ rw (q, le-leb row_limit e l) (any_none (length (store_program n s)))

  -- a row of a set by its byte
  row_byte_lem : (e k : ℕ) → e < row_limit → k < row_limit → on s (rows_size + e * member_limit + 1 + k) ≡ store_flow s e (row k)
  unfolding on store_flow flow_flag flag_at member
  row_byte_lem e k l m =
      let q : rows_size + e * member_limit + 1 + k ≡ flow_at e + suc k = omega arith in
      rw (lt-leb row_limit e l, lt-leb member_limit (suc k) (omega arith), q)

  pub place_is : {e : ℕ} (events : Bytes) → n ≤ row_limit → sync_at (store_program n s) r ≡ some e → e < row_limit → Lists n (event_on (store_program n s) (store_flow s) side c) events
      → one_in s (rows_size + e * member_limit + 1) events ≡ place (store_program n s) (store_flow s) side c r
  unfolding one_in has
  place_is {e} events few q l h =
      any_listed events h (λ k. on s (rows_size + e * member_limit + 1 + k))
      ∙ any_same n _ _ (λ k m. ap (λ b. event_on (store_program n s) (store_flow s) side c k && b) (row_byte_lem e k l (omega arith)) ∙ and_comm (event_on (store_program n s) (store_flow s) side c k) _)
      ∙ sym (place_by_lem (store_program n s) (store_flow s) side c r ∙ rw (q, program_length n s))

-- ---- the marks of the places, sync by sync

-- of the rows in a list, those of which the test holds are marked, and no others
pub record MarkedOf (n : ℕ) (list : Bytes) (i : ℕ) (f : ℕ → Bool) (marks : Bytes) : Type 0 where
  pub size : length marks ≡ row_limit
  pub rows : (q : ℕ) → q < n → on marks q ≡ among list i q && f q

pub of_none : {n : ℕ} (list : Bytes) (f : ℕ → Bool) → MarkedOf n list 0 f (replicate row_limit 0)
unfolding any on
of_none list f = record { size = length-replicate {A = ℕ} row_limit 0; rows = λ q l. rw (zeros_at row_limit q) }

pub of_more : {n : ℕ} (list : Bytes) (i v : ℕ) {f : ℕ → Bool} {marks : Bytes} {r : ℕ} → r ≡ byte_at list i → r < row_limit → ltb 0 v ≡ f r → MarkedOf n list i f marks
    → MarkedOf n list (i + 1) f (set marks r v)
unfolding on
of_more list i v {f} {marks} {r} e l t h =
    record {
      size = simp length-set h.size;
      rows = λ q k. elim (dec_eq q r) [
        | yes d ↦ rw (d, get_or-set_same marks r v 0 (omega (arith, h.size)), among_here list i r (sym e)) t
        | no d ↦ rw (get_or-set_other marks r q v 0 d, among_other list i q (λ z. d (sym (e ∙ z)))) (h.rows q k)
      ];
    }

-- all syncs were looked at
pub of_all : (n : ℕ) (s : Bytes) (side : Side) (c : ℕ) {syncs marks : Bytes} {i : ℕ} → i ≡ length syncs → Lists n (of_kind s 11) syncs
    → MarkedOf n syncs i (place (store_program n s) (store_flow s) side c) marks → Marked n (place (store_program n s) (store_flow s) side c) marks
of_all n s side c {syncs} {marks} {i} e h k =
    record {
      size = omega (arith, k.size);
      rows = λ q l. k.rows q l ∙ rw (e, one_listed syncs h q l) (go q l (of_kind s 11 q) refl);
    }
  where
    go : (q : ℕ) → q < n → (t : Bool) → of_kind s 11 q ≡ t → t && place (store_program n s) (store_flow s) side c q ≡ place (store_program n s) (store_flow s) side c q
    go q l true d = refl
    go q l false d = sym (place_none n s side c q (sync_none n s q l d))
