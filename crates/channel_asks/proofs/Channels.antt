-- The channels of a send row, by the list of the chan rows.
use Prim.Native.Nat.{ℕ, ◌+◌, ◌≤◌, ◌<◌, min}
use native.Mathlib.Omega.{arith}
use native.Mathlib.Decide.{ℕ_discrete as dec_eq, dec_lt}
use mathlib.Core.Bool.{Bool, true, false, So}
use mathlib.Core.Path.{◌≡◌, refl, sym, ap, ◌∙◌}
use lib.ListN.{length, set, replicate, length-set, length-replicate, get_or-replicate}
use lib.Seq.{get_or-set_same, get_or-set_other}
use lib.Dec.{ltb}
use borrow.Author.Tests.{lt-ltb, ltb-true}
use Rattle.program.specs.Test.{◌⇒◌, any}
use Rattle.program.specs.Maybe.{when}
use Rattle.program.specs.Program.{Program, chan_at}
use Rattle.program.specs.Flow.{Abstract, row, Set, lies, for_each, for_each_chan}
use Rattle.program.proofs.Test.{all_intro, implies_intro}
use Rattle.format.specs.Limits.{row_limit}
use Rattle.format.specs.Text.{Bytes, byte_at}
use Rattle.format.specs.Document.{member}
use Rattle.calls.specs.Layout.{member_limit}
use Rattle.store.specs.Rows.{store_program}
use Rattle.store.proofs.Laws.{program_length, zeros_at}
use Rattle.tables.specs.Tables.{store_flow, store_comm}
use Rattle.forms.proofs.Forms.{chan_at_lem}
use Rattle.row_lists.specs.Lists.{Lists, of_kind, chan_kind}
use Rattle.row_lists.proofs.Listing.{among, among_here, among_other, one_listed}
use Rattle.row_lists.proofs.OfKind.{is_chan_lem, chan_none, send_none}
use Rattle.sets.specs.Sets.{Bytewise, PassingSet, set_of, lies_below}
use Rattle.sets.proofs.Tests.{implies_true, all_false}
use Rattle.sets.proofs.Members.{lies_at, lies_below_iff, set_full}
use Rattle.channel_asks.specs.Channels.{send_test, AllHold}

-- ---- each channel of a set

module _ (n : ℕ) (s : Bytes) where
  abbrev p : Program
  p = store_program n s

  -- a chan row, and a row of another kind
  module _ (k : ℕ) (l : k < n) (b : Bool) where
    chan_here : So (of_kind s chan_kind k) → when (chan_at p k) (λ m. b) ≡ b
    chan_here h = chan_at_lem p k refl b ∙ rw (is_chan_lem n s k l h)

    chan_other : of_kind s chan_kind k ≡ false → when (chan_at p k) (λ m. b) ≡ true
    chan_other h = chan_at_lem p k refl b ∙ rw (chan_none n s k l h)

  module _ (list : Bytes) (h : Lists n (of_kind s chan_kind) list) (from : Set) (f : ℕ → Bool) where
    pub each_passes : ((j : ℕ) → j < length list → So (from (row (byte_at list j))) → So (f (byte_at list j))) → So (for_each_chan p from f)
    unfolding for_each_chan for_each
    each_passes t = all_intro (length p) _ λ r l. go r (rw (program_length n s) at l) (of_kind s chan_kind r) refl
      where
        go : (r : ℕ) → r < n → (b : Bool) → of_kind s chan_kind r ≡ b → So (from (row r) ⇒ when (chan_at p r) (λ m. f r))
        go r l true e =
            let (j, k, q) = h.all r l e in
            rw (chan_here r l (f r) e) (implies_intro (from (row r)) (rw q at (t j k)))
        go r l false e = rw (chan_other r l (f r) e) (implies_true (from (row r)))

    pub one_fails : (j : ℕ) {k : ℕ} → j < length list → k ≡ byte_at list j → from (row k) ≡ true → f k ≡ false → for_each_chan p from f ≡ false
    unfolding for_each_chan for_each
    one_fails j {k} l e t z =
        let (low, is) = h.rows j l in
        all_false (length p) _ k (rw (program_length n s, e) low) (rw (chan_here k (rw e low) (f k) (rw e is), t, z))

-- ---- what every channel holds

-- the same of the first i channels of a list
pub record Holding (list s : Bytes) (i : ℕ) (all : Bytes) : Type 0 where
  pub size : length all ≡ member_limit
  pub each : (j : ℕ) → j < i → (a : Abstract) → member a < member_limit → So (set_of all a) → So (store_comm s (byte_at list j) a)

-- a member of the smaller of two sets is in both
met : (all other all' : Bytes) → member_limit ≤ length all → member_limit ≤ length other → Bytewise min member_limit other all all'
    → (a : Abstract) → member a < member_limit → So (set_of all' a) → So (set_of all a) × So (set_of other a)
met all other all' l m h a k t =
    let v : 0 < byte_at all' (member a) = ltb-true 0 (byte_at all' (member a)) (rw (set_full all' (omega (arith, h.size))) at t) in
    let w = h.done (member a) k in
    (rw (set_full all l) (lt-ltb 0 (byte_at all (member a)) (omega (arith, v, w))), rw (set_full other m) (lt-ltb 0 (byte_at other (member a)) (omega (arith, v, w))))

pub holding_more : {list s : Bytes} {i : ℕ} {all all' other : Bytes} {k : ℕ} → k ≡ byte_at list i → set_of other ≡ store_comm s k → member_limit ≤ length other → Holding list s i all
    → Bytewise min member_limit other all all' → Holding list s (i + 1) all'
holding_more {list} {s} {i} {all} {all'} {other} {k} e q l h b =
    record {
      size = b.size ∙ h.size;
      each = λ j m a low t.
          let (own, there) = met all other all' (omega (arith, h.size)) l b a low t in
          elim (dec_lt j i) [
            | yes d ↦ h.each j d a low own
            | no g ↦ (let z : j ≡ i = omega arith in rw (z, ← e, ← q) there)
          ];
    }

pub holding_all : (n : ℕ) {list s all : Bytes} {i : ℕ} → i ≡ length list → Lists n (of_kind s chan_kind) list → Holding list s i all → AllHold n s all
holding_all n {list} {s} e h k =
    record {
      size = omega (arith, k.size);
      each = λ r l is a low t. let (j, m, q) = h.all r l is in rw q at (k.each j (omega (arith, e, m)) a low t);
    }

pub none_held : (n : ℕ) (s : Bytes) → AllHold n s (replicate member_limit 0)
none_held n s =
    record {
      size = omega (arith, length-replicate {A = ℕ} member_limit 0);
      each = λ r l is a low t.
          let z = ltb-true 0 (byte_at (replicate member_limit 0) (member a)) (rw (set_full (replicate member_limit 0) (omega (arith, length-replicate {A = ℕ} member_limit 0))) at t) in
          absurd (omega (arith, z, zeros_at member_limit (member a)));
    }

-- a message that every channel holds passes
pub sure : (n : ℕ) (s list : Bytes) {all : Bytes} (from t : Set) → n ≤ row_limit → Lists n (of_kind s chan_kind) list → AllHold n s all → lies_below n t (set_of all) ≡ true
    → for_each_chan (store_program n s) from (λ k. lies (store_program n s) t (store_comm s k)) ≡ true
sure n s list {all} from t few h g e =
    each_passes n s list h from _ λ j l i.
    let (low, is) = h.rows j l in
    rw (← (lies_at n s t (store_comm s (byte_at list j))))
    ((lies_below_iff n _ _).1 λ a m x. g.each (byte_at list j) low is a (omega arith) ((lies_below_iff n t (set_of all)).0 e a m x))

-- a row of another kind than send passes a sync
pub send_other : (n : ℕ) (s : Bytes) (given : Bool) (k : ℕ) → k < n → of_kind s 4 k ≡ false → send_test (store_program n s) (store_flow s) (store_comm s) given k ≡ true
unfolding send_test when
send_other n s given k l h = rw (send_none n s k l h)

-- ---- the marks of the rows in a list

-- of the rows in a list those that fail the test are not marked, and all others are
pub record Fails (n : ℕ) (list : Bytes) (i : ℕ) (f : ℕ → Bool) (marks : Bytes) : Type 0 where
  pub size : length marks ≡ member_limit
  pub unit : 0 < byte_at marks 0
  pub rows : (q : ℕ) → q < n → ltb 0 (byte_at marks (q + 1)) ≡ among list i q ⇒ f q

pub fails_none : {n : ℕ} (list : Bytes) (f : ℕ → Bool) → n ≤ row_limit → Fails n list 0 f (replicate member_limit 1)
unfolding any
fails_none list f few =
    record {
      size = length-replicate {A = ℕ} member_limit 1;
      unit = omega (arith, ones_at member_limit 0 (omega arith));
      rows = λ q l. rw (ones_at member_limit (q + 1) (omega arith));
    }
  where
    ones_at : (k i : ℕ) → i < k → byte_at (replicate k 1) i ≡ 1
    ones_at k i l = get_or-replicate k i 1 0 l

pub fails_more : {n : ℕ} (list : Bytes) (i v : ℕ) {f : ℕ → Bool} {marks : Bytes} {r : ℕ} → r ≡ byte_at list i → r < row_limit → ltb 0 v ≡ f r → Fails n list i f marks
    → Fails n list (i + 1) f (set marks (r + 1) v)
fails_more list i v {f} {marks} {r} e l t h =
    record {
      size = simp length-set h.size;
      unit = rw (get_or-set_other marks (r + 1) 0 v 0 (omega arith)) h.unit;
      rows = λ q k. elim (dec_eq q r) [
        | yes d ↦
            let at : byte_at (set marks (r + 1) v) (q + 1) ≡ v = rw d (get_or-set_same marks (r + 1) v 0 (omega (arith, h.size))) in
            rw (at, among_here list i q (sym (d ∙ e))) (t ∙ ap f (sym d))
        | no d ↦
            let at : byte_at (set marks (r + 1) v) (q + 1) ≡ byte_at marks (q + 1) = get_or-set_other marks (r + 1) (q + 1) v 0 (omega arith) in
            rw (at, among_other list i q (λ z. d (sym (e ∙ z)))) (h.rows q k)
      ];
    }

pub fails_all : (n : ℕ) {list marks : Bytes} {i : ℕ} {kind f : ℕ → Bool} → i ≡ length list → Lists n kind list → ((q : ℕ) → q < n → kind q ≡ false → f q ≡ true) → Fails n list i f marks
    → PassingSet n f marks
fails_all n {list} {marks} {i} {kind} {f} e h other k =
    record {
      size = omega (arith, k.size);
      unit = k.unit;
      rows = λ q l. k.rows q l ∙ rw (e, one_listed list h q l) (go q l (kind q) refl);
    }
  where
    go : (q : ℕ) → q < n → (t : Bool) → kind q ≡ t → t ⇒ f q ≡ f q
    go q l true d = refl
    go q l false d = sym (other q l d)
