-- One line more: the progress with it is that of the document with it, and stays small; the store with it has one part replaced.
use Prim.Native.Nat.{ℕ, ◌+◌, ◌*◌, ◌<◌, ◌≤◌}
use mathlib.Core.Bool.{Bool, ◌&&◌, and-true, and-false, and_assoc}
use mathlib.Core.List.{List, [], ◌∷◌, ◌++◌}
use mathlib.Core.Path.{◌≡◌, sym, ap, ◌∙◌}
use native.Mathlib.Omega.{arith}
use native.Mathlib.Decide.{dec_lt}
use lib.ListN.{length, length-append}
use lib.Dec.{ltb, leb}
use borrow.Author.Tests.{lt-ltb, le-ltb, le-leb, lt-leb}
use Rattle.program.specs.declared.Row.{Row}
use Rattle.program.specs.declared.Word.{Word}
use Rattle.program.specs.Each.{every}
use Rattle.format.specs.Limits.{row_limit}
use Rattle.format.specs.Document.{Entry, Document, row, claim}
use Rattle.format.specs.Read.{add}
use Rattle.calls.specs.Layout.{row_size, row_bytes, flags_of, word_code, claim_at, encode}
use Rattle.calls.proofs.Patches.{patch}
use Rattle.calls.proofs.Codec.Adding.{add_row, add_flow, add_comm, add_claim}
use Rattle.progress.specs.declared.Progress.{Progress}
use Rattle.tables.specs.declared.Table.{Table}
use Rattle.tables.specs.declared.Table.TheVariants.{Flow, Comm}
use Rattle.progress.specs.Progress.{Matches, Small}
use Rattle.progress.specs.Lines.{set_line, place_of, least_of, with_row, with_set, with_claim}

every_snoc : {A : Type 0} (f : A → Bool) (xs : List A) (x : A) → every f (xs ++ (x ∷ [])) ≡ (every f xs && f x)
unfolding every
every_snoc f [] x = and-true (f x)
every_snoc f (y ∷ xs) x = ap (λ (b : Bool). f y && b) (every_snoc f xs x) ∙ sym (and_assoc (f y) (every f xs) (f x))

-- below k are all that are below least, where n is not below least, and n: exactly if n + 1 is at most k
next_least : (least n k : ℕ) → least ≤ n → (leb least k && ltb n k) ≡ leb (n + 1) k
next_least least n k l =
    elim (dec_lt n k) [
      | yes h ↦ rw (le-leb least k (omega arith), lt-ltb n k h, le-leb (n + 1) k (omega arith))
      | no h ↦ rw (le-ltb n k (omega arith), lt-leb (n + 1) k (omega arith)) (and-false (leb least k))
    ]

snoc_length : {A : Type 0} (xs : List A) (x : A) (n : ℕ) → length xs ≡ n → length (xs ++ (x ∷ [])) ≡ n + 1
snoc_length xs x n e = length-append xs (x ∷ []) ∙ omega arith

module _ (d : Document) (p : Progress) (m : Matches d p) where
  pub row_matches : (n : ℕ) (x : Row) → p.rows < row_limit → Matches (add d (row n x)) (with_row p)
  unfolding add
  row_matches n x l = record {
    rows_are = snoc_length d.rows x p.rows m.rows_are;
    flows_are = m.flows_are;
    comms_are = m.comms_are;
    claims_are = m.claims_are;
    rows_fit = omega (arith, snoc_length d.rows x p.rows m.rows_are);
    flows_rise = m.flows_rise;
    comms_rise = m.comms_rise;
    claims_rise = m.claims_rise;
  }

  -- the keys of a section with one key more: all are below those that are at least the next
  key_rises : (es : List Entry) (e : Entry) (least : ℕ) → ((k : ℕ) → every (λ f. ltb f.key k) es ≡ leb least k) → least ≤ e.key
      → (k : ℕ) → every (λ f. ltb f.key k) (es ++ (e ∷ [])) ≡ leb (e.key + 1) k
  key_rises es e least h l k =
      every_snoc (λ f. ltb f.key k) es e ∙ ap (λ (b : Bool). b && ltb e.key k) (h k) ∙ next_least least e.key k l

  pub set_matches : (t : Table) (n : ℕ) (ms : List ℕ) → least_of t p ≤ n → Matches (add d (set_line t n ms)) (with_set t (n + 1) p)
  unfolding add
  set_matches Flow n ms l =
      let e : Entry = record { key = n; members = ms } in
      record {
        rows_are = m.rows_are;
        flows_are = snoc_length d.flows e p.flows m.flows_are;
        comms_are = m.comms_are;
        claims_are = m.claims_are;
        rows_fit = m.rows_fit;
        flows_rise = key_rises d.flows e p.flow_least m.flows_rise l;
        comms_rise = m.comms_rise;
        claims_rise = m.claims_rise;
      }
  set_matches Comm n ms l =
      let e : Entry = record { key = n; members = ms } in
      record {
        rows_are = m.rows_are;
        flows_are = m.flows_are;
        comms_are = snoc_length d.comms e p.comms m.comms_are;
        claims_are = m.claims_are;
        rows_fit = m.rows_fit;
        flows_rise = m.flows_rise;
        comms_rise = key_rises d.comms e p.comm_least m.comms_rise l;
        claims_rise = m.claims_rise;
      }

  pub claim_matches : (n : ℕ) (w : Word) → p.claim_least ≤ n → Matches (add d (claim (record { channel = n; word = w }))) (with_claim (n + 1) p)
  unfolding add
  claim_matches n w l = record {
    rows_are = m.rows_are;
    flows_are = m.flows_are;
    comms_are = m.comms_are;
    claims_are = snoc_length d.claims (record { channel = n; word = w }) p.claims m.claims_are;
    rows_fit = m.rows_fit;
    flows_rise = m.flows_rise;
    comms_rise = m.comms_rise;
    claims_rise = λ k.
        every_snoc (λ f. ltb f.channel k) d.claims (record { channel = n; word = w })
        ∙ ap (λ (b : Bool). b && ltb n k) (m.claims_rise k) ∙ next_least p.claim_least n k l;
  }

  -- ---- the store

  pub row_stored : (n : ℕ) (x : Row) → n < row_limit → n ≡ p.rows → encode (add d (row n x)) ≡ patch (n * row_size) (row_bytes x) (encode d)
  row_stored n x l e =
      let r : length d.rows ≡ n = m.rows_are ∙ sym e in
      add_row d n x (omega arith) ∙ ap (λ (k : ℕ). patch (k * row_size) (row_bytes x) (encode d)) r

  pub set_stored : (t : Table) (n : ℕ) (ms : List ℕ) → n < row_limit → least_of t p ≤ n → encode (add d (set_line t n ms)) ≡ patch (place_of t n) (flags_of ms) (encode d)
  set_stored Flow n ms l h = (add_flow d m.rows_fit (record { key = n; members = ms }) (m.flows_rise n ∙ le-leb p.flow_least n h) l).0
  set_stored Comm n ms l h = (add_comm d m.rows_fit (record { key = n; members = ms }) (m.comms_rise n ∙ le-leb p.comm_least n h) l).0

  pub claim_stored : (n : ℕ) (w : Word) → n < row_limit → p.claim_least ≤ n
      → encode (add d (claim (record { channel = n; word = w }))) ≡ patch (claim_at n) (word_code w ∷ []) (encode d)
  claim_stored n w l h = add_claim d m.rows_fit (record { channel = n; word = w }) (m.claims_rise n ∙ le-leb p.claim_least n h) l

-- ---- counts and least numbers stay within the limit

module _ (p : Progress) (small : Small p) where
  pub row_small : p.rows < row_limit → Small (with_row p)
  row_small l = record {
    rows_small = omega arith;
    flows_small = small.flows_small;
    comms_small = small.comms_small;
    claims_small = small.claims_small;
    flow_limit = small.flow_limit;
    comm_limit = small.comm_limit;
    within_claim_limit = small.within_claim_limit;
  }

  pub set_small : (t : Table) (n : ℕ) → n < row_limit → least_of t p ≤ n → Small (with_set t (n + 1) p)
  set_small Flow n l h = record {
    rows_small = small.rows_small;
    flows_small = omega (arith, small.flows_small);
    comms_small = small.comms_small;
    claims_small = small.claims_small;
    flow_limit = omega arith;
    comm_limit = small.comm_limit;
    within_claim_limit = small.within_claim_limit;
  }
  set_small Comm n l h = record {
    rows_small = small.rows_small;
    flows_small = small.flows_small;
    comms_small = omega (arith, small.comms_small);
    claims_small = small.claims_small;
    flow_limit = small.flow_limit;
    comm_limit = omega arith;
    within_claim_limit = small.within_claim_limit;
  }

  pub claim_small : (n : ℕ) → n < row_limit → p.claim_least ≤ n → Small (with_claim (n + 1) p)
  claim_small n l h = record {
    rows_small = small.rows_small;
    flows_small = small.flows_small;
    comms_small = small.comms_small;
    claims_small = omega (arith, small.claims_small);
    flow_limit = small.flow_limit;
    comm_limit = small.comm_limit;
    within_claim_limit = omega arith;
  }
