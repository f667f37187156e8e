-- Infer is as specs/Inferred says: the store with the smallest tables opens again, keeps its rows and claims, keeps every flow rule, and its tables lie in all that do.
use Rattle.std.specs.Prelude.{Ok, Err}
use Prim.Native.Nat.{ℕ, zero, suc, ◌≤◌, ◌<◌}
use native.Mathlib.Omega.{arith}
use mathlib.Core.Bool.{Bool, not, So, false≢true}
use mathlib.Core.List.{List, [], ◌∷◌, ◌++◌, map, append_assoc}
use mathlib.Core.Path.{◌≡◌, refl, sym, ap, ◌∙◌, subst}
use mathlib.Core.Logic.{◌≢◌}
use lib.ListN.{length, take, drop, take-append-drop}
use lib.Seq.{take_at, drop_at}
use Rattle.program.specs.Each.{every, collect}
use Rattle.program.specs.Program.{Program, binders}
use Rattle.program.specs.Flow.{Abstract, u, row, Table}
use Rattle.program.specs.FlowRule.{KeepsAll}
use Rattle.least.specs.Least.{Variable, name, channel, variable_allowed, member_allowed, smallest, smallest_flow, smallest_comm}
use Rattle.program.proofs.Test.{and_intro}
use Rattle.program.specs.Each.{Each, nil, ◌&◌}
use Rattle.program.proofs.Each.{each_at, each_imp}
use Rattle.least.proofs.Least.{elem_member, value_bound, chan_bound, smallest_keeps, smallest_lies, smallest_allowed}
use Rattle.format.specs.Limits.{row_limit}
use Rattle.format.specs.Text.{Bytes}
use Rattle.format.specs.Document.{Document, Line, flow, comm, claim, member}
use Rattle.format.specs.Print.{row_lines, lines_of}
use Rattle.format.specs.Read.{present, above_limit}
use Rattle.format.specs.Structure.{flow_allowed, comm_allowed}
use Rattle.format.specs.Structure as structure
use Rattle.format.specs.declared.Refusal.{Refusal}
use Rattle.format.specs.WellFormed.{orderly, well_formed}
use Rattle.format.specs.Refusals.{Result, refused, accepted}
use Rattle.format.proofs.Order.{orderly_iff}
use Rattle.format.proofs.Rising.{every_append, every_left, every_right}
use Rattle.format.proofs.Structure.{other_tables, orderly_of, faultless_of}
use Rattle.calls.specs.Answers.{LoadAnswer}
use Rattle.calls.specs.Layout.{member_limit, rows_size, sets_size, claims_start, store_size, counting, padded, row_bytes, sets_bytes, claim_code, encode}
use Rattle.calls.specs.Judging.{flow_table, comm_table}
use Rattle.calls.specs.Calls.{Outcome, opened, counts, stored, and_then, judge}
use Rattle.inference.specs.Inference.{abstract_of, table_flags, entries_of, smallest_document, infer}
use Rattle.inference.specs.Inferred.{Inferred, InferIs}
use Rattle.calls.proofs.Codec.{all_fit, rows_bytes_length, encode-length}
use Rattle.calls.proofs.Codec.Sets.{sets_bytes-length}
use Rattle.calls.proofs.Canonical.{drop_thrice}
use Rattle.calls.proofs.Calls.{opened_is, stored_refused, stored_is, stored_opens, stored_loads}
use Rattle.calls.proofs.Names.{names_low}
use Rattle.calls.specs.Exact.{Closed, RowKeeps, RulesHold, JudgeIs}
use Rattle.calls.specs.Answers.{Answer, turned_back, load_answer, judge_answer}
use Rattle.calls.proofs.Exact.{opened_iff, closed_is, judge_answers}
use Rattle.calls.proofs.Canonical.Lists.{every_intro}
use Rattle.calls.proofs.Canonical.Sets.{sets_rise, flow_lines, comm_lines}
use Rattle.inference.proofs.Tables.{entries_flags, entries_hold, entries_table}

-- ---- the names and rows of the smallest tables

module _ (d : Document) (well : So (well_formed d)) where
  ordered : So (orderly d)
  ordered = orderly_of d well

  rows_fit : length d.rows ≤ row_limit
  rows_fit = all_fit d ordered

  member_low : (a : Abstract) → So (member_allowed d.rows a) → member a < member_limit
  unfolding member_allowed member
  member_low u t = omega arith
  member_low (row r) t = omega (arith, value_bound d.rows r t, rows_fit)

  flows_low : (n : ℕ) (a : Abstract) → So (smallest_flow d.rows n a) → (n < row_limit) × (member a < member_limit)
  unfolding smallest_flow variable_allowed
  flows_low n a t =
      let (q, m) = smallest_allowed d.rows (name n) a t in
      (each_at (names_low d ordered) (elem_member n (collect binders d.rows) q), member_low a m)

  comms_low : (c : ℕ) (a : Abstract) → So (smallest_comm d.rows c a) → (c < row_limit) × (member a < member_limit)
  unfolding smallest_comm variable_allowed
  comms_low c a t =
      let (q, m) = smallest_allowed d.rows (channel c) a t in
      (omega (arith, chan_bound d.rows c q, rows_fit), member_low a m)

  -- the sets of the document are the smallest
  pub flow_smallest : flow_table (smallest_document d) ≡ smallest_flow d.rows
  unfolding flow_table smallest_document
  flow_smallest = entries_table (smallest_flow d.rows) flows_low

  pub comm_smallest : comm_table (smallest_document d) ≡ smallest_comm d.rows
  unfolding comm_table smallest_document
  comm_smallest = entries_table (smallest_comm d.rows) comms_low

-- ---- the document is well-formed

allowed_number : (p : Program) (m : ℕ) → So (member_allowed p (abstract_of m)) → So (structure.member_allowed p m)
unfolding member_allowed abstract_of structure.member_allowed
allowed_number p zero t = refl
allowed_number p (suc r) t = t

-- a line whose members a set has
module _ (p : Program) (q : Variable) where
  members_allowed : (ms : List ℕ) → So (present ms) → Each (λ m. So (smallest p q (abstract_of m))) ms → So (variable_allowed p q) × So (every (structure.member_allowed p) ms)
  members_allowed ms t h = (place ms t h, every_intro (structure.member_allowed p) (each_imp (λ m k. allowed_number p m (smallest_allowed p q (abstract_of m) k).1) h))
    where
      place : (ms : List ℕ) → So (present ms) → Each (λ m. So (smallest p q (abstract_of m))) ms → So (variable_allowed p q)
      place [] t nil = absurd (false≢true (unfold present in t))
      place (m ∷ ms) t (k & h) = (smallest_allowed p q (abstract_of m) k).0

flows_allowed : (p : Program) → Each (λ e. So (flow_allowed p e)) (entries_of (smallest_flow p))
unfolding flow_allowed smallest_flow variable_allowed
flows_allowed p = each_imp (λ e (t, h). let (k, m) = members_allowed p (name e.key) e.members t h in and_intro k m) (entries_hold (smallest_flow p))

comms_allowed : (p : Program) → Each (λ e. So (comm_allowed p e)) (entries_of (smallest_comm p))
unfolding comm_allowed smallest_comm variable_allowed
comms_allowed p = each_imp (λ e (t, h). let (k, m) = members_allowed p (channel e.key) e.members t h in and_intro k m) (entries_hold (smallest_comm p))

smallest_orderly : (d : Document) → So (orderly d) → So (orderly (smallest_document d))
unfolding smallest_document entries_of lines_of
smallest_orderly d o =
    let (some_row, partly) = (orderly_iff d).0 o in
    let test : Line → Bool = λ l. not (above_limit l) in
    let rows = row_lines 0 d.rows in
    let flows = map flow (entries_of (smallest_flow d.rows)) in
    let comms = map comm (entries_of (smallest_comm d.rows)) in
    let claims = map claim d.claims in
    let later = every_right test rows _ partly.numbers in
    let claims_low = every_right test (map comm d.comms) claims (every_right test (map flow d.flows) (map comm d.comms ++ claims) later) in
    (orderly_iff (smallest_document d)).1 (
      some_row,
      record {
        numbers = every_append test rows (flows ++ (comms ++ claims)) (every_left test rows _ partly.numbers) (every_append test flows (comms ++ claims) (flow_lines _)
            (every_append test comms claims (comm_lines _) claims_low));
        flows = sets_rise _;
        comms = sets_rise _;
        claims = partly.claims;
      },
    )

pub smallest_well : (d : Document) → So (well_formed d) → So (well_formed (smallest_document d))
unfolding well_formed smallest_document
smallest_well d w =
    and_intro (smallest_orderly d (orderly_of d w))
    (rw (other_tables d (entries_of (smallest_flow d.rows)) (entries_of (smallest_comm d.rows)) (faultless_of d w) (flows_allowed d.rows)
    (comms_allowed d.rows)))

-- ---- the call

-- its bytes: the rows and claims of the document, and the flags of the smallest tables
pub encode_smallest : (d : Document)
    → encode (smallest_document d) ≡ padded rows_size (collect row_bytes d.rows) ++ (table_flags row_limit 0 (smallest_flow d.rows)
    ++ (table_flags row_limit 0 (smallest_comm d.rows) ++ counting row_limit 0 (claim_code d.claims)))
unfolding encode smallest_document
encode_smallest d = rw (entries_flags (smallest_flow d.rows), entries_flags (smallest_comm d.rows))

-- what comes of a store that opens
module _ (store : Bytes) (d : Document) (e : opened store ≡ accepted d) where
  infer-stored : infer store ≡ stored store (accepted (smallest_document d))
  unfolding infer and_then
  infer-stored = ap (λ (x : Result Document). stored store (and_then x λ d. accepted (smallest_document d))) e

  infer_opened : infer store ≡ record { answer = Ok (counts (smallest_document d)); bytes = encode (smallest_document d) ++ drop store_size store }
  infer_opened = infer-stored ∙ stored_is store (smallest_document d)

  well_opened : So (well_formed (smallest_document d))
  well_opened = smallest_well d (opened_is store d e).well

  opened_again : opened (infer store).bytes ≡ accepted (smallest_document d)
  opened_again = ap (λ (o : Outcome LoadAnswer). opened o.bytes) infer-stored ∙ stored_opens store (smallest_document d) well_opened

-- ---- the bytes of rows and claims

-- the first of four parts, and what comes behind the third
module _ (rows flows comms claims rest : Bytes) where
  pub first_part : length rows ≡ rows_size → take rows_size ((rows ++ (flows ++ (comms ++ claims))) ++ rest) ≡ rows
  first_part l = rw append_assoc (take_at rows _ rows_size l)

  pub last_part : length rows ≡ rows_size → length flows ≡ sets_size → length comms ≡ sets_size
      → drop claims_start ((rows ++ (flows ++ (comms ++ claims))) ++ rest) ≡ claims ++ rest
  last_part l m n =
      let behind₂ = comms ++ (claims ++ rest) in
      let behind₁ = flows ++ behind₂ in
      let joined : (rows ++ (flows ++ (comms ++ claims))) ++ rest ≡ rows ++ behind₁ = simp append_assoc in
      ap (drop claims_start) joined ∙ sym (drop_thrice rows_size sets_size sets_size (rows ++ behind₁))
      ∙ rw (drop_at rows behind₁ rows_size l, drop_at flows behind₂ sets_size m, drop_at comms (claims ++ rest) sets_size n)

module _ (store : Bytes) (d : Document) (e : opened store ≡ accepted d) where
  abbrev pub rows_part : Bytes
  rows_part = padded rows_size (collect row_bytes d.rows)

  abbrev pub claims_part : Bytes
  claims_part = counting row_limit 0 (claim_code d.claims)

  pub rows_size_lem : length rows_part ≡ rows_size
  rows_size_lem = rows_bytes_length d (orderly_of d (opened_is store d e).well)

  pub store_parts : store ≡ (rows_part ++ (sets_bytes d.flows ++ (sets_bytes d.comms ++ claims_part))) ++ drop store_size store
  unfolding encode
  store_parts = sym (take-append-drop store_size store) ∙ ap (λ (s : Bytes). s ++ drop store_size store) (opened_is store d e).holds

  infer_parts : (infer store).bytes ≡ (rows_part ++ (sets_bytes (smallest_document d).flows ++ (sets_bytes (smallest_document d).comms ++ claims_part))) ++ drop store_size store
  unfolding encode smallest_document
  infer_parts = ap (λ (o : Outcome LoadAnswer). o.bytes) (infer_opened store d e)

  opened_rows : take rows_size (infer store).bytes ≡ take rows_size store
  opened_rows =
      ap (take rows_size) infer_parts ∙ first_part rows_part (sets_bytes (smallest_document d).flows) (sets_bytes (smallest_document d).comms) claims_part (drop store_size store) rows_size_lem
      ∙ sym (ap (take rows_size) store_parts ∙ first_part rows_part (sets_bytes d.flows) (sets_bytes d.comms) claims_part (drop store_size store) rows_size_lem)

  opened_rest : drop claims_start (infer store).bytes ≡ drop claims_start store
  opened_rest =
      ap (drop claims_start) infer_parts
      ∙ last_part rows_part (sets_bytes (smallest_document d).flows) (sets_bytes (smallest_document d).comms) claims_part (drop store_size store) rows_size_lem
      (sets_bytes-length (smallest_document d).flows) (sets_bytes-length (smallest_document d).comms)
      ∙ sym (ap (drop claims_start) store_parts ∙ last_part rows_part (sets_bytes d.flows) (sets_bytes d.comms) claims_part (drop store_size store) rows_size_lem (sets_bytes-length d.flows)
      (sets_bytes-length d.comms))

-- ---- a store of any bytes

-- a store that does not open stays as it was
infer_refused : (store : Bytes) (r : Refusal) → opened store ≡ refused r → infer store ≡ record { answer = Err r; bytes = store }
unfolding infer and_then
infer_refused store r e = ap (λ (x : Result Document). stored store (and_then x λ d. accepted (smallest_document d))) e ∙ stored_refused store r

-- the lines of the smallest tables are not empty
lines_present : (t : Table) → Each (λ e. So (present e.members)) (entries_of t)
lines_present t = each_imp (λ e h. h.0) (entries_hold t)

inferred_is : (store : Bytes) (d : Document) (e : opened store ≡ accepted d) → Inferred store d (smallest_document d)
unfolding smallest_document
inferred_is store d e =
    let w = (opened_is store d e).well in
    record {
      loads = infer-stored store d e ∙ stored_loads store (smallest_document d) (smallest_well d w);
      holds = (opened_iff (infer store).bytes (smallest_document d)).0 (opened_again store d e);
      row_bytes_kept = opened_rows store d e;
      claim_bytes = opened_rest store d e;
      same_rows = refl;
      same_claims = refl;
      keeps = rw (flow_smallest d w, comm_smallest d w) (smallest_keeps d.rows);
      smallest = λ flow comm k. rw (flow_smallest d w, comm_smallest d w) (smallest_lies d.rows flow comm k);
      lines = (lines_present (smallest_flow d.rows), lines_present (smallest_comm d.rows));
    }

module _ (store : Bytes) where
  pub infer_exact : InferIs store (load_answer (infer store).answer)
  infer_exact = go (opened store) refl
    where
      go : (x : Result Document) → opened store ≡ x → InferIs store (load_answer (infer store).answer)
      go (refused r) e =
          subst (λ (o : Outcome LoadAnswer). InferIs store (load_answer o.answer)) (sym (infer_refused store r e))
          (unfold load_answer in InferIs.closed (closed_is store r e) (ap (λ (o : Outcome LoadAnswer). o.bytes) (infer_refused store r e)))
      go (accepted d) e =
          subst (λ (o : Outcome LoadAnswer). InferIs store (load_answer o.answer)) (sym (infer_opened store d e))
          (unfold load_answer counts in InferIs.infers d (smallest_document d) ((opened_iff store d).0 e) (inferred_is store d e))

  -- the outcome is its own outcome
  pub infer_twice : infer (infer store).bytes ≡ infer store
  infer_twice = go (opened store) refl
    where
      again : (d : Document) → smallest_document (smallest_document d) ≡ smallest_document d
      again d = unfold smallest_document in refl

      go : (x : Result Document) → opened store ≡ x → infer (infer store).bytes ≡ infer store
      go (refused r) e = ap (λ (o : Outcome LoadAnswer). infer o.bytes) (infer_refused store r e)
      go (accepted d) e =
          let d' = smallest_document d in
          let o : infer store ≡ record { answer = Ok (counts d'); bytes = encode d' ++ drop store_size store } = infer_opened store d e in
          let size : length (encode d') ≡ store_size = encode-length d' (orderly_of d' (well_opened store d e)) in
          let rest : drop store_size (infer store).bytes ≡ drop store_size store = ap (λ (o : Outcome LoadAnswer). drop store_size o.bytes) o
          ∙ drop_at (encode d') (drop store_size store) store_size size in
          let made : Document → Bytes → Outcome LoadAnswer = λ x past. record { answer = Ok (counts x); bytes = encode x ++ past } in
          infer_opened (infer store).bytes d' (opened_again store d e)
          ∙ ap (λ (x : Document). made x (drop store_size (infer store).bytes)) (again d) ∙ ap (made d') rest ∙ sym o

  -- "Judge never answers 10 on the outcome"
  pub never_10 : (line : ℕ) → judge_answer (judge (infer store).bytes) ≢ turned_back 10 line
  unfolding RowKeeps KeepsAll
  never_10 line h = go _ (judge_answers (infer store).bytes) h
    where
      -- a document that the outcome holds keeps every rule
      keeps : (d' : Document) → opened (infer store).bytes ≡ accepted d' → (x : Result Document) → opened store ≡ x → RulesHold d'
      keeps d' k (refused r) e =
          let shut : opened store ≡ accepted d' = ap (λ (o : Outcome LoadAnswer). opened o.bytes) (sym (infer_refused store r e)) ∙ k in
          let z : ◌≡◌ {A = ℕ} 0 1 = cc in
          absurd (omega arith)
      keeps d' k (accepted d) e =
          let same : smallest_document d ≡ d' = (let q : ◌≡◌ {A = Result Document} (accepted (smallest_document d)) (accepted d') = sym (opened_again store d e) ∙ k in cc) in
          subst (λ (x : Document). RulesHold x) same (inferred_is store d e).keeps

      go : (a : Answer) → JudgeIs (infer store).bytes a → a ≡ turned_back 10 line → ⊥
      go a (JudgeIs.closed (Closed.too_short l)) q = let z : ◌≡◌ {A = ℕ} 20 10 = cc in omega arith
      go a (JudgeIs.closed (Closed.empty l m)) q = let z : ◌≡◌ {A = ℕ} 21 10 = cc in omega arith
      go a (JudgeIs.closed (Closed.unsound l m k)) q = let z : ◌≡◌ {A = ℕ} 22 10 = cc in omega arith
      go a (JudgeIs.rule_fails d k r broken) q =
          broken.broken (λ b e. keeps d ((opened_iff (infer store).bytes d).1 k) (opened store) refl r b e)
      go a (JudgeIs.claim_fails d k rules passed fails) q = let z : ◌≡◌ {A = ℕ} 11 10 = cc in omega arith
      go a (JudgeIs.accepts d k rules claims) q = let z : ◌≡◌ {A = ℕ} 0 1 = cc in omega arith
