-- Replace and preview are as specs/Replaced says: the store with the new set opens again, and differs from the old one in that set only.
use Rattle.std.specs.Prelude.{Ok, Err}
use Prim.Native.Nat.{ℕ, ◌+◌, ◌≤◌, ◌<◌}
use native.Mathlib.Omega.{arith}
use mathlib.Core.Bool.{Bool, true, false, not, ◌&&◌, So, false≢true}
use mathlib.Core.List.{List, ◌++◌, map}
use mathlib.Core.Path.{◌≡◌, refl, sym, ap, ◌∙◌, subst}
use lib.ListN.{length, take, drop, take-append-drop}
use Rattle.program.specs.Each.{every, collect, elem, Each, ◌&◌}
use Rattle.program.specs.Flow.{Abstract}
use Rattle.program.specs.Program.{binders}
use Rattle.program.proofs.Test.{and_left, and_right, and_intro}
use Rattle.program.proofs.Each.{every_elim, each_at, each_imp, each_map, each_unmap}
use Rattle.least.proofs.Least.{elem_member}
use Rattle.format.specs.Limits.{row_limit}
use Rattle.format.specs.Text.{Bytes}
use Rattle.format.specs.Document.{Entry, Document, Line, flow, comm, claim, member, table_of}
use Rattle.format.specs.Print.{row_lines, lines_of}
use Rattle.format.specs.Read.{present, rising, line_numbers, above_limit}
use Rattle.format.specs.Structure.{flow_allowed}
use Rattle.format.specs.WellFormed.{entries_rise, orderly, well_formed}
use Rattle.format.specs.declared.Refusal.{Refusal}
use Rattle.format.specs.declared.Reason.TheVariants.{NotBound, SetNotAllowed}
use Rattle.format.specs.Refusals.{number, refusal, Result, refused, accepted}
use Rattle.format.proofs.Order.{orderly_iff}
use Rattle.format.proofs.Rising.{every_append, every_left, every_right}
use Rattle.format.proofs.Structure.{other_tables, lines_allowed, orderly_of, faultless_of}
use Rattle.calls.specs.Answers.{LoadAnswer}
use Rattle.calls.specs.Answers.{turned_back, answered, refusal_answer, load_answer, judge_answer}
use Rattle.calls.specs.Layout.{member_limit, store_size, flow_at, flags_of, encode}
use Rattle.calls.specs.Judging.{flow_table}
use Rattle.calls.specs.Calls.{Outcome, opened, counts, and_then, stored, judge}
use Rattle.calls.specs.Exact.{StoreHolds}
use Rattle.calls.proofs.Patches.{patch, patched_before, patched_take, patched_drop}
use Rattle.calls.proofs.Codec.{all_fit}
use Rattle.calls.proofs.Codec.Sets.{flags_length}
use Rattle.calls.proofs.Codec.Adding.{other_flow}
use Rattle.calls.proofs.Canonical.Lists.{every_intro, low_line}
use Rattle.calls.proofs.Canonical.Sets.{key_of}
use Rattle.calls.proofs.Names.{names_low}
use Rattle.calls.proofs.Calls.{opened_is, stored_refused, stored_is, stored_opens, stored_loads}
use Rattle.calls.proofs.Exact.{opened_iff, closed_is, judge_answers}
use Rattle.replacement.specs.Replacement.{members_of, with_set, with_flow, is_bound, set_allowed, replacing, replace, judge_left, preview}
use Rattle.replacement.specs.Replaced.{MayBeSet, Replaced, ReplaceIs, PreviewIs}
use Rattle.replacement.proofs.Handed.{allowed_iff, rows_low, handed_is}
use Rattle.replacement.proofs.Entries.{each_with, with_rises, with_here, with_other}

-- ---- the document

module _ (d : Document) (well : So (well_formed d)) (n : ℕ) (bound : So (is_bound d.rows n)) where
  ordered : So (orderly d)
  ordered = orderly_of d well

  pub bound_low : n < row_limit
  unfolding is_bound
  bound_low = each_at (names_low d ordered) (elem_member n (collect binders d.rows) bound)

  module _ (ms : List ℕ) (may : So (set_allowed d.rows ms)) where
    rises : So (rising ms)
    unfolding set_allowed
    rises = and_left (rising ms) _ may

    abbrev flows' : List Entry
    flows' = with_set n ms d.flows

    flow_lines : So (every (λ l. not (above_limit l)) (map flow d.flows)) → So (every (λ l. not (above_limit l)) (map flow flows'))
    flow_lines t =
        every_intro (λ l. not (above_limit l)) (each_map flow (each_with n ms d.flows {P = λ e. So (not (above_limit (flow e)))}
        (λ _. low_line (flow (record { key = n; members = ms })) (unfold line_numbers in bound_low & each_imp (λ r l. omega (arith, all_fit d ordered)) (rows_low d.rows ms may)))
        (each_unmap flow d.flows (every_elim (λ l. not (above_limit l)) (map flow d.flows) t))))

    with_orderly : So (orderly (with_flow n ms d))
    unfolding with_flow lines_of
    with_orderly =
        let (some_row, partly) = (orderly_iff d).0 ordered in
        let test : Line → Bool = λ l. not (above_limit l) in
        let rows = row_lines 0 d.rows in
        let rest = map comm d.comms ++ map claim d.claims in
        let later = every_right test rows (map flow d.flows ++ rest) partly.numbers in
        (orderly_iff (with_flow n ms d)).1 (
          some_row,
          record {
            numbers = every_append test rows (map flow flows' ++ rest) (every_left test rows _ partly.numbers)
                (every_append test (map flow flows') rest (flow_lines (every_left test (map flow d.flows) rest later)) (every_right test (map flow d.flows) rest later));
            flows = with_rises n ms d.flows rises partly.flows;
            comms = partly.comms;
            claims = partly.claims;
          },
        )

    pub with_well : So (well_formed (with_flow n ms d))
    unfolding well_formed with_flow set_allowed flow_allowed is_bound
    with_well =
        let (flows, comms, _) = lines_allowed d (faultless_of d well) in
        and_intro with_orderly (rw (other_tables d flows' d.comms (faultless_of d well) (each_with n ms d.flows (λ _. mine) flows) comms))
      where
        mine : So (flow_allowed d.rows (record { key = n; members = ms }))
        mine = and_intro bound (and_right (rising ms) _ may)

    -- its bytes
    pub with_bytes : encode (with_flow n ms d) ≡ patch (flow_at n) (flags_of ms) (encode d)
    unfolding with_flow
    with_bytes = other_flow d (all_fit d ordered) flows' n bound_low (with_other n ms d.flows) ∙ ap (λ (ms : List ℕ). patch (flow_at n) (flags_of ms) (encode d)) (with_here n ms d.flows)

-- ---- replace of a store that opens

-- 32, then 33
module _ (n : ℕ) (ms : List ℕ) (d : Document) where
  replacing_unbound : is_bound d.rows n ≡ false → replacing n ms d ≡ refused (refusal NotBound 0)
  unfolding replacing
  replacing_unbound q = rw (replacing, q)

  replacing_wrong : So (is_bound d.rows n) → set_allowed d.rows ms ≡ false → replacing n ms d ≡ refused (refusal SetNotAllowed 0)
  unfolding replacing
  replacing_wrong b q = rw (replacing, b, q)

  replacing_done : So (is_bound d.rows n) → So (set_allowed d.rows ms) → replacing n ms d ≡ accepted (with_flow n ms d)
  unfolding replacing
  replacing_done b q = rw (replacing, b, q)

module _ (store : Bytes) (d : Document) (e : opened store ≡ accepted d) (n : ℕ) where
  long : store_size ≤ length store
  long = (opened_is store d e).long

  well : So (well_formed d)
  well = (opened_is store d e).well

  module _ (unit : Bool) (rows : Bytes) where
    abbrev ms : List ℕ
    ms = members_of unit rows

    replace-stored : replace store n unit rows ≡ stored store (replacing n ms d)
    unfolding replace and_then
    replace-stored = ap (λ (x : Result Document). stored store (and_then x (replacing n ms))) e

    pub unbound_refused : is_bound d.rows n ≡ false → replace store n unit rows ≡ record { answer = Err (refusal NotBound 0); bytes = store }
    unbound_refused q = replace-stored ∙ ap (stored store) (replacing_unbound n ms d q) ∙ stored_refused store (refusal NotBound 0)

    pub set_refused : So (is_bound d.rows n) → set_allowed d.rows ms ≡ false → replace store n unit rows ≡ record { answer = Err (refusal SetNotAllowed 0); bytes = store }
    set_refused b q = replace-stored ∙ ap (stored store) (replacing_wrong n ms d b q) ∙ stored_refused store (refusal SetNotAllowed 0)

    module _ (bound : So (is_bound d.rows n)) (may : So (set_allowed d.rows ms)) where
      abbrev d' : Document
      d' = with_flow n ms d

      well' : So (well_formed d')
      well' = with_well d well n bound ms may

      pub replace_done : replace store n unit rows ≡ stored store (accepted d')
      replace_done = replace-stored ∙ ap (stored store) (replacing_done n ms d bound may)

      -- the bytes left: the flags of the new set in the place of the old ones
      pub replace_bytes : (replace store n unit rows).bytes ≡ patch (flow_at n) (flags_of ms) store
      replace_bytes =
          let low = bound_low d well n bound in
          let size = flags_length ms in
          let room : flow_at n + length (flags_of ms) ≤ store_size = omega arith in
          let s' = patch (flow_at n) (flags_of ms) store in
          ap (λ (o : Outcome LoadAnswer). o.bytes) (replace_done ∙ stored_is store d')
          ∙ ap (λ (x : Bytes). x ++ drop store_size store) (with_bytes d well n bound ms may ∙ ap (patch (flow_at n) (flags_of ms)) (sym (opened_is store d e).holds)
          ∙ sym (patched_take store_size store (flow_at n) (flags_of ms) room long))
          ∙ ap (λ (x : Bytes). take store_size s' ++ x) (sym (patched_drop store_size store (flow_at n) (flags_of ms) room long)) ∙ take-append-drop store_size s'

      pub replace_opens : opened (replace store n unit rows).bytes ≡ accepted d'
      replace_opens = ap (λ (o : Outcome LoadAnswer). opened o.bytes) replace_done ∙ stored_opens store d' well'

      replaced_is : Replaced store n unit rows d d'
      unfolding with_flow flow_table table_of
      replaced_is =
          let low = bound_low d well n bound in
          let size = flags_length ms in
          let room : flow_at n + member_limit ≤ store_size = omega arith in
          let part : flow_at n + length (flags_of ms) ≡ flow_at n + member_limit = ap (λ (k : ℕ). flow_at n + k) size in
          record {
            loads = replace_done ∙ stored_loads store d' well';
            holds = (opened_iff (replace store n unit rows).bytes d').0 replace_opens;
            same_rows = refl;
            same_comms = refl;
            same_claims = refl;
            set = ap (λ (x : List ℕ). λ (a : Abstract). elem (member a) x) (with_here n ms d.flows) ∙ handed_is unit rows;
            other_sets = λ k q. ap (λ (x : List ℕ). λ (a : Abstract). elem (member a) x) (with_other n ms d.flows k q);
            lines = each_with n ms d.flows {P = λ e. So (present e.members)} (λ t. t) (lines_shown d.flows ((orderly_iff d).0 (orderly_of d well)).1.flows);
            before = ap (take (flow_at n)) replace_bytes ∙ patched_before store (flags_of ms) (flow_at n) (omega (arith, long));
            behind = ap (drop (flow_at n + member_limit)) replace_bytes
                ∙ patched_drop (flow_at n + member_limit) store (flow_at n) (flags_of ms) (omega (arith, part)) (omega (arith, long));
          }
        where
          lines_shown : (es : List Entry) → So (entries_rise es) → Each (λ e. So (present e.members)) es
          lines_shown es t = unfold entries_rise in
              each_imp (λ e h. and_left (present e.members) _ h) (every_elim (λ e. present e.members && rising e.members) es (and_right (rising (map key_of es)) _ t))

-- ---- a store of any bytes

module _ (store : Bytes) (n : ℕ) (unit : Bool) (rows : Bytes) where
  abbrev outcome : Outcome LoadAnswer
  outcome = replace store n unit rows

  pub replace_closed : (r : Refusal) → opened store ≡ refused r → replace store n unit rows ≡ record { answer = Err r; bytes = store }
  unfolding replace and_then
  replace_closed r e = ap (λ (x : Result Document). stored store (and_then x (replacing n (members_of unit rows)))) e ∙ stored_refused store r

  -- what replace finds
  data Found : Outcome LoadAnswer → Type 0 where
    turns : {r : Refusal} → ReplaceIs store n unit rows (refusal_answer r) → Found (record { answer = Err r; bytes = store })
    does : (d d' : Document) → StoreHolds store d → So (is_bound d.rows n) → MayBeSet d rows → Replaced store n unit rows d d' → Found (stored store (accepted d'))

  found : Found outcome
  found = go (opened store) refl
    where
      left : (r : Refusal) → outcome ≡ record { answer = Err r; bytes = store } → outcome.bytes ≡ store
      left r q = ap (λ (o : Outcome LoadAnswer). o.bytes) q

      open_store : (d : Document) → opened store ≡ accepted d → (a b : Bool) → is_bound d.rows n ≡ a → set_allowed d.rows (members_of unit rows) ≡ b → Found outcome
      open_store d e false b p q =
          let k = unbound_refused store d e n unit rows p in
          subst Found (sym k) (turns {r = refusal NotBound 0} (unfold refusal_answer number in ReplaceIs.not_bound d ((opened_iff store d).0 e) (λ t. false≢true (sym p ∙ t)) (left (refusal NotBound 0) k)))
      open_store d e true false p q =
          let k = set_refused store d e n unit rows p q in
          subst Found (sym k) (turns {r = refusal SetNotAllowed 0} (unfold refusal_answer number in ReplaceIs.not_a_set d ((opened_iff store d).0 e) p
          (λ h. false≢true (sym q ∙ (allowed_iff d unit rows).1 h)) (left (refusal SetNotAllowed 0) k)))
      open_store d e true true p q =
          subst Found (sym (replace_done store d e n unit rows p q))
          (does d (with_flow n (members_of unit rows) d) ((opened_iff store d).0 e) p ((allowed_iff d unit rows).0 q) (replaced_is store d e n unit rows p q))

      go : (x : Result Document) → opened store ≡ x → Found outcome
      go (refused r) e =
          let k = replace_closed r e in
          subst Found (sym k) (turns (ReplaceIs.closed (closed_is store r e) (left r k)))
      go (accepted d) e = open_store d e (is_bound d.rows n) (set_allowed d.rows (members_of unit rows)) refl refl

  pub replace_exact : ReplaceIs store n unit rows (load_answer outcome.answer)
  replace_exact = go outcome found
    where
      go : (o : Outcome LoadAnswer) → Found o → ReplaceIs store n unit rows (load_answer o.answer)
      go o (turns h) = unfold load_answer in h
      go o (does d d' h b k r) =
          subst (λ (o : Outcome LoadAnswer). ReplaceIs store n unit rows (load_answer o.answer)) (sym (stored_is store d')) (unfold load_answer counts in ReplaceIs.replaces d d' h b k r)

  -- "the store is unaltered"
  pub replace_refused : (number line : ℕ) → load_answer outcome.answer ≡ turned_back number line → outcome.bytes ≡ store
  unfolding load_answer
  replace_refused number line = go outcome found
    where
      go : (o : Outcome LoadAnswer) → Found o → load_answer o.answer ≡ turned_back number line → o.bytes ≡ store
      go o (turns h) e = refl
      go o (does d d' h b k r) e =
          let q : load_answer (Ok (counts d')) ≡ turned_back number line = ap (λ (o : Outcome LoadAnswer). load_answer o.answer) (sym (stored_is store d')) ∙ e in
          let z : ◌≡◌ {A = ℕ} 0 1 = cc in
          absurd (omega arith)

  -- preview word for word: judge of what replace leaves, or the refusal of replace
  pub preview_judges : (ns : List ℕ) → load_answer outcome.answer ≡ answered ns → preview store n unit rows ≡ judge outcome.bytes
  unfolding preview judge_left load_answer refusal_answer
  preview_judges ns = go outcome.answer
    where
      go : (a : LoadAnswer) → load_answer a ≡ answered ns → judge_left a outcome.bytes ≡ judge outcome.bytes
      go (Ok c) e = refl
      go (Err r) e = let z : ◌≡◌ {A = ℕ} 0 1 = cc in absurd (omega arith)

  pub preview_refuses : (number line : ℕ) → load_answer outcome.answer ≡ turned_back number line → judge_answer (preview store n unit rows) ≡ turned_back number line
  unfolding preview judge_left load_answer judge_answer refusal_answer
  preview_refuses number line = go outcome.answer
    where
      go : (a : LoadAnswer) → load_answer a ≡ turned_back number line → judge_answer (judge_left a outcome.bytes) ≡ turned_back number line
      go (Ok c) e = let z : ◌≡◌ {A = ℕ} 0 1 = cc in absurd (omega arith)
      go (Err r) e = e

  pub preview_exact : PreviewIs store n unit rows (judge_answer (preview store n unit rows))
  unfolding preview
  preview_exact = go outcome refl found
    where
      judged : (d d' : Document) → StoreHolds store d → So (is_bound d.rows n) → MayBeSet d rows → Replaced store n unit rows d d' → outcome ≡ stored store (accepted d')
          → PreviewIs store n unit rows (judge_answer (judge_left outcome.answer outcome.bytes))
      judged d d' h b k r q =
          let answer : outcome.answer ≡ Ok (counts d') = ap (λ (o : Outcome LoadAnswer). o.answer) (q ∙ stored_is store d') in
          subst (λ (a : LoadAnswer). PreviewIs store n unit rows (judge_answer (judge_left a outcome.bytes))) (sym answer)
          (unfold judge_left in PreviewIs.judges d d' h b k r (judge_answers outcome.bytes))

      go : (o : Outcome LoadAnswer) → outcome ≡ o → Found o → PreviewIs store n unit rows (judge_answer (judge_left o.answer o.bytes))
      go o q (turns h) = unfold judge_left judge_answer refusal_answer in PreviewIs.refuses h
      go o q (does d d' h b k r) =
          subst (λ (o : Outcome LoadAnswer). PreviewIs store n unit rows (judge_answer (judge_left o.answer o.bytes))) q (judged d d' h b k r q)
