-- Judge and verdict of any store are as specs/Exact says: what opening it finds, then what the document's flow rules and claims say.
use Rattle.std.specs.Prelude.{Ok, Err}
use Prim.Native.Nat.{ℕ, zero, suc}
use native.Mathlib.Omega.{arith}
use mathlib.Core.Bool.{Bool, true, false, So, false≢true}
use mathlib.Core.List.{List, [], ◌∷◌, ◌++◌, map}
use Rattle.std.specs.Prelude.{Option, None as none, Some as some}
use mathlib.Core.Path.{◌≡◌, refl, sym, ap, ◌∙◌, subst}
use mathlib.Core.Logic.{◌↔◌}
use lib.ListN.{length, take, drop, replicate, take-append-drop}
use lib.Seq.{length-take-le}
use lib.Dec.{ltb, eqb}
use borrow.Author.Tests.{ltb-true, ltb-false, eqb-true}
use Rattle.program.specs.declared.Word.{Word}
use Rattle.program.specs.Each.{every, Member}
use Rattle.program.specs.Program.{chan_at, chan_row}
use Rattle.program.specs.Run.{Path, made, Step, run}
use Rattle.program.specs.History.{HistoryFits}
use Rattle.program.proofs.Test.{and_left, and_right}
use Rattle.format.specs.declared.Reason.TheVariants.{FlowRuleFails, StoreTooShort, StoreEmpty, StoreUnsound, NotAChannel}
use Rattle.format.specs.declared.Refusal.{Refusal}
use Rattle.format.specs.Text.{Bytes}
use Rattle.format.specs.Refusals.{number, refusal, Result, refused, accepted}
use Rattle.format.specs.Document.{Claim, Document}
use Rattle.format.specs.Print.{document_text}
use Rattle.format.specs.Structure.{row_line}
use Rattle.format.specs.WellFormed.{well_formed}
use Rattle.format.proofs.Files.{check_any_iff}
use Rattle.calls.specs.declared.Counts.{Counts}
use Rattle.calls.specs.Answers.{LoadAnswer}
use Rattle.calls.specs.Answers.{JudgeAnswer}
use Rattle.calls.specs.Answers.{turned_back, answered, refusal_answer, judge_answer, yes_or_no, status_answer, verdict_answer}
use Rattle.calls.specs.Layout.{store_size, encode, decode}
use Rattle.calls.specs.Judging.{verdict_words, word_holds, WordHolds, reaches, failing_row, after10, judge_document, verdict_document}
use Rattle.calls.specs.Calls.{is_empty, unsound, opened_fixed, opened, load, judge_answered, and_then, judge, verdict_of, verdict_given, verdict}
use Rattle.calls.specs.Exact.{StoreHolds, Closed, RulesHold, ClaimsHold, JudgeIs, WordIs, VerdictIs}
use Rattle.calls.proofs.Codec.{unsound_iff}
use Rattle.calls.proofs.Judging.{Judged, holds, rule_fails, claim_fails, Broken, none_broken, broken_at, broken_is, judge_exact, accepts_iff, word_iff}
use Rattle.calls.proofs.Calls.{opened_is, opened_loaded, loaded_is, judged_iff, judge_accepts, histories_fit}

-- ---- an empty store is all zero

zeros : (bs : Bytes) → is_empty bs ≡ true → bs ≡ replicate (length bs) 0
unfolding is_empty every
zeros [] e = refl
zeros (b ∷ bs) e = rw (eqb-true b 0 (and_left (eqb b 0) _ e), ← zeros bs (and_right (eqb b 0) _ e)) refl

zeros_empty : (n : ℕ) → is_empty (replicate n 0) ≡ true
unfolding is_empty every
zeros_empty zero = refl
zeros_empty (suc n) = zeros_empty n

-- both of any length: at the store's size the prover would write the zeros out
all_zeros : (n : ℕ) (bs : Bytes) → length bs ≡ n → is_empty bs ≡ true → bs ≡ replicate n 0
all_zeros n bs l e = rw (← l) (zeros bs e)

not_zeros : (n : ℕ) (bs : Bytes) → is_empty bs ≡ false → bs ≡ replicate n 0 → ⊥
not_zeros n bs e z = false≢true (sym e ∙ ap is_empty z ∙ zeros_empty n)

-- ---- an answer's values tell its case

pub judge_accepted : (a : JudgeAnswer) (n : ℕ) → judge_answer a ≡ answered (n ∷ []) → a ≡ Ok n
unfolding judge_answer refusal_answer
judge_accepted (Ok m) n e = let q : m ≡ n = cc in ap Ok q
judge_accepted (Err r) n e = let z : ◌≡◌ {A = ℕ} 0 1 = cc in absurd (omega arith)

-- ---- a store that holds a document opens to it, and no other store opens

module _ (store : Bytes) where
  module _ (d : Document) where
    pub holds_well : StoreHolds store d → So (well_formed d)
    holds_well h = ((check_any_iff h.file d).0 h.says).1

    pub opened_iff : (opened store ≡ accepted d) ↔ StoreHolds store d
    opened_iff = (there, back)
      where
        there : opened store ≡ accepted d → StoreHolds store d
        there e =
            let o = opened_is store d e in
            record { long = o.long; file = document_text d; says = (check_any_iff (document_text d) d).1 (refl, o.well); bytes = o.holds }

        back : StoreHolds store d → opened store ≡ accepted d
        back h =
            let whole : store ≡ encode d ++ drop store_size store = sym (take-append-drop store_size store) ∙ ap (λ (x : Bytes). x ++ drop store_size store) h.bytes in
            ap opened whole ∙ opened_loaded d (holds_well h) (drop store_size store)

  pub closed_is : (r : Refusal) → opened store ≡ refused r → Closed store (refusal_answer r)
  unfolding opened opened_fixed refusal_answer number
  closed_is r e = go (ltb (length store) store_size) (is_empty (take store_size store)) (unsound (take store_size store)) refl refl refl e
    where
      go : (a b c : Bool) → ltb (length store) store_size ≡ a → is_empty (take store_size store) ≡ b → unsound (take store_size store) ≡ c
          → ◌≡◌ {A = Result Document} (elim a [
            | true ↦ refused (refusal StoreTooShort 0)
            | false ↦ elim b [ true ↦ refused (refusal StoreEmpty 0) | false ↦ elim c [ true ↦ refused (refusal StoreUnsound 0) | false ↦ accepted (decode (take store_size store)) ] ]
          ]) (refused r) → Closed store (refusal_answer r)
      go true b c p q s h =
          let same : refusal StoreTooShort 0 ≡ r = cc in
          subst (λ (x : Refusal). Closed store (refusal_answer x)) same (Closed.too_short (ltb-true (length store) store_size p))
      go false true c p q s h =
          let same : refusal StoreEmpty 0 ≡ r = cc in
          let l = ltb-false (length store) store_size p in
          let size : length (take store_size store) ≡ store_size = length-take-le store_size store l in
          subst (λ (x : Refusal). Closed store (refusal_answer x)) same (Closed.empty l (all_zeros store_size (take store_size store) size q))
      go false false true p q s h =
          let same : refusal StoreUnsound 0 ≡ r = cc in
          subst (λ (x : Refusal). Closed store (refusal_answer x)) same (Closed.unsound (ltb-false (length store) store_size p)
          (not_zeros store_size (take store_size store) q)
          (λ (d, k). false≢true (sym ((unsound_iff (take store_size store)).1 (d, holds_well d k, sym k.bytes)) ∙ s)))
      go false false false p q s h = let z : ◌≡◌ {A = ℕ} 0 1 = cc in absurd (omega arith)

  -- what opening the store finds
  data View : Result Document → Type 0 where
    shut : {r : Refusal} → Closed store (refusal_answer r) → View (refused r)
    opens : (d : Document) → StoreHolds store d → View (accepted d)

  view : View (opened store)
  view = go (opened store) refl
    where
      go : (x : Result Document) → opened store ≡ x → View x
      go (refused r) e = shut (closed_is r e)
      go (accepted d) e = opens d ((opened_iff d).0 e)

  -- ---- judge

  pub judge_answers : JudgeIs store (judge_answer (judge store))
  unfolding judge and_then
  judge_answers = go (opened store) view
    where
      judged : (d : Document) → StoreHolds store d → (r : Result ℕ) → Judged d r → JudgeIs store (judge_answer (judge_answered r))
      judged d h r (holds k c) = unfold judge_answered judge_answer in JudgeIs.accepts d h k c
      judged d h r (rule_fails i b) = unfold judge_answered judge_answer refusal_answer number in JudgeIs.rule_fails d h i b
      judged d h r (claim_fails {line} k passed f q) =
          unfold judge_answered judge_answer refusal_answer number in subst (λ (l : ℕ). JudgeIs store (turned_back 11 l)) (sym q) (JudgeIs.claim_fails d h k passed f)

      go : (x : Result Document) → View x → JudgeIs store (judge_answer (judge_answered (and_then x judge_document)))
      go x (shut c) = unfold and_then judge_answered judge_answer in JudgeIs.closed c
      go x (opens d h) = unfold and_then in judged d h (judge_document d) (judge_exact d (holds_well d h))

  pub judge_accepts_iff : (n : ℕ) → (judge_answer (judge store) ≡ answered (n ∷ [])) ↔ ((d : Document) × StoreHolds store d × RulesHold d × ClaimsHold d × (n ≡ length d.claims))
  judge_accepts_iff n = (there, λ (d, h, r, k, q). unfold judge_answer in ap judge_answer ((judge_accepts store d ((opened_iff d).1 h) n).1 (r, k, q)))
    where
      there : judge_answer (judge store) ≡ answered (n ∷ []) → (d : Document) × StoreHolds store d × RulesHold d × ClaimsHold d × (n ≡ length d.claims)
      there e =
          let j = judge_accepted (judge store) n e in
          go (opened store) view (judge_opened_or j)
        where
          judge_opened_or : judge store ≡ Ok n → judge_answered (and_then (opened store) judge_document) ≡ Ok n
          judge_opened_or j = unfold judge in j

          go : (x : Result Document) → View x → judge_answered (and_then x judge_document) ≡ Ok n
              → (d : Document) × StoreHolds store d × RulesHold d × ClaimsHold d × (n ≡ length d.claims)
          go x (shut c) j = let z : ◌≡◌ {A = ℕ} 0 1 = unfold and_then judge_answered in cc in absurd (omega arith)
          go x (opens d h) j =
              let (r, k, q) = (accepts_iff d (holds_well d h) n).0 (unfold and_then in (judged_iff (judge_document d) n).0 j) in
              (d, h, r, k, q)

  -- soundness of any store that judge accepts, however its bytes came to be there
  pub accepted_sound : (n : ℕ) → judge_answer (judge store) ≡ answered (n ∷ []) → (d : Document) × StoreHolds store d
      × ((k : Claim) → Member k d.claims → (name : ℕ) → chan_at d.rows k.channel ≡ some name
      → (steps : List Step) (maker : Path) → HistoryFits d.rows (run d.rows steps) (made maker name) k.word)
  accepted_sound n e = let (d, h, r, k, _) = (judge_accepts_iff n).0 e in (d, h, histories_fit d (holds_well d h) r k)

  -- ---- verdict

  pub verdict_exact : (c : ℕ) → VerdictIs store c (verdict_answer (verdict store c))
  unfolding verdict and_then
  verdict_exact c = go (opened store) view
    where
      word_is : (d : Document) → So (well_formed d) → (word : Word) → WordIs d c word (yes_or_no (word_holds d (reaches d) c word))
      word_is d w word = told (word_holds d (reaches d) c word) (word_iff d w c word)
        where
          told : (b : Bool) → So b ↔ WordHolds d c word → WordIs d c word (yes_or_no b)
          told true (there, back) = unfold yes_or_no in WordIs.one (there refl)
          told false (there, back) = unfold yes_or_no in WordIs.none (λ h. false≢true (back h))

      words : (d : Document) → StoreHolds store d → So (chan_row d.rows c) → (o : Option ℕ) → Broken d o
          → VerdictIs store c (verdict_answer (verdict_given (elim o as (λ o. Result (List Bool)) [
            | some r ↦ refused (refusal FlowRuleFails (row_line r))
            | none ↦ accepted (map (word_holds d (reaches d) c) verdict_words)
          ])))
      words d h t (some r) (broken_at b) = unfold verdict_given verdict_answer status_answer refusal_answer number in VerdictIs.rule_fails d h t r b
      words d h t none (none_broken k) =
          let w = word_is d (holds_well d h) in
          unfold verdict_given verdict_answer status_answer in VerdictIs.given d h t k (w _) (w _) (w _) (w _) (w _)

      channel : (d : Document) → StoreHolds store d → (b : Bool) → chan_row d.rows c ≡ b
          → VerdictIs store c (verdict_answer (verdict_given (elim b as (λ b. Result (List Bool)) [ true ↦ verdict_document d c | false ↦ refused (refusal NotAChannel 0) ])))
      channel d h true e = unfold verdict_document after10 in words d h e (failing_row d) (broken_is d)
      channel d h false e = unfold verdict_given verdict_answer status_answer refusal_answer number in VerdictIs.no_channel d h (λ t. false≢true (sym e ∙ t))

      go : (x : Result Document) → View x → VerdictIs store c (verdict_answer (verdict_given (and_then x (verdict_of c))))
      go x (shut s) = unfold and_then verdict_given verdict_answer status_answer in VerdictIs.closed s
      go x (opens d h) = unfold and_then verdict_of in channel d h (chan_row d.rows c) refl

-- ---- judge of the store that load left of a file

pub judge_loaded : (file store : Bytes) (c : Counts) → (load file store).answer ≡ Ok c → (n : ℕ)
    → (judge (load file store).bytes ≡ Ok n)
    ↔ ((d : Document) × (file ≡ document_text d) × So (well_formed d) × RulesHold d × ClaimsHold d × (n ≡ length d.claims))
judge_loaded file store c e n =
    let (d, q, w, s, k, m) = loaded_is file store c e in
    let o : opened (load file store).bytes ≡ accepted d = ap opened m ∙ opened_loaded d w (drop store_size store) in
    let (there, back) = judge_accepts (load file store).bytes d o n in (
      λ a. let (r, h, l) = there a in (d, q, w, r, h, l),
      λ (x, p, v, r, h, l). back (subst (λ (y : Document). RulesHold y × ClaimsHold y × (n ≡ length y.claims)) (same x d p v q w) (r, h, l)),
    )
  where
    -- a file says one document
    same : (x d : Document) → file ≡ document_text x → So (well_formed x) → file ≡ document_text d → So (well_formed d) → x ≡ d
    same x d p v q w =
        let a : accepted x ≡ accepted d = sym ((check_any_iff file x).1 (p, v)) ∙ (check_any_iff file d).1 (q, w) in
        cc
