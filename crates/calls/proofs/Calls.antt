-- The proofs of the demands (Demands.antt) from the theorems about files, the store, judge and runs.
use Rattle.std.specs.Prelude.{Ok, Err}
use Prim.Native.Nat.{ℕ, ◌≤◌, ◌<◌}
use mathlib.Core.Bool.{Bool, true, false, So}
use mathlib.Core.List.{List, ◌++◌, map}
use Rattle.std.specs.Prelude.{None as none, Some as some}
use mathlib.Core.Path.{◌≡◌, refl, sym, ap, ◌∙◌, subst}
use mathlib.Core.Logic.{◌↔◌}
use native.Mathlib.Omega.{arith}
use lib.ListN.{length, take, drop, replicate, length-append}
use lib.Seq.{take_at}
use lib.Dec.{ltb}
use borrow.Author.Tests.{lt-ltb, le-ltb, ltb-false}
use Rattle.program.specs.Each.{Member, Each}
use Rattle.program.specs.Program.{chan_at, chan_row}
use Rattle.program.specs.FlowRule.{KeepsAll}
use Rattle.program.specs.Run.{Path, made, Step, run}
use Rattle.program.specs.History.{HistoryFits}
use Rattle.program.proofs.Each.{each_at}
use Rattle.program.proofs.FlowRule.{keeps_iff}
use Rattle.program.proofs.Test.{none_least}
use Rattle.program.proofs.Sound.Histories.{claims_hold}
use Rattle.format.specs.declared.Reason.TheVariants.{StoreTooShort, StoreEmpty, StoreUnsound, OutputTooShort}
use Rattle.format.specs.declared.Refusal.{Refusal}
use Rattle.format.specs.Limits.{byte_limit}
use Rattle.format.specs.Text.{Bytes}
use Rattle.format.specs.Refusals.{refusal, Result, refused, accepted}
use Rattle.format.specs.Document.{Claim, Document}
use Rattle.format.specs.Print.{document_text}
use Rattle.format.specs.WellFormed.{well_formed}
use Rattle.format.specs.Check.{check_any, check}
use Rattle.format.proofs.Files.{check_any_iff, check_iff}
use Rattle.format.proofs.Structure.{orderly_of}
use Rattle.calls.specs.declared.Counts.{Counts}
use Rattle.calls.specs.Answers.{LoadAnswer}
use Rattle.calls.specs.Answers.{JudgeAnswer}
use Rattle.calls.specs.Answers.{WriteAnswer}
use Rattle.calls.specs.Layout.{store_size, encode, decode}
use Rattle.calls.specs.Judging.{verdict_words, flow_table, comm_table, word_holds, WordHolds, reaches, failing_row, after10, judge_document, verdict_document}
use Rattle.calls.specs.Calls.{Outcome, unsound, is_empty, opened_fixed, opened, counts, refilled, loaded, stored, load, judge_answered, and_then, judge, verdict_of, verdict_given, verdict, written, write}
use Rattle.calls.proofs.Codec.{encode-length, decode-encode, unsound_iff, opened_encode}
use Rattle.calls.proofs.Judging.{rows_well, row_iff, accepts_iff}
use Rattle.calls.specs.Exact.{RowKeeps}

-- ---- a store that is long enough

-- load and opened on a store that is long enough
load_long : (file store : Bytes) → store_size ≤ length store → load file store ≡ loaded store (check file)
unfolding load
load_long file store l = rw (le-ltb (length store) store_size l, load)

-- ---- refused calls

pub load_refused : (file store : Bytes) (r : Refusal) → (load file store).answer ≡ Err r → store_size ≤ length store
    → (load file store).bytes ≡ replicate store_size 0 ++ drop store_size store
load_refused file store r e l =
    ap (λ (o : Outcome LoadAnswer). o.bytes) (load_long file store l) ∙ go (check file) (ap (λ (o : Outcome LoadAnswer). o.answer) (sym (load_long file store l)) ∙ e)
  where
    go : (x : Result Document) → (loaded store x).answer ≡ Err r → (loaded store x).bytes ≡ replicate store_size 0 ++ drop store_size store
    go (refused q) h = unfold loaded refilled in refl
    go (accepted d) h = let z : ◌≡◌ {A = ℕ} 0 1 = unfold loaded in cc in absurd (omega arith)

pub load_too_short : (file store : Bytes) → length store < store_size → (load file store).bytes ≡ store
unfolding load
load_too_short file store l = rw (lt-ltb (length store) store_size l, load)

pub write_refused : (store out : Bytes) (r : Refusal) → (write store out).answer ≡ Err r → (write store out).bytes ≡ out
unfolding write
write_refused store out r e = go (and_then (opened store) λ d. accepted (document_text d)) e
  where
    fits : (text : Bytes) (t : Bool) → ◌≡◌ {A = WriteAnswer} (elim t as (λ t. Outcome WriteAnswer) [
      | true ↦ record { answer = Err (refusal OutputTooShort 0); bytes = out }
      | false ↦ record { answer = Ok (length text); bytes = text ++ drop (length text) out }
    ]).answer (Err r) → ◌≡◌ {A = Bytes} (elim t as (λ t. Outcome WriteAnswer) [
      | true ↦ record { answer = Err (refusal OutputTooShort 0); bytes = out }
      | false ↦ record { answer = Ok (length text); bytes = text ++ drop (length text) out }
    ]).bytes out
    fits text true h = refl
    fits text false h = let z : ◌≡◌ {A = ℕ} 0 1 = cc in absurd (omega arith)

    go : (x : Result Bytes) → (written out x).answer ≡ Err r → (written out x).bytes ≡ out
    go (refused q) h = unfold written in refl
    go (accepted text) h = unfold written in fits text (ltb (length out) (length text)) h

-- ---- what load takes and leaves

pub load_takes : (file store : Bytes) → store_size ≤ length store → (c : Counts)
    → ((load file store).answer ≡ Ok c) ↔ ((d : Document) × (file ≡ document_text d) × So (well_formed d) × (length file ≤ byte_limit) × (c ≡ counts d))
unfolding loaded
load_takes file store l c = (
  λ e. go (check file) refl (ap (λ (o : Outcome LoadAnswer). o.answer) (sym (load_long file store l)) ∙ e),
  λ (d, e, w, s, q). ap (λ (o : Outcome LoadAnswer). o.answer) (load_long file store l) ∙ rw ((check_iff file d).1 (e, w, s), q),
)
  where
    go : (x : Result Document) → check file ≡ x → (loaded store x).answer ≡ Ok c → (d : Document) × (file ≡ document_text d) × So (well_formed d) × (length file ≤ byte_limit)
        × (c ≡ counts d)
    go (refused r) q h = let z : ◌≡◌ {A = ℕ} 0 1 = cc in absurd (omega arith)
    go (accepted d) q h = let (e, w, s) = (check_iff file d).0 q in (d, e, w, s, let k : c ≡ counts d = cc in k)

-- load does not take a file into a store that is too short
long_enough : (file store : Bytes) (c : Counts) → (load file store).answer ≡ Ok c → store_size ≤ length store
unfolding load
long_enough file store c e = go (ltb (length store) store_size) refl e
  where
    go : (t : Bool) → ltb (length store) store_size ≡ t → ◌≡◌ {A = LoadAnswer} (elim t as (λ t. Outcome LoadAnswer) [
      | true ↦ record { answer = Err (refusal StoreTooShort 0); bytes = store }
      | false ↦ loaded store (check file)
    ]).answer (Ok c) → store_size ≤ length store
    go true q h = let z : ◌≡◌ {A = ℕ} 0 1 = cc in absurd (omega arith)
    go false q h = ltb-false (length store) store_size q

pub load_keeps : (d : Document) → So (well_formed d) → length (document_text d) ≤ byte_limit → (store : Bytes) → store_size ≤ length store
    → (load (document_text d) store).bytes ≡ encode d ++ drop store_size store
unfolding loaded refilled
load_keeps d w s store l = ap (λ (o : Outcome LoadAnswer). o.bytes) (load_long (document_text d) store l) ∙ rw ((check_iff (document_text d) d).1 (refl, w, s))

-- the document that an accepted load leaves in the store
pub loaded_is : (file store : Bytes) (c : Counts) → (load file store).answer ≡ Ok c
    → (d : Document) × (file ≡ document_text d) × So (well_formed d) × (length file ≤ byte_limit) × (c ≡ counts d) × ((load file store).bytes ≡ encode d ++ drop store_size store)
loaded_is file store c e =
    let l = long_enough file store c e in
    let (d, q, w, s, k) = (load_takes file store l c).0 e in
    (d, q, w, s, k, ap (λ (f : Bytes). (load f store).bytes) q ∙ load_keeps d w (subst (λ (f : Bytes). length f ≤ byte_limit) q s) store l)

-- a store that begins with a document's bytes opens to the document
pub opened_loaded : (d : Document) → So (well_formed d) → (rest : Bytes) → opened (encode d ++ rest) ≡ accepted d
unfolding opened
opened_loaded d w rest =
    let n : length (encode d) ≡ store_size = encode-length d (orderly_of d w) in
    let l : store_size ≤ length (encode d ++ rest) = omega (arith, length-append (encode d) rest) in
    rw (le-ltb (length (encode d ++ rest)) store_size l, opened) (ap opened_fixed (take_at (encode d) rest store_size n) ∙ opened_encode d w)

-- ---- a call that leaves another document in the store

module _ (store : Bytes) where
  pub stored_refused : (r : Refusal) → stored store (refused r) ≡ record { answer = Err r; bytes = store }
  unfolding stored
  stored_refused r = refl

  pub stored_is : (d : Document) → stored store (accepted d) ≡ record { answer = Ok (counts d); bytes = encode d ++ drop store_size store }
  unfolding stored loaded refilled
  stored_is d = refl

  -- it opens again
  pub stored_opens : (d : Document) → So (well_formed d) → opened (stored store (accepted d)).bytes ≡ accepted d
  stored_opens d w = ap (λ (o : Outcome LoadAnswer). opened o.bytes) (stored_is d) ∙ opened_loaded d w (drop store_size store)

  -- "the counts that load would on the outcome's text, were there no length limit", and the bytes too
  pub stored_loads : (d : Document) → So (well_formed d) → stored store (accepted d) ≡ loaded store (check_any (document_text d))
  unfolding stored
  stored_loads d w = ap (loaded store) (sym ((check_any_iff (document_text d) d).1 (refl, w)))

-- and only such a store does
pub record Opened (store : Bytes) (d : Document) : Type 0 where
  pub long : store_size ≤ length store
  pub well : So (well_formed d)
  pub holds : take store_size store ≡ encode d

pub opened_is : (store : Bytes) (d : Document) → opened store ≡ accepted d → Opened store d
unfolding opened opened_fixed
opened_is store d e = go (ltb (length store) store_size) (is_empty (take store_size store)) (unsound (take store_size store)) refl refl e
  where
    go : (a b c : Bool) → ltb (length store) store_size ≡ a → unsound (take store_size store) ≡ c
        → ◌≡◌ {A = Result Document} (elim a [
          | true ↦ refused (refusal StoreTooShort 0)
          | false ↦ elim b [ true ↦ refused (refusal StoreEmpty 0) | false ↦ elim c [ true ↦ refused (refusal StoreUnsound 0) | false ↦ accepted (decode (take store_size store)) ] ]
        ]) (accepted d) → Opened store d
    go true b c p q h = let z : ◌≡◌ {A = ℕ} 0 1 = cc in absurd (omega arith)
    go false true c p q h = let z : ◌≡◌ {A = ℕ} 0 1 = cc in absurd (omega arith)
    go false false true p q h = let z : ◌≡◌ {A = ℕ} 0 1 = cc in absurd (omega arith)
    go false false false p q h =
        let (d', w, k) = (unsound_iff (take store_size store)).0 q in
        let m : decode (take store_size store) ≡ d = cc in
        let same : d' ≡ d = sym (decode-encode d' (orderly_of d' w)) ∙ ap decode k ∙ m in
        record { long = ltb-false (length store) store_size p; well = subst (λ (x : Document). So (well_formed x)) same w; holds = sym k ∙ ap encode same }

pub sound_iff : (fixed : Bytes) → (unsound fixed ≡ false) ↔ ((file : Bytes) × (d : Document) × (check_any file ≡ accepted d) × (encode d ≡ fixed))
sound_iff fixed = (
  λ e. let (d, w, q) = (unsound_iff fixed).0 e in (document_text d, d, (check_any_iff (document_text d) d).1 (refl, w), q),
  λ (file, d, e, q). (unsound_iff fixed).1 (d, ((check_any_iff file d).0 e).1, q),
)

-- ---- write and load

written_accepted : (out text : Bytes) → length text ≤ length out → ((written out (accepted text)).answer ≡ Ok (length text))
    × ((written out (accepted text)).bytes ≡ text ++ drop (length text) out)
unfolding written
written_accepted out text l = rw (le-ltb (length out) (length text) l, written) (refl, refl)

write-opened : (store out : Bytes) (d : Document) → opened store ≡ accepted d → write store out ≡ written out (accepted (document_text d))
unfolding write and_then
write-opened store out d e = rw e

pub write-load : (file store out : Bytes) (c : Counts) → (load file store).answer ≡ Ok c → length file ≤ length out
    → ((write (load file store).bytes out).answer ≡ Ok (length file)) × ((write (load file store).bytes out).bytes ≡ file ++ drop (length file) out)
write-load file store out c e l =
    let (d, q, w, s, k, m) = loaded_is file store c e in
    let o : opened (load file store).bytes ≡ accepted d = ap opened m ∙ opened_loaded d w (drop store_size store) in
    let r = write-opened (load file store).bytes out d o in
    let (x, y) = written_accepted out (document_text d) (subst (λ (f : Bytes). length f ≤ length out) q l) in (
      ap (λ (o : Outcome WriteAnswer). o.answer) r ∙ x ∙ ap (λ (f : Bytes). Ok (length f)) (sym q),
      ap (λ (o : Outcome WriteAnswer). o.bytes) r ∙ y ∙ ap (λ (f : Bytes). f ++ drop (length f) out) (sym q),
    )

-- what an accepted write wrote
wrote : (out text : Bytes) (n : ℕ) → (written out (accepted text)).answer ≡ Ok n → (n ≡ length text) × (take n (written out (accepted text)).bytes ≡ text)
unfolding written
wrote out text n e = go (ltb (length out) (length text)) refl e
  where
    go : (t : Bool) → ltb (length out) (length text) ≡ t → ◌≡◌ {A = WriteAnswer} (elim t as (λ t. Outcome WriteAnswer) [
      | true ↦ record { answer = Err (refusal OutputTooShort 0); bytes = out }
      | false ↦ record { answer = Ok (length text); bytes = text ++ drop (length text) out }
    ]).answer (Ok n) → (n ≡ length text) × (take n (written out (accepted text)).bytes ≡ text)
    go true q h = let z : ◌≡◌ {A = ℕ} 0 1 = cc in absurd (omega arith)
    go false q h =
        let m : n ≡ length text = cc in
        let (x, y) = written_accepted out text (ltb-false (length out) (length text) q) in
        (m, ap (take n) y ∙ take_at text (drop (length text) out) n (sym m))

pub load-write : (store out other : Bytes) (n : ℕ) → (write store out).answer ≡ Ok n → n ≤ byte_limit → store_size ≤ length other
    → (load (take n (write store out).bytes) other).bytes ≡ take store_size store ++ drop store_size other
unfolding write and_then written
load-write store out other n e s l = from_opened (opened store) refl
  where
    from_opened : (x : Result Document) → opened store ≡ x → (load (take n (write store out).bytes) other).bytes ≡ take store_size store ++ drop store_size other
    from_opened (refused r) q =
        let h : (written out (and_then (refused r) λ d. accepted (document_text d))).answer
        ≡ Ok n = ap (λ (x : Result Document). (written out (and_then x λ d. accepted (document_text d))).answer) (sym q) ∙ e in
        let z : ◌≡◌ {A = ℕ} 0 1 = cc in
        absurd (omega arith)
    from_opened (accepted d) q =
        let o = opened_is store d q in
        let w = write-opened store out d q in
        let (m, t) = wrote out (document_text d) n (ap (λ (o : Outcome WriteAnswer). o.answer) (sym w) ∙ e) in
        let r : take n (write store out).bytes ≡ document_text d = ap (λ (o : Outcome WriteAnswer). take n o.bytes) w ∙ t in
        let short : length (document_text d) ≤ byte_limit = omega arith in
        ap (λ (f : Bytes). (load f other).bytes) r ∙ load_keeps d o.well short other l ∙ ap (λ (x : Bytes). x ++ drop store_size other) (sym o.holds)

-- ---- judge

pub judge-opened : (store : Bytes) (d : Document) → opened store ≡ accepted d → judge store ≡ judge_answered (judge_document d)
unfolding judge and_then
judge-opened store d e = rw e

pub judged_iff : (r : Result ℕ) (n : ℕ) → (judge_answered r ≡ Ok n) ↔ (r ≡ accepted n)
unfolding judge_answered
judged_iff (refused r) n = (λ e. let z : ◌≡◌ {A = ℕ} 0 1 = cc in absurd (omega arith), λ e. let z : ◌≡◌ {A = ℕ} 0 1 = cc in absurd (omega arith))
judged_iff (accepted m) n = (λ e. let q : m ≡ n = cc in ap accepted q, λ e. let q : m ≡ n = cc in ap Ok q)

pub judge_accepts : (store : Bytes) (d : Document) → opened store ≡ accepted d → (n : ℕ)
    → (judge store ≡ Ok n) ↔ (KeepsAll d.rows (flow_table d) (comm_table d) × Each (λ (k : Claim). WordHolds d k.channel k.word) d.claims × (n ≡ length d.claims))
judge_accepts store d e n =
    let j = judge-opened store d e in
    let (there, back) = accepts_iff d (opened_is store d e).well n in
    (λ h. there ((judged_iff (judge_document d) n).0 (sym j ∙ h)), λ h. j ∙ (judged_iff (judge_document d) n).1 (back h))

-- ---- verdict

pub verdict-words : (store : Bytes) (d : Document) (c : ℕ) → opened store ≡ accepted d → So (chan_row d.rows c) → KeepsAll d.rows (flow_table d) (comm_table d)
    → verdict store c ≡ record { status = Ok tt; words = map (word_holds d (reaches d) c) verdict_words }
unfolding verdict and_then verdict_of verdict_given verdict_document after10 RowKeeps
verdict-words store d c e chan keeps = rw (e, chan, verdict_of, no_row, after10)
  where
    no_row : failing_row d ≡ none
    no_row = unfold failing_row in none_least (length d.rows) _ (λ r l. rw ((row_iff d r).1 (λ b q. unfold KeepsAll in keeps r b q)))

-- ---- every run

-- of a document whose tables keep the flow rules and whose claims hold: after every list of steps the history of every instance of a claimed channel fits the claimed word
pub histories_fit : (d : Document) → So (well_formed d) → KeepsAll d.rows (flow_table d) (comm_table d) → Each (λ k. WordHolds d k.channel k.word) d.claims
    → (k : Claim) → Member k d.claims → (name : ℕ) → chan_at d.rows k.channel ≡ some name
    → (steps : List Step) (maker : Path) → HistoryFits d.rows (run d.rows steps) (made maker name) k.word
unfolding WordHolds
histories_fit d w keeps claims k member name chan steps maker =
    claims_hold d.rows (flow_table d) (comm_table d) (rows_well d w).0 ((keeps_iff d.rows (flow_table d) (comm_table d)).1 keeps) k.word name k.channel chan
    (each_at claims member) steps maker

pub sound : (file store : Bytes) (c : Counts) (n : ℕ) → (load file store).answer ≡ Ok c → judge (load file store).bytes ≡ Ok n
    → (d : Document) × (file ≡ document_text d) × So (well_formed d)
    × ((k : Claim) → Member k d.claims → (name : ℕ) → chan_at d.rows k.channel ≡ some name
    → (steps : List Step) (maker : Path) → HistoryFits d.rows (run d.rows steps) (made maker name) k.word)
sound file store c n e a =
    let (d, q, w, s, k, m) = loaded_is file store c e in
    let o = opened_loaded d w (drop store_size store) in
    let (keeps, claims, _) = (judge_accepts (encode d ++ drop store_size store) d o n).0 (ap judge (sym m) ∙ a) in
    (d, q, w, histories_fit d w keeps claims)
