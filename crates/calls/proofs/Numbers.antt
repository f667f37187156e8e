-- The demands over the numbers and values of answers, from those over the answers: an answer's number or values tell its case.
use Rattle.std.specs.Prelude.{Ok, Err}
use Prim.Native.Nat.{ℕ, ◌≤◌, ◌<◌}
use native.Mathlib.Omega.{arith}
use mathlib.Core.Bool.{So}
use mathlib.Core.List.{List, [], ◌∷◌, ◌++◌}
use Rattle.std.specs.Prelude.{Some as some}
use mathlib.Core.Path.{◌≡◌, refl, sym, ap, ◌∙◌}
use mathlib.Core.Logic.{◌↔◌}
use lib.ListN.{length, take, drop, replicate}
use borrow.Author.Tests.{lt-ltb}
use Rattle.program.specs.Each.{Member}
use Rattle.program.specs.Program.{chan_at}
use Rattle.program.specs.Run.{Path, made, Step, run}
use Rattle.program.specs.History.{HistoryFits}
use Rattle.format.specs.declared.Refusal.{Refusal}
use Rattle.format.specs.Limits.{byte_limit}
use Rattle.format.specs.Refusals.{number}
use Rattle.format.specs.Text.{Bytes}
use Rattle.format.specs.Document.{Claim, Document}
use Rattle.format.specs.Print.{document_text}
use Rattle.format.specs.WellFormed.{well_formed}
use Rattle.calls.specs.declared.Counts.{Counts}
use Rattle.calls.specs.Answers.{LoadAnswer}
use Rattle.calls.specs.Answers.{WriteAnswer}
use Rattle.calls.specs.Answers.{turned_back, answered, refusal_answer, load_answer, judge_answer, write_answer}
use Rattle.calls.specs.Layout.{store_size}
use Rattle.calls.specs.Calls.{counts, load, judge, write}
use Rattle.calls.specs.Exact.{RulesHold, ClaimsHold}
use Rattle.calls.proofs.Calls as the
use Rattle.calls.proofs.Exact.{judge_accepted}
use Rattle.calls.proofs.Exact as exact

-- ---- which case an answer is

-- the counts of row, flow, comm and claim lines
abbrev line_counts : Document → List ℕ
line_counts d = length d.rows ∷ length d.flows ∷ length d.comms ∷ length d.claims ∷ []

abbrev count_list : Counts → List ℕ
count_list c = c.rows ∷ c.flows ∷ c.comms ∷ c.claims ∷ []

load_values : (a : LoadAnswer) (ns : List ℕ) → load_answer a ≡ answered ns → (c : Counts) × (a ≡ Ok c) × (count_list c ≡ ns)
unfolding load_answer refusal_answer
load_values (Ok c) ns e = (c, refl, let q : count_list c ≡ ns = cc in q)
load_values (Err r) ns e = let z : ◌≡◌ {A = ℕ} 0 1 = cc in absurd (omega arith)

load_number : (a : LoadAnswer) (n line : ℕ) → load_answer a ≡ turned_back n line → (r : Refusal) × (a ≡ Err r)
unfolding load_answer refusal_answer
load_number (Ok c) n line e = let z : ◌≡◌ {A = ℕ} 0 1 = cc in absurd (omega arith)
load_number (Err r) n line e = (r, refl)

write_value : (a : WriteAnswer) (n : ℕ) → write_answer a ≡ answered (n ∷ []) → a ≡ Ok n
unfolding write_answer refusal_answer
write_value (Ok m) n e = let q : m ≡ n = cc in ap Ok q
write_value (Err r) n e = let z : ◌≡◌ {A = ℕ} 0 1 = cc in absurd (omega arith)

write_number : (a : WriteAnswer) (n line : ℕ) → write_answer a ≡ turned_back n line → (r : Refusal) × (a ≡ Err r)
unfolding write_answer refusal_answer
write_number (Ok m) n line e = let z : ◌≡◌ {A = ℕ} 0 1 = cc in absurd (omega arith)
write_number (Err r) n line e = (r, refl)

-- ---- the demands

module _ (file store : Bytes) where
  pub load_refused : (n line : ℕ) → load_answer (load file store).answer ≡ turned_back n line → store_size ≤ length store
      → (load file store).bytes ≡ replicate store_size 0 ++ drop store_size store
  load_refused n line e l = let (r, q) = load_number (load file store).answer n line e in the.load_refused file store r q l

  pub load_too_short : length store < store_size → (load_answer (load file store).answer ≡ turned_back 20 0) × ((load file store).bytes ≡ store)
  unfolding load load_answer refusal_answer number
  load_too_short l = (rw (lt-ltb (length store) store_size l, load) refl, the.load_too_short file store l)

  pub load_takes : store_size ≤ length store → (ns : List ℕ)
      → (load_answer (load file store).answer ≡ answered ns)
      ↔ ((d : Document) × (file ≡ document_text d) × So (well_formed d) × (length file ≤ byte_limit) × (ns ≡ line_counts d))
  unfolding load_answer counts
  load_takes l ns = (
    λ e.
        let (c, q, k) = load_values (load file store).answer ns e in
        let (d, t, w, s, m) = (the.load_takes file store l c).0 q in
        (d, t, w, s, sym k ∙ ap count_list m),
    λ (d, t, w, s, m). ap load_answer ((the.load_takes file store l (counts d)).1 (d, t, w, s, refl)) ∙ ap answered (sym m),
  )

  pub write-load : (out : Bytes) (ns : List ℕ) → load_answer (load file store).answer ≡ answered ns → length file ≤ length out
      → (write_answer (write (load file store).bytes out).answer ≡ answered (length file ∷ [])) × ((write (load file store).bytes out).bytes ≡ file ++ drop (length file) out)
  unfolding write_answer
  write-load out ns e l =
      let (c, q, _) = load_values (load file store).answer ns e in
      let (a, b) = the.write-load file store out c q l in
      (ap write_answer a, b)

  pub judge_loaded : (ns : List ℕ) → load_answer (load file store).answer ≡ answered ns → (n : ℕ)
      → (judge_answer (judge (load file store).bytes) ≡ answered (n ∷ []))
      ↔ ((d : Document) × (file ≡ document_text d) × So (well_formed d) × RulesHold d × ClaimsHold d × (n ≡ length d.claims))
  unfolding judge_answer
  judge_loaded ns e n =
      let (c, q, _) = load_values (load file store).answer ns e in
      let (there, back) = exact.judge_loaded file store c q n in
      (λ a. there (judge_accepted (judge (load file store).bytes) n a), λ h. ap judge_answer (back h))

  pub sound : (ns : List ℕ) (n : ℕ) → load_answer (load file store).answer ≡ answered ns → judge_answer (judge (load file store).bytes) ≡ answered (n ∷ [])
      → (d : Document) × (file ≡ document_text d) × So (well_formed d)
      × ((k : Claim) → Member k d.claims → (name : ℕ) → chan_at d.rows k.channel ≡ some name
      → (steps : List Step) (maker : Path) → HistoryFits d.rows (run d.rows steps) (made maker name) k.word)
  sound ns n e a = let (c, q, _) = load_values (load file store).answer ns e in the.sound file store c n q (judge_accepted (judge (load file store).bytes) n a)

module _ (store out : Bytes) where
  pub write_refused : (n line : ℕ) → write_answer (write store out).answer ≡ turned_back n line → (write store out).bytes ≡ out
  write_refused n line e = let (r, q) = write_number (write store out).answer n line e in the.write_refused store out r q

  pub load-write : (other : Bytes) (n : ℕ) → write_answer (write store out).answer ≡ answered (n ∷ []) → n ≤ byte_limit → store_size ≤ length other
      → (load (take n (write store out).bytes) other).bytes ≡ take store_size store ++ drop store_size other
  load-write other n e = the.load-write store out other n (write_value (write store out).answer n e)
