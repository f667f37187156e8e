-- What each move takes of cells, frames and threads: 31 can be told before anything is altered; and so what each move answers.
use Prim.Native.Nat.{ℕ, ◌+◌}
use native.Mathlib.Omega.{arith}
use mathlib.Core.Bool.{Bool, true, false, So}
use mathlib.Core.List.{List, [], ◌∷◌, ◌++◌}
use Rattle.std.specs.Prelude.{Option, None as none, Some as some}
use mathlib.Core.Path.{◌≡◌, refl, sym, ◌∙◌, ap, subst}
use lib.ListN.{length, length-append, set, length-set}
use lib.Dec.{eqb}
use Rattle.program.specs.declared.Row.{Row}
use Rattle.program.specs.declared.Bind.{Bind}
use Rattle.program.specs.declared.Form.{Form}
use Rattle.program.specs.declared.Form.TheVariants.{Chan, Send, Recv, Pair, Left, Right, Fun, Spawn, Sync, First, Second, Case, Apply}
use Rattle.program.specs.Maybe.{◌>>=◌, given}
use Rattle.program.specs.declared.Word.{Word}
use Rattle.program.specs.Flow.{Table, keeps_all}
use Rattle.program.specs.History.{HistoryFits}
use Rattle.program.specs.Run.{Path, made, Thread, Pool, added, run}
use Rattle.program.specs.Walk.{CanShare, Holds, send_place, receive_place}
use Rattle.program.proofs.Sound.Histories.{claims_hold}
use Rattle.program.proofs.WellFormed.{WellFormed}
use Rattle.program.specs.Program.{Program, row_at, chan_at, bind_at, pair_at, left_at, right_at, fun_at}
use Rattle.program.proofs.Maybe.{Found, nothing, found, found_self, found_bind, found_either, found_at}
use Rattle.machine.specs.declared.ThreadRecord.{ThreadRecord}
use Rattle.machine.specs.declared.Cell.{Cell}
use Rattle.machine.specs.declared.Held.{Held}
use Rattle.machine.specs.declared.Kept.{Kept}
use Rattle.machine.specs.declared.Kept.TheVariants.{Keeps}
use Rattle.machine.specs.Machine.{Memory, Machine, numbered, find, find_closure, thread_at, Change, grown, bound, go_on, fork, go_into, form_change, result_change, change, offers, awaits, begin, changed, watched, Order, alone, together, moved, within, answer, Taken, takes, taken_by, taken_at, taken_in, fits}
use Rattle.machine.specs.Standing.{step_of, Shown, AnswerIs, is_not_allowed, too_large, taken}
use Rattle.machine.proofs.Flat.{flat, flat-moved}
use Rattle.machine.proofs.Stands.{Stands}
use Rattle.machine.proofs.Watched.{moved_names, accepted_step, refused_step, stands_for, from_begin}

-- the change takes so much
pub record Takes (k : Taken) (c : Change) : Type 0 where
  pub cells : length c.cells ≡ k.cells
  pub frames : length c.frames ≡ k.frames
  pub threads : length c.born ≡ k.threads

module _ (p : Program) (m : Memory) (t : ThreadRecord) where
  on_takes : (b : Bind) (k : Kept) → Takes (takes 1 0 0) (go_on m t b k)
  unfolding go_on
  on_takes b k = record { cells = refl; frames = refl; threads = refl }

  into_takes : (b : Bind) (r : ℕ) (new : List Cell) → Takes (takes (length new) 1 0) (go_into m t b r new)
  unfolding go_into
  into_takes b r new = record { cells = refl; frames = refl; threads = refl }

  part_takes : (b : Bind) (of : ℕ × ℕ → ℕ) (a : ℕ)
      → Found (Takes (takes 1 0 0)) (find_closure m.cells t.cell a >>= λ k. pair_at p k.0 >>= λ xy. find m.cells k.1 (of xy) >>= λ v. some (go_on m t b (Keeps v)))
  part_takes b of a =
      found_bind (found_self (find_closure m.cells t.cell a)) λ (r, k) _.
      found_bind (found_self (pair_at p r)) λ xy _.
      found_bind (found_self (find m.cells k (of xy))) λ v _.
      found (on_takes b (Keeps v))

  branch_takes : (b : Bind) (o : Option ℕ) (k x r : ℕ) → Found (Takes (takes 1 1 0)) (o >>= λ a. find m.cells k a >>= λ v. some (go_into m t b r (bound x t.cell (Keeps v) ∷ [])))
  branch_takes b o k x r =
      found_bind (found_self o) λ a _.
      found_bind (found_self (find m.cells k a)) λ v _.
      found (into_takes b r (bound x t.cell (Keeps v) ∷ []))

  form_takes : (b : Bind) (f : Form) → Found (Takes (taken_by f)) (form_change p m t b f)
  unfolding form_change fork
  form_takes b Form.Unit = found (on_takes b _)
  form_takes b Chan = found (on_takes b _)
  form_takes b (Send c x) = found (on_takes b _)
  form_takes b (Recv c) = found (on_takes b _)
  form_takes b (Pair x y) = found (on_takes b _)
  form_takes b (Left x) = found (on_takes b _)
  form_takes b (Right x) = found (on_takes b _)
  form_takes b (Fun f x r) = found (on_takes b _)
  form_takes b (Spawn r) = found {a = fork m t b r} (record { cells = refl; frames = refl; threads = refl })
  form_takes b (Sync e) = nothing
  form_takes b (First a) = part_takes b (λ xy. xy.0) a
  form_takes b (Second a) = part_takes b (λ xy. xy.1) a
  form_takes b (Case s x l y u) =
      found_bind (found_self (find_closure m.cells t.cell s)) λ (r, k) _.
      found_either (branch_takes b (left_at p r) k x l) (branch_takes b (right_at p r) k y u)
  form_takes b (Apply f a) =
      found_bind (found_self (find_closure m.cells t.cell f)) λ (r, k) _.
      found_bind (found_self (fun_at p r)) λ (g, x, body) _.
      found_bind (found_self (find m.cells t.cell a)) λ v _.
      found (into_takes b body _)

  change_takes : Found (Takes (taken_at (row_at p t.row))) (change p m t)
  unfolding change result_change
  change_takes = go (row_at p t.row)
    where
      go : (x : Row) → Found (Takes (taken_at x)) (elim x [ Row.Result n ↦ result_change m t n | Row.Bind b ↦ form_change p m t b b.form ])
      go (Row.Result n) =
          found_bind (found_self (numbered m.frames t.frame)) λ f _.
          found_bind (found_self (find m.cells t.cell n)) λ v _.
          found (record { cells = refl; frames = refl; threads = refl })
      go (Row.Bind b) = form_takes b b.form

-- what is in use after a move: what was, and what the move takes
pub record Uses (m : Machine) (k : Taken) (m' : Machine) : Type 0 where
  pub cells : length m'.memory.cells ≡ k.cells + length m.memory.cells
  pub frames : length m'.memory.frames ≡ k.frames + length m.memory.frames
  pub threads : length m'.threads ≡ k.threads + length m.threads

changed_uses : (m : Machine) (n : ℕ) (k : Taken) (c : Change) → Takes k c → Uses m k (changed m n c)
unfolding changed grown
changed_uses m n k c h = record {
  cells = length-append c.cells m.memory.cells ∙ ap (λ (n : ℕ). n + length m.memory.cells) h.cells;
  frames = length-append c.frames m.memory.frames ∙ ap (λ (n : ℕ). n + length m.memory.frames) h.frames;
  threads = length-append (set m.threads n c.thread) c.born ∙ (let q = length-set m.threads n c.thread in let r = h.threads in omega (arith, q, r));
}

module _ (p : Program) where
  flat_uses : (m : Machine) (o : Order) → Found (Uses m (taken_in p m o)) (flat p m o)
  unfolding flat taken_in ◌>>=◌
  flat_uses m (alone n) = go (thread_at m.threads n)
    where
      go : (q : Option ThreadRecord) → Found (Uses m (elim q as (λ q. Taken) [ none ↦ takes 0 0 0 | some t ↦ taken_at (row_at p t.row) ])) (q >>= λ t. change p m.memory t >>= λ c. some (changed m n c))
      go none = nothing
      go (some t) = found_bind (change_takes p m.memory t) λ c h. found (changed_uses m n _ c h)
  flat_uses m (together sender receiver) =
      found_bind (found_self (thread_at m.threads sender)) λ s _.
      found_bind (found_self (thread_at m.threads receiver)) λ r _.
      found_bind (found_self (bind_at p s.row)) λ b _.
      found_bind (found_self (bind_at p r.row)) λ d _.
      found_bind (found_self (offers p m.memory s)) λ (i, v) _.
      found_bind (found_self (awaits p m.memory r)) λ j _.
      found_bind (found_self (given (eqb i j))) λ _ _.
      let m₁ : Machine = changed m receiver (go_on m.memory r d (Keeps v)) in
      let u = changed_uses m receiver (takes 1 0 0) (go_on m.memory r d (Keeps v)) (on_takes p m.memory r d (Keeps v)) in
      let u' = changed_uses m₁ sender (takes 1 0 0) (go_on m₁.memory s b (Keeps Held.Unit)) (on_takes p m₁.memory s b (Keeps Held.Unit)) in
      found (record { cells = omega (arith, u.cells, u'.cells); frames = omega (arith, u.frames, u'.frames); threads = omega (arith, u.threads, u'.threads) })

  pub moved_uses : (m : Machine) (o : Order) → Found (Uses m (taken_in p m o)) (moved p m o)
  moved_uses m o = subst (Found (Uses m (taken_in p m o))) (sym (flat-moved p m o)) (flat_uses m o)

  -- 31 is given exactly where what is in use and what the move takes exceed a limit
  pub within_fits : (m : Machine) (o : Order) (m' : Machine) → moved p m o ≡ some m' → within m' ≡ fits m (taken_in p m o)
  unfolding within fits
  within_fits m o m' e = let u = found_at e (moved_uses m o) in rw (u.cells, u.frames, u.threads)

-- ---- what a move answers

pub answer_is : (p : Program) (m : Machine) (pool : Pool) (path : ℕ → Path) → Stands m pool path → (o : Order) → AnswerIs p m pool path o (answer p m o)
unfolding answer
answer_is p m pool path h o = go (moved p m o) refl
  where
    fitting : (m' : Machine) → moved p m o ≡ some m' → (b : Bool) → within m' ≡ b → AnswerIs p m pool path o (answer p m o)
    fitting m' e b w =
        let (new, path', allowed, k) = accepted_step p m pool path h o m' e in
        let f : fits m (taken_in p m o) ≡ b = sym (within_fits p m o m' e) ∙ w in
        decided m' e new path' allowed k b w f
      where
        decided : (m' : Machine) → moved p m o ≡ some m' → (new : List Thread) (path' : ℕ → Path) → added p pool (step_of path o) ≡ some new → Stands m' (new ++ pool) path'
            → (b : Bool) → within m' ≡ b → fits m (taken_in p m o) ≡ b → AnswerIs p m pool path o (answer p m o)
        decided m' e new path' allowed k true w f = rw (e, w, answer) (taken new path' m' (moved_names p m pool path h o m' e) allowed f (stands_for k))
        decided m' e new path' allowed k false w f = rw (e, w, answer) (too_large new (moved_names p m pool path h o m' e) allowed f)

    go : (q : Option Machine) → moved p m o ≡ q → AnswerIs p m pool path o (answer p m o)
    go none e = rw (e, answer) (is_not_allowed (λ there. refused_step p m pool path h o there e))
    go (some m') e = fitting m' e (within m') refl

-- "a run ends in a state that stands for the pool that the steps of its accepted moves leave"
pub run_shown : (p : Program) (os : List Order) → Shown p os
unfolding run
run_shown p os =
    let e = from_begin p os in
    record { steps = e.steps; follows = e.follows; path = e.last; stands = stands_for e.stands; next = λ o. answer_is p (watched p begin os) (run p e.steps) e.last e.stands o }

-- "What is promised of an accepted program's history holds of each run watched here"
pub claims_watched : (p : Program) (flow comm : Table) → WellFormed p → So (keeps_all p flow comm)
    → (word : Word) (n c : ℕ) → chan_at p c ≡ some n → Holds p flow (CanShare p) word (send_place p flow c) (receive_place p flow c)
    → (os : List Order) (maker : Path) → HistoryFits p (run p (run_shown p os).steps) (made maker n) word
claims_watched p flow comm well keeps word n c chan holds os maker = claims_hold p flow comm well keeps word n c chan holds (run_shown p os).steps maker
