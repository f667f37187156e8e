-- The run calls do what the machine does: after beginning and any moves, run memory and records hold the machine that the same moves leave.
use Rattle.std.specs.Prelude.{Ok}
use Prim.Native.Nat.{ℕ, ◌≤◌, ◌<◌}
use native.Mathlib.Omega.{arith}
use mathlib.Core.Bool.{Bool, true, false, So}
use mathlib.Core.List.{List, [], ◌∷◌, ◌++◌, append-nil}
use Rattle.std.specs.Prelude.{Option, None as none, Some as some}
use mathlib.Core.Path.{◌≡◌, refl, sym, ◌∙◌, ap, subst}
use lib.ListN.{length, take, length-set}
use lib.Seq.{append_snoc}
use borrow.Author.Tests.{le-ltb, le-leb, ne_eqb}
use Rattle.program.specs.Each.{nil, ◌&◌}
use Rattle.program.specs.Maybe.{◌>>=◌}
use Rattle.program.specs.Program.{Program}
use Rattle.program.proofs.Maybe.{found_at}
use Rattle.program.proofs.Test.{and_intro}
use Rattle.program.proofs.WellFormed.{WellFormed}
use Rattle.format.specs.Refusals.{number, refusal, Result, refused, accepted}
use Rattle.format.specs.Text.{Bytes}
use Rattle.format.specs.Document.{Document}
use Rattle.format.specs.declared.Reason.TheVariants.{LimitExceeded}
use Rattle.calls.specs.Answers.{turned_back, answered, refusal_answer}
use Rattle.calls.specs.Calls.{is_empty, unsound, opened_fixed}
use Rattle.calls.specs.Exact.{StoreHolds}
use Rattle.calls.specs.Layout.{store_size, decode}
use Rattle.calls.proofs.Exact.{holds_well, opened_iff}
use Rattle.calls.proofs.Judging.{rows_well}
use Rattle.machine.specs.declared.ThreadRecord.{ThreadRecord}
use Rattle.machine.specs.Machine as machine
use Rattle.machine.specs.Machine.{Machine, Change, Order, changes, changed_all, moved, within, answer, left, watched, sound, cell_limit, frame_limit, thread_limit}
use Rattle.machine.proofs.Sound.{watched-sound}
use Rattle.machine.proofs.Taking.{moved_uses, run_shown}
use Rattle.machine.proofs.Watched.{left_refused, left_accepted}
use Rattle.run_memory.specs.declared.InUse.{InUse}
use Rattle.run_memory.specs.RunMemory.{run_size, in_use, counts, machine_in, within_limits, sound_run}
use Rattle.run_memory.proofs.Codec.{begun, counted-in_use, length-counted}
use Rattle.run_calls.specs.RunCalls.{RunAnswer}
use Rattle.run_calls.specs.RunCalls.{run_answer, RunOutcome, Lends, too_short, not_begun, store_opened, run_opened, begun_in, begin_with, begin_on, begin, turned_away, bytes_all, threads_all, made, move_with, move_on}
use Rattle.run_calls.specs.Watching.{Lent, lent_of, leaves, move_in, played, orders, RowsAre, AllRows, answer_in, WatchedRun}
use Rattle.run_calls.proofs.Opened.{fixed_told, long_opened}
use Rattle.run_calls.proofs.Left.{Uses, uses_in, Within, within_told, left_all}

-- ---- a store that opens

record StoreOpens (store : Bytes) (d : Document) : Type 0 where
  filled : is_empty (take store_size store) ≡ false
  is_sound : unsound (take store_size store) ≡ false
  document : decode (take store_size store) ≡ d

holds_opens : (store : Bytes) (d : Document) → StoreHolds store d → StoreOpens store d
holds_opens store d h =
    let (a, b, c) = fixed_told (take store_size store) d (sym (long_opened store h.long) ∙ (opened_iff store d).1 h) in record { filled = a; is_sound = b; document = c }

-- ---- what moves leave is within the limits and has a thread

module _ (p : Program) where
  record Runs (m : Machine) : Type 0 where
    fits : So (within m)
    some_thread : 0 < length m.threads

  left_runs : (m : Machine) (o : Order) → Runs m → Runs (left p m o)
  unfolding left answer
  left_runs m o h = go (moved p m o) refl
    where
      go : (q : Option Machine) → moved p m o ≡ q → Runs (left p m o)
      go none e = rw (e, left) h
      go (some m') e = fitting (within m') refl
        where
          fitting : (b : Bool) → within m' ≡ b → Runs (left p m o)
          fitting true w = let u = found_at e (moved_uses p m o) in let t = u.threads in let s = h.some_thread in rw (e, w, left) (record { fits = w; some_thread = omega (arith, t, s) })
          fitting false w = rw (e, w, left) h

  watched_runs : (os : List Order) (m : Machine) → Runs m → Runs (watched p m os)
  unfolding watched
  watched_runs [] m h = h
  watched_runs (o ∷ os) m h = watched_runs os (left p m o) (left_runs m o h)

  begin_runs : Runs machine.begin
  unfolding machine.begin within
  begin_runs = record { fits = refl; some_thread = omega arith }

  watched_next : (os : List Order) (m : Machine) (o : Order) → watched p m (os ++ (o ∷ [])) ≡ left p (watched p m os) o
  unfolding watched
  watched_next [] m o = refl
  watched_next (k ∷ os) m o = watched_next os (left p m k) o

-- ---- a watched run

-- run memory and records hold the machine that the moves leave
pub record Watching (p : Program) (l : Lent) (os : List Order) : Type 0 where
  pub lends : Lends l.run l.threads
  pub machine_is : machine_in l.run l.threads ≡ watched p machine.begin os

module _ (p : Program) (l : Lent) (os : List Order) (h : Watching p l os) (store : Bytes) (d : Document) (holds : StoreHolds store d) (rows : d.rows ≡ p) where
  abbrev run : Bytes
  run = l.run

  abbrev ts : List ThreadRecord
  ts = l.threads

  abbrev m : Machine
  m = watched p machine.begin os

  use_of : Uses m (in_use run).cells (in_use run).frames (in_use run).threads
  use_of = subst (λ (m : Machine). Uses m (in_use run).cells (in_use run).frames (in_use run).threads) h.machine_is (uses_in run ts (let a = h.lends.records in let b = h.lends.threads in omega (arith, a, b)))

  runs : Runs p m
  runs = watched_runs p os machine.begin (begin_runs p)

  short_not : too_short store run (length ts) ≡ false
  unfolding too_short
  short_not = let a = le-ltb (length store) store_size holds.long in let b = le-ltb (length run) run_size h.lends.long in let c = le-ltb (length ts) thread_limit h.lends.records in rw (a, b, c)

  begun_is : not_begun run ≡ false
  unfolding not_begun
  begun_is = let t = use_of.threads in let s = runs.some_thread in ne_eqb (in_use run).threads 0 (λ (e : (in_use run).threads ≡ 0). absurd (omega (arith, t, s, e)))

  sound_is : sound_run p run ts ≡ true
  unfolding sound_run within_limits
  sound_is =
      let w : Within m = within_told m runs.fits in
      let a = w.threads in
      let b = w.cells in
      let c = w.frames in
      let x = use_of.threads in
      let y = use_of.cells in
      let z = use_of.frames in
      let (well, some_row) = rows_well d (holds_well store d holds) in
      let s : So (sound p m) = watched-sound p (subst WellFormed rows well) (subst (λ (p : Program). 0 < length p) rows some_row) os in
      and_intro (and_intro (and_intro (le-leb (in_use run).threads thread_limit (omega (arith, a, x))) (le-leb (in_use run).cells cell_limit (omega (arith, b, y)))) (le-leb (in_use run).frames frame_limit (omega (arith, c, z)))) (ap (λ (m : Machine). sound p m) h.machine_is ∙ s)

  -- 20 to 22 are not given
  pub opens : run_opened store run (length ts) ts ≡ accepted p
  unfolding run_opened
  opens =
      let o : StoreOpens store d = holds_opens store d holds in
      let q : (decode (take store_size store)).rows ≡ p = ap (λ (d : Document). d.rows) o.document ∙ rows in
      rw (short_not, o.filled, begun_is, o.is_sound, q, sound_is)

  -- a move answers what the machine answers, and leaves what the machine is then
  pub record Moves (o : Order) : Type 0 where
    pub answers : run_answer (move_in store l o).answer ≡ answer_in (answer p m o)
    pub watching : Watching p (leaves (move_in store l o)) (os ++ (o ∷ []))

  stays : (o : Order) → left p m o ≡ m → Watching p l (os ++ (o ∷ []))
  stays o e = record { lends = h.lends; machine_is = h.machine_is ∙ sym (watched_next p os machine.begin o ∙ e) }

  pub moves : (o : Order) → Moves o
  unfolding move_on move_with made moved run_answer refusal_answer number answer_in answer left ◌>>=◌
  moves o = go (changes p m o) refl
    where
      same : move_in store l o ≡ made run ts (changes p m o)
      same = ap (move_with run ts o) opens ∙ ap (λ (m : Machine). made run ts (changes p m o)) h.machine_is

      done : (x : RunOutcome) → move_in store l o ≡ x → run_answer x.answer ≡ answer_in (answer p m o) → Watching p (leaves x) (os ++ (o ∷ [])) → Moves o
      done x e a w = record { answers = ap (λ (x : RunOutcome). run_answer x.answer) e ∙ a; watching = subst (λ (x : RunOutcome). Watching p (leaves x) (os ++ (o ∷ []))) (sym e) w }

      none_is : changes p m o ≡ none → answer p m o ≡ machine.refused 30
      none_is e = rw (e, answer)

      over_is : (cs : List (ℕ × Change)) → changes p m o ≡ some cs → within (changed_all m cs) ≡ false → answer p m o ≡ machine.refused 31
      over_is cs e w = rw (e, w, answer)

      fits_is : (cs : List (ℕ × Change)) → changes p m o ≡ some cs → within (changed_all m cs) ≡ true → answer p m o ≡ machine.accepted (changed_all m cs)
      fits_is cs e w = rw (e, w, answer)

      made_over : (cs : List (ℕ × Change)) → within (changed_all (machine_in run ts) cs) ≡ false → made run ts (some cs) ≡ turned_away (refusal LimitExceeded 0) run ts
      made_over cs w = rw (w, made)

      made_fits : (cs : List (ℕ × Change)) → within (changed_all (machine_in run ts) cs) ≡ true
          → made run ts (some cs) ≡ record { answer = Ok (length (changed_all (machine_in run ts) cs).threads); run = bytes_all run cs; threads = threads_all run ts cs }
      made_fits cs w = rw (w, made)

      fitting : (cs : List (ℕ × Change)) → changes p m o ≡ some cs → (b : Bool) → within (changed_all m cs) ≡ b → Moves o
      fitting cs e false w =
          let a = over_is cs e w in
          done _ (same ∙ ap (made run ts) e ∙ made_over cs (ap (λ (m : Machine). within (changed_all m cs)) h.machine_is ∙ w)) (sym (ap answer_in a)) (stays o (left_refused p m o 31 a))
      fitting cs e true w =
          let a = fits_is cs e w in
          let w' : within (changed_all (machine_in run ts) cs) ≡ true = ap (λ (m : Machine). within (changed_all m cs)) h.machine_is ∙ w in
          let all = left_all cs run ts h.lends (within_told _ w') in
          done _ (same ∙ ap (made run ts) e ∙ made_fits cs w') (ap (λ (m : Machine). answered (length (changed_all m cs).threads ∷ [])) h.machine_is ∙ sym (ap answer_in a))
          (record { lends = all.lends; machine_is = all.machine ∙ ap (λ (m : Machine). changed_all m cs) h.machine_is ∙ sym (watched_next p os machine.begin o ∙ left_accepted p m o (changed_all m cs) a) })

      go : (q : Option (List (ℕ × Change))) → changes p m o ≡ q → Moves o
      go none e = let a = none_is e in done _ (same ∙ ap (made run ts) e) (sym (ap answer_in a)) (stays o (left_refused p m o 30 a))
      go (some cs) e = fitting cs e (within (changed_all m cs)) refl

-- ---- beginning

module _ (store run : Bytes) (ts : List ThreadRecord) (d : Document) (holds : StoreHolds store d) (long : run_size ≤ length run) (records : thread_limit ≤ length ts) where
  begin_is : begin store run ts ≡ begun_in run ts
  unfolding begin_on store_opened begin_with too_short
  begin_is =
      let a = le-ltb (length store) store_size holds.long in
      let b = le-ltb (length run) run_size long in
      let c = le-ltb (length ts) thread_limit records in
      let e : opened_fixed (take store_size store) ≡ accepted d = sym (long_opened store holds.long) ∙ (opened_iff store d).1 holds in
      rw (a, b, c, e)

  -- beginning is accepted, and leaves the machine at its beginning
  pub begins : (run_answer (begin store run ts).answer ≡ answered (1 ∷ [])) × Watching d.rows (leaves (begin store run ts)) []
  unfolding begun_in run_answer watched
  begins = (
    ap (λ (x : RunOutcome). run_answer x.answer) begin_is,
    subst (λ (x : RunOutcome). Watching d.rows (leaves x) []) (sym begin_is) (record {
      lends = record {
        long = (let z = length-counted run (counts 1 0 0) in omega (arith, z, long));
        records = (let z = length-set ts 0 (record { row = 0; cell = 0; frame = 0 }) in omega (arith, z, records));
        threads = (let z = ap (λ (n : InUse). n.threads) (counted-in_use run (counts 1 0 0) long) in omega (arith, z));
      };
      machine_is = begun run long ts (omega (arith, records));
    }),
  )

-- ---- any calls

-- the moves of calls, behind those that were made before
watching_all : (p : Program) (calls : List (Bytes × Order)) (l : Lent) (os : List Order) → Watching p l os → AllRows p calls → Watching p (played l calls) (os ++ orders calls)
unfolding played orders
watching_all p [] l os h nil = subst (Watching p l) (sym (append-nil os)) h
watching_all p ((store, o) ∷ calls) l os h ((d, holds, rows) & rest) =
    subst (Watching p (played (leaves (move_in store l o)) calls)) (append_snoc os o (orders calls))
    (watching_all p calls (leaves (move_in store l o)) (os ++ (o ∷ [])) (moves p l os h store d holds rows o).watching rest)

-- a run from beginning by any calls, with any stores of the same rows, stands for the pool that the steps of its accepted moves leave, and the next move answers as the run rules say
pub watched_run : (p : Program) (store run : Bytes) (ts : List ThreadRecord) → RowsAre p store → run_size ≤ length run → thread_limit ≤ length ts
    → (run_answer (begin store run ts).answer ≡ answered (1 ∷ [])) × ((calls : List (Bytes × Order)) → AllRows p calls → WatchedRun p (played (leaves (begin store run ts)) calls) (orders calls))
watched_run p store run ts (d, holds, rows) long records =
    let (a, w) = begins store run ts d holds long records in (a, λ calls all. go calls all (subst (λ (p : Program). Watching p (leaves (begin store run ts)) []) rows w))
  where
    go : (calls : List (Bytes × Order)) → AllRows p calls → Watching p (leaves (begin store run ts)) [] → WatchedRun p (played (leaves (begin store run ts)) calls) (orders calls)
    go calls all w =
        let l : Lent = played (leaves (begin store run ts)) calls in
        let os : List Order = orders calls in
        let h : Watching p l os = watching_all p calls (leaves (begin store run ts)) [] w all in
        record {
          shown = run_shown p os;
          machine_is = h.machine_is;
          answers = λ store (d, holds, rows) o. (moves p l os h store d holds rows o).answers;
        }

-- ---- refused calls

-- "both leave the run as before"; and so do 20 to 22
module _ (store run : Bytes) (ts : List ThreadRecord) (n line : ℕ) where
  begin_as_before : (x : Result Document) → run_answer (begin_with run ts x).answer ≡ turned_back n line → ((begin_with run ts x).run ≡ run) × ((begin_with run ts x).threads ≡ ts)
  unfolding begin_with begun_in run_answer
  begin_as_before (refused r) e = (refl, refl)
  begin_as_before (accepted d) e = let z : ◌≡◌ {A = ℕ} 0 1 = cc in absurd (omega arith)

  pub begin_refused : run_answer (begin store run ts).answer ≡ turned_back n line → ((begin store run ts).run ≡ run) × ((begin store run ts).threads ≡ ts)
  unfolding begin_on
  begin_refused e = begin_as_before (store_opened store run (length ts)) e

  made_as_before : (q : Option (List (ℕ × Change))) → run_answer (made run ts q).answer ≡ turned_back n line → ((made run ts q).run ≡ run) × ((made run ts q).threads ≡ ts)
  unfolding made run_answer
  made_as_before none e = (refl, refl)
  made_as_before (some cs) e = go (within (changed_all (machine_in run ts) cs)) refl
    where
      go : (b : Bool) → within (changed_all (machine_in run ts) cs) ≡ b → ((made run ts (some cs)).run ≡ run) × ((made run ts (some cs)).threads ≡ ts)
      go true w = let f = rw (w, made) at e in let z : ◌≡◌ {A = ℕ} 0 1 = cc in absurd (omega arith)
      go false w = rw (w, made) (refl, refl)

  pub move_refused : (o : Order) → run_answer (move_in store (lent_of run ts) o).answer ≡ turned_back n line
      → ((move_in store (lent_of run ts) o).run ≡ run) × ((move_in store (lent_of run ts) o).threads ≡ ts)
  unfolding move_on move_with run_answer
  move_refused o e = go (run_opened store run (length ts) ts) e
    where
      go : (x : Result Program) → run_answer (move_with run ts o x).answer ≡ turned_back n line → ((move_with run ts o x).run ≡ run) × ((move_with run ts o x).threads ≡ ts)
      go (refused r) e = (refl, refl)
      go (accepted p) e = made_as_before (changes p (machine_in run ts) o) e
