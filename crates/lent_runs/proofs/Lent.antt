-- A run call looks at no record but the first ones, and alters no other: the call on these, put back, is the call on the whole lent list.
use Rattle.std.specs.Prelude.{Ok}
use Prim.Native.Nat.{ℕ, zero, suc, ◌+◌, ◌≤◌, ◌<◌}
use native.Mathlib.Omega.{arith}
use mathlib.Core.Bool.{Bool, true, false, ◌&&◌}
use mathlib.Core.List.{List, [], ◌∷◌, ◌++◌}
use Rattle.std.specs.Prelude.{Option, None as none, Some as some}
use mathlib.Core.Path.{◌≡◌, refl, sym, ◌∙◌, ap, subst}
use lib.ListN.{length, set, take, drop, length-set, length-take, take-append-drop}
use Rattle.program.specs.Program.{Program}
use Rattle.program.proofs.Maybe.{bind_elim}
use Rattle.format.specs.Refusals.{Result, refused, accepted}
use Rattle.format.specs.Document.{Document}
use Rattle.format.specs.Text.{Bytes}
use Rattle.machine.specs.declared.ThreadRecord.{ThreadRecord}
use Rattle.machine.specs.Machine.{Machine, Change, thread_at, change, meeting, changed, changed_all, within, Order, alone, together, changes, sound, cell_limit, frame_limit, thread_limit}
use Rattle.run_memory.specs.RunMemory.{in_use, machine_in, within_limits, sound_run, bytes_after, placed, threads_after}
use Rattle.calls.specs.Layout.{store_size, decode}
use Rattle.run_calls.specs.RunCalls.{RunAnswer}
use Rattle.run_calls.specs.RunCalls.{RunOutcome, Lends, store_opened, run_opened, begun_in, begin_with, begin_on, threads_all, made, move_with, move_on}
use Rattle.run_calls.proofs.Left.{Within, uses_in, uses_changed, grows, left_one, lends_one, left_all, within_told}
use Rattle.run_calls.proofs.Opened.{threads_within, RunIs, opened_told}
use Rattle.lent_runs.proofs.Copies.{Threads}

-- ---- a record that is put at the front leaves the rest

pub set_front : (xs ys : Threads) (n : ℕ) (u : ThreadRecord) → n < length xs → set (xs ++ ys) n u ≡ set xs n u ++ ys
set_front [] ys n u l = absurd (omega arith)
set_front (x ∷ xs) ys zero u l = refl
set_front (x ∷ xs) ys (suc n) u l = ap (λ (l : Threads). x ∷ l) (set_front xs ys n u (omega arith))

placed_front : (us xs ys : Threads) (n : ℕ) → length us + n ≤ length xs → placed (xs ++ ys) n us ≡ placed xs n us ++ ys
unfolding placed
placed_front [] xs ys n l = refl
placed_front (u ∷ us) xs ys n l =
    ap (λ (l : Threads). placed l (suc n) us) (set_front xs ys n u (omega arith)) ∙ placed_front us (set xs n u) ys (suc n) (let z = length-set xs n u in omega (arith, z, l))

after_front : (run : Bytes) (xs ys : Threads) (n : ℕ) (c : Change) → n < length xs → length c.born + (in_use run).threads ≤ length xs → threads_after run (xs ++ ys) n c ≡ threads_after run xs n c ++ ys
unfolding threads_after
after_front run xs ys n c l b =
    ap (λ (l : Threads). placed l (in_use run).threads c.born) (set_front xs ys n c.thread l)
    ∙ placed_front c.born (set xs n c.thread) ys (in_use run).threads (let z = length-set xs n c.thread in omega (arith, z, b))

-- the threads of changes have records at the front
pub data Below (k : ℕ) : List (ℕ × Change) → Type 0 where
  none_below : Below k []
  next_below : {n : ℕ} {c : Change} {cs : List (ℕ × Change)} → n < k → Below k cs → Below k ((n, c) ∷ cs)

pub below_more : {k l : ℕ} {cs : List (ℕ × Change)} → k ≤ l → Below k cs → Below l cs
below_more h none_below = none_below
below_more {k} {l} h (next_below {n = n} b bs) = let q : n < l = omega (arith, h, b) in next_below q (below_more h bs)

pub all_front : (cs : List (ℕ × Change)) (run : Bytes) (xs ys : Threads) → Lends run xs → Within (changed_all (machine_in run xs) cs) → Below thread_limit cs → threads_all run (xs ++ ys) cs ≡ threads_all run xs cs ++ ys
unfolding threads_all changed_all
all_front [] run xs ys h w b = refl
all_front ((n, c) ∷ cs) run xs ys h w (next_below l b) =
    let a : (in_use run).threads ≤ length xs = (let a = h.records in let b = h.threads in omega (arith, a, b)) in
    let (x, y, z) = grows cs (changed (machine_in run xs) n c) _ _ _ (uses_changed (machine_in run xs) _ _ _ n c (uses_in run xs a)) in
    let cells : length c.cells + (in_use run).cells ≤ cell_limit = (let q = w.cells in omega (arith, x, q)) in
    let frames : length c.frames + (in_use run).frames ≤ frame_limit = (let q = w.frames in omega (arith, y, q)) in
    let threads : length c.born + (in_use run).threads ≤ thread_limit = (let q = w.threads in omega (arith, z, q)) in
    let e = left_one run xs h n c cells frames threads in
    let r = h.records in
    ap (λ (l : Threads). threads_all (bytes_after run c) l cs) (after_front run xs ys n c (omega (arith, l, r)) (omega (arith, threads, r)))
    ∙ all_front cs (bytes_after run c) (threads_after run xs n c) ys (lends_one run xs h n c cells frames threads) (subst (λ (m : Machine). Within (changed_all m cs)) (sym e) w) b

-- ---- a thread that is named is there

pub there_below : (ts : Threads) (n k : ℕ) {t : ThreadRecord} → thread_at (take n ts) k ≡ some t → k < n
unfolding thread_at
there_below ts zero k e = let z : ◌≡◌ {A = ℕ} 0 1 = cc in absurd (omega arith)
there_below [] (suc n) k e = let z : ◌≡◌ {A = ℕ} 0 1 = cc in absurd (omega arith)
there_below (t ∷ ts) (suc n) zero e = omega arith
there_below (t ∷ ts) (suc n) (suc k) e = let l = there_below ts n k e in omega (arith, l)

module _ (p : Program) (run : Bytes) (ts : Threads) where
  pub changes_below : (o : Order) (cs : List (ℕ × Change)) → changes p (machine_in run ts) o ≡ some cs → Below (in_use run).threads cs
  unfolding changes machine_in
  changes_below (alone n) cs e =
      let (t, at, e₁) = bind_elim (thread_at (take (in_use run).threads ts) n) _ e in
      let (c, _, e₂) = bind_elim (change p (machine_in run ts).memory t) _ e₁ in
      let q : (n, c) ∷ [] ≡ cs = cc in
      subst (Below (in_use run).threads) q (next_below (there_below ts _ n at) none_below)
  changes_below (together sender receiver) cs e =
      let (s, at, e₁) = bind_elim (thread_at (take (in_use run).threads ts) sender) _ e in
      let (r, at', e₂) = bind_elim (thread_at (take (in_use run).threads ts) receiver) _ e₁ in
      let (cd, _, e₃) = bind_elim (meeting p (machine_in run ts).memory s r) _ e₂ in
      let q : (receiver, cd.0) ∷ (sender, cd.1) ∷ [] ≡ cs = cc in
      subst (Below (in_use run).threads) q (next_below (there_below ts _ receiver at') (next_below (there_below ts _ sender at) none_below))

-- ---- the first records and the rest

take-take : (n k : ℕ) (ts : Threads) → n ≤ k → take n (take k ts) ≡ take n ts
take-take zero k ts l = refl
take-take (suc n) zero ts l = absurd (omega arith)
take-take (suc n) (suc k) [] l = refl
take-take (suc n) (suc k) (t ∷ ts) l = ap (λ (l : Threads). t ∷ l) (take-take n k ts (omega arith))

-- the call on the first records is the call on all, but for the rest, which stays
pub record Front (few all : RunOutcome) (rest : Threads) : Type 0 where
  pub answer : few.answer ≡ all.answer
  pub run : few.run ≡ all.run
  pub threads : few.threads ++ rest ≡ all.threads
  pub size : length few.threads ≡ thread_limit

module _ (ts : Threads) (enough : thread_limit ≤ length ts) where
  abbrev xs : Threads
  xs = take thread_limit ts

  abbrev ys : Threads
  ys = drop thread_limit ts

  whole : xs ++ ys ≡ ts
  whole = take-append-drop thread_limit ts

  size : length xs ≡ thread_limit
  size = length-take thread_limit ts ∙ omega (arith, enough)

  same_front : {a : RunAnswer} {run : Bytes} → Front (record { answer = a; run = run; threads = xs }) (record { answer = a; run = run; threads = ts }) ys
  same_front = record { answer = refl; run = refl; threads = whole; size = size }

  module _ (run : Bytes) where
    machine_front : (in_use run).threads ≤ thread_limit → machine_in run xs ≡ machine_in run ts
    unfolding machine_in
    machine_front l = rw (take-take (in_use run).threads thread_limit ts l)

    sound_front : (p : Program) → sound_run p run xs ≡ sound_run p run ts
    unfolding sound_run
    sound_front p = go (within_limits (in_use run)) refl
      where
        go : (b : Bool) → within_limits (in_use run) ≡ b → within_limits (in_use run) && sound p (machine_in run xs) ≡ within_limits (in_use run) && sound p (machine_in run ts)
        go true e = ap (λ (m : Machine). within_limits (in_use run) && sound p m) (machine_front (threads_within (in_use run) e))
        go false e = rw e refl

    module _ (store : Bytes) (lent : ℕ) where
      opened_front : run_opened store run lent xs ≡ run_opened store run lent ts
      unfolding run_opened
      opened_front = rw (sound_front (decode (take store_size store)).rows)

      made_front : (p : Program) → RunIs store run lent ts p → (o : Order) → Front (made run xs (changes p (machine_in run xs) o)) (made run ts (changes p (machine_in run ts) o)) ys
      unfolding made
      made_front p h o =
          subst (λ (m : Machine). Front (made run xs (changes p m o)) (made run ts (changes p (machine_in run ts) o)) ys) (sym same) (go (changes p (machine_in run ts) o) refl)
        where
          same : machine_in run xs ≡ machine_in run ts
          same = machine_front (threads_within (in_use run) h.counts_within)

          lends : Lends run xs
          lends = record { long = h.long.run_long; records = (let z = size in omega (arith, z)); threads = threads_within (in_use run) h.counts_within }

          fitting : (cs : List (ℕ × Change)) → changes p (machine_in run ts) o ≡ some cs → (b : Bool) → within (changed_all (machine_in run ts) cs) ≡ b → Front (made run xs (some cs)) (made run ts (some cs)) ys
          fitting cs e true w =
              let w' : within (changed_all (machine_in run xs) cs) ≡ true = ap (λ (m : Machine). within (changed_all m cs)) same ∙ w in
              let told : Within (changed_all (machine_in run xs) cs) = within_told _ w' in
              let below : Below thread_limit cs = below_more (threads_within (in_use run) h.counts_within) (changes_below p run ts o cs e) in
              rw (w, w') (record {
                answer = ap (λ (m : Machine). Ok (length (changed_all m cs).threads)) same;
                run = refl;
                threads = sym (all_front cs run xs ys lends told below) ∙ ap (λ (l : Threads). threads_all run l cs) whole;
                size = (left_all cs run xs lends told).records ∙ size;
              })
          fitting cs e false w =
              let w' : within (changed_all (machine_in run xs) cs) ≡ false = ap (λ (m : Machine). within (changed_all m cs)) same ∙ w in
              rw (w, w') same_front

          go : (q : Option (List (ℕ × Change))) → changes p (machine_in run ts) o ≡ q → Front (made run xs (changes p (machine_in run ts) o)) (made run ts (changes p (machine_in run ts) o)) ys
          go none e = rw e same_front
          go (some cs) e = rw e (fitting cs e (within (changed_all (machine_in run ts) cs)) refl)

      pub move_front : (o : Order) → Front (move_on store run lent xs o) (move_on store run lent ts o) ys
      unfolding move_on move_with
      move_front o = subst (λ (x : Result Program). Front (move_with run xs o x) (move_with run ts o (run_opened store run lent ts)) ys) (sym opened_front) (go (run_opened store run lent ts) refl)
        where
          go : (x : Result Program) → run_opened store run lent ts ≡ x → Front (move_with run xs o x) (move_with run ts o x) ys
          go (refused r) e = same_front
          go (accepted p) e = made_front p (opened_told store run lent ts p e) o

      pub begin_front : Front (begin_on store run lent xs) (begin_on store run lent ts) ys
      unfolding begin_on begin_with begun_in
      begin_front = go (store_opened store run lent)
        where
          go : (x : Result Document) → Front (begin_with run xs x) (begin_with run ts x) ys
          go (refused r) = same_front
          go (accepted d) = record {
            answer = refl;
            run = refl;
            threads = sym (set_front xs ys 0 _ (let z = size in omega (arith, z))) ∙ ap (λ (l : Threads). set l 0 (record { row = 0; cell = 0; frame = 0 })) whole;
            size = length-set xs 0 _ ∙ size;
          }
