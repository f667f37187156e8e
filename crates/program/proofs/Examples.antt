-- Small programs, by computation: slips that are easily made, and runs.
use Prim.Native.Nat.{ℕ, zero, suc}
use native.Mathlib.Decide.{ℕ_discrete}
use native.Mathlib.Omega.{arith}
use mathlib.Core.Bool.{Bool, true, false, ◌||◌, false≢true}
use mathlib.Core.List.{List, [], ◌∷◌, map}
use mathlib.Core.Logic.{⊎_elim}
use Rattle.std.specs.Prelude.{Option, None as none, Some as some}
use mathlib.Core.Path.{◌≡◌, refl, sym, ◌∙◌}
use lib.ListN.{get_or, length}
use lib.Dec.{eqb}
use Rattle.program.specs.declared.Row.{Row}
use Rattle.program.specs.declared.Form.{Form}
use Rattle.program.specs.declared.Form.TheVariants.{Chan, Send, Recv, Left, Fun, Spawn, Sync, Case, Apply}
use Rattle.program.specs.declared.Word.TheVariants.{OneShot, OneToOne, FanOut, FanIn, OneSync}
use Rattle.program.specs.Test.{all, any, test, either?}
use Rattle.program.specs.Maybe.{◌>>=◌, when, has, given, provided, ◌<|>◌}
use Rattle.program.specs.Each.{Member, here, there, every}
use Rattle.program.specs.Snoc.{ε, ◌▷◌, Snoc-discrete, Ordered, begins?, continues?}
use Rattle.program.specs.Program.{Program, row_at, bind_of, bind_at, form_at, chan_at, send_at, recv_at, pair_at, left_at, right_at, fun_at, sync_at, fork_at, result_from, result_row, name_of, result_name}
use Rattle.program.specs.Flow.{Abstract, u, row, Table, for_each, for_each_chan, lies, send_rule, recv_rule, keeps_form, keeps_at}
use Rattle.program.specs.Walk.{enters, some_called, to_rest, to_child, to_called, to_caller, edge, send_place, receive_place}
use Rattle.program.specs.Closure.{cell, table, join, through, closure, grid, closed}
use Rattle.program.specs.Verdict.{reach, says, reached, leads, in_a_row, rivals, ends, facts, verdict}
use Rattle.program.specs.Run.{Path, next, spawn, call, same_label, Instance, made, State, Pool, lookup, closure_of, channel_of, closure_at, proceed, enter, start, form_moves, result_moves}
use Rattle.program.specs.Run.{moves, event, sends_on, message, offer, receives_on}
use Rattle.program.specs.Run.{state_of, leaf, leaf_state, lengthen, Step, own, meet, added, step, after, start_pool, run}
use Rattle.program.specs.Topology.{Fits}
use Rattle.program.specs.History.{AtSend, AtReceive, HistoryFits}
use Rattle.program.proofs.Maybe.{bind_elim}
use Rattle.program.proofs.Test.{test_intro}

-- sets and tables as lists
same : Abstract → Abstract → Bool
same u u = true
same u (row r) = false
same (row r) u = false
same (row r) (row s) = eqb r s

holds : Abstract → List Abstract → Bool
holds a [] = false
holds a (x ∷ xs) = same a x || holds a xs

sets : List (List Abstract) → Table
unfolding same holds
sets ls n a = holds a (get_or ls n [])

bind : ℕ → Form → ℕ → Row
bind n f t = Row.Bind (record { name = n; form = f; rest = t })

-- a program with its flow sets; in each, channel row 1 carries unit
record Sample : Type 0 where
  rows : Program
  flow : List (List Abstract)

comm : List (List Abstract)
comm = [] ∷ (u ∷ []) ∷ []

-- the rows whose flow rule fails
failing : Sample → List ℕ
unfolding sets comm keeps_at keeps_form send_rule recv_rule lies for_each for_each_chan all every
    row_at bind_at bind_of when has chan_at send_at recv_at ◌>>=◌ form_at pair_at left_at right_at fun_at result_name result_row result_from name_of
failing s = go (length s.rows) []
  where
    go : ℕ → List ℕ → List ℕ
    go zero found = found
    go (suc n) found = elim (keeps_at s.rows (sets s.flow) (sets comm) n) [ true ↦ go n found | false ↦ go n (n ∷ found) ]

-- the verdict on channel row 1
verdicts : Sample → List Bool
unfolding sets verdict says facts ends rivals in_a_row leads reached reach closed grid closure through join table cell edge to_rest to_child to_called to_caller some_called enters
    any has row_at bind_at bind_of ◌>>=◌ form_at fun_at fork_at sync_at send_at recv_at result_row result_from send_place receive_place
verdicts s =
    let p = s.rows in
    let flow = sets s.flow in
    let r = reach p flow in
    map (λ w. verdict p r (reached p r) w (send_place p flow 1) (receive_place p flow 1)) (OneShot ∷ OneToOne ∷ FanOut ∷ FanIn ∷ OneSync ∷ [])

-- the rows of the pool that a list of steps leaves
ran : Sample → List Step → List ℕ
unfolding run after step added start_pool lengthen leaf_state leaf state_of moves form_moves result_moves proceed enter start event sends_on message offer receives_on
    lookup closure_of channel_of closure_at given provided ◌>>=◌ ◌<|>◌ test continues? begins? every either? row_at bind_at bind_of sync_at send_at recv_at form_at pair_at left_at right_at fun_at ℕ_discrete
ran s ss = map (λ t. t.state.row) (run s.rows ss)

-- example A: a child receives what its parent sends
one_shot : Sample
unfolding bind
one_shot = record {
  rows = bind 0 Form.Unit 1 ∷ bind 1 Chan 2 ∷ bind 2 (Spawn 3) 6 ∷ bind 3 (Recv 1) 4 ∷ bind 4 (Sync 3) 5 ∷ Row.Result 4 ∷ bind 5 (Send 1 0) 7 ∷ bind 6 (Sync 5) 8 ∷ Row.Result 6 ∷ [];
  flow = (u ∷ []) ∷ (row 1 ∷ []) ∷ (u ∷ []) ∷ (row 3 ∷ []) ∷ (u ∷ []) ∷ (row 6 ∷ []) ∷ (u ∷ []) ∷ [];
}

-- the parent sends, then spawns a child that sends
in_turn : Sample
unfolding bind
in_turn = record {
  rows = bind 0 Form.Unit 1 ∷ bind 1 Chan 2 ∷ bind 2 (Send 1 0) 3 ∷ bind 3 (Sync 2) 4 ∷ bind 4 (Spawn 5) 7 ∷ bind 5 (Sync 2) 6 ∷ Row.Result 5 ∷ Row.Result 4 ∷ [];
  flow = (u ∷ []) ∷ (row 1 ∷ []) ∷ (row 2 ∷ []) ∷ (u ∷ []) ∷ (u ∷ []) ∷ (u ∷ []) ∷ [];
}

-- parent and child both send
at_once : Sample
unfolding bind
at_once = record {
  rows = bind 0 Form.Unit 1 ∷ bind 1 Chan 2 ∷ bind 2 (Send 1 0) 3 ∷ bind 3 (Spawn 4) 6 ∷ bind 4 (Sync 2) 5 ∷ Row.Result 4 ∷ bind 5 (Sync 2) 7 ∷ Row.Result 5 ∷ [];
  flow = (u ∷ []) ∷ (row 1 ∷ []) ∷ (row 2 ∷ []) ∷ (u ∷ []) ∷ (u ∷ []) ∷ (u ∷ []) ∷ [];
}

-- one send row in a loop
loop : Sample
unfolding bind
loop = record {
  rows = bind 0 Form.Unit 1 ∷ bind 1 Chan 2 ∷ bind 2 (Send 1 0) 3 ∷ bind 3 (Fun 4 5 4) 7 ∷ bind 6 (Sync 2) 5 ∷ bind 7 (Apply 4 5) 6 ∷ Row.Result 7 ∷ bind 8 (Apply 3 0) 8 ∷ Row.Result 8 ∷ [];
  flow = (u ∷ []) ∷ (row 1 ∷ []) ∷ (row 2 ∷ []) ∷ (row 3 ∷ []) ∷ (row 3 ∷ []) ∷ (u ∷ []) ∷ (u ∷ []) ∷ [] ∷ [];
}

-- each branch of a case sends
branches : Sample
unfolding bind
branches = record {
  rows = bind 0 Form.Unit 1 ∷ bind 1 Chan 2 ∷ bind 2 (Send 1 0) 3 ∷ bind 3 (Left 0) 4 ∷
      bind 4 (Case 3 5 5 6 7) 9 ∷ bind 7 (Sync 2) 6 ∷ Row.Result 7 ∷ bind 8 (Sync 2) 8 ∷ Row.Result 8 ∷ Row.Result 4 ∷ [];
  flow = (u ∷ []) ∷ (row 1 ∷ []) ∷ (row 2 ∷ []) ∷ (row 3 ∷ []) ∷ (u ∷ []) ∷ (u ∷ []) ∷ [] ∷ (u ∷ []) ∷ (u ∷ []) ∷ [];
}

-- two sends behind a call
returning : Sample
unfolding bind
returning = record {
  rows = bind 0 Form.Unit 1 ∷ bind 1 Chan 2 ∷ bind 2 (Send 1 0) 3 ∷ bind 3 (Fun 4 5 4) 5 ∷ Row.Result 5 ∷ bind 6 (Apply 3 0) 6 ∷ bind 7 (Sync 2) 7 ∷ bind 8 (Sync 2) 8 ∷ Row.Result 8 ∷ [];
  flow = (u ∷ []) ∷ (row 1 ∷ []) ∷ (row 2 ∷ []) ∷ (row 3 ∷ []) ∷ (row 3 ∷ []) ∷ (u ∷ []) ∷ (u ∷ []) ∷ (u ∷ []) ∷ (u ∷ []) ∷ [];
}

-- parent and child both receive
both_receive : Sample
unfolding bind
both_receive = record {
  rows = bind 0 Form.Unit 1 ∷ bind 1 Chan 2 ∷ bind 2 (Recv 1) 3 ∷ bind 3 (Spawn 4) 6 ∷ bind 4 (Sync 2) 5 ∷ Row.Result 4 ∷ bind 5 (Sync 2) 7 ∷ Row.Result 5 ∷ [];
  flow = (u ∷ []) ∷ (row 1 ∷ []) ∷ (row 2 ∷ []) ∷ (u ∷ []) ∷ (u ∷ []) ∷ (u ∷ []) ∷ [];
}

-- the parent receives twice, one after the other, and a child sends once
receives_in_turn : Sample
unfolding bind
receives_in_turn = record {
  rows = bind 0 Form.Unit 1 ∷ bind 1 Chan 2 ∷ bind 2 (Spawn 3) 6 ∷ bind 3 (Send 1 0) 4 ∷ bind 4 (Sync 3) 5 ∷ Row.Result 4 ∷
      bind 5 (Recv 1) 7 ∷ bind 6 (Sync 5) 8 ∷ bind 7 (Sync 5) 9 ∷ Row.Result 7 ∷ [];
  flow = (u ∷ []) ∷ (row 1 ∷ []) ∷ (u ∷ []) ∷ (row 3 ∷ []) ∷ (u ∷ []) ∷ (row 6 ∷ []) ∷ (u ∷ []) ∷ (u ∷ []) ∷ [];
}

-- a function that applies itself
recursive : Sample
unfolding bind
recursive = record {
  rows = bind 0 Form.Unit 1 ∷ bind 1 (Fun 2 3 2) 4 ∷ bind 4 (Apply 2 3) 3 ∷ Row.Result 4 ∷ bind 5 (Apply 1 0) 5 ∷ Row.Result 5 ∷ [];
  flow = (u ∷ []) ∷ (row 1 ∷ []) ∷ (row 1 ∷ []) ∷ (u ∷ []) ∷ [] ∷ [] ∷ [];
}

-- its tables without the function under its own name
forgetful : Sample
unfolding recursive
forgetful = record { rows = recursive.rows; flow = (u ∷ []) ∷ (row 1 ∷ []) ∷ [] ∷ (u ∷ []) ∷ [] ∷ [] ∷ [] }

-- every sample's tables keep the flow rules, but for the last
rules : map failing (one_shot ∷ in_turn ∷ at_once ∷ loop ∷ branches ∷ returning ∷ both_receive ∷ receives_in_turn ∷ recursive ∷ forgetful ∷ []) ≡ ([] ∷ [] ∷ [] ∷ [] ∷ [] ∷ [] ∷ [] ∷ [] ∷ [] ∷ (1 ∷ []) ∷ [])
unfolding failing one_shot in_turn at_once loop branches returning both_receive receives_in_turn forgetful
rules = refl

slips : map verdicts (one_shot ∷ in_turn ∷ at_once ∷ loop ∷ branches ∷ returning ∷ []) ≡ (
    (true ∷ true ∷ true ∷ true ∷ true ∷ []) ∷
    (false ∷ true ∷ true ∷ true ∷ false ∷ []) ∷
    (false ∷ false ∷ false ∷ true ∷ false ∷ []) ∷
    (false ∷ true ∷ true ∷ true ∷ false ∷ []) ∷
    (true ∷ true ∷ true ∷ true ∷ true ∷ []) ∷
    (false ∷ true ∷ true ∷ true ∷ false ∷ []) ∷
    [])
unfolding verdicts one_shot in_turn at_once loop branches returning
slips = refl

-- one-sync: two receives one after the other break it, and so do two at once, which break fan-in too
receipts : map verdicts (receives_in_turn ∷ both_receive ∷ []) ≡ ((true ∷ true ∷ true ∷ true ∷ false ∷ []) ∷ (true ∷ false ∷ true ∷ false ∷ false ∷ []) ∷ [])
unfolding verdicts receives_in_turn both_receive
receipts = refl

-- a whole run of example A; the last step is not allowed and changes nothing
meeting : ran one_shot
    (own ε ∷ own (ε ▷ next 0) ∷ own (ε ▷ next 0 ▷ next 1) ∷ own (ε ▷ next 0 ▷ next 1 ▷ next 2) ∷ own (ε ▷ next 0 ▷ next 1 ▷ spawn 2)
    ∷ meet (ε ▷ next 0 ▷ next 1 ▷ next 2 ▷ next 5) (ε ▷ next 0 ▷ next 1 ▷ spawn 2 ▷ next 3) ∷ own (ε ▷ next 0) ∷ []) ≡ (8 ∷ 5 ∷ 4 ∷ 7 ∷ 6 ∷ 3 ∷ 2 ∷ 1 ∷ 0 ∷ [])
unfolding ran one_shot
meeting = refl

-- the body applies the function by its own name
applying : ran recursive (own ε ∷ own (ε ▷ next 0) ∷ own (ε ▷ next 0 ▷ next 1) ∷ own (ε ▷ next 0 ▷ next 1 ▷ call 5) ∷ []) ≡ (2 ∷ 2 ∷ 4 ∷ 1 ∷ 0 ∷ [])
unfolding ran recursive
applying = refl

-- ---- histories: where threads stand, and histories that break a word

-- a path that has a state is in the pool with it
member_of : (ts : Pool) (path : Path) (st : State) → state_of ts path ≡ some st → Member (record { path = path; state = st }) ts
unfolding state_of
member_of [] path st e = let z : ◌≡◌ {A = ℕ} 0 1 = cc in absurd (omega arith)
member_of (t ∷ ts) path st e = go (Snoc-discrete same_label t.path path) (member_of ts path st) e
  where
    go : (d : Dec (t.path ≡ path)) → (state_of ts path ≡ some st → Member (record { path = path; state = st }) ts)
        → ◌≡◌ {A = Option State} (elim d [ yes q ↦ some t.state | no n ↦ state_of ts path ]) (some st) → Member (record { path = path; state = st }) (t ∷ ts)
    go (yes q) more h =
        let same : t.state ≡ st = cc in
        here (λ i. record { path = sym q i; state = sym same i })
    go (no n) more h = there (more h)

-- two paths of which neither begins the other
Apart : Path → Path → Type 0
Apart x y = (test (Snoc-discrete same_label x y) ≡ false) × (test (begins? same_label x y) ≡ false) × (test (begins? same_label y x) ≡ false)

unordered : (x y : Path) → Apart x y → ¬ (Ordered x y)
unfolding Apart
unordered x y (d, a, b) = ⊎_elim (λ h. false≢true (sym a ∙ test_intro _ h)) (λ h. false≢true (sym b ∙ test_intro _ h))

module _ (p : Program) (pool : Pool) (i : Instance) where
  at_send : (path : Path) → (state_of pool path >>= sends_on p) ≡ some i → AtSend p pool i path
  unfolding AtSend
  at_send path e = let (st, q, h) = bind_elim (state_of pool path) (sends_on p) e in (st, member_of pool path st q, h)

  at_receive : (path : Path) → (state_of pool path >>= receives_on p) ≡ some i → AtReceive p pool i path
  unfolding AtReceive
  at_receive path e = let (st, q, h) = bind_elim (state_of pool path) (receives_on p) e in (st, member_of pool path st q, h)

  -- two paths at receives that are not the same break one-sync
  two_receives : (x y : Path) → test (Snoc-discrete same_label x y) ≡ false → AtReceive p pool i x → AtReceive p pool i y → ¬ (HistoryFits p pool i OneSync)
  unfolding HistoryFits Fits
  two_receives x y differ a b h = false≢true (sym differ ∙ test_intro _ (h.1 x y tt a b))

  -- two senders apart break one-shot, fan-out and one-to-one, two receivers apart fan-in and one-to-one
  module _ (x y : Path) (apart : Apart x y) where
    two_senders : AtSend p pool i x → AtSend p pool i y → ¬ (HistoryFits p pool i OneShot) × ¬ (HistoryFits p pool i FanOut) × ¬ (HistoryFits p pool i OneToOne)
    unfolding HistoryFits Fits Apart
    two_senders a b = (
      λ h. false≢true (sym apart.0 ∙ test_intro _ (h x y tt a b)),
      λ h. unordered x y apart (h x y tt a b),
      λ h. unordered x y apart (h.0 x y tt a b),
    )

    two_receivers : AtReceive p pool i x → AtReceive p pool i y → ¬ (HistoryFits p pool i FanIn) × ¬ (HistoryFits p pool i OneToOne)
    unfolding HistoryFits Fits
    two_receivers a b = (λ h. unordered x y apart (h x y tt a b), λ h. unordered x y apart (h.1 x y tt a b))

-- the instance that a run's first thread makes at row 1
jam : Instance
jam = made (ε ▷ next 0) 1

-- after some steps, for each path the instance that it stands at a send on, and the one that it stands at a receive on
standing : Sample → List Step → List Path → List (Option Instance × Option Instance)
unfolding ran jam
standing s ss paths = map (λ path. (state_of (run s.rows ss) path >>= sends_on s.rows, state_of (run s.rows ss) path >>= receives_on s.rows)) paths

-- of example A: the parent stands at a send and the child at a receive
before_meeting : standing one_shot
    (own ε ∷ own (ε ▷ next 0) ∷ own (ε ▷ next 0 ▷ next 1) ∷ own (ε ▷ next 0 ▷ next 1 ▷ next 2) ∷ own (ε ▷ next 0 ▷ next 1 ▷ spawn 2) ∷ [])
    ((ε ▷ next 0 ▷ next 1 ▷ next 2 ▷ next 5) ∷ (ε ▷ next 0 ▷ next 1 ▷ spawn 2 ▷ next 3) ∷ (ε ▷ next 0) ∷ []) ≡ ((some jam, none) ∷ (none, some jam) ∷ (none, none) ∷ [])
unfolding standing one_shot
before_meeting = refl

-- the steps up to where a parent and the child that it spawned at row 3 both stand at their syncs
apart_steps : List Step
apart_steps = own ε ∷ own (ε ▷ next 0) ∷ own (ε ▷ next 0 ▷ next 1) ∷ own (ε ▷ next 0 ▷ next 1 ▷ next 2) ∷ []

parent : Path
parent = ε ▷ next 0 ▷ next 1 ▷ next 2 ▷ next 3

child : Path
child = ε ▷ next 0 ▷ next 1 ▷ next 2 ▷ spawn 3

parted : Apart parent child
unfolding Apart parent child begins? either? test ℕ_discrete
parted = (refl, refl, refl)

-- the history of a program in which both send breaks one-shot, fan-out and one-to-one
senders_break :
    let history = HistoryFits at_once.rows (run at_once.rows apart_steps) jam in
    ¬ (history OneShot) × ¬ (history FanOut) × ¬ (history OneToOne)
unfolding standing at_once apart_steps parent child
senders_break = two_senders at_once.rows (run at_once.rows apart_steps) jam parent child parted (at_send _ _ _ parent refl) (at_send _ _ _ child refl)

-- and that of one in which both receive breaks fan-in and one-to-one
receivers_break :
    let history = HistoryFits both_receive.rows (run both_receive.rows apart_steps) jam in
    ¬ (history FanIn) × ¬ (history OneToOne)
unfolding standing both_receive apart_steps parent child
receivers_break =
    two_receivers both_receive.rows (run both_receive.rows apart_steps) jam parent child parted (at_receive _ _ _ parent refl) (at_receive _ _ _ child refl)

-- the steps of one in which a parent receives twice, up to its second receive
turn_steps : List Step
turn_steps =
    own ε ∷ own (ε ▷ next 0) ∷ own (ε ▷ next 0 ▷ next 1) ∷ own (ε ▷ next 0 ▷ next 1 ▷ next 2) ∷ own (ε ▷ next 0 ▷ next 1 ▷ spawn 2)
    ∷ meet (ε ▷ next 0 ▷ next 1 ▷ spawn 2 ▷ next 3) (ε ▷ next 0 ▷ next 1 ▷ next 2 ▷ next 5) ∷ []

first_receive : Path
first_receive = ε ▷ next 0 ▷ next 1 ▷ next 2 ▷ next 5

second_receive : Path
unfolding first_receive
second_receive = first_receive ▷ next 6

-- its history breaks one-sync
turn_breaks : ¬ (HistoryFits receives_in_turn.rows (run receives_in_turn.rows turn_steps) jam OneSync)
unfolding standing receives_in_turn turn_steps second_receive ℕ_discrete
turn_breaks = two_receives receives_in_turn.rows (run receives_in_turn.rows turn_steps) jam first_receive second_receive refl (at_receive _ _ _ first_receive refl) (at_receive _ _ _ second_receive refl)
