-- In every run, each thread's walk is a walk, and its state is covered.
use mathlib.Core.Bool.{So}
use mathlib.Core.Path.{◌≡◌, refl}
use Rattle.std.specs.Prelude.{Some as some}
use mathlib.Core.List.{List}
use Rattle.program.specs.declared.Bind.{Bind}
use Rattle.program.specs.Flow.{Table, keeps_all}
use Rattle.program.specs.Program.{Program, bind_at}
use Rattle.program.specs.Run.{Move, Instance, Value, unit, proceed, offer, receives_on, Step, run}
use Rattle.program.specs.Walk.{last_row, IsWalk}
use Rattle.program.proofs.Each.{each_imp}
use Rattle.program.proofs.Maybe.{found_at, found_map}
use Rattle.program.proofs.Sound.Events.{offers, accepts, taken}
use Rattle.program.proofs.Sound.Moves.{moves_legal}
use Rattle.program.proofs.Sound.Pools.{first, Invariant, Traceable, run_traceable}
use Rattle.program.proofs.Sound.States.{Covers, Sound, proceed_sound}
use Rattle.program.proofs.Sound.Traces.{Traced, child, Level}
use Rattle.program.proofs.WellFormed.{WellFormed}

module _ (p : Program) (flow : Table) where
  pub record Good (t : Traced) : Type 0 where
    pub ends : last_row t.walk ≡ t.state.row
    pub is_walk : IsWalk p flow t.walk
    pub covers : Covers p flow t.state

  child_good : (t : Traced) (m : Move) → Good t → Sound p flow t.state m → Good (child t m)
  unfolding child IsWalk last_row
  child_good t m g s = record { ends = refl; is_walk = (g.is_walk, rw g.ends s.steps); covers = s.covers }

module _ (p : Program) (well : WellFormed p) (flow comm : Table) (keeps : So (keeps_all p flow comm)) where
  pub good : Invariant p (Good p flow)
  unfolding first IsWalk last_row
  good = record {
    start = record { ends = refl; is_walk = tt; covers = record { env = tt; returns = tt } };
    own = λ t _ g. found_map (λ ms legal. (each_imp (λ m s. child_good p flow t m g s) legal.sound, legal.forked)) (moves_legal p well flow comm keeps t.path t.state g.covers);
    meet = met;
  }
    where
      met : (x y : Traced) → Level x → Level y → Good p flow x → Good p flow y → (b d : Bind) → bind_at p x.state.row ≡ some b → bind_at p y.state.row ≡ some d
          → (i : Instance) (v : Value) → offer p x.state ≡ some (i, v) → receives_on p y.state ≡ some i
          → Good p flow (child x (proceed x.state b unit)) × Good p flow (child y (proceed y.state d v))
      met x y _ _ g h b d at at' i v o a =
          let offered = found_at o (offers p flow comm keeps x.state g.covers b at) in
          let accepted = found_at a (accepts p flow comm keeps y.state h.covers d at') in (
            child_good p flow x _ g (proceed_sound p well flow x.state b at g.covers offered.onward unit (offered.takes_unit, tt)),
            child_good p flow y _ h (proceed_sound p well flow y.state d at' h.covers accepted.onward v (taken p well flow comm b d i i v offered accepted refl)),
          )

  pub run_good : (ss : List Step) → Traceable p (Good p flow) (run p ss)
  run_good ss = run_traceable p (Good p flow) good ss
