-- "Its history is the pool's paths so standing, those at sends and those at receives", and when it fits a word.
use Rattle.std.specs.Prelude.{Some as some}
use Rattle.std.specs.Prelude.{◌≡◌}
use Rattle.program.specs.declared.Word.{Word}
use Rattle.program.specs.Each.{Member}
use Rattle.program.specs.Program.{Program}
use Rattle.program.specs.Run.{Path, Instance, State, Pool, sends_on, receives_on}
use Rattle.program.specs.Topology.{Fits}

-- "at most one path": any two that stand so are the same
abbrev pub AtMostOne : (Path → Type 0) → Type 0
AtMostOne stands = (x y : Path) → stands x → stands y → x ≡ y

module _ (p : Program) (pool : Pool) (i : Instance) where
  unfoldable pub AtSend : Path → Type 0
  AtSend path = (st : State) × Member (record { path = path; state = st }) pool × (sends_on p st ≡ some i)

  unfoldable pub AtReceive : Path → Type 0
  AtReceive path = (st : State) × Member (record { path = path; state = st }) pool × (receives_on p st ≡ some i)

  unfoldable pub HistoryFits : Word → Type 0
  HistoryFits word = Fits (λ x y. Unit {0}) word AtSend AtReceive
