-- "Turned back because of the input" and "because of the state", and from 30 on because of a move or a set: the numbers of the refusals.
use Rattle.std.specs.Prelude.{ℕ}
use Rattle.format.specs.declared.Reason.{Reason}
use Rattle.format.specs.declared.Refusal.{Refusal}
use Rattle.format.specs.declared.Reason.TheVariants.{
  TooLong,
  NotALine,
  AboveLimit,
  OutOfCount,
  NotRising,
  WrongPointer,
  BoundTwice,
  OutOfScope,
  NotAllowed,
  FlowRuleFails,
  ClaimFails,
  StoreTooShort,
  StoreEmpty,
  StoreUnsound,
  OutputTooShort,
  NotAChannel,
  MoveNotAllowed,
  LimitExceeded,
  NotBound,
  SetNotAllowed,
}

unfoldable pub number : Reason → ℕ
number TooLong = 1
number NotALine = 2
number AboveLimit = 3
number OutOfCount = 4
number NotRising = 5
number WrongPointer = 6
number BoundTwice = 7
number OutOfScope = 8
number NotAllowed = 9
number FlowRuleFails = 10
number ClaimFails = 11
number StoreTooShort = 20
number StoreEmpty = 21
number StoreUnsound = 22
number OutputTooShort = 23
number NotAChannel = 24
number MoveNotAllowed = 30
number LimitExceeded = 31
number NotBound = 32
number SetNotAllowed = 33

abbrev pub refusal : Reason → ℕ → Refusal
refusal reason line = record { reason = reason; line = line }

-- a refusal, or what an accepted call has
pub data Result (A : Type 0) : Type 0 where
  refused : Refusal → Result A
  accepted : A → Result A
