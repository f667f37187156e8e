-- `load` meets its contract: 20 where the store is too short, else what loading the file gives.
use Rattle.load_file.proofs.Files.{too_short, long_enough}
use Rattle.call_load.proofs.load.Goals as goal

pub returns-then-store-lt-SIZE : goal.returns-then-store-lt-SIZE
returns-then-store-lt-SIZE c = rw c.at.ensures (too_short _ _ c.if-store-lt-SIZE.true)

pub returns : goal.returns
returns c = long_enough _ _ c.if-store-lt-SIZE.false c.load_file.ensures
