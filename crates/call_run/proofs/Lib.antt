-- Laws about the run calls on a lent list of records.
pub mod RunMoves
