-- The lemmas that the functions' attributes name and whose own names have a dash.
use Rattle.format.proofs.Lengths.{argument-length}

pub ruleset claim_length_facts = (argument-length)
