-- The lemmas that the functions' attributes name and whose own names have a dash.
use Rattle.write_store.proofs.Bounds.{members_from-length}
use Rattle.format.proofs.Lengths.{argument-length}

pub ruleset count_members_facts = (members_from-length)

pub ruleset set_line_length_facts = (argument-length)
