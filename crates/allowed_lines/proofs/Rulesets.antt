-- The lemmas that the functions' attributes name and whose own names have a dash.
use lib.ListN.{length-set}

pub ruleset chan_rows_facts = (length-set)

pub ruleset allowed_members_facts = (length-set)
