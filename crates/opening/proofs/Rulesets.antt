-- The lemmas that the functions' attributes name and whose own names have a dash.
use borrow.Author.Tests.{not-true, not-false}

pub ruleset open_fixed_facts = (not-true, not-false)
