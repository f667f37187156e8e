-- What is found at the ends of a channel of a program with its table, and what the words say of it.
use Rattle.std.specs.Prelude.{ℕ, Bool, false}
use Rattle.program.specs.declared.Ends.{Ends}
use Rattle.program.specs.declared.Facts.{Facts}
use Rattle.program.specs.declared.Word.{Word}
use Rattle.program.specs.Program.{Program}
use Rattle.program.specs.Flow.{Table}
use Rattle.program.specs.Walk.{send_place, receive_place}
use Rattle.program.specs.Verdict.{reach, reached, ends, facts, verdict}
use Rattle.format.specs.Text.{Bytes}
use Rattle.row_marks.specs.RowMarks.{marked}

-- what is found of walks that come to places, where bytes mark the rows that shared beginnings come to and the places, of n rows
module _ (n : ℕ) (p : Program) (flow : Table) (comes : Bytes) where
  abbrev pub ends_at : Bytes → Ends
  ends_at places = ends p (reach p flow) (marked n comes) (marked n places)

  abbrev pub facts_at : Bytes → Bytes → Facts
  facts_at sends receives = facts p (reach p flow) (marked n comes) (marked n sends) (marked n receives)

module _ (p : Program) (flow : Table) where
  -- what a word says of channel row c: `word_holds` of calls: Judging, over a program and its table
  unfoldable pub word_in : ℕ → Word → Bool
  word_in c word = verdict p (reach p flow) (reached p (reach p flow)) word (send_place p flow c) (receive_place p flow c)

  -- what is found at the ends of channel row c
  unfoldable pub facts_in : ℕ → Facts
  facts_in c = facts p (reach p flow) (reached p (reach p flow)) (send_place p flow c) (receive_place p flow c)

-- what is found where there are no places
abbrev pub no_facts : Facts
no_facts = record { sends = record { twice = false; rivals = false }; receives = record { twice = false; rivals = false } }
