-- The loop's invariant: of the text, the lines of the sets from n on are left. A set whose key is not marked has no line.
use Prim.Native.Nat.{◌-◌, ◌*◌}
use lib.ListN.{drop}
use Rattle.program.specs.Each.{collect}
use Rattle.format.specs.Limits.{row_limit}
use Rattle.calls.specs.Layout.{member_limit, decode_sets}
use Rattle.write_sets.specs.Texts.{entry_text}
use Rattle.write_bytes.proofs.Progress.{Progress}
use Rattle.write_sets.proofs.put_sets.Given as goal

abbrev pub invariant-loop-n : goal.invariant-loop-n
invariant-loop-n l =
    Progress l.initial.out l.at (collect (entry_text l.word) (decode_sets row_limit 0 l.sets)) l.out l.next (collect (entry_text l.word) (decode_sets (row_limit - l.n) l.n (drop (l.n * member_limit) l.sets)))
