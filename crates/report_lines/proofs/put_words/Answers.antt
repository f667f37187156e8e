use native.Mathlib.Omega.{arith}
use Rattle.format.specs.Text.{ascii}
use Rattle.write_bytes.proofs.Writing.{room_first}
use Rattle.write_bytes.proofs.Progress.{begin, same_rest, room_left, onward, last}
use Rattle.report_lines.proofs.Parts.{words_all, words_next, words_end}
use Rattle.report_lines.proofs.put_words.Goals as goal

pub loop-word-init : goal.loop-word-init
loop-word-init c = same_rest (words_all c.args.words (omega arith)) (begin c.requires)

pub put_yes_no-next-requires : goal.put_yes_no-next-requires
put_yes_no-next-requires c = room_first _ _ (room_left (same_rest (words_next _ c.args.words _ (omega arith)) c.loop-word.invariant))

pub loop-word-preserved : goal.loop-word-preserved
loop-word-preserved c = onward (same_rest (words_next _ c.args.words _ (omega arith)) c.loop-word.invariant) c.put_yes_no-next.ensures

pub put_byte-requires : goal.put_byte-requires
unfolding ascii
put_byte-requires c = room_left (same_rest (words_end _ c.args.words _ (omega arith)) c.loop-word.invariant)

pub returns : goal.returns
unfolding ascii
returns c = last (same_rest (words_end _ c.args.words _ (omega arith)) c.loop-word.invariant) c.put_byte.ensures
