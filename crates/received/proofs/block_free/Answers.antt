use Rattle.std.proofs.Common.{rules, ◌≡◌, ◌+◌, max, arith, sym, ◌∙◌}
use Rattle.format.specs.Text.{byte_at}
use Rattle.received.proofs.Gathering.{free_more}
use Rattle.received.proofs.block_free.Goals as goal

pub loop-i-preserved : goal.loop-i-preserved
loop-i-preserved c =
    let e : c.max-found.result ≡ max c.loop-i.found (byte_at c.args.set.now (c.args.k + 1 + c.loop-i.i)) = search rules in
    (omega arith, λ q. free_more _ _ _ _ c.loop-i.invariant.1 (sym e ∙ q))
