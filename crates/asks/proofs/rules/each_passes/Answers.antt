-- `each_passes` meets its contract: the rows in the set of name a, by the bytes of that set.
use Rattle.std.proofs.Common.{rules, ◌∙◌}
use Rattle.sets.specs.Sets.{set_of}
use Rattle.asks.specs.Asks.{ask_of, store_asks}
use Rattle.asks.proofs.Asked.{each_at}
use Rattle.asks.proofs.rules.each_passes.Goals as goal

pub returns-in-First : goal.returns-in-First
unfolding ask_of
returns-in-First c = c.each.ensures (store_asks c.args.rows c.args.store.now c.args.ask (set_of c.args.to.now)) (λ k b l p. rw c.in-First.is (search rules)) ∙ each_at _ _ _ c.flow_set-set.ensures

pub returns-in-Second : goal.returns-in-Second
unfolding ask_of
returns-in-Second c = c.each-in-Second.ensures (store_asks c.args.rows c.args.store.now c.args.ask (set_of c.args.to.now)) (λ k b l p. rw c.in-Second.is (search rules)) ∙ each_at _ _ _ c.flow_set-set.ensures

pub returns-in-Case : goal.returns-in-Case
returns-in-Case c = c.each-in-Case.ensures (store_asks c.args.rows c.args.store.now c.args.ask (set_of c.args.to.now)) (λ k b l p. rw c.in-Case.is (search rules)) ∙ each_at _ _ _ c.flow_set-set.ensures

pub returns-in-Apply : goal.returns-in-Apply
returns-in-Apply c = c.each-in-Apply.ensures (store_asks c.args.rows c.args.store.now c.args.ask (set_of c.args.to.now)) (λ k b l p. rw c.in-Apply.is (search rules)) ∙ each_at _ _ _ c.flow_set-set.ensures
