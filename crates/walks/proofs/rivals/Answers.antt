use native.Mathlib.Omega.{arith}
use mathlib.Core.Path.{◌≡◌, refl, sym, ◌∙◌}
use lib.ListN.{length}
use Rattle.program.specs.Test.{any}
use Rattle.walks.proofs.Walking.{parts, none_more, one_found, spawns_tell, not_on, is_on}
use Rattle.walks.proofs.rivals.Goals as goal

pub loop-q-init : goal.loop-q-init
unfolding any
loop-q-init c = refl

pub loop-q-preserved-then-byte_at-eq0 : goal.loop-q-preserved-then-byte_at-eq0
loop-q-preserved-then-byte_at-eq0 c =
    let f = parts c.args.rows c.args.store.now c.args.reached.now c.args.places.now c.args.ahead.now in
    none_more c.args.spawns.now f _ (not_on c.args.reached.now _ c.byte_at.ensures _ c.if-byte_at-eq0.true) c.loop-q.invariant

pub returns-then-forks : goal.returns-then-forks
returns-then-forks c =
    let f = parts c.args.rows c.args.store.now c.args.reached.now c.args.places.now c.args.ahead.now in
    let there = is_on c.args.reached.now _ c.byte_at.ensures _ c.if-byte_at-eq0.false ∙ sym c.forks.ensures ∙ c.if-forks.true in
    sym (sym (spawns_tell _ _ _ _ _ c.args.spawns.now c.requires) ∙ one_found c.args.spawns.now f _ c.loop-q-test.true there)

pub loop-q-preserved : goal.loop-q-preserved
loop-q-preserved c =
    let f = parts c.args.rows c.args.store.now c.args.reached.now c.args.places.now c.args.ahead.now in
    let fails = is_on c.args.reached.now _ c.byte_at.ensures _ c.if-byte_at-eq0.false ∙ sym c.forks.ensures ∙ c.if-forks.false in
    none_more c.args.spawns.now f _ fails c.loop-q.invariant

pub returns : goal.returns
returns c =
    let all : c.loop-q.q-index ≡ length c.args.spawns.now = omega (arith, c.loop-q-test.false, c.loop-q.auto.q-index-end) in
    sym (rw all at c.loop-q.invariant) ∙ spawns_tell _ _ _ _ _ c.args.spawns.now c.requires
