-- `sponge::absorbed` meets its contract: after i turns the sponge has absorbed the first i parts.
-- Assumes nothing.
use borrow.Author.Rules.{rules}
use mathlib.Core.List.{[]}
use Rattle.shake.proofs.Uses.{none, ready}
use Rattle.sponge.proofs.Laws.{took_part}
use Rattle.sponge.proofs.absorbed.Goals as goal

pub loop-part-init : goal.loop-part-init
loop-part-init c = none c.requires c.new-s.ensures

pub absorb_part-requires : goal.absorb_part-requires
absorb_part-requires c = ready c.loop-part.invariant

pub loop-part-preserved : goal.loop-part-preserved
loop-part-preserved c =
    took_part c.args.parts.now (record { ref_ptr = (0, 0); now = [] }) c.loop-part-test.true c.loop-part.invariant (search (rules, c.absorb_part.ensures))

pub finish-requires : goal.finish-requires
finish-requires c = ready c.loop-part.invariant
