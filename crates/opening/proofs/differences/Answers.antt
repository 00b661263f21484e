-- `opening::differences` meets its contract: the slices are equal where nothing is gathered and what is left of them is equal.
-- Assumes nothing.
use Rattle.std.proofs.lemmas.Slice.Zip.{either_empty_from_Zip}
use Rattle.opening.proofs.Choices.{compared_next, compared_all}
use Rattle.opening.proofs.differences.Goals as goal

pub loop-x-preserved : goal.loop-x-preserved
loop-x-preserved c =
    let steps = c.in-Some.ensures.steps in
    compared_next c.loop-x.gathered c.gather-gathered.result _ c.in-Some.x.now c.in-Some.y.now steps.0 steps.1 c.gather-gathered.ensures c.loop-x.invariant

pub returns : goal.returns
returns c = compared_all c.loop-x.gathered _ _ _ (either_empty_from_Zip c.loop-x.x-iterator c.next.new.self _ c.in-None.is c.next.ensures.steps) c.loop-x.invariant
