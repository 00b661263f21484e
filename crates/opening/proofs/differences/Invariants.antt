-- `opening::differences` meets its contract: the slices are equal where nothing is gathered and what is left of them is equal.
-- Assumes nothing.
use mathlib.Core.Bool.{◌&&◌}
use mathlib.Core.Path.{◌≡◌}
use lib.Dec.{eqb}
use lib.ListN.{length}
use Rattle.lists.specs.Lists.{equal}
use Rattle.opening.proofs.differences.Given as goal

abbrev pub invariant-loop-x : goal.invariant-loop-x
invariant-loop-x l =
    let a = l.x-iterator.a.rest.now in
    let b = l.x-iterator.b.rest.now in
    (length a ≡ length b) × (equal l.a l.b ≡ (eqb l.gathered 0 && equal a b))
