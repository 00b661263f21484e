-- `ratio::largest_size` meets its contract: `size` is the largest of the sizes of the words so far.
-- Assumes nothing.
use mathlib.Core.Path.{◌≡◌}
use lib.ListN.{get_or}
use Rattle.scheme.specs.Margin.{largest, size_of}
use Rattle.ratio.proofs.largest_size.Given as goal

abbrev pub invariant-loop-x : goal.invariant-loop-x
invariant-loop-x l = l.size ≡ largest l.x-index (λ t. size_of l.q (get_or l.words t 0))
