-- `ratio::all_in_range` meets its contract: `kept` says whether the words so far are in range.
-- Assumes nothing.
use mathlib.Core.Path.{◌≡◌}
use lib.ListN.{get_or}
use Rattle.algebra.specs.Whole.{centred}
use Rattle.scheme.specs.Margin.{in_range, every}
use Rattle.ratio.proofs.all_in_range.Given as goal

abbrev pub invariant-loop-x : goal.invariant-loop-x
invariant-loop-x l = l.kept ≡ every l.x-index (λ t. in_range l.h (centred l.q (get_or l.words t 0)))
