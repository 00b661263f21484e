-- `sets::choose` makes a set of what is valid.
-- Assumes nothing.
use Rattle.std.proofs.Common.{sym, subst}
use Rattle.sets.specs.Sets.{Valid}
use Rattle.sets.proofs.Facts.{valid}
use Rattle.sets.proofs.choose.Goals as goal

pub invariant_of-result : goal.invariant_of-result
invariant_of-result c = record { valid = subst Valid (sym c.shake.ensures) (valid c.args.set) }
