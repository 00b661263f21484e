-- `third` makes a set of what is valid.
-- Assumes nothing.
use Rattle.bench_c.proofs.Set3.{valid_3}
use Rattle.bench_c.proofs.third.Goals as goal

pub invariant_of-result : goal.invariant_of-result
invariant_of-result c = record { valid = valid_3 c.params.ensures }
