-- `bench_as` is safe and ends.
-- Assumes nothing.
use native.Mathlib.Omega.{arith}
use Rattle.bench_c.proofs.Set3.{n_3}
use Rattle.bench_c.proofs.bench_as.Goals as goal

pub mul_add_as_plus_e_from_seed-requires : goal.mul_add_as_plus_e_from_seed-requires
mul_add_as_plus_e_from_seed-requires c = let e = n_3 c.third.ensures in (omega arith, omega arith, omega arith)
