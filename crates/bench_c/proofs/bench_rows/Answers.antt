-- `bench_rows` is safe and ends.
-- Assumes nothing.
use native.Mathlib.Omega.{arith}
use Rattle.bench_c.proofs.Set3.{n_3}
use Rattle.bench_c.proofs.bench_rows.Goals as goal

pub row-requires : goal.row-requires
row-requires c = let e = c.loop-i.invariant.0 in (omega arith, omega (arith, n_3 e))
