-- `bench_rows` is safe and ends.
-- Assumes nothing.
use mathlib.Core.Path.{◌≡◌}
use Prim.Native.Nat.{◌≤◌}
use lib.ListN.{length}
use Rattle.sets.specs.Sets.{frodo1344}
use Rattle.bench_c.proofs.bench_rows.Given as goal

abbrev pub invariant-loop-i : goal.invariant-loop-i
invariant-loop-i l = (l.set.p ≡ frodo1344) × (l.i ≤ 1344) × (length l.out ≡ 1344) × (length l.out ≡ length l.initial.out)
