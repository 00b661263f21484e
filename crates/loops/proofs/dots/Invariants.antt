-- `loops::dots` meets its contract: after j turns j terms are taken in.
-- Assumes nothing.
use mathlib.Core.Path.{◌≡◌}
use Prim.Native.Nat.{◌≤◌}
use Rattle.algebra.specs.Matrix.{mat_t}
use Rattle.loops.proofs.Eights.{gathered}
use Rattle.loops.proofs.dots.Given as goal

abbrev pub invariant-loop-j : goal.invariant-loop-j
invariant-loop-j l = (l.j ≤ l.n) × (l.sums ≡ gathered l.n l.e l.a (mat_t l.n l.s) l.j)
