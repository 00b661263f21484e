-- `loops::fold` meets its contract: after j turns j terms are taken in.
-- Assumes nothing.
use native.Mathlib.Omega.{arith}
use Rattle.algebra.specs.Matrix.{mat}
use Rattle.loops.proofs.Eights.{gather_start, gather_turn}
use Rattle.loops.proofs.fold.Goals as goal

pub loop-j-init : goal.loop-j-init
loop-j-init c = let a = c.args in
    (omega arith, gather_start a.n a.e.now a.a.now (mat 8 a.b.now) c.load8-sums.ensures (omega arith) (λ i. omega (arith, c.type_inv.e i)))

pub loop-j-preserved : goal.loop-j-preserved
loop-j-preserved c = let l = c.loop-j in
    let a = c.args in
    (omega arith, gather_turn a.n a.e.now a.a.now (mat 8 a.b.now) l.j l.invariant.1 c.load8-y.ensures c.mac8-next.ensures)
