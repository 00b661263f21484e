-- `products::sub` meets its contract.
-- Assumes nothing.
use native.Mathlib.Omega.{arith}
use mathlib.Core.Path.{ap, ◌∙◌}
use Prim.Native.Nat.{ℕ}
use lib.ListN.{get_or}
use Rattle.lists.proofs.Loops.{more, past}
use Rattle.algebra.specs.Congruence.{minus}
use Rattle.algebra.specs.Matrix.{mat, table}
use Rattle.algebra.proofs.Turns.{entries}
use Rattle.products.proofs.sub.Goals as goal

pub loop-i-preserved : goal.loop-i-preserved
loop-i-preserved c = let a = c.args in (
  omega arith,
  more c.loop-i.invariant.1 (omega arith) (c.sub.ensures
      ∙ ap (minus c.modulus-q.result (get_or a.lhs.now c.loop-i.i 0)) (past c.loop-i.invariant.1 c.loop-i.i (omega arith) (omega arith))),
)

pub returns : goal.returns
returns c = let m = c.modulus-q in
    let a = c.args in
    entries 8 8 (minus m.result) a.lhs.now a.out.now c.loop-i.invariant.1 (omega arith) (omega arith)
    ∙ ap (λ (q : ℕ). table 8 8 (λ i j. minus q (mat 8 a.lhs.now i j) (mat 8 a.out.now i j))) m.ensures
