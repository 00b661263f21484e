-- `products::add` meets its contract.
-- Assumes nothing.
use native.Mathlib.Omega.{arith}
use mathlib.Core.Path.{sym, ap, ◌∙◌}
use Prim.Native.Nat.{ℕ, ◌+◌, ◌%◌}
use lib.ListN.{get_or}
use Rattle.lists.specs.Lists.{residues}
use Rattle.lists.proofs.Loops.{more, past}
use Rattle.algebra.specs.Matrix.{mat, ◌⊕◌, table}
use Rattle.algebra.proofs.Tables.{map_table}
use Rattle.algebra.proofs.Turns.{entries}
use Rattle.products.proofs.add.Goals as goal

pub loop-i-preserved : goal.loop-i-preserved
loop-i-preserved c = let a = c.args in (
  omega arith,
  more c.loop-i.invariant.1 (omega arith) (c.add.ensures
      ∙ ap (λ (z : ℕ). (z + get_or a.rhs.now c.loop-i.i 0) % c.modulus-q.result) (past c.loop-i.invariant.1 c.loop-i.i (omega arith) (omega arith))),
)

pub returns : goal.returns
returns c = let m = c.modulus-q in
    let a = c.args in
    let sum = mat 8 a.out.now ⊕ mat 8 a.rhs.now in
    entries 8 8 (λ x y. (x + y) % m.result) a.out.now a.rhs.now c.loop-i.invariant.1 (omega arith) (omega arith)
    ∙ sym (map_table (λ w. w % m.result) 8 8 sum) ∙ ap (λ (q : ℕ). residues q (table 8 8 sum)) m.ensures
