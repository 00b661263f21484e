-- `products::mul_add_sb_plus_e` meets its contract: after i turns the first i rows of the result stand.
-- Assumes nothing.
use native.Mathlib.Omega.{arith}
use mathlib.Core.Path.{ap, ◌∙◌}
use Rattle.lists.specs.Lists.{tab, residues}
use Rattle.algebra.specs.Matrix.{mat}
use Rattle.algebra.proofs.Turns.{rows_more, rows_all, row_of, part, part_at}
use Rattle.products.proofs.Laws.{masked}
use Rattle.products.proofs.mul_add_sb_plus_e.Goals as goal
use Rattle.products.proofs.mul_add_sb_plus_e.Invariants.{result}

pub loop-i-preserved : goal.loop-i-preserved
loop-i-preserved c = let a = c.args in
    let n = a.set.p.n in
    let i = c.loop-i.i in (
      omega arith,
      rows_more c.loop-i.invariant.1 (omega arith) (c.copy_from_slice.ensures.after
          ∙ masked c.args.set.valid c.modulus-q.ensures (tab 8 (result n a.s.now a.b.now a.e.now i))
          (c.fold-sums.ensures
          ∙ ap (residues 65536) (row_of n 8 i (mat n a.s.now) (mat 8 a.b.now) (mat 8 a.e.now) (part n i a.s.now) (part 8 i a.e.now) (part_at n i a.s.now) (part_at 8 i a.e.now)))
          c.low_all.ensures),
    )

pub returns : goal.returns
returns c = rows_all 8 c.loop-i.invariant.1 (omega arith) (omega arith)
