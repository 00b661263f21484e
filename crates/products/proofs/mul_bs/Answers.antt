-- `products::mul_bs` meets its contract: after i turns the first i rows of the result stand.
-- Assumes nothing.
use native.Mathlib.Omega.{arith}
use mathlib.Core.Path.{ap, ◌∙◌}
use Prim.Native.Nat.{ℕ, ◌%◌}
use native.Mathlib.Nat.{add-zero}
use lib.ListN.{replicate, get_or-replicate}
use Rattle.lists.specs.Lists.{tab, residues}
use Rattle.algebra.specs.Matrix.{mat, mat_t, mul}
use Rattle.algebra.proofs.Tables.{words_cong}
use Rattle.algebra.proofs.Turns.{rows_more, rows_all, row_of, part, part_at}
use Rattle.products.proofs.Laws.{masked}
use Rattle.products.proofs.mul_bs.Goals as goal
use Rattle.products.proofs.mul_bs.Invariants.{result}

pub loop-i-preserved : goal.loop-i-preserved
loop-i-preserved c = let a = c.args in
    let n = a.set.p.n in
    let i = c.loop-i.i in (
      omega arith,
      rows_more c.loop-i.invariant.1 (omega arith) (c.copy_from_slice.ensures.after
          ∙ masked c.args.set.valid c.modulus-q.ensures (tab 8 (result n a.b.now a.s.now i))
          (c.dots-sums.ensures
          ∙ ap (residues 65536) (row_of n 8 i (mat n a.b.now) (mat_t n a.s.now) (λ i j. 0) (part n i a.b.now) (replicate 8 0) (part_at n i a.b.now) (λ j c. get_or-replicate 8 j 0 0 c)))
          c.low_all.ensures),
    )

pub returns : goal.returns
returns c = let a = c.args in
    let product = mul a.set.p.n (mat a.set.p.n a.b.now) (mat_t a.set.p.n a.s.now) in
    rows_all 8 c.loop-i.invariant.1 (omega arith) (omega arith)
    ∙ words_cong a.set.p.q 8 8 (result a.set.p.n a.b.now a.s.now) product (λ i j _ _. ap (λ (x : ℕ). x % a.set.p.q) (add-zero (product i j)))
