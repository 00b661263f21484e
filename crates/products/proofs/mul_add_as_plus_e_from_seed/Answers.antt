-- `products::mul_add_as_plus_e_from_seed` meets its contract: after i turns the first i rows of the result stand at the front of work.
-- Assumes nothing.
use native.Mathlib.Omega.{arith}
use native.Mathlib.Nat.{mul_comm}
use mathlib.Core.Path.{ap, ◌∙◌}
use Prim.Native.Nat.{ℕ, ◌*◌, ◌≤◌, ◌<◌}
use lib.ListN.{length, take}
use Rattle.algebra.proofs.Turns.{top_all}
use Rattle.products.proofs.FromSeed.{as_turn, as_length}
use Rattle.products.proofs.mul_add_as_plus_e_from_seed.Goals as goal

pub loop-i-preserved : goal.loop-i-preserved
loop-i-preserved c = let l = c.loop-i in
    let a = c.args in
    let fits : 9 * a.set.p.n ≤ length l.work = omega arith in
    let below : l.i < a.set.p.n = omega arith in (
      omega arith,
      as_length a.set.p a.seed.now l.i l.work fits c.row.ensures a.s.now a.e.now below c.dots-sums.ensures c.copy_from_slice.ensures.after ∙ l.invariant.1,
      as_turn a.set.p a.seed.now l.i l.work fits c.row.ensures a.s.now a.e.now below c.dots-sums.ensures c.copy_from_slice.ensures.after l.invariant.2,
    )

pub returns : goal.returns
returns c = let n = c.args.set.p.n in
    ap (λ (z : ℕ). take z c.loop-i.work) (mul_comm 8 n) ∙ top_all n c.loop-i.invariant.2 (omega arith)
