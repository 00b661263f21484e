-- `products::mul_add_sa_plus_e_from_seed` meets its contract: after k turns k rows of A are taken in, and S' stands.
-- Assumes nothing.
use native.Mathlib.Omega.{arith}
use mathlib.Core.Path.{subst, ◌≡◌, refl, ◌∙◌}
use Prim.Native.Nat.{◌*◌, ◌-◌, ◌≤◌}
use lib.ListN.{length, take, drop, length-drop}
use lib.Seq.{take_all}
use Rattle.lists.specs.Lists.{Below}
use Rattle.algebra.specs.Matrix.{mat}
use Rattle.algebra.proofs.Turns.{product_start}
use Rattle.rows.specs.Row.{mat_a}
use Rattle.products.proofs.FromSeed.{placed_length, placed_front, sa_turn}
use Rattle.products.proofs.mul_add_sa_plus_e_from_seed.Goals as goal

pub loop-k-init : goal.loop-k-init
loop-k-init c = let a = c.args in
    let m = 8 * a.set.p.n in
    let e = drop m a.noise.now in
    let l : length e ≡ m = length-drop m a.noise.now ∙ omega arith in
    let copied : c.copy.new.dst ≡ e = c.copy.ensures ∙ take_all (16 * a.set.p.n - m) e (omega arith) in (
      omega arith,
      omega arith,
      refl,
      copied
          ∙ product_start 65536 8 a.set.p.n (mat a.set.p.n (take m a.noise.now)) (mat_a a.set.p a.seed.now) e l
          (subst (Below 65536) copied (λ i. omega (arith, c.type_inv.out i))),
    )

pub loop-k-preserved : goal.loop-k-preserved
loop-k-preserved c = let l = c.loop-k in
    let a = c.args in
    let m = 8 * a.set.p.n in
    let fits : 9 * a.set.p.n ≤ length l.noise = omega arith in (
      omega arith,
      placed_length a.set.p a.seed.now l.k l.noise fits c.row.ensures ∙ l.invariant.1,
      placed_front a.set.p a.seed.now l.k l.noise fits c.row.ensures ∙ l.invariant.2,
      sa_turn a.set.p a.seed.now l.k l.noise fits c.row.ensures (take m a.noise.now) (drop m a.noise.now) (m - 0) (omega arith) l.invariant.2 l.invariant.3 c.add_row.ensures,
    )
