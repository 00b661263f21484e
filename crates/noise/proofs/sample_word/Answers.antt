-- `noise::sample_word` meets its contract: after i turns `size` counts the first i entries.
-- Assumes nothing.
use Prim.Native.Nat.{ℕ, ◌+◌, ◌-◌, ◌/◌, ◌%◌, ◌≤◌}
use native.Mathlib.Omega.{arith}
use mathlib.Core.Path.{refl, sym, ap, ◌∙◌, subst}
use mathlib.Core.List.{List}
use lib.IntN.{ℤ, nat_abs}
use lib.ListN.{length, take}
use lib.Seq.{take_all}
use mir.Syntax.{w16}
use mir.Facts.{to_z-of_z}
use Rattle.noise.specs.Noise.{count_below, signed, sampled}
use Rattle.noise.proofs.Bounds.{sampled_size}
use Rattle.noise.proofs.Counts.{count_more}
use Rattle.noise.proofs.sample_word.Goals as goal

pub loop-entry-init : goal.loop-entry-init
unfolding count_below
loop-entry-init c = (omega arith, refl)

pub loop-entry-preserved : goal.loop-entry-preserved
loop-entry-preserved c =
    let l = c.loop-entry in
    let counted = take (length c.args.table.now - 1) c.args.table.now in
    let one = c.below-size.ensures in
    (omega (arith, one.1), (λ i. l.invariant.1 i + one.0 i) ∙ count_more (c.args.r / 2) counted l.entry-index c.loop-entry-test.true)

pub returns : goal.returns
unfolding sampled
returns c =
    let l = c.loop-entry in
    let counted : List ℕ = take (length c.args.table.now - 1) c.args.table.now in
    let is = to_z-of_z {w = w16} (record { sfits = c.with_sign.type_inv }) ∙ c.with_sign.ensures
    ∙ ap (signed (c.args.r % 2)) (l.invariant.1 ∙ ap (count_below (c.args.r / 2)) (take_all l.entry-index counted (omega (arith, c.loop-entry-test.false)))) in
    (is, subst (λ (z : ℤ). nat_abs z ≤ length c.args.table.now - 1) (sym is) (sampled_size c.args.table.now c.args.r))
