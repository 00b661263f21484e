-- `ratio::in_range` meets its contract: one comparison with q/2.
-- Assumes nothing.
use mathlib.Core.Path.{◌≡◌, sym, ap, ◌∙◌}
use Prim.Native.Nat.{ℕ, ◌*◌, ◌-◌, ◌/◌}
use native.Mathlib.Omega.{arith}
use lib.Dec.{leb}
use Rattle.algebra.specs.Whole.{centred}
use Rattle.scheme.specs.Margin.{in_range}
use Rattle.scheme.proofs.Margin.{range_low, range_high}
use Rattle.ratio.proofs.in_range.Goals as goal

pub returns-then-w-q : goal.returns-then-w-q
returns-then-w-q c =
    let a = c.args in
    let even : a.q ≡ 2 * (a.q / 2) = omega (arith, c.requires.0) in
    sym (ap (λ (q : ℕ). in_range a.h (centred q a.x)) even ∙ range_low (a.q / 2) a.h a.x c.if-w-q.true)

pub returns-else-w-q : goal.returns-else-w-q
returns-else-w-q c =
    let a = c.args in
    let even : a.q ≡ 2 * (a.q / 2) = omega (arith, c.requires.0) in
    sym (ap (λ (q : ℕ). in_range a.h (centred q a.x)) even ∙ range_high (a.q / 2) a.h a.x (omega arith) (omega arith) ∙ ap (λ (q : ℕ). leb (q - a.x) a.h) (sym even))
