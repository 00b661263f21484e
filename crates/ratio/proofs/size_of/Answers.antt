-- `ratio::size_of` meets its contract: one comparison with q/2.
-- Assumes nothing.
use mathlib.Core.Path.{◌≡◌, sym, ap, ◌∙◌}
use Prim.Native.Nat.{ℕ, ◌*◌, ◌/◌}
use native.Mathlib.Omega.{arith}
use Rattle.scheme.specs.Margin.{size_of}
use Rattle.scheme.proofs.Margin.{size_low, size_high}
use Rattle.ratio.proofs.size_of.Goals as goal

pub returns-then-w-q : goal.returns-then-w-q
returns-then-w-q c =
    let a = c.args in
    let even : a.q ≡ 2 * (a.q / 2) = omega (arith, c.requires.0) in
    sym (ap (λ (q : ℕ). size_of q a.x) even ∙ size_low (a.q / 2) a.x c.if-w-q.true)

pub returns-else-w-q : goal.returns-else-w-q
returns-else-w-q c =
    let a = c.args in
    let even : a.q ≡ 2 * (a.q / 2) = omega (arith, c.requires.0) in
    sym (ap (λ (q : ℕ). size_of q a.x) even ∙ size_high (a.q / 2) a.x (omega arith) (omega arith) ∙ omega arith)
