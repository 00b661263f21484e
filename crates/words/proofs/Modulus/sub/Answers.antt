-- `words::Modulus::sub` meets its contract.
-- Assumes nothing.
use Prim.Native.Nat.{ℕ}
use native.Mathlib.Omega.{arith}
use mathlib.Core.Path.{ap, ◌∙◌}
use Rattle.algebra.specs.Congruence.{minus}
use Rattle.words.proofs.Masks.{masked, word_low, minus_low}
use Rattle.words.proofs.Modulus.sub.Goals as goal

pub returns : goal.returns
returns c =
    let k = c.self.invariant in
    let a = c.args in
    masked k _ ∙ word_low k _ ∙ minus_low k a.x a.y (omega arith) ∙ ap (λ (q : ℕ). minus q a.x a.y) c.self.view_is
