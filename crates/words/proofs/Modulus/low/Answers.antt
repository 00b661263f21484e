-- `words::Modulus::low` meets its contract.
-- Assumes nothing.
use Prim.Native.Nat.{ℕ, ◌%◌}
use mathlib.Core.Path.{ap, ◌∙◌}
use Rattle.words.proofs.Masks.{masked}
use Rattle.words.proofs.Modulus.low.Goals as goal

pub returns : goal.returns
returns c = masked c.self.invariant c.args.x ∙ ap (λ (q : ℕ). c.args.x % q) c.self.view_is
