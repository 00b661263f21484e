-- `words::Modulus::add` meets its contract.
-- Assumes nothing.
use Prim.Native.Nat.{ℕ, ◌+◌, ◌%◌}
use mathlib.Core.Path.{ap, ◌∙◌}
use Rattle.words.proofs.Masks.{masked, word_low}
use Rattle.words.proofs.Modulus.add.Goals as goal

pub returns : goal.returns
returns c =
    let k = c.self.invariant in
    let sum = c.args.x + c.args.y in
    masked k _ ∙ word_low k sum ∙ ap (λ (q : ℕ). sum % q) c.self.view_is
