-- `message::Coder::low_bits` meets its contract: the mask of b bits.
-- Assumes nothing.
use Prim.Native.Nat.{ℕ, ◌-◌}
use mathlib.Core.Path.{ap, ◌∙◌}
use lib.Bits.{bit_and, and_mask}
use Rattle.message.proofs.Coder.low_bits.Goals as goal

pub returns : goal.returns
returns c = ap (λ (z : ℕ). bit_and c.args.t (z - 1)) c.count.ensures ∙ and_mask c.args.t c.args.self.b
