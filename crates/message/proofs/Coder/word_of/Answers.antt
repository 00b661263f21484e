-- `message::Coder::word_of` meets its contract: a group's word is below q, and so a word.
-- Assumes nothing.
use Rattle.message.proofs.Coded.{coded}
use native.Mathlib.Omega.{arith}
use Prim.Native.Nat.{ℕ, ◌*◌, ◌/◌, ◌%◌, ◌^◌, ◌<◌}
use mathlib.Core.Path.{sym, ap, subst}
use native.Mathlib.Nat.{mod-lt}
use lib.Pow.{pow_pos}
use Rattle.message.specs.Message.{word_of}
use Rattle.message.proofs.Steps.{q_high}
use Rattle.message.proofs.RoundTrip.{word_lt}
use Rattle.message.proofs.Coder.word_of.Goals as goal
use Rattle.message.proofs.Coder.word_of.Goals.{After-low_bits}

-- the product is a word
small : (c : After-low_bits) → c.low_bits.result * (c.args.self.q / 2 ^ c.args.self.b) < 65536
unfolding word_of
small c =
    let a = c.args in
    let k = coded c.args.self.coding in
    let group : a.t % 2 ^ a.self.b < 2 ^ a.self.b = mod-lt a.t (pow_pos a.self.b) in
    subst (λ (z : ℕ). z * (a.self.q / 2 ^ a.self.b) < 65536) (sym c.low_bits.ensures) (omega (arith, word_lt k (a.t % 2 ^ a.self.b) group, q_high k))

pub overflow_cast-result-2 : goal.overflow_cast-result-2
overflow_cast-result-2 c = omega (arith, small (goal.at.overflow_cast-result-2 c).After-low_bits)

pub returns : goal.returns
unfolding word_of
returns c = ap (λ (z : ℕ). z * (c.args.self.q / 2 ^ c.args.self.b)) c.low_bits.ensures
