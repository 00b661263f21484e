-- `message::Coder::group_of` meets its contract: the masks, the multiple and the shift are floor((x mod q + h) / 2h) mod 2^b (docs/RULES.md, 4.4).
-- Assumes nothing.
use Rattle.message.proofs.Coded.{coded}
use native.Mathlib.Omega.{arith}
use Prim.Native.Nat.{ℕ, ◌+◌, ◌-◌, ◌*◌, ◌/◌, ◌%◌, ◌^◌, ◌≤◌, ◌<◌}
use mathlib.Core.Path.{◌≡◌, sym, ap, ◌∙◌, subst}
use native.Mathlib.Nat.{mod-lt, mul-le-mul}
use lib.Bits.{bit_and}
use lib.Pow.{pow_pos}
use Rattle.message.specs.Message.{half, group_of}
use Rattle.message.proofs.Steps.{twice, half_pos, q_pos, q_high, step_high, masked, times_high, quotient}
use Rattle.message.proofs.Coder.group_of.Goals as goal
use Rattle.message.proofs.Coder.group_of.Goals.{After-half_step-h}

-- x mod q, with h added
raised : (c : After-half_step-h) → bit_and c.args.x (c.args.self.q - 1) + c.half_step-h.result ≡ c.args.x % c.args.self.q + half c.args.self.q c.args.self.b
raised c = λ i. masked (coded c.args.self.coding) c.args.x i + c.half_step-h.ensures i

-- and that it is small
raised_lt : (c : After-half_step-h) → bit_and c.args.x (c.args.self.q - 1) + c.half_step-h.result ≤ 98304
raised_lt c =
    let k = coded c.args.self.coding in
    omega (arith, raised c, mod-lt c.args.x (q_pos k), q_high k, step_high k)

pub overflow_sub-last : goal.overflow_sub-last
overflow_sub-last c = omega (arith, q_pos (coded c.args.self.coding))

pub nonzero_div-times : goal.nonzero_div-times
nonzero_div-times c = omega (arith, twice (coded c.args.self.coding), half_pos (coded c.args.self.coding))

pub overflow_add-x : goal.overflow_add-x
overflow_add-x c = omega (arith, raised_lt (goal.at.overflow_add-x c).After-half_step-h)

pub overflow_mul-x : goal.overflow_mul-x
overflow_mul-x c = omega (arith, mul-le-mul {n₂ = 98304} {m₂ = 32768} (raised_lt (goal.at.overflow_mul-x c).After-half_step-h) (times_high (coded c.args.self.coding)))

pub returns : goal.returns
unfolding group_of
returns c =
    let a = c.args in
    let k = coded c.args.self.coding in
    let times : ℕ = 65536 / (a.self.q / 2 ^ a.self.b) in
    let rule = (λ i. raised (goal.at.returns c).After-half_step-h i * times / 65536 % 2 ^ a.self.b) ∙ ap (λ (z : ℕ). z % 2 ^ a.self.b) (quotient k (a.x % a.self.q + half a.self.q a.self.b)) in
    (c.low_bits.ensures ∙ rule, subst (λ (z : ℕ). z < 2 ^ a.self.b) (sym c.low_bits.ensures) (mod-lt _ (pow_pos a.self.b)))
