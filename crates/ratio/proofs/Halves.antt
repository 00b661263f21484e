-- h = q/2^(b+1) of a set is a power of two: 2048 or 4096. q is even.
-- Assumes nothing.
use mathlib.Core.Path.{◌≡◌, refl, sym, ap, ◌∙◌}
use mathlib.Core.Bool.{Bool, true, false, cond}
use mathlib.Core.Logic.{◌⊎◌, inl, inr}
use Prim.Native.Nat.{ℕ, ◌+◌, ◌-◌, ◌*◌, ◌/◌, ◌%◌, ◌^◌}
use native.Mathlib.Nat.{mul-div_cancel}
use native.Mathlib.Omega.{arith}
use lib.Dec.{eqb}
use lib.Pow.{pow-add, pow_pos}
use Rattle.sets.specs.Sets.{Valid, params_of}
use Rattle.sets.specs.declared.Params.{Params}
use Rattle.message.specs.Message.{half}
use Rattle.scheme.proofs.Parts.{coding}
use Rattle.ratio.specs.Ratio.{PowerOfTwo}

-- 2^(k + m) over 2^m
power_over : (k m : ℕ) {d : ℕ} → k + m ≡ d → 2 ^ d / 2 ^ m ≡ 2 ^ k
power_over k m e = ap (λ (z : ℕ). 2 ^ z / 2 ^ m) (sym e) ∙ ap (λ (z : ℕ). z / 2 ^ m) (pow-add 2 k m) ∙ mul-div_cancel (2 ^ k) (pow_pos m)

module _ {p : Params} (valid : Valid p) where
  -- what the ratio asks of h
  pub half_power : PowerOfTwo (half p.q p.b)
  half_power =
      let k = coding p valid in
      let m = p.b + 1 in
      record {
        exponent = k.d - m;
        small = omega (arith, k.d_high);
        is = ap (λ (z : ℕ). z / 2 ^ m) k.q_is ∙ power_over (k.d - m) m (omega (arith, k.b_room));
      }

  -- what a word's size asks of q
  pub q_even : p.q % 2 ≡ 0
  q_even =
      let k = coding p valid in
      let one : k.d - 1 + 1 ≡ k.d = omega (arith, k.b_room) in
      let twice : p.q ≡ 2 ^ (k.d - 1) * 2 = k.q_is ∙ ap (λ (z : ℕ). 2 ^ z) (sym one) ∙ pow-add 2 (k.d - 1) 1 in
      omega arith

-- the two numbers that h is (docs/RULES.md, 4.4)
pub record Halves (p : Params) : Type 0 where
  pub is : (half p.q p.b ≡ 2048) ⊎ (half p.q p.b ≡ 4096)

pick : (c : Bool) {x y : Params} → Halves x → Halves y → Halves (cond c x y)
pick true s t = s
pick false s t = t

-- h is one of them in every set
pub halves : (set : ℕ) → Halves (params_of set)
unfolding params_of
halves set = pick (eqb set 1) (record { is = inr refl }) (pick (eqb set 2) (record { is = inr refl }) (record { is = inl refl }))
