-- The distances of coded words: 2^b steps of q/2^b make q, and h is half a step.
-- Assumes nothing.
use mathlib.Core.Path.{◌≡◌, sym, ap, ◌∙◌, subst}
use Prim.Native.Nat.{ℕ, ◌+◌, ◌-◌, ◌*◌, ◌/◌, ◌%◌, ◌^◌, ◌≤◌, ◌<◌}
use native.Mathlib.Nat.{mul-div_cancel_left, add-sub_of_le, div-div-eq-div-mul}
use native.Mathlib.Omega.{arith}
use lib.Bits.{bit_and, and_mask}
use lib.Pow.{pow-add, pow_pos, pow_mono, shl-shr}
use Rattle.message.specs.Message.{half}
use Rattle.message.specs.Coding.{Coding}

-- a power of two by a smaller one
power_div : (m d : ℕ) → m ≤ d → 2 ^ d / 2 ^ m ≡ 2 ^ (d - m)
power_div m d h =
    ap (λ (k : ℕ). 2 ^ k / 2 ^ m) (sym (add-sub_of_le h)) ∙ ap (λ (k : ℕ). k / 2 ^ m) (pow-add 2 m (d - m)) ∙ mul-div_cancel_left (2 ^ (d - m)) (pow_pos m)

module _ {q b : ℕ} (k : Coding q b) where
  -- a step is a power of two
  step_is : q / 2 ^ b ≡ 2 ^ (k.d - b)
  step_is = ap (λ (z : ℕ). z / 2 ^ b) k.q_is ∙ power_div b k.d (omega (arith, k.b_room))

  -- and so is h
  half_is : half q b ≡ 2 ^ (k.d - (b + 1))
  half_is = ap (λ (z : ℕ). z / 2 ^ (b + 1)) k.q_is ∙ power_div (b + 1) k.d (omega (arith, k.b_room))

  -- 2^b steps are q
  pub whole : 2 ^ b * (q / 2 ^ b) ≡ q
  whole =
      ap (λ (z : ℕ). 2 ^ b * z) step_is ∙ sym (pow-add 2 b (k.d - b)) ∙ ap (λ (z : ℕ). 2 ^ z) (add-sub_of_le (omega (arith, k.b_room))) ∙ sym k.q_is

  -- 2h is a step
  pub twice : 2 * half q b ≡ q / 2 ^ b
  twice =
      let e : 1 + (k.d - (b + 1)) ≡ k.d - b = omega (arith, k.b_room) in
      ap (λ (z : ℕ). 2 * z) half_is ∙ sym (pow-add 2 1 (k.d - (b + 1))) ∙ ap (λ (z : ℕ). 2 ^ z) e ∙ sym step_is

  -- h is not 0
  pub half_pos : 0 < half q b
  half_pos = subst (λ (z : ℕ). 0 < z) (sym half_is) (pow_pos (k.d - (b + 1)))

  -- q is at most 2^16
  pub q_high : q ≤ 65536
  q_high = subst (λ (z : ℕ). z ≤ 65536) (sym k.q_is) (pow_mono k.d_high)

  -- q is not 0
  pub q_pos : 0 < q
  q_pos = subst (λ (z : ℕ). 0 < z) (sym k.q_is) (pow_pos k.d)

  -- a step is at most 2^16
  pub step_high : 2 * half q b ≤ 65536
  step_high = subst (λ (z : ℕ). z ≤ 65536) (sym (twice ∙ step_is)) (pow_mono {j = 16} (omega (arith, k.d_high)))

  -- x mod q by a mask
  pub masked : (x : ℕ) → bit_and x (q - 1) ≡ x % q
  masked x = subst (λ (z : ℕ). bit_and x (z - 1) ≡ x % z) (sym k.q_is) (and_mask x k.d)

  -- steps in 2^16
  times_is : 65536 / (q / 2 ^ b) ≡ 2 ^ (16 - (k.d - b))
  times_is = ap (λ (z : ℕ). 65536 / z) step_is ∙ power_div (k.d - b) 16 (omega (arith, k.d_high))

  -- there are not too many
  pub times_high : 65536 / (q / 2 ^ b) ≤ 32768
  times_high = subst (λ (z : ℕ). z ≤ 32768) (sym times_is) (pow_mono {j = 15} (omega (arith, k.b_room)))

  -- a quotient by a step is the quotient of a multiple by 2^16
  pub quotient : (v : ℕ) → v * (65536 / (q / 2 ^ b)) / 65536 ≡ v / (2 * half q b)
  quotient v =
      let s : ℕ = k.d - b in
      let m : ℕ = 16 - s in
      let e : 16 ≡ m + s = omega (arith, k.d_high) in
      (λ i. v * times_is i / 2 ^ e i)
      ∙ ap (λ (z : ℕ). v * 2 ^ m / z) (pow-add 2 m s) ∙ sym (div-div-eq-div-mul (v * 2 ^ m) (2 ^ m) (2 ^ s))
      ∙ ap (λ (z : ℕ). z / 2 ^ s) (shl-shr v m) ∙ ap (λ (z : ℕ). v / z) (sym (twice ∙ step_is))
