-- The laws of a mask: m + 1 is q, and a word taken mod q is the number mod q.
-- Assumes nothing.
use mathlib.Core.Path.{◌≡◌, sym, ap, ◌∙◌, subst}
use Prim.Native.Nat.{ℕ, ◌+◌, ◌-◌, ◌%◌, ◌^◌, ◌<◌}
use native.Mathlib.Omega.{arith}
use lib.Bits.{bit_and, and_mask}
use lib.Pow.{pow_pos}
use Rattle.algebra.specs.Congruence.{minus}
use Rattle.algebra.proofs.Congruences.{word_mod, wrapped_minus}
use Rattle.words.specs.Words.{Mask}

module _ {m : ℕ} (k : Mask m) where
  -- m + 1 is a power of two
  pub mask_q : m + 1 ≡ 2 ^ k.bits
  mask_q = omega (arith, k.is, pow_pos k.bits)

  -- the low bits are the remainder mod q
  pub masked : (x : ℕ) → bit_and x m ≡ x % (m + 1)
  masked x = ap (bit_and x) k.is ∙ and_mask x k.bits ∙ ap (λ (q : ℕ). x % q) (sym mask_q)

  -- a word mod q is the number mod q
  pub word_low : (x : ℕ) → x % 65536 % (m + 1) ≡ x % (m + 1)
  word_low x = subst (λ (q : ℕ). x % 65536 % q ≡ x % q) (sym mask_q) (word_mod k.bits x k.small)

  -- a difference wrapped at 2^16, mod q
  pub minus_low : (x y : ℕ) → y < 65536 → (x + (65536 - y)) % (m + 1) ≡ minus (m + 1) x y
  minus_low x y h = subst (λ (q : ℕ). (x + (65536 - y)) % q ≡ minus q x y) (sym mask_q) (wrapped_minus k.bits x y k.small h)
