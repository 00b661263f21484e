-- FIPS 202 (2015), rho: what its rotation is in the code's shifts, and the offsets that its walk gives, as a list.
-- Assumes nothing.
use mathlib.Core.Path.{◌≡◌, refl, sym, ap, ◌∙◌, subst}
use mathlib.Core.List.{[], ◌∷◌}
use Prim.Native.Nat.{ℕ, ◌+◌, ◌-◌, ◌*◌, ◌/◌, ◌%◌, ◌^◌, ◌≤◌, ◌<◌}
use native.Mathlib.Nat.{mul-mod_left, add-zero, mul-one, mod-eq_of_lt, div-eq_of_lt}
use native.Mathlib.Omega.{arith}
use lib.Bits.{bit_or, or_shifted}
use lib.Pow.{mod-pow-add, shl-shr, shr_lt}
use Rattle.keccak.specs.Keccak.{rotl, offsets}

-- the low digits of a shifted number are the shifted low digits
shl_low : (x j k : ℕ) → x * 2 ^ k % 2 ^ (j + k) ≡ (x % 2 ^ j) * 2 ^ k
shl_low x j k = mod-pow-add (x * 2 ^ k) j k ∙ rw (shl-shr, mul-mod_left, add-zero)

-- at a width of j + k bits, `(x << k) | (x >> j)` is a sum
or_sum : (x j k : ℕ) → x < 2 ^ (k + j) → bit_or (x * 2 ^ k % 2 ^ (j + k)) (x / 2 ^ j) ≡ x * 2 ^ k % 2 ^ (j + k) + x / 2 ^ j
or_sum x j k h = rw (shl_low x j k) (or_shifted (x % 2 ^ j) k (x / 2 ^ j) (shr_lt k j h))

-- `(x << k) | (x >> (64 - k))` rotates a lane
pub rotl_or : (x k : ℕ) → k ≤ 64 → x < 2 ^ 64 → bit_or (x * 2 ^ k % 2 ^ 64) (x / 2 ^ (64 - k)) ≡ rotl x k
unfolding rotl
rotl_or x k h l =
    let e : (64 - k) + k ≡ 64 = omega arith in
    let f : k + (64 - k) ≡ 64 = omega arith in
    subst (λ (n : ℕ). bit_or (x * 2 ^ k % 2 ^ n) (x / 2 ^ (64 - k)) ≡ x * 2 ^ k % 2 ^ n + x / 2 ^ (64 - k)) e
    (or_sum x (64 - k) k (subst (λ (n : ℕ). x < 2 ^ n) (sym f) l))

-- a lane rotated by 0 is itself
pub rotl_zero : (x : ℕ) → x < 2 ^ 64 → rotl x 0 ≡ x
unfolding rotl
rotl_zero x l = (λ i. (ap (λ (n : ℕ). n % 2 ^ 64) (mul-one x) ∙ mod-eq_of_lt l) i + div-eq_of_lt l i) ∙ add-zero x

-- rho's walk gives these offsets
pub offsets_are : offsets ≡ 0 ∷ 1 ∷ 62 ∷ 28 ∷ 27 ∷ 36 ∷ 44 ∷ 6 ∷ 55 ∷ 20 ∷ 3 ∷ 10 ∷ 43 ∷ 25 ∷ 39 ∷ 41 ∷ 45 ∷ 15 ∷ 21 ∷ 8 ∷ 18 ∷ 2 ∷ 61 ∷ 56 ∷ 14 ∷ []
unfolding offsets
offsets_are = refl
