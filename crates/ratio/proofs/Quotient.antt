-- One division of two whole numbers as f64: it gives the f64 nearest to the fraction, and by a power of two the fraction itself.
-- Assumes nothing.
use mathlib.Core.Path.{◌≡◌, sym, ap, ◌∙◌, subst}
use mathlib.Core.Bool.{false}
use Prim.Native.Nat.{ℕ, ◌+◌, ◌-◌, ◌*◌, ◌^◌, ◌≤◌, ◌<◌}
use native.Mathlib.Nat.{mul_comm, mul_assoc, mul-pos, mul-one, zero-mul, le_trans}
use native.Mathlib.Omega.{arith}
use lib.IntN.{pos}
use lib.Pow.{pow-add, pow_pos, pow_mono, shl_lt}
use lib.Ieee.{Float, nan, inf, fin, Format, binary64, up, down, round, div, of_int}
use lib.Ieee.Exact.{HasValue, round_exact}
use lib.Ieee.Back.{round_whole}
use lib.Ieee.Scale.{round_same}
use lib.Ieee.Fits.{down_pos}
use borrow.Author.Tests.{ne_eqb}
use Rattle.ratio.specs.Ratio.{PowerOfTwo, Exact, ratio_of}

-- a float whose value is not 0 has digits
some_digits : (n u b k : ℕ) → 0 < b * k → n * u ≡ b * k → n ≡ 0 → ⊥
some_digits n u b k h e z = let none : 0 * u ≡ b * k = rw z at e in omega (arith, zero-mul u)

-- the quotient of floats with the values a and b, b not 0, is a/b rounded once
quotient_of : (f : Format) (x y : Float) (a b : ℕ) → 0 < b → HasValue x false a 1 → HasValue y false b 1 → div f x y ≡ round f false a b
unfolding div
quotient_of f nan y a b h v w = absurd v
quotient_of f (inf s) y a b h v w = absurd v
quotient_of f (fin s m e) nan a b h v w = absurd w
quotient_of f (fin s m e) (inf t) a b h v w = absurd w
quotient_of f (fin s m e) (fin t n d) a b h v w =
    let x : m * up e ≡ a * down e = sym (mul-one (m * up e)) ∙ v.1 in
    let y : n * up d ≡ b * down d = sym (mul-one (n * up d)) ∙ w.1 in
    let some : 0 < b * down d = mul-pos h (down_pos d) in
    let cross : a * down e * down d * b ≡ a * (b * down d * down e) =
    mul_assoc (a * down e) (down d) b ∙ mul_assoc a (down e) (down d * b) ∙ ap (λ (z : ℕ). a * z) (mul_comm (down e) (down d * b) ∙ ap (λ (z : ℕ). z * down e) (mul_comm (down d) b)) in
    rw (v.0, w.0, ne_eqb n 0 (some_digits n (up d) b (down d) some y), x, y)
    (round_same f false (a * down e * down d) (b * down d * down e) a b (mul-pos some (down_pos e)) h cross)

-- of whole numbers that an f64 holds
quotient : (a b : ℕ) → a ≤ 2 ^ 53 → b ≤ 2 ^ 53 → 0 < b → div binary64 (of_int binary64 (pos a)) (of_int binary64 (pos b)) ≡ round binary64 false a b
unfolding of_int
quotient a b ha hb h =
    quotient_of binary64 (round binary64 false a 1) (round binary64 false b 1) a b h (round_whole binary64 false a ha) (round_whole binary64 false b hb)

-- nothing is rounded where b is 2^k: size over 2^k is size * 2^(1074 - k) of the smallest steps of an f64
by_power : (size k : ℕ) → size < 2 ^ 53 → k ≤ 1074 → HasValue (round binary64 false size (2 ^ k)) false size (2 ^ k)
by_power size k small l =
    let all : 1074 - k + k ≡ 1074 = omega arith in
    let steps : 2 ^ 1074 ≡ 2 ^ (1074 - k) * 2 ^ k = ap (λ (z : ℕ). 2 ^ z) (sym all) ∙ pow-add 2 (1074 - k) k in
    round_exact binary64 false size (2 ^ k) size (1074 - k) (pow_pos k) small
    (le_trans (shl_lt 53 (1074 - k) small) (pow_mono {i = 53 + (1074 - k)} {j = 2098} (omega arith)))
    (ap (λ (z : ℕ). size * z) steps ∙ sym (mul_assoc size (2 ^ (1074 - k)) (2 ^ k)))

-- the code's division
pub divided : (size h : ℕ) → size < 2 ^ 32 → PowerOfTwo h → Exact size h (div binary64 (of_int binary64 (pos size)) (of_int binary64 (pos h)))
unfolding ratio_of
divided size h small power =
    let low : size < 2 ^ 53 = omega arith in
    let some : 0 < h = subst (λ (z : ℕ). 0 < z) (sym power.is) (pow_pos power.exponent) in
    let high : h ≤ 2 ^ 53 = subst (λ (z : ℕ). z ≤ 2 ^ 53) (sym power.is) (pow_mono {j = 53} (omega (arith, power.small))) in
    let is = quotient size h (omega arith) high some in
    record { is = is; exact = rw (is, power.is) (by_power size power.exponent low (omega (arith, power.small))) }
