-- docs/RULES.md, 4.11: a size over h as an f64, exact because h is a power of two.
-- Assumes nothing.
use Rattle.std.specs.Prelude.{◌≡◌, refl, false, ℕ, ◌^◌, ◌≤◌, pos, Float}
use Rattle.std.specs.Float.{fin, binary64}
use Rattle.std.specs.Float.Ieee.{round}
use Rattle.std.specs.Float.Ieee.Exact.{HasValue}

-- a power of two, as h is in every set: 2048 or 4096
pub record PowerOfTwo (h : ℕ) : Type 0 where
  pub exponent : ℕ
  pub small : exponent ≤ 15
  pub is : h ≡ 2 ^ exponent

-- the f64 nearest to size over h
unfoldable pub ratio_of : (size h : ℕ) → Float
ratio_of size h = round binary64 false size h

-- r is that, and nothing was rounded: its value is size over h
pub record Exact (size h : ℕ) (r : Float) : Type 0 where
  pub is : r ≡ ratio_of size h
  pub exact : HasValue r false size h

-- a size of h itself, which noise with a worst entry of -h or of h has: 1.0
pub one : (ratio_of 4096 4096 ≡ fin false 1 (pos 0)) × (ratio_of 2048 2048 ≡ fin false 1 (pos 0))
unfolding ratio_of round
one = (refl, refl)

-- the far end of set 1: 16384 over 4096 is 4.0
pub four : ratio_of 16384 4096 ≡ fin false 1 (pos 2)
unfolding ratio_of round
four = refl

-- and of set 3: 32768 over 2048 is 16.0
pub sixteen : ratio_of 32768 2048 ≡ fin false 1 (pos 4)
unfolding ratio_of round
sixteen = refl
