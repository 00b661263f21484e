-- Congruence mod q of numbers, and subtraction mod q without negative numbers.
-- Assumes nothing.
use Rattle.std.specs.Prelude.{◌≡◌, ℕ, ◌+◌, ◌-◌, ◌%◌}

-- a and b leave one remainder mod q. A record, so that q, a and b are read off a proof
pub record Same (q a b : ℕ) : Type 0 where
  pub eq : a % q ≡ b % q

-- a - b mod q, a number below q
unfoldable pub minus : ℕ → ℕ → ℕ → ℕ
minus q a b = (a + (q - b % q)) % q
