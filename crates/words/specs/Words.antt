-- The mask of the low bits of a word (docs/RULES.md, 4.7: products masked by q - 1).
-- Assumes nothing.
use Rattle.std.specs.Prelude.{◌≡◌, ℕ, ◌-◌, ◌^◌, ◌≤◌}

-- m is q - 1, where q is 2^bits and at most 2^16
pub record Mask (m : ℕ) : Type 0 where
  pub bits : ℕ
  pub is : m ≡ 2 ^ bits - 1
  pub small : bits ≤ 16
