-- The q and b with which messages are coded (docs/RULES.md, 2.1): what the laws and the code rely on.
-- It follows from `Valid p` of the crate sets for the set's own q and b: d is the set's, q-is, b-low and b-high are its fields, and d-cases says that d is
-- 15 or 16, which is at most 16 and more than b.
-- Assumes nothing.
use Rattle.std.specs.Prelude.{◌≡◌, ℕ, ◌^◌, ◌≤◌, ◌<◌}

pub record Coding (q b : ℕ) : Type 0 where
  pub d : ℕ
  pub q_is : q ≡ 2 ^ d
  pub d_high : d ≤ 16
  pub b_room : b < d
  pub b_low : 1 ≤ b
  pub b_high : b ≤ 4
