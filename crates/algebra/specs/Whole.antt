-- Whole numbers with a sign: division rounded down, the remainder, and the centred value of a word.
-- Assumes nothing.
use Rattle.std.specs.Prelude.{ℕ, ◌+◌, ◌-◌, ◌/◌, ◌%◌, ℤ, pos, negsuc}
use Rattle.std.proofs.Math.IntN.{sub_ℕ}

-- z / d, rounded down
abbrev pub floor_div : ℤ → ℕ → ℤ
floor_div (pos a) d = pos (a / d)
floor_div (negsuc a) d = negsuc (a / d)

-- z mod p, from 0 up to but not including p
abbrev pub modulo : ℤ → ℕ → ℕ
modulo (pos a) p = a % p
modulo (negsuc a) p = p - 1 - a % p

-- the number congruent to x mod q that is at least -q/2 and less than q/2, for an even q
abbrev pub centred : (q x : ℕ) → ℤ
centred q x = sub_ℕ ((x + q / 2) % q) (q / 2)
