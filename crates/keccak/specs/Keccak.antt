-- FIPS 202 (2015), KECCAK-p[1600, 24]; docs/RULES.md, 4.1. On 25 lanes of 64 bits: lane (x, y) stands at index x + 5 y (conversion of strings to state arrays), bit z of a lane has the weight 2^z.
-- Assumes nothing.
use Rattle.std.specs.Prelude.{List, ℕ, zero, suc, ◌+◌, ◌-◌, ◌*◌, ◌/◌, ◌%◌, ◌^◌, get_or, set}
use Rattle.std.specs.Int.Bits.{bit_xor, bit_and}
use Rattle.lists.specs.Lists.{tab}

-- a lane rotated left by k
unfoldable pub rotl : ℕ → ℕ → ℕ
rotl x k = (x * 2 ^ k) % 2 ^ 64 + x / 2 ^ (64 - k)

-- theta: the parity of a column, and what is added to each lane of column x
abbrev pub column : List ℕ → ℕ → ℕ
column a x = bit_xor (bit_xor (bit_xor (bit_xor (get_or a x 0) (get_or a (x + 5) 0)) (get_or a (x + 10) 0)) (get_or a (x + 15) 0)) (get_or a (x + 20) 0)

abbrev pub columns : List ℕ → List ℕ
columns a = tab 5 (column a)

abbrev pub effect : List ℕ → ℕ → ℕ
effect a x = bit_xor (column a ((x + 4) % 5)) (rotl (column a ((x + 1) % 5)) 1)

unfoldable pub theta : List ℕ → List ℕ
theta a = tab 25 (λ i. bit_xor (get_or a i 0) (effect a (i % 5)))

-- rho: from (1, 0) on, step t rotates lane (x, y) by (t + 1)(t + 2)/2 and goes on to (y, 2x + 3y)
abbrev pub walk : (steps t x y : ℕ) → List ℕ → List ℕ
walk zero t x y o = o
walk (suc steps) t x y o = walk steps (suc t) y ((2 * x + 3 * y) % 5) (set o (x + 5 * y) ((t + 1) * (t + 2) / 2 % 64))

-- the 24 steps, and 0 for lane (0, 0)
unfoldable pub offsets : List ℕ
offsets = walk 24 0 1 0 (tab 25 (λ i. 0))

unfoldable pub rho : List ℕ → List ℕ
rho a = tab 25 (λ i. rotl (get_or a i 0) (get_or offsets i 0))

-- pi: A'[x, y] = A[(x + 3 y) mod 5, x]
unfoldable pub pi : List ℕ → List ℕ
pi a = tab 25 (λ i. get_or a ((i % 5 + 3 * (i / 5)) % 5 + 5 * (i % 5)) 0)

-- chi: A'[x, y] = A[x, y] xor (not A[x + 1, y] and A[x + 2, y])
abbrev pub mixed : List ℕ → ℕ → ℕ → ℕ
mixed a x y = bit_xor (get_or a (x + 5 * y) 0) (bit_and ((2 ^ 64 - 1) - get_or a ((x + 1) % 5 + 5 * y) 0) (get_or a ((x + 2) % 5 + 5 * y) 0))

unfoldable pub chi : List ℕ → List ℕ
chi a = tab 25 (λ i. mixed a (i % 5) (i / 5))

-- iota, rc(t): the register R after t steps, R[i] being the bit of weight 2^i, whose output is rc(t) = R[0]
abbrev pub clock : ℕ → ℕ
clock r = bit_xor ((r * 2) % 256) (113 * (r / 128))

abbrev pub register : ℕ → ℕ
register zero = 1
register (suc t) = clock (register t)

-- iota, the round constant: rc(j + 7 i) is bit 2^j - 1 of it, for j from 0 to 6
abbrev pub constant_to : ℕ → ℕ → ℕ
constant_to i zero = 0
constant_to i (suc j) = constant_to i j + (register (j + 7 * i) % 2) * 2 ^ (2 ^ j - 1)

unfoldable pub round_constant : ℕ → ℕ
round_constant i = constant_to i 7

-- lane (0, 0) takes the constant c
unfoldable pub iota_with : ℕ → List ℕ → List ℕ
iota_with c a = set a 0 (bit_xor (get_or a 0 0) c)

unfoldable pub iota : ℕ → List ℕ → List ℕ
iota i a = iota_with (round_constant i) a

-- KECCAK-p: a round, and the 24 of them
unfoldable pub round : ℕ → List ℕ → List ℕ
round i a = iota i (chi (pi (rho (theta a))))

unfoldable pub rounds : ℕ → List ℕ → List ℕ
rounds zero a = a
rounds (suc n) a = round n (rounds n a)

unfoldable pub keccak_f : List ℕ → List ℕ
keccak_f a = rounds 24 a
