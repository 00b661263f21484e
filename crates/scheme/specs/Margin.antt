-- docs/RULES.md, 4.11: the margin of a seed, a message and a salt, but for its ratio, which stands with the code that divides. The verdict is that of 4.11.4.
-- Assumes nothing.
use Rattle.std.specs.Prelude.{Bool, true, false, ◌&&◌, List, ℕ, zero, suc, max, ℤ, pos, neg_ℤ, nat_abs, length, get_or}
use Rattle.std.specs.Int.Signed.{le_z, lt_z}
use Rattle.algebra.specs.Matrix.{table}
use Rattle.algebra.specs.Whole.{centred}
use Rattle.sets.specs.declared.Params.{Params}
use Rattle.message.specs.Message.{half}
use Rattle.scheme.specs.Noise.{noise_at}

-- the largest of f 0, f 1, .., f (n - 1), and 0 of none
unfoldable pub largest : ℕ → (ℕ → ℕ) → ℕ
largest zero f = 0
largest (suc n) f = max (largest n f) (f n)

-- the size of a word mod q: how far its centred value is from 0
abbrev pub size_of : (q w : ℕ) → ℕ
size_of q w = nat_abs (centred q w)

-- the largest size of some words
unfoldable pub largest_size : (q : ℕ) (ws : List ℕ) → ℕ
largest_size q ws = largest (length ws) (λ t. size_of q (get_or ws t 0))

-- whether a number is at least -h and less than h
abbrev pub in_range : (h : ℕ) (z : ℤ) → Bool
in_range h z = le_z (neg_ℤ (pos h)) z && lt_z z (pos h)

-- whether f 0, f 1, .., f (n - 1) all hold
unfoldable pub every : ℕ → (ℕ → Bool) → Bool
every zero f = true
every (suc n) f = every n f && f n

-- the verdict on some words of noise: kept where each of them, centred, is at least -h and less than h
unfoldable pub kept_by : (q h : ℕ) (ws : List ℕ) → Bool
kept_by q h ws = every (length ws) (λ t. in_range h (centred q (get_or ws t 0)))

-- the 64 words of S'E + E'' - E'S mod q, row by row
abbrev pub noise_table : (p : Params) (seed msg salt : List ℕ) → List ℕ
noise_table p seed msg salt = table 8 8 (noise_at p seed msg salt)

-- the margin's size
abbrev pub margin_size : (p : Params) (seed msg salt : List ℕ) → ℕ
margin_size p seed msg salt = largest_size p.q (noise_table p seed msg salt)

-- the margin's verdict
abbrev pub kept : (p : Params) (seed msg salt : List ℕ) → Bool
kept p seed msg salt = kept_by p.q (half p.q p.b) (noise_table p seed msg salt)

-- a refused margin has size 0 and is not kept
abbrev pub refused_size : ℕ
refused_size = 0

abbrev pub refused_kept : Bool
refused_kept = false
