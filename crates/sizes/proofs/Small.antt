-- The words that noise is stored as stand for its samples, so that they are small.
-- Assumes nothing.
use mathlib.Core.Path.{◌≡◌, refl, sym, ap, ◌∙◌, subst}
use mathlib.Core.List.{List, [], ◌∷◌, map}
use Prim.Native.Nat.{ℕ, zero, suc, ◌+◌, ◌*◌, ◌-◌, ◌/◌, ◌%◌, ◌≤◌, ◌<◌}
use native.Mathlib.Nat.{mod-eq_of_lt, add-mod_right}
use native.Mathlib.Omega.{arith}
use lib.IntN.{ℤ, pos, negsuc, nat_abs}
use lib.ListN.{get_or, take, drop}
use lib.Seq.{get_or-drop}
use Rattle.algebra.specs.Whole.{centred, modulo}
use Rattle.algebra.proofs.Wholes.{at_least, below}
use Rattle.sets.specs.declared.Chi.{Chi}
use Rattle.sets.specs.declared.Chi.TheVariants.{Frodo640, Frodo976, Frodo1344}
use Rattle.sets.specs.declared.Params.{Params}
use Rattle.bits.specs.Little.{words_of}
use Rattle.noise.specs.Noise.{sampled, table_of, largest_of}
use Rattle.noise.proofs.Bounds.{sample_size}
use Rattle.scheme.specs.Parts.{samples, stored, stored_samples, noise_words}
use Rattle.sizes.specs.Signed.{signed_word}

-- a number that is small beside q = 2m comes back, centred, from its remainder
pub centred_back : (m : ℕ) (z : ℤ) → nat_abs z < m → centred (2 * m) (modulo z (2 * m)) ≡ z
centred_back m (pos n) h =
    let half : 2 * m / 2 ≡ m = omega arith in
    let low : n % (2 * m) ≡ n = mod-eq_of_lt (omega arith) in
    let on : (n + m) % (2 * m) ≡ n + m = mod-eq_of_lt (omega arith) in
    rw (half, low, on) (at_least (n + m) m (omega arith) ∙ ap pos (omega arith))
centred_back m (negsuc n) h =
    let half : 2 * m / 2 ≡ m = omega arith in
    let low : n % (2 * m) ≡ n = mod-eq_of_lt (omega arith) in
    let turn : 2 * m - 1 - n + m ≡ m - suc n + 2 * m = omega arith in
    let on : (m - suc n + 2 * m) % (2 * m) ≡ m - suc n = add-mod_right (m - suc n) (2 * m) ∙ mod-eq_of_lt (omega arith) in
    rw (half, low, turn, on) (below (m - suc n) m (omega arith) ∙ ap negsuc (omega arith))

-- so that a small number is the one that its word stands for
pub stored_back : (z : ℤ) → nat_abs z < 32768 → signed_word (stored z) ≡ z
unfolding stored
stored_back z h = centred_back 32768 z h

pub largest_low : (chi : Chi) → largest_of chi ≤ 12
largest_low Frodo640 = omega arith
largest_low Frodo976 = omega arith
largest_low Frodo1344 = omega arith

sample_back : (chi : Chi) (r : ℕ) → signed_word (stored (sampled (table_of chi) r)) ≡ sampled (table_of chi) r
sample_back chi r = stored_back (sampled (table_of chi) r) (omega (arith, sample_size chi r, largest_low chi))

-- ---- the words of noise are its samples

pub words_are_samples : (chi : Chi) (ws : List ℕ) → map signed_word (stored_samples chi ws) ≡ samples chi ws
words_are_samples chi [] = refl
words_are_samples chi (w ∷ ws) = λ i. sample_back chi w i ∷ words_are_samples chi ws i

-- ---- and small

-- every word, and 0 past the end, stands for a number of size at most s
pub record Small (s : ℕ) (ws : List ℕ) : Type 0 where
  pub each : (k : ℕ) → nat_abs (signed_word (get_or ws k 0)) ≤ s

none : (s k : ℕ) → nat_abs (signed_word (get_or [] k 0)) ≤ s
none s k = omega arith

small_samples : (chi : Chi) (ws : List ℕ) (k : ℕ) → nat_abs (signed_word (get_or (stored_samples chi ws) k 0)) ≤ largest_of chi
small_samples chi [] k = none (largest_of chi) k
small_samples chi (w ∷ ws) zero = subst (λ (z : ℤ). nat_abs z ≤ largest_of chi) (sym (sample_back chi w)) (sample_size chi w)
small_samples chi (w ∷ ws) (suc k) = small_samples chi ws k

pub small_noise : (p : Params) (bytes : List ℕ) → Small (largest_of p.chi) (noise_words p bytes)
small_noise p bytes = record { each = small_samples p.chi (words_of bytes) }

-- so is any part of them
taken : (s n : ℕ) (ws : List ℕ) → ((k : ℕ) → nat_abs (signed_word (get_or ws k 0)) ≤ s) → (k : ℕ) → nat_abs (signed_word (get_or (take n ws) k 0)) ≤ s
taken s zero ws h k = none s k
taken s (suc n) [] h k = none s k
taken s (suc n) (w ∷ ws) h zero = h zero
taken s (suc n) (w ∷ ws) h (suc k) = taken s n ws (λ j. h (suc j)) k

pub small_take : {s : ℕ} {ws : List ℕ} (n : ℕ) → Small s ws → Small s (take n ws)
small_take {s} {ws} n h = record { each = taken s n ws h.each }

pub small_drop : {s : ℕ} {ws : List ℕ} (n : ℕ) → Small s ws → Small s (drop n ws)
small_drop {s} {ws} n h = record { each = λ k. subst (λ (w : ℕ). nat_abs (signed_word w) ≤ s) (sym (get_or-drop n ws k 0)) (h.each (n + k)) }
