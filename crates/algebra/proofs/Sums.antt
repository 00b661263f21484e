-- The laws of finite sums (specs/Sum.antt).
-- Assumes nothing.
use mathlib.Core.Path.{◌≡◌, refl, sym, ap, ◌∙◌}
use Prim.Native.Nat.{ℕ, zero, suc, ◌+◌, ◌*◌, ◌%◌, ◌<◌}
use native.Mathlib.Nat.{add-zero, add_assoc, mul-zero, zero-mul, mod-add-mod, mod-eq_of_lt, le_step, lt-suc_self, add-suc}
use native.Mathlib.Numerals.{add-one}
use native.Mathlib.Omega.{arith}
use Rattle.algebra.specs.Sum.{sum}

-- one term more, in the form of a loop's step
pub sum_next : (n : ℕ) (f : ℕ → ℕ) → sum (n + 1) f ≡ sum n f + f n
unfolding sum
sum_next n f = ap (λ (k : ℕ). sum k f) (add-one n)

-- equal terms make equal sums
pub sum_ext : (n : ℕ) (f g : ℕ → ℕ) → ((k : ℕ) → k < n → f k ≡ g k) → sum n f ≡ sum n g
unfolding sum
sum_ext zero f g h = refl
sum_ext (suc n) f g h = let ih = sum_ext n f g (λ k l. h k (le_step l)) in let e = h n (lt-suc_self n) in cc

-- a sum of sums, term by term
pub sum_add : (n : ℕ) (f g : ℕ → ℕ) → sum n (λ k. f k + g k) ≡ sum n f + sum n g
unfolding sum
sum_add zero f g = refl
sum_add (suc n) f g = let ih = sum_add n f g in omega arith

-- a factor on the left of every term
pub sum_mul : (n c : ℕ) (f : ℕ → ℕ) → sum n (λ k. c * f k) ≡ c * sum n f
unfolding sum
sum_mul zero c f = sym (mul-zero c)
sum_mul (suc n) c f = let ih = sum_mul n c f in omega arith

-- a factor on the right of every term
pub sum_mul_right : (n c : ℕ) (f : ℕ → ℕ) → sum n (λ k. f k * c) ≡ sum n f * c
unfolding sum
sum_mul_right zero c f = sym (zero-mul c)
sum_mul_right (suc n) c f = let ih = sum_mul_right n c f in omega arith

-- a sum of zeros
pub sum_zeros : (n : ℕ) → sum n (λ k. 0) ≡ 0
unfolding sum
sum_zeros zero = refl
sum_zeros (suc n) = let ih = sum_zeros n in omega arith

-- two sums, one in the other, change places
pub sum_swap : (n m : ℕ) (f : ℕ → ℕ → ℕ) → sum n (λ i. sum m (λ j. f i j)) ≡ sum m (λ j. sum n (λ i. f i j))
unfolding sum
sum_swap zero m f = sym (sum_zeros m)
sum_swap (suc n) m f = let ih = sum_swap n m f in let e = sum_add m (λ j. sum n (λ i. f i j)) (λ j. f n j) in cc

-- a sum in two parts
pub sum_append : (n m : ℕ) (f : ℕ → ℕ) → sum (n + m) f ≡ sum n f + sum m (λ k. f (n + k))
unfolding sum
sum_append n zero f = ap (λ (x : ℕ). sum x f) (add-zero n) ∙ sym (add-zero (sum n f))
sum_append n (suc m) f = rw (add-suc n m) (let ih = sum_append n m f in omega arith)

-- ---- a word that gathers a sum mod m

-- before the first term
pub sum_start : (m e : ℕ) (f : ℕ → ℕ) → e < m → e ≡ (e + sum 0 f) % m
unfolding sum
sum_start m e f h = sym (ap (λ (x : ℕ). x % m) (add-zero e) ∙ mod-eq_of_lt h)

-- with one term more
pub sum_turn : (m e k : ℕ) (f : ℕ → ℕ) → ((e + sum k f) % m + f k) % m ≡ (e + sum (k + 1) f) % m
sum_turn m e k f =
    mod-add-mod (e + sum k f) m (f k) ∙ ap (λ (z : ℕ). z % m) (add_assoc e (sum k f) (f k)) ∙ ap (λ (z : ℕ). (e + z) % m) (sym (sum_next k f))
