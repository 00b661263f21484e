-- The laws of products of matrices (specs/Matrix.antt): associative, distributive, and congruent where their factors are; over any n and q.
-- Assumes nothing.
use mathlib.Core.Path.{◌≡◌, sym, ◌∙◌, subst}
use Prim.Native.Nat.{ℕ, ◌+◌, ◌*◌, ◌≤◌, ◌<◌}
use native.Mathlib.Nat.{mul_assoc, mul-le-mul, mul-le-mul_right, suc-mul, le-pred_of_lt}
use native.Mathlib.Omega.{arith}
use Rattle.algebra.specs.Sum.{sum}
use Rattle.algebra.specs.Congruence.{Same}
use Rattle.algebra.specs.Matrix.{Matrix, mul, ◌⊕◌}
use Rattle.algebra.proofs.Sums.{sum_ext, sum_add, sum_mul, sum_mul_right, sum_swap}
use Rattle.algebra.proofs.Congruences.{same_refl, same_mul, same_sum}

-- (X Y) Z is X (Y Z)
pub mul_assoc_at : (n m : ℕ) (X Y Z : Matrix) (i j : ℕ) → mul m (mul n X Y) Z i j ≡ mul n X (mul m Y Z) i j
mul_assoc_at n m X Y Z i j =
    sum_ext m (λ k. mul n X Y i k * Z k j) (λ k. sum n (λ l. X i l * Y l k * Z k j)) (λ k _. sym (sum_mul_right n (Z k j) (λ l. X i l * Y l k)))
    ∙ sum_swap m n (λ k l. X i l * Y l k * Z k j)
    ∙ sum_ext n (λ l. sum m (λ k. X i l * Y l k * Z k j)) (λ l. X i l * mul m Y Z l j)
    (λ l _.
    sum_ext m (λ k. X i l * Y l k * Z k j) (λ k. X i l * (Y l k * Z k j)) (λ k _. mul_assoc (X i l) (Y l k) (Z k j))
    ∙ sum_mul m (X i l) (λ k. Y l k * Z k j))

-- X (Y + Z) is X Y + X Z
pub mul_add_right : (n : ℕ) (X Y Z : Matrix) (i j : ℕ) → mul n X (Y ⊕ Z) i j ≡ mul n X Y i j + mul n X Z i j
mul_add_right n X Y Z i j =
    sum_ext n (λ k. X i k * (Y k j + Z k j)) (λ k. X i k * Y k j + X i k * Z k j) (λ k _. omega arith)
    ∙ sum_add n (λ k. X i k * Y k j) (λ k. X i k * Z k j)

-- (X + Y) Z is X Z + Y Z
pub mul_add_left : (n : ℕ) (X Y Z : Matrix) (i j : ℕ) → mul n (X ⊕ Y) Z i j ≡ mul n X Z i j + mul n Y Z i j
mul_add_left n X Y Z i j =
    sum_ext n (λ k. (X i k + Y i k) * Z k j) (λ k. X i k * Z k j + Y i k * Z k j) (λ k _. omega arith)
    ∙ sum_add n (λ k. X i k * Z k j) (λ k. Y i k * Z k j)

-- a right factor may be replaced by one that is congruent in the column that is read
pub mul_same_right : {q : ℕ} (n : ℕ) (X Y Z : Matrix) (i j : ℕ) → ((k : ℕ) → k < n → Same q (Y k j) (Z k j)) → Same q (mul n X Y i j) (mul n X Z i j)
mul_same_right {q} n X Y Z i j h = same_sum n (λ k l. same_mul (same_refl q (X i k)) (h k l))

-- a left factor by one that is congruent in the row that is read
pub mul_same_left : {q : ℕ} (n : ℕ) (X Y Z : Matrix) (i j : ℕ) → ((k : ℕ) → k < n → Same q (X i k) (Y i k)) → Same q (mul n X Z i j) (mul n Y Z i j)
mul_same_left {q} n X Y Z i j h = same_sum n (λ k l. same_mul (h k l) (same_refl q (Z k j)))

-- ---- bounds

-- the product of two words
pub product_le : {x y : ℕ} → x < 65536 → y < 65536 → x * y ≤ 65535 * 65535
product_le hx hy = mul-le-mul (le-pred_of_lt hx) (le-pred_of_lt hy)

-- row i of m rows of n ends within them
pub within : (i m n : ℕ) → i < m → i * n + n ≤ m * n
within i m n h = subst (λ (z : ℕ). z ≤ m * n) (suc-mul i n) (mul-le-mul_right n h)
