-- Signed numbers, their sizes, and the numbers mod q that stand for them, through sums, products and differences.
-- Assumes nothing.
use mathlib.Core.Path.{◌≡◌, refl, sym, ap, ◌∙◌, subst}
use Prim.Native.Nat.{ℕ, zero, suc, ◌+◌, ◌*◌, ◌%◌, ◌^◌, ◌≤◌, ◌<◌}
use native.Mathlib.Decide.{dec_lt}
use native.Mathlib.Omega.{arith}
use lib.IntN.{ℤ, pos, negsuc, neg_ℤ, nat_abs, sub_ℕ, ◌+ℤ◌, ◌-ℤ◌, ◌*ℤ◌}
use Rattle.algebra.specs.Sum.{sum}
use Rattle.algebra.specs.Congruence.{Same, minus}
use Rattle.algebra.specs.Whole.{modulo}
use Rattle.algebra.proofs.Congruences.{same_refl, same_eq, same_sym, same_trans, same_add, same_mul, same_cancel, same_below, minus_add, minus_lt, word_mod}
use Rattle.algebra.proofs.Wholes.{at_least, below, sub_eq, size_sub, modulo_sub}
use Rattle.sizes.specs.Signed.{sumℤ, signed_word}

-- ---- a number as a difference: one of the two parts is 0

abbrev pub up : ℤ → ℕ
up (pos n) = n
up (negsuc n) = 0

abbrev pub down : ℤ → ℕ
down (pos n) = 0
down (negsuc n) = suc n

parts : (z : ℤ) → z ≡ sub_ℕ (up z) (down z)
parts (pos n) = ap pos (omega arith) ∙ sym (at_least n 0 (omega arith))
parts (negsuc n) = ap negsuc (omega arith) ∙ sym (below 0 (suc n) (omega arith))

size_parts : (z : ℤ) → nat_abs z ≡ up z + down z
size_parts (pos n) = omega arith
size_parts (negsuc n) = omega arith

add_parts : (a b : ℤ) → a +ℤ b ≡ sub_ℕ (up a + up b) (down a + down b)
add_parts (pos m) (pos n) = ap pos (omega arith) ∙ sym (at_least (m + n) (0 + 0) (omega arith))
add_parts (pos m) (negsuc n) = sub_eq m (suc n) (m + 0) (0 + suc n) (omega arith)
add_parts (negsuc m) (pos n) = sub_eq n (suc m) (0 + n) (suc m + 0) (omega arith)
add_parts (negsuc m) (negsuc n) = ap negsuc (omega arith) ∙ sym (below (0 + 0) (suc m + suc n) (omega arith))

neg_up : (z : ℤ) → up (neg_ℤ z) ≡ down z
neg_up (pos zero) = refl
neg_up (pos (suc n)) = refl
neg_up (negsuc n) = refl

neg_down : (z : ℤ) → down (neg_ℤ z) ≡ up z
neg_down (pos zero) = refl
neg_down (pos (suc n)) = refl
neg_down (negsuc n) = refl

-- the parts of a product
mul_up : (a b : ℤ) → up (a *ℤ b) ≡ up a * up b + down a * down b
mul_up (pos m) (pos n) = omega arith
mul_up (pos m) (negsuc n) = neg_up (pos (m * suc n)) ∙ omega arith
mul_up (negsuc m) (pos n) = neg_up (pos (suc m * n)) ∙ omega arith
mul_up (negsuc m) (negsuc n) = omega arith

mul_down : (a b : ℤ) → down (a *ℤ b) ≡ up a * down b + down a * up b
mul_down (pos m) (pos n) = omega arith
mul_down (pos m) (negsuc n) = neg_down (pos (m * suc n)) ∙ omega arith
mul_down (negsuc m) (pos n) = neg_down (pos (suc m * n)) ∙ omega arith
mul_down (negsuc m) (negsuc n) = omega arith

-- ---- sizes

pub size_add : (a b : ℤ) → nat_abs (a +ℤ b) ≤ nat_abs a + nat_abs b
size_add a b =
    let e = ap nat_abs (add_parts a b) ∙ size_sub (up a + up b) (down a + down b) in
    omega (arith, e, size_parts a, size_parts b)

pub size_neg : (z : ℤ) → nat_abs (neg_ℤ z) ≡ nat_abs z
size_neg z = omega (arith, size_parts z, size_parts (neg_ℤ z), neg_up z, neg_down z)

pub size_mul : (a b : ℤ) → nat_abs (a *ℤ b) ≡ nat_abs a * nat_abs b
size_mul (pos m) (pos n) = refl
size_mul (pos m) (negsuc n) = size_neg (pos (m * suc n))
size_mul (negsuc m) (pos n) = size_neg (pos (suc m * n))
size_mul (negsuc m) (negsuc n) = refl

pub size_sum : (n m : ℕ) (f : ℕ → ℤ) → ((k : ℕ) → nat_abs (f k) ≤ m) → nat_abs (sumℤ n f) ≤ n * m
unfolding sumℤ
size_sum zero m f h = omega arith
size_sum (suc n) m f h = omega (arith, size_add (sumℤ n f) (f n), size_sum n m f h, h n)

-- ---- words that stand for signed numbers

-- x is congruent to z mod q
pub record Stands (q x : ℕ) (z : ℤ) : Type 0 where
  pub same : Same q (x + down z) (up z)

-- the parts of a difference are as far from each other as its two numbers
sub_cross : (a b : ℕ) → a + down (sub_ℕ a b) ≡ up (sub_ℕ a b) + b
sub_cross a b = elim (dec_lt a b) [
  | yes l ↦ rw (below a b l) (omega arith)
  | no l ↦ let h : b ≤ a = omega arith in rw (at_least a b h) (omega arith)
]

stands_sub : {q x : ℕ} (a b : ℕ) → Same q (x + b) a → Stands q x (sub_ℕ a b)
stands_sub {q} {x} a b s =
    let z = sub_ℕ a b in
    let turn : x + down z + b ≡ x + b + down z = omega arith in
    record { same = same_cancel b (same_trans (same_eq q turn) (same_trans (same_add s (same_refl q (down z))) (same_eq q (sub_cross a b)))) }

pub stands_add : {q x y : ℕ} (a b : ℤ) → Stands q x a → Stands q y b → Stands q (x + y) (a +ℤ b)
stands_add {q} {x} {y} a b s t =
    let turn : x + y + (down a + down b) ≡ x + down a + (y + down b) = omega arith in
    subst (Stands q (x + y)) (sym (add_parts a b)) (stands_sub (up a + up b) (down a + down b) (same_trans (same_eq q turn) (same_add s.same t.same)))

pub stands_mul : {q x y : ℕ} (a b : ℤ) → Stands q x a → Stands q y b → Stands q (x * y) (a *ℤ b)
stands_mul {q} {x} {y} a b s t =
    let left : Same q (x * y + (up a * down b + down a * up b)) (x * y + ((x + down a) * down b + down a * (y + down b))) =
    same_add (same_refl q (x * y)) (same_add (same_mul (same_sym s.same) (same_refl q (down b))) (same_mul (same_refl q (down a)) (same_sym t.same))) in
    let right : Same q ((x + down a) * (y + down b) + down a * down b) (up a * up b + down a * down b) =
    same_add (same_mul s.same t.same) (same_refl q (down a * down b)) in
    let turn : x * y + ((x + down a) * down b + down a * (y + down b)) ≡ (x + down a) * (y + down b) + down a * down b = omega arith in
    let all = same_trans left (same_trans (same_eq q turn) right) in
    record { same = same_trans (same_eq q (ap (λ (k : ℕ). x * y + k) (mul_down a b))) (same_trans all (same_eq q (sym (mul_up a b)))) }

pub stands_minus : {q x y : ℕ} (a b : ℤ) → 0 < q → Stands q x a → Stands q y b → Stands q (minus q x y) (a -ℤ b)
stands_minus {q} {x} {y} a b h s t =
    let m = minus q x y in
    let one : m + (down a + down (neg_ℤ b)) ≡ m + down a + up b = omega (arith, neg_down b) in
    let two : Same q (m + down a + up b) (m + down a + (y + down b)) = same_add (same_refl q (m + down a)) (same_sym t.same) in
    let three : m + down a + (y + down b) ≡ m + y + (down a + down b) = omega arith in
    let four : Same q (m + y + (down a + down b)) (x + (down a + down b)) = same_add (minus_add q x y h) (same_refl q (down a + down b)) in
    let five : x + (down a + down b) ≡ x + down a + down b = omega arith in
    let six : Same q (x + down a + down b) (up a + down b) = same_add s.same (same_refl q (down b)) in
    let seven : up a + down b ≡ up a + up (neg_ℤ b) = omega (arith, neg_up b) in
    subst (Stands q m) (sym (add_parts a (neg_ℤ b)))
    (stands_sub (up a + up (neg_ℤ b)) (down a + down (neg_ℤ b))
    (same_trans (same_eq q one) (same_trans two (same_trans (same_eq q three) (same_trans four (same_trans (same_eq q five) (same_trans six (same_eq q seven))))))))

pub stands_sum : {q : ℕ} (n : ℕ) (x : ℕ → ℕ) (f : ℕ → ℤ) → ((k : ℕ) → Stands q (x k) (f k)) → Stands q (sum n x) (sumℤ n f)
unfolding sum sumℤ
stands_sum {q} zero x f h = record { same = same_refl q 0 }
stands_sum (suc n) x f h = stands_add (sumℤ n f) (f n) (stands_sum n x f h) (h n)

-- a stored word stands for its signed number, mod q too
pub stands_word : (d w : ℕ) → d ≤ 16 → Stands (2 ^ d) w (signed_word w)
stands_word d w h = stands_sub ((w + 32768) % 65536) 32768 (record { eq = sym (word_mod d (w + 32768) h) })

-- so does every number that is congruent to it
pub stands_same : {q x y : ℕ} (z : ℤ) → Same q x y → Stands q y z → Stands q x z
stands_same {q} z e s = record { same = same_trans (same_add e (same_refl q (down z))) s.same }

-- a word below q is the number mod q
pub stands_out : {q x : ℕ} (z : ℤ) → 0 < q → x < q → Stands q x z → x ≡ modulo z q
stands_out {q} {x} z h l s =
    same_below l (minus_lt q (up z) (down z) h) (same_cancel (down z) (same_trans s.same (same_sym (minus_add q (up z) (down z) h))))
    ∙ sym (modulo_sub q (up z) (down z) h)
    ∙ ap (λ (y : ℤ). modulo y q) (sym (parts z))
