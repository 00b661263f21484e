-- The laws of whole numbers as differences a - b of two numbers (specs/Whole.antt).
-- Assumes nothing.
use mathlib.Core.Path.{◌≡◌, ap, ◌∙◌}
use mathlib.Core.Logic.{◌⊎◌, inl, inr, ◌↔◌}
use Prim.Native.Nat.{ℕ, zero, suc, ◌+◌, ◌*◌, ◌-◌, ◌/◌, ◌%◌, ◌≤◌, ◌<◌}
use native.Mathlib.Nat.{mod-lt, div-add-mod', div-eq_of_lt-le, le-div_iff_mul-le, div-lt_iff_lt-mul}
use native.Mathlib.Decide.{dec_lt}
use native.Mathlib.Omega.{arith}
use lib.Dec.{ltb→lt, lt→ltb, leb→le, le→leb}
use lib.IntN.{pos, negsuc, sub_ℕ, neg_ℤ, nat_abs, ◌+ℤ◌, +ℤ_comm}
use lib.Signed.{◌≤ℤ◌, ◌<ℤ◌}
use borrow.Author.Tests.{lt-ltb, le-ltb}
use Rattle.algebra.specs.Congruence.{Same, minus}
use Rattle.algebra.specs.Whole.{floor_div, modulo}
use Rattle.algebra.proofs.Congruences.{same_of, same_trans, same_sym, same_mod, same_cancel, same_below, minus_add, minus_lt}

-- ---- a - b by cases

pub at_least : (a b : ℕ) → b ≤ a → sub_ℕ a b ≡ pos (a - b)
at_least a b h = rw (le-ltb a b h)

pub below : (a b : ℕ) → a < b → sub_ℕ a b ≡ negsuc (b - suc a)
below a b h = rw (lt-ltb a b h)

-- one of the two
side : (a b : ℕ) → (a < b) ⊎ (b ≤ a)
side a b = elim (dec_lt a b) [ yes h ↦ inl h | no h ↦ inr (omega arith) ]

-- a - b is c - d when a + d is c + b
pub sub_eq : (a b c d : ℕ) → a + d ≡ c + b → sub_ℕ a b ≡ sub_ℕ c d
sub_eq a b c d e = go (side a b)
  where
    go : (a < b) ⊎ (b ≤ a) → sub_ℕ a b ≡ sub_ℕ c d
    go (inl h) = rw (below a b h, below c d (omega arith)) (ap negsuc (omega arith))
    go (inr h) = rw (at_least a b h, at_least c d (omega arith)) (ap pos (omega arith))

-- how far a - b is from 0
pub size_sub : (a b : ℕ) → nat_abs (sub_ℕ a b) ≡ (a - b) + (b - a)
size_sub a b = go (side a b)
  where
    go : (a < b) ⊎ (b ≤ a) → nat_abs (sub_ℕ a b) ≡ (a - b) + (b - a)
    go (inl h) = rw (below a b h) (omega arith)
    go (inr h) = rw (at_least a b h) (omega arith)

pub sub_plus : (a b h : ℕ) → sub_ℕ a b +ℤ pos h ≡ sub_ℕ (a + h) b
sub_plus a b h = go (side a b)
  where
    go : (a < b) ⊎ (b ≤ a) → sub_ℕ a b +ℤ pos h ≡ sub_ℕ (a + h) b
    go (inl l) = rw (below a b l) (sub_eq h (suc (b - suc a)) (a + h) b (omega arith))
    go (inr l) = rw (at_least a b l, at_least (a + h) b (omega arith)) (ap pos (omega arith))

pub plus_sub : (m a b : ℕ) → pos m +ℤ sub_ℕ a b ≡ sub_ℕ (m + a) b
plus_sub m a b = +ℤ_comm (pos m) (sub_ℕ a b) ∙ sub_plus a b m ∙ sub_eq (a + m) b (m + a) b (omega arith)

low_part : (a k d t : ℕ) → 0 < d → t + suc (a / d) ≡ k → (k * d - suc a) / d ≡ t
low_part a k d t hd e =
    let m = mod-lt a hd in
    let s = div-add-mod' a d in
    let f = ap (λ (x : ℕ). x * d) e in
    div-eq_of_lt-le d (omega arith) (omega arith)

high_part : (a k d t : ℕ) → 0 < d → t + k ≡ a / d → (a - k * d) / d ≡ t
high_part a k d t hd e =
    let m = mod-lt a hd in
    let s = div-add-mod' a d in
    let f = ap (λ (x : ℕ). x * d) e in
    div-eq_of_lt-le d (omega arith) (omega arith)

-- floor((a - k·d) / d) is floor(a / d) - k
pub floor_sub : (a k d : ℕ) → 0 < d → floor_div (sub_ℕ a (k * d)) d ≡ sub_ℕ (a / d) k
floor_sub a k d hd = go (side a (k * d))
  where
    go : (a < k * d) ⊎ (k * d ≤ a) → floor_div (sub_ℕ a (k * d)) d ≡ sub_ℕ (a / d) k
    go (inl l) =
        let lt : a / d < k = (div-lt_iff_lt-mul hd).1 l in
        rw (below a (k * d) l, below (a / d) k lt) (ap negsuc (low_part a k d (k - suc (a / d)) hd (omega arith)))
    go (inr l) =
        let le : k ≤ a / d = (le-div_iff_mul-le hd).1 l in
        rw (at_least a (k * d) l, at_least (a / d) k le) (ap pos (high_part a k d (a / d - k) hd (omega arith)))

-- the complement of a remainder
complement : (p a b : ℕ) → 0 < p → a < b → Same p (p - 1 - (b - suc a) % p + b) a
complement p a b hp l =
    let m = mod-lt (b - suc a) hp in
    let s = div-add-mod' (b - suc a) p in
    same_of 0 ((b - suc a) / p + 1) (omega arith)

pub modulo_sub : (p a b : ℕ) → 0 < p → modulo (sub_ℕ a b) p ≡ minus p a b
modulo_sub p a b hp = go (side a b)
  where
    go : (a < b) ⊎ (b ≤ a) → modulo (sub_ℕ a b) p ≡ minus p a b
    go (inl l) = rw (below a b l)
        (same_below (omega (arith, mod-lt (b - suc a) hp)) (minus_lt p a b hp)
        (same_cancel b (same_trans (complement p a b hp l) (same_sym (minus_add p a b hp)))))
    go (inr l) = rw (at_least a b l)
        (same_below (mod-lt (a - b) hp) (minus_lt p a b hp)
        (same_trans (same_mod p (a - b))
        (same_cancel b (same_trans (same_of 0 0 (omega arith)) (same_sym (minus_add p a b hp))))))

-- the two ends of a range around 0
neg_le_pos : (h n : ℕ) → neg_ℤ (pos h) ≤ℤ pos n
neg_le_pos zero n = record { le = le→leb 0 n (omega arith) }
neg_le_pos (suc h) n = record { le = tt }

neg_le_neg : (h n : ℕ) → (neg_ℤ (pos h) ≤ℤ negsuc n) ↔ (suc n ≤ h)
neg_le_neg zero n = (λ t. absurd t.le, λ t. omega arith)
neg_le_neg (suc h) n = (λ t. omega (arith, leb→le n h t.le), λ t. record { le = le→leb n h (omega arith) })

pub sub_ge_neg : (a b h : ℕ) → (neg_ℤ (pos h) ≤ℤ sub_ℕ a b) ↔ (b ≤ a + h)
sub_ge_neg a b h = go (side a b)
  where
    go : (a < b) ⊎ (b ≤ a) → (neg_ℤ (pos h) ≤ℤ sub_ℕ a b) ↔ (b ≤ a + h)
    go (inl l) = rw (below a b l)
        (λ t. omega (arith, (neg_le_neg h (b - suc a)).0 t), λ t. (neg_le_neg h (b - suc a)).1 (omega arith))
    go (inr l) = rw (at_least a b l) (λ t. omega arith, λ t. neg_le_pos h (a - b))

pub sub_lt_pos : (a b h : ℕ) → (sub_ℕ a b <ℤ pos h) ↔ (a < b + h)
sub_lt_pos a b h = go (side a b)
  where
    go : (a < b) ⊎ (b ≤ a) → (sub_ℕ a b <ℤ pos h) ↔ (a < b + h)
    go (inl l) = rw (below a b l) (λ t. omega arith, λ t. record { lt = tt })
    go (inr l) = rw (at_least a b l)
        (λ t. omega (arith, ltb→lt (a - b) h t.lt), λ t. record { lt = lt→ltb (a - b) h (omega arith) })
