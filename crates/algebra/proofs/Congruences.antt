-- The laws of congruence and of subtraction mod q (specs/Congruence.antt), and of words mod 2^16 that stand for words mod q.
-- Assumes nothing.
use mathlib.Core.Path.{◌≡◌, refl, sym, ap, ◌∙◌, subst}
use mathlib.Core.List.{List, [], ◌∷◌}
use Prim.Native.Nat.{ℕ, zero, suc, ◌+◌, ◌*◌, ◌-◌, ◌/◌, ◌%◌, ◌^◌, ◌≤◌, ◌<◌}
use native.Mathlib.Nat.{add-mod, mod-mod, mod-lt, div-add-mod', add-mul-mod_self_right, le_step, lt-suc_self, mod-eq_of_lt, sub-add_cancel}
use native.Mathlib.Omega.{arith}
use lib.Pow.{mod-mod-pow, pow_pos, pow-add}
use Rattle.lists.specs.Lists.{residues}
use Rattle.lists.proofs.Tables.{cons}
use Rattle.algebra.specs.Sum.{sum}
use Rattle.algebra.specs.Congruence.{Same, minus}

-- the way in: two numbers that differ by multiples of q
pub same_of : {q a b : ℕ} (k l : ℕ) → a + k * q ≡ b + l * q → Same q a b
same_of {q} {a} {b} k l e = record { eq = sym (add-mul-mod_self_right a k q) ∙ ap (λ (x : ℕ). x % q) e ∙ add-mul-mod_self_right b l q }

-- the way out
pub same_out : {q a b : ℕ} → Same q a b → a + b / q * q ≡ b + a / q * q
same_out {q} {a} {b} e = omega (arith, div-add-mod' a q, div-add-mod' b q)

-- every number is congruent to itself
pub same_refl : (q a : ℕ) → Same q a a
same_refl q a = record { eq = refl }

-- equal numbers are congruent
pub same_eq : (q : ℕ) {a b : ℕ} → a ≡ b → Same q a b
same_eq q e = record { eq = ap (λ (x : ℕ). x % q) e }

-- either way round
pub same_sym : {q a b : ℕ} → Same q a b → Same q b a
same_sym e = record { eq = sym e.eq }

-- one after the other
pub same_trans : {q a b c : ℕ} → Same q a b → Same q b c → Same q a c
same_trans e f = record { eq = e.eq ∙ f.eq }

-- a remainder is congruent to its number
pub same_mod : (q a : ℕ) → Same q (a % q) a
same_mod q a = record { eq = mod-mod a q }

-- through a sum
pub same_add : {q a b c d : ℕ} → Same q a b → Same q c d → Same q (a + c) (b + d)
same_add {q} {a} {b} {c} {d} e f = record { eq = rw (add-mod a c q, add-mod b d q, e.eq, f.eq) }

same_mul_left : {q a b : ℕ} (c : ℕ) → Same q a b → Same q (a * c) (b * c)
same_mul_left {q} {a} {b} c e = same_of (b / q * c) (a / q * c) (omega (arith, ap (λ (x : ℕ). x * c) (same_out e)))

same_mul_right : {q a b : ℕ} (c : ℕ) → Same q a b → Same q (c * a) (c * b)
same_mul_right {q} {a} {b} c e = same_of (c * (b / q)) (c * (a / q)) (omega (arith, ap (λ (x : ℕ). c * x) (same_out e)))

-- through a product
pub same_mul : {q a b c d : ℕ} → Same q a b → Same q c d → Same q (a * c) (b * d)
same_mul {q} {a} {b} {c} {d} e f = same_trans (same_mul_left c e) (same_mul_right b f)

-- through a finite sum
pub same_sum : {q : ℕ} (n : ℕ) {f g : ℕ → ℕ} → ((k : ℕ) → k < n → Same q (f k) (g k)) → Same q (sum n f) (sum n g)
unfolding sum
same_sum {q} zero h = same_refl q 0
same_sum (suc n) h = same_add (same_sum n (λ k l. h k (le_step l))) (h n (lt-suc_self n))

-- a number added to both sides may go
pub same_cancel : {q a b : ℕ} (c : ℕ) → Same q (a + c) (b + c) → Same q a b
same_cancel {q} {a} {b} c e = same_of ((b + c) / q) ((a + c) / q) (omega (arith, same_out e))

-- two congruent numbers below q are equal
pub same_below : {q a b : ℕ} → a < q → b < q → Same q a b → a ≡ b
same_below ha hb e = sym (mod-eq_of_lt ha) ∙ e.eq ∙ mod-eq_of_lt hb

-- a - b and then b is a
pub minus_add : (q a b : ℕ) → 0 < q → Same q (minus q a b + b) a
unfolding minus
minus_add q a b h =
    same_trans (same_add (same_mod q (a + (q - b % q))) (same_refl q b))
    (same_of 0 (1 + b / q) (omega (arith, mod-lt b h, div-add-mod' b q)))

-- a difference mod q is below q
pub minus_lt : (q a b : ℕ) → 0 < q → minus q a b < q
unfolding minus
minus_lt q a b h = mod-lt (a + (q - b % q)) h

-- a difference of congruent numbers
pub minus_same : {q a b c d : ℕ} → 0 < q → Same q a b → Same q c d → minus q a c ≡ minus q b d
minus_same {q} {a} {b} {c} {d} h e f =
    same_below (minus_lt q a c h) (minus_lt q b d h)
    (same_cancel c (same_trans (minus_add q a c h) (same_trans e (same_sym (same_trans (same_add (same_refl q (minus q b d)) f) (minus_add q b d h))))))

-- ---- words mod 2^16, where q is 2^d with d at most 16

-- a word mod q is the number mod q
pub word_mod : (d x : ℕ) → d ≤ 16 → x % 65536 % 2 ^ d ≡ x % 2 ^ d
word_mod d x h = subst (λ (k : ℕ). x % 2 ^ k % 2 ^ d ≡ x % 2 ^ d) (sub-add_cancel h) (mod-mod-pow x (16 - d) d)

-- a list of words mod q is the list of numbers mod q
pub words_mod : (d : ℕ) (l : List ℕ) → d ≤ 16 → residues (2 ^ d) (residues 65536 l) ≡ residues (2 ^ d) l
words_mod d [] h = refl
words_mod d (x ∷ l) h = cons (word_mod d x h) (words_mod d l h)

-- a difference wrapped at 2^16 and then taken mod q is the difference mod q
pub wrapped_minus : (d a b : ℕ) → d ≤ 16 → b < 65536 → (a + (65536 - b)) % 2 ^ d ≡ minus (2 ^ d) a b
wrapped_minus d a b h l =
    let turns : 2 ^ (16 - d) * 2 ^ d ≡ 65536 = sym (pow-add 2 (16 - d) d) ∙ ap (λ (k : ℕ). 2 ^ k) (sub-add_cancel h) in
    let wrap : Same (2 ^ d) (a + (65536 - b) + b) a = same_of 0 (2 ^ (16 - d)) (omega arith) in
    same_below (mod-lt (a + (65536 - b)) (pow_pos d)) (minus_lt (2 ^ d) a b (pow_pos d))
    (same_trans (same_mod (2 ^ d) (a + (65536 - b)))
    (same_cancel b (same_trans wrap (same_sym (minus_add (2 ^ d) a b (pow_pos d))))))
