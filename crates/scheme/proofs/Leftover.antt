-- What decapsulation decodes: the encoded message and the noise S'E + E'' - E'S, over any matrices.
-- Assumes nothing.
use mathlib.Core.Path.{ap, ◌∙◌}
use Prim.Native.Nat.{ℕ, ◌+◌, ◌<◌}
use native.Mathlib.Omega.{arith}
use Rattle.algebra.specs.Congruence.{Same, minus}
use Rattle.algebra.specs.Matrix.{Matrix, ◌⊕◌, mul}
use Rattle.algebra.proofs.Congruences.{same_refl, same_eq, same_sym, same_trans, same_add, same_cancel, minus_add}
use Rattle.algebra.proofs.Products.{mul_assoc_at, mul_add_left, mul_add_right, mul_same_left, mul_same_right}
use Rattle.scheme.specs.Noise.{noise_of}

-- with P = a + c taken from C = a + b + m, what is left is m and b - c
left_over : {q C P : ℕ} (a b c m : ℕ) → 0 < q → Same q C (a + b + m) → Same q P (a + c) → Same q (minus q C P) (m + minus q b c)
left_over {q} {C} {P} a b c m h hC hP =
    same_cancel P
    (same_trans (minus_add q C P h)
    (same_trans hC
    (same_sym
    (same_trans (same_add (same_refl q (m + minus q b c)) hP)
    (same_trans (same_eq q {b = minus q b c + c + (a + m)} (omega arith))
    (same_trans (same_add (minus_add q b c h) (same_refl q (a + m))) (same_eq q (omega arith))))))))

-- entry (i, j) of C - B'S, where B = AS + E, B' = S'A + E' and C = S'B + E'' + M mod q
pub opened_noise : (q n : ℕ) (A S E S' E' E'' M B B' C : Matrix) (i j : ℕ) → 0 < q
    → ((k : ℕ) → k < n → Same q (B k j) ((mul n A S ⊕ E) k j))
    → ((k : ℕ) → k < n → Same q (B' i k) ((mul n S' A ⊕ E') i k))
    → Same q (C i j) ((mul n S' B ⊕ E'' ⊕ M) i j)
    → Same q (minus q (C i j) (mul n B' S i j)) (M i j + noise_of q n S E S' E' E'' i j)
unfolding noise_of
opened_noise q n A S E S' E' E'' M B B' C i j h hB hB' hC =
    left_over (mul n S' (mul n A S) i j) ((mul n S' E ⊕ E'') i j) (mul n E' S i j) (M i j) h
    (same_trans hC
    (same_trans (same_add (same_add (mul_same_right n S' B (mul n A S ⊕ E) i j hB) (same_refl q (E'' i j))) (same_refl q (M i j)))
    (same_eq q (let e = mul_add_right n S' (mul n A S) E i j in omega arith))))
    (same_trans (mul_same_left n B' (mul n S' A ⊕ E') S i j hB')
    (same_eq q (mul_add_left n (mul n S' A) E' S i j ∙ ap (λ (x : ℕ). x + mul n E' S i j) (mul_assoc_at n n S' A S i j))))
