-- `products::mul_bs` meets its contract: after i turns the first i rows of the result stand.
-- Assumes nothing.
use mathlib.Core.List.{List}
use Prim.Native.Nat.{ℕ, ◌-◌, ◌≤◌}
use Rattle.algebra.specs.Matrix.{Matrix, mat, mat_t, mul, ◌⊕◌}
use Rattle.algebra.proofs.Turns.{Rows}
use Rattle.products.proofs.mul_bs.Given as goal

-- `dots` adds to zeros
abbrev pub result : (n : ℕ) (b s : List ℕ) → Matrix
result n b s = mul n (mat n b) (mat_t n s) ⊕ (λ i j. 0)

abbrev pub invariant-loop-i : goal.invariant-loop-i
invariant-loop-i l = (l.i ≤ 8) × Rows l.fn.set.p.q 8 (result l.n l.b l.s) l.i l.initial.out l.out

abbrev pub decreases-loop-i : goal.decreases-loop-i
decreases-loop-i l = 8 - l.i
