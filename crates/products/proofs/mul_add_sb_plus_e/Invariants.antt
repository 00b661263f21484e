-- `products::mul_add_sb_plus_e` meets its contract: after i turns the first i rows of the result stand.
-- Assumes nothing.
use mathlib.Core.List.{List}
use Prim.Native.Nat.{ℕ, ◌-◌, ◌≤◌}
use Rattle.algebra.specs.Matrix.{Matrix, mat, mul, ◌⊕◌}
use Rattle.algebra.proofs.Turns.{Rows}
use Rattle.products.proofs.mul_add_sb_plus_e.Given as goal

abbrev pub result : (n : ℕ) (s b e : List ℕ) → Matrix
result n s b e = mul n (mat n s) (mat 8 b) ⊕ mat 8 e

abbrev pub invariant-loop-i : goal.invariant-loop-i
invariant-loop-i l = (l.i ≤ 8) × Rows l.fn.set.p.q 8 (result l.n l.s l.b l.e) l.i l.initial.out l.out

abbrev pub decreases-loop-i : goal.decreases-loop-i
decreases-loop-i l = 8 - l.i
