-- `loops::add_row` meets its contract: after i turns the first i rows have their product added.
-- Assumes nothing.
use mathlib.Core.List.{List}
use Prim.Native.Nat.{ℕ, ◌*◌, ◌-◌, ◌≤◌}
use lib.ListN.{get_or}
use Rattle.algebra.specs.Matrix.{Matrix, mat, ◌⊕◌}
use Rattle.algebra.proofs.Turns.{Rows}
use Rattle.loops.proofs.add_row.Given as goal

-- out with column k of s times the row added
abbrev pub added : (n : ℕ) (out s row : List ℕ) (k : ℕ) → Matrix
added n out s row k = mat n out ⊕ (λ i j. mat n s i k * get_or row j 0)

abbrev pub invariant-loop-i : goal.invariant-loop-i
invariant-loop-i l = (l.i ≤ 8) × Rows 65536 l.n (added l.n l.initial.out l.s l.row l.k) l.i l.initial.out l.out

abbrev pub decreases-loop-i : goal.decreases-loop-i
decreases-loop-i l = 8 - l.i
