-- `products::mul_add_as_plus_e_from_seed` meets its contract: after i turns the first i rows of the result stand at the front of work.
-- Assumes nothing.
use mathlib.Core.Path.{◌≡◌}
use mathlib.Core.List.{List}
use Prim.Native.Nat.{ℕ, ◌*◌, ◌-◌, ◌≤◌}
use lib.ListN.{length}
use Rattle.algebra.specs.Matrix.{Matrix, mat, mat_t, mul, ◌⊕◌}
use Rattle.algebra.proofs.Turns.{Top}
use Rattle.sets.specs.declared.Params.{Params}
use Rattle.rows.specs.Row.{mat_a}
use Rattle.products.proofs.mul_add_as_plus_e_from_seed.Given as goal

abbrev pub result : (p : Params) (seedA s e : List ℕ) → Matrix
result p seedA s e = mul p.n (mat_a p seedA) (mat_t p.n s) ⊕ mat 8 e

abbrev pub invariant-loop-i : goal.invariant-loop-i
invariant-loop-i l = (l.i ≤ l.n) × (length l.work ≡ 9 * l.n) × Top 65536 8 (result l.set.p l.seed l.s l.e) l.i l.work

abbrev pub decreases-loop-i : goal.decreases-loop-i
decreases-loop-i l = l.n - l.i
