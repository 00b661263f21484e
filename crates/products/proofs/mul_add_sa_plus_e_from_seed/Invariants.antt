-- `products::mul_add_sa_plus_e_from_seed` meets its contract: after k turns k rows of A are taken in, and S' stands.
-- Assumes nothing.
use mathlib.Core.Path.{◌≡◌}
use mathlib.Core.List.{List}
use Prim.Native.Nat.{ℕ, ◌*◌, ◌-◌, ◌≤◌}
use lib.ListN.{length, take, drop}
use Rattle.lists.specs.Lists.{residues}
use Rattle.algebra.specs.Matrix.{mat, mul, ◌⊕◌, table}
use Rattle.sets.specs.declared.Params.{Params}
use Rattle.rows.specs.Row.{mat_a}
use Rattle.products.proofs.mul_add_sa_plus_e_from_seed.Given as goal

-- the result with k rows of A taken in, from what noise held
abbrev pub result : (p : Params) (seedA noise : List ℕ) (k : ℕ) → List ℕ
result p seedA noise k = residues 65536 (table 8 p.n (mul k (mat p.n (take (8 * p.n) noise)) (mat_a p seedA) ⊕ mat p.n (drop (8 * p.n) noise)))

abbrev pub invariant-loop-k : goal.invariant-loop-k
invariant-loop-k l = (l.k ≤ l.n) × (length l.noise ≡ 16 * l.n) × (take (8 * l.n) l.noise ≡ take (8 * l.n) l.initial.noise) × (l.out ≡ result l.set.p l.seed l.initial.noise l.k)

abbrev pub decreases-loop-k : goal.decreases-loop-k
decreases-loop-k l = l.n - l.k
