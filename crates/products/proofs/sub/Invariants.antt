-- `products::sub` meets its contract.
-- Assumes nothing.
use Prim.Native.Nat.{◌≤◌}
use lib.ListN.{get_or}
use Rattle.lists.proofs.Loops.{Upto}
use Rattle.algebra.specs.Congruence.{minus}
use Rattle.products.proofs.sub.Given as goal

abbrev pub invariant-loop-i : goal.invariant-loop-i
invariant-loop-i l = (l.i ≤ l.i-end) × Upto (λ t. minus l.q (get_or l.lhs t 0) (get_or l.initial.out t 0)) l.i l.initial.out l.out
