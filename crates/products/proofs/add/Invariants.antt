-- `products::add` meets its contract.
-- Assumes nothing.
use Prim.Native.Nat.{◌+◌, ◌%◌, ◌≤◌}
use lib.ListN.{get_or}
use Rattle.lists.proofs.Loops.{Upto}
use Rattle.products.proofs.add.Given as goal

abbrev pub invariant-loop-i : goal.invariant-loop-i
invariant-loop-i l = (l.i ≤ l.i-end) × Upto (λ t. (get_or l.initial.out t 0 + get_or l.rhs t 0) % l.q) l.i l.initial.out l.out
