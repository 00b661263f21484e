-- `opening::ct_select` meets its contract: after i turns the first i bytes are chosen.
-- Assumes nothing.
use mathlib.Core.Bool.{cond}
use lib.Dec.{eqb}
use Prim.Native.Nat.{◌≤◌}
use lib.ListN.{get_or}
use Rattle.lists.proofs.Loops.{Upto}
use Rattle.opening.proofs.ct_select.Given as goal

abbrev pub invariant-loop-i : goal.invariant-loop-i
invariant-loop-i l = (l.i ≤ l.i-end) × Upto (λ k. cond (eqb l.choice 1) (get_or l.a k 0) (get_or l.b k 0)) l.i l.initial.out l.out
