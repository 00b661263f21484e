-- `loops::add_times` meets its contract: after j turns the first j words have their product added.
-- Assumes nothing.
use mathlib.Core.Path.{◌≡◌}
use Prim.Native.Nat.{◌+◌, ◌*◌, ◌%◌, ◌≤◌}
use lib.ListN.{length, get_or}
use Rattle.lists.proofs.Loops.{Upto}
use Rattle.loops.proofs.add_times.Given as goal

abbrev pub invariant-loop-j : goal.invariant-loop-j
invariant-loop-j l = (l.j ≤ l.j-end) × (l.j-end ≡ length l.row) × Upto (λ k. (get_or l.initial.out k 0 + l.x * get_or l.row k 0) % 65536) l.j l.initial.out l.out
