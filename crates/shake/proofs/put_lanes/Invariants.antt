-- `put_lanes` writes four words a turn.
-- Assumes nothing.
use mathlib.Core.Path.{◌≡◌}
use Prim.Native.Nat.{◌+◌, ◌*◌, ◌-◌, ◌/◌, ◌≤◌}
use lib.ListN.{length}
use Rattle.lists.proofs.Loops.{Upto}
use Rattle.shake.specs.Sponge.{word_at}
use Rattle.shake.proofs.put_lanes.Given as goal

abbrev pub invariant-loop-t : goal.invariant-loop-t
invariant-loop-t l = (l.t ≤ l.n) × (l.n ≡ length l.initial.out / 4) × Upto (λ j. word_at l.lanes (8 * l.l + 2 * j)) (4 * l.t) l.initial.out l.out

abbrev pub decreases-loop-t : goal.decreases-loop-t
decreases-loop-t l = l.n - l.t
