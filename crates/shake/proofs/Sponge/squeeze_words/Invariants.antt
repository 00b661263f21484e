-- `squeeze_words` gives the words of a block a turn: the invariants are `GaveWords`, and `Upto` for the slice.
-- Assumes nothing.
use mathlib.Core.Path.{◌≡◌}
use Prim.Native.Nat.{◌-◌, ◌≤◌}
use lib.ListN.{length}
use Rattle.lists.proofs.Loops.{Upto}
use Rattle.shake.specs.Sponge.{made}
use Rattle.shake.proofs.Words.{word, GaveWords}
use Rattle.shake.proofs.Sponge.squeeze_words.Given as goal

abbrev pub invariant-loop-i : goal.invariant-loop-i
invariant-loop-i l =
    (l.i ≤ l.n) × (l.n ≡ length l.initial.out) × GaveWords (made l.initial.lanes l.initial.at l.rate) l.i (made l.lanes l.at l.rate) × Upto (word (made l.initial.lanes l.initial.at l.rate)) l.i l.initial.out l.out

abbrev pub decreases-loop-i : goal.decreases-loop-i
decreases-loop-i l = l.n - l.i
