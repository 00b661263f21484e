-- `squeeze` gives byte after byte: the invariants are `Gave`, and `Upto` for the slice.
-- Assumes nothing.
use Rattle.lists.proofs.Loops.{Upto}
use Rattle.shake.specs.Sponge.{made, nth}
use Rattle.shake.proofs.Squeeze.{Gave}
use Rattle.shake.proofs.Sponge.squeeze.Given as goal

abbrev pub invariant-loop-byte : goal.invariant-loop-byte
invariant-loop-byte l =
    let began = made l.initial.lanes l.initial.at l.rate in
    Gave began l.byte-index (made l.lanes l.at l.rate) × Upto (nth began) l.byte-index l.initial.byte-items l.byte-items
