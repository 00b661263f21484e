-- `pkh::pkh_of` meets its contract: after k turns the sponge has taken seedA and the first 8k words of B, packed.
-- Assumes nothing.
use mathlib.Core.Path.{◌≡◌}
use lib.ListN.{length}
use Rattle.pkh.proofs.Laws.{Took}
use Rattle.pkh.proofs.pkh_of.Given as goal

abbrev pub invariant-loop-eight : goal.invariant-loop-eight
invariant-loop-eight l = (length l.bytes ≡ 16) × Took l.d l.eight-index l.b l.initial.sponge l.sponge
