-- `hashes::store_each` meets its contract: after i turns the first i words are noise.
-- Assumes nothing.
use lib.ListN.{get_or}
use Rattle.lists.proofs.Loops.{Upto}
use Rattle.noise.specs.Noise.{sampled, table_of}
use Rattle.scheme.specs.Parts.{stored}
use Rattle.hashes.proofs.store_each.Given as goal

abbrev pub invariant-loop-x : goal.invariant-loop-x
invariant-loop-x g l = Upto (λ k. stored (sampled (table_of g.D.Distribution.chi) (get_or l.initial.x-items k 0))) l.x-index l.initial.x-items l.x-items
