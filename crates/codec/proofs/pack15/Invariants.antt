-- `codec::pack15` meets its contract: after k turns the first 15k bytes are the packing of the first 8k words.
-- Assumes nothing.
use mathlib.Core.Path.{◌≡◌}
use Rattle.lists.proofs.Parts.{Parts}
use Rattle.codec.specs.Pack.{packed}
use Rattle.lists.proofs.Chunks.{Chunked}
use Rattle.codec.proofs.pack15.Given as goal

abbrev pub invariant-loop-k : goal.invariant-loop-k
invariant-loop-k l = let k = l.k-iterator.count in
    (l.k-iterator.iter.size ≡ 8) × Chunked 8 k l.words l.k-iterator.iter.rest.now × Parts (packed 15) 8 k l.words l.initial.out l.out
