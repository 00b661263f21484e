-- `codec::unpack15` meets its contract: after k turns the first 8k words are the unpacking of the first 15k bytes.
-- Assumes nothing.
use mathlib.Core.Path.{◌≡◌}
use Rattle.lists.proofs.Parts.{Parts}
use Rattle.codec.specs.Pack.{unpacked}
use Rattle.lists.proofs.Chunks.{Chunked}
use Rattle.codec.proofs.unpack15.Given as goal

abbrev pub invariant-loop-k : goal.invariant-loop-k
invariant-loop-k l = let k = l.k-iterator.count in
    (l.k-iterator.iter.size ≡ 15) × Chunked 15 k l.bytes l.k-iterator.iter.rest.now × Parts (unpacked 15) 15 k l.bytes l.initial.out l.out
