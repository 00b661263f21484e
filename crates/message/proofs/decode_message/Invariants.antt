-- `message::decode_message` meets its contract: after k turns the first bk bytes are those of the first 8k words.
-- Assumes nothing.
use mathlib.Core.Path.{◌≡◌}
use Rattle.lists.proofs.Chunks.{Chunked}
use Rattle.lists.proofs.Parts.{Parts}
use Rattle.message.specs.Message.{decoded}
use Rattle.message.proofs.decode_message.Given as goal

abbrev pub invariant-loop-k : goal.invariant-loop-k
invariant-loop-k l = let k = l.k-iterator.count in
    (l.k-iterator.iter.size ≡ 8) × Chunked 8 k l.words l.k-iterator.iter.rest.now × Parts (decoded l.q l.b) 8 k l.words l.initial.out l.out
