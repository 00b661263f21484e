-- `message::encode_message` meets its contract: after k turns the first 8k words are those of the first bk bytes.
-- Assumes nothing.
use mathlib.Core.Path.{◌≡◌}
use Rattle.lists.proofs.Chunks.{Chunked}
use Rattle.lists.proofs.Parts.{Parts}
use Rattle.message.specs.Message.{encoded}
use Rattle.message.proofs.encode_message.Given as goal

abbrev pub invariant-loop-k : goal.invariant-loop-k
invariant-loop-k l = let k = l.k-iterator.count in
    (l.k-iterator.iter.size ≡ l.b) × Chunked l.b k l.msg l.k-iterator.iter.rest.now × Parts (encoded l.q l.b) l.b k l.msg l.initial.out l.out
