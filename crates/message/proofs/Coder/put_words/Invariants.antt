-- `message::Coder::put_words` meets its contract: after j turns t is n without its j lowest groups.
-- Assumes nothing.
use Prim.Native.Nat.{◌/◌, ◌^◌, ◌≤◌}
use mathlib.Core.Path.{◌≡◌}
use Rattle.lists.proofs.Loops.{Upto}
use Rattle.bits.specs.Digits.{digit}
use Rattle.message.specs.Message.{word_of}
use Rattle.message.proofs.Coder.put_words.Given as goal

abbrev pub invariant-loop-x : goal.invariant-loop-x
invariant-loop-x l = (l.x-index ≤ 8) × (l.t ≡ l.n / (2 ^ l.self.b) ^ l.x-index) × Upto (λ k. word_of l.self.q l.self.b (digit (2 ^ l.self.b) l.n k)) l.x-index l.initial.out l.out
