-- `message::Coder::number_of_groups` meets its contract: t is the number of the groups of the words that are read, which are the last ones.
-- Assumes nothing.
use mathlib.Core.Path.{◌≡◌}
use mathlib.Core.List.{List, ◌++◌, map}
use Prim.Native.Nat.{ℕ, ◌^◌}
use Rattle.bits.specs.Digits.{number}
use Rattle.message.specs.Message.{group_of}
use Rattle.message.proofs.Coder.number_of_groups.Given as goal

abbrev pub invariant-loop-x : goal.invariant-loop-x
invariant-loop-x l = (done : List ℕ) × (l.w ≡ l.x-iterator.iter.rest.now ++ done) × (l.t ≡ number (2 ^ l.self.b) (map (group_of l.self.q l.self.b) done))
