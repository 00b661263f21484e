-- `message::number_of` meets its contract: t is the number of the bytes that are read, which are the last ones.
-- Assumes nothing.
use mathlib.Core.Path.{◌≡◌}
use mathlib.Core.List.{List, ◌++◌}
use Prim.Native.Nat.{ℕ}
use Rattle.bits.specs.Digits.{number}
use Rattle.message.proofs.number_of.Given as goal

abbrev pub invariant-loop-x : goal.invariant-loop-x
invariant-loop-x l = (done : List ℕ) × (l.m ≡ l.x-iterator.iter.rest.now ++ done) × (l.t ≡ number 256 done)
