-- `words::Modulus::low_all` meets its contract: after i turns the first i words are taken mod q.
-- Assumes nothing.
use Prim.Native.Nat.{◌%◌, ◌≤◌}
use mathlib.Core.Path.{◌≡◌}
use lib.ListN.{length, get_or}
use Rattle.lists.proofs.Loops.{Upto}
use Rattle.words.proofs.Modulus.low_all.Given as goal

abbrev pub invariant-loop-x : goal.invariant-loop-x
invariant-loop-x l = (l.x-index ≤ l.x-index-end) × (l.x-index-end ≡ length l.initial.s) × Upto (λ k. get_or l.initial.s k 0 % l.self) l.x-index l.initial.s l.s
