-- `put_words` writes word after word.
-- Assumes nothing.
use Prim.Native.Nat.{◌+◌, ◌*◌}
use Rattle.lists.proofs.Loops.{Upto}
use Rattle.shake.specs.Sponge.{word_at}
use Rattle.shake.proofs.put_words.Given as goal

abbrev pub invariant-loop-i : goal.invariant-loop-i
invariant-loop-i l = Upto (λ j. word_at l.lanes (l.k + 2 * j)) l.i l.initial.out l.out
