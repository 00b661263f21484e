-- `words::words_of` meets its contract: after i turns the first i words are those of the first 2i bytes.
-- Assumes nothing.
use Prim.Native.Nat.{◌≤◌}
use mathlib.Core.Path.{◌≡◌}
use lib.ListN.{length}
use Rattle.lists.proofs.Parts.{Parts}
use Rattle.bits.specs.Little.{words_of}
use Rattle.words.proofs.words_of.Given as goal

abbrev pub invariant-loop-i : goal.invariant-loop-i
invariant-loop-i l = (l.i ≤ l.i-end) × (l.i-end ≡ length l.initial.out) × Parts words_of 2 l.i l.bytes l.initial.out l.out
