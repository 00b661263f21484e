-- `words::bytes_of` meets its contract: after i turns the first 2i bytes are those of the first i words.
-- Assumes nothing.
use Prim.Native.Nat.{◌≤◌}
use mathlib.Core.Path.{◌≡◌}
use lib.ListN.{length}
use Rattle.lists.proofs.Parts.{Parts}
use Rattle.bits.specs.Little.{bytes_of}
use Rattle.words.proofs.bytes_of.Given as goal

abbrev pub invariant-loop-i : goal.invariant-loop-i
invariant-loop-i l = (l.i ≤ l.i-end) × (l.i-end ≡ length l.words) × Parts bytes_of 1 l.i l.words l.initial.out l.out
