-- `codec::pack16` meets its contract: after i turns the first 2i bytes are the packing of the first i words.
-- Assumes nothing.
use Prim.Native.Nat.{◌≤◌}
use mathlib.Core.Path.{◌≡◌}
use lib.ListN.{length}
use Rattle.lists.proofs.Parts.{Parts}
use Rattle.codec.specs.Pack.{packed}
use Rattle.codec.proofs.pack16.Given as goal

abbrev pub invariant-loop-i : goal.invariant-loop-i
invariant-loop-i l = (l.i ≤ l.i-end) × (l.i-end ≡ length l.words) × Parts (packed 16) 1 l.i l.words l.initial.out l.out
