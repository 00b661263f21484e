-- `codec::unpack16` meets its contract: after i turns the first i words are the unpacking of the first 2i bytes.
-- Assumes nothing.
use Prim.Native.Nat.{◌≤◌}
use mathlib.Core.Path.{◌≡◌}
use lib.ListN.{length}
use Rattle.lists.proofs.Parts.{Parts}
use Rattle.codec.specs.Pack.{unpacked}
use Rattle.codec.proofs.unpack16.Given as goal

abbrev pub invariant-loop-i : goal.invariant-loop-i
invariant-loop-i l = (l.i ≤ l.i-end) × (l.i-end ≡ length l.initial.out) × Parts (unpacked 16) 2 l.i l.bytes l.initial.out l.out
