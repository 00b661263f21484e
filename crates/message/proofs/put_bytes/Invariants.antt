-- `message::put_bytes` meets its contract: after j turns t is n without its j lowest bytes.
-- Assumes nothing.
use Prim.Native.Nat.{◌/◌, ◌^◌, ◌≤◌}
use mathlib.Core.Path.{◌≡◌}
use lib.ListN.{length}
use Rattle.lists.proofs.Loops.{Upto}
use Rattle.bits.specs.Digits.{digit}
use Rattle.message.proofs.put_bytes.Given as goal

abbrev pub invariant-loop-x : goal.invariant-loop-x
invariant-loop-x l = (l.x-index ≤ l.x-index-end) × (l.x-index-end ≡ length l.initial.out) × (l.t ≡ l.n / 256 ^ l.x-index) × Upto (digit 256 l.n) l.x-index l.initial.out l.out
