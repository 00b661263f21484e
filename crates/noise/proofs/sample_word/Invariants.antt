-- `noise::sample_word` meets its contract: after i turns `size` counts the first i entries.
-- Assumes nothing.
use Prim.Native.Nat.{◌≤◌}
use mathlib.Core.Path.{◌≡◌}
use lib.ListN.{take}
use Rattle.noise.specs.Noise.{count_below}
use Rattle.noise.proofs.sample_word.Given as goal

abbrev pub invariant-loop-entry : goal.invariant-loop-entry
invariant-loop-entry l = (l.size ≤ l.entry-index) × (l.size ≡ count_below l.t (take l.entry-index l.entry-items))
