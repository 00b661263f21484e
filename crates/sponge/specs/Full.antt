-- The sponge that has taken three lists in a row and is finished, as the code runs it: what is squeezed out of it is SHAKE of the three in a row (crates/shake/specs/Shake.antt).
-- Assumes nothing.
use Rattle.std.specs.Prelude.{List, ℕ}
use Rattle.shake.specs.Sponge.{empty, absorb_bytes, finished}
use Rattle.shake.specs.declared.Sponge.{Sponge}

abbrev pub full : (rate : ℕ) (a b c : List ℕ) → Sponge
full rate a b c = finished (absorb_bytes (absorb_bytes (absorb_bytes (empty rate) a) b) c)
