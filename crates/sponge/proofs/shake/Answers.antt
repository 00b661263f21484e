-- `sponge::shake` meets its contract: what the sponge gives that has taken the parts is SHAKE of them.
-- Its two goals are found by grind: so an edit of the form of must-fail/parts_exchanged or third_left_out is proved where it takes the parts as they stand.
-- Assumes nothing.
use Prim.Native.Nat.{ℕ}
use native.Mathlib.Omega.{arith}
use mathlib.Core.Path.{refl}
use mathlib.Core.List.{List}
use Rattle.std.proofs.lemmas.Grind.{common_steps}
use Rattle.lists.specs.Lists.{Below}
use Rattle.shake.specs.Sponge.{Squeezing, empty, absorb_bytes, finished}
use Rattle.shake.proofs.Uses.{Rate, squeezing}
use Rattle.sponge.proofs.Laws.{taken, squeezed_parts}
use Rattle.sponge.proofs.shake.Goals as goal

-- it is ready to be squeezed
ready : {r : ℕ} (xs : List ℕ) → Rate r → Below 256 xs → Squeezing (finished (absorb_bytes (empty r) xs))
ready xs rate bytes = squeezing (taken rate bytes) refl

pub squeeze-requires : goal.squeeze-requires
squeeze-requires c = grind (arith, common_steps, ready)

pub returns : goal.returns
returns c = grind (arith, common_steps, squeezed_parts)
