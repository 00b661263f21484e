-- `put_lanes` writes four words a turn.
-- Assumes nothing.
use mathlib.Core.Path.{◌≡◌, ap, ◌∙◌}
use Prim.Native.Nat.{ℕ, ◌+◌, ◌*◌, ◌-◌}
use native.Mathlib.Omega.{arith}
use Rattle.lists.specs.Lists.{tab}
use Rattle.lists.proofs.Loops.{moved}
use Rattle.lists.proofs.Spans.{upto_part}
use Rattle.lists.proofs.Tables.{tab_cong}
use Rattle.shake.specs.Sponge.{word_at}
use Rattle.shake.proofs.Put.{lane_word}
use Rattle.shake.proofs.put_lanes.Goals as goal

pub loop-t-preserved : goal.loop-t-preserved
loop-t-preserved c =
    let loop = c.loop-t in
    let args = c.args in
    let t : ℕ = loop.t in
    let g : ℕ → ℕ = λ j. word_at args.lanes.now (8 * args.l + 2 * (4 * t + j)) in
    let four : 4 ≡ 4 * t + 4 - 4 * t = omega arith in
    let next : 4 * t + (4 * t + 4 - 4 * t) ≡ 4 * (t + 1) = omega arith in (
      omega arith,
      omega arith,
      moved
          (upto_part (4 * t + 4 - 4 * t) _ loop.invariant.2 (omega arith)
          (c.put_lane.ensures
          ∙ tab_cong 4 _ g (λ j h. lane_word args.lanes.now args.l t j h)
          ∙ ap (λ (k : ℕ). tab k g) four))
          next,
    )
