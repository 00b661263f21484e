-- `next_block` turns a sponge.
-- Assumes nothing.
use mathlib.Core.Path.{sym, ap, ◌∙◌}
use mathlib.Core.List.{List}
use Prim.Native.Nat.{ℕ}
use Rattle.shake.specs.Sponge.{made}
use Rattle.shake.proofs.Turn.{turn_full, turn_part}
use Rattle.shake.proofs.next_block.Goals as goal

pub returns-then-at-rate : goal.returns-then-at-rate
returns-then-at-rate c =
    let args = c.args in
    ap (λ (s : List ℕ). made s 0 args.rate) c.permute.ensures ∙ sym (turn_full (made args.lanes.now args.at args.rate) c.if-at-rate.true)

pub returns : goal.returns
returns c = let args = c.args in sym (turn_part (made args.lanes.now args.at args.rate) c.if-at-rate.false)
