-- `add_block` adds whole lanes, and then what is left of the bytes.
-- Assumes nothing.
use Rattle.shake.proofs.Add.{add_both}
use Rattle.shake.proofs.add_block.Goals as goal

pub returns : goal.returns
returns c =
    let lanes = c.add_lanes in
    let whole = c.whole_lanes-m in
    let args = c.args in
    add_both args.lanes.now args.bytes.now lanes.new.lanes c.add_bytes.new.lanes args.k whole.result whole.ensures lanes.ensures c.add_bytes.ensures
