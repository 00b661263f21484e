-- `put_block` writes whole lanes, and then what is left of the words.
-- Assumes nothing.
use Rattle.shake.proofs.Put.{put_both}
use Rattle.shake.proofs.put_block.Goals as goal

pub returns : goal.returns
returns c =
    let lanes = c.put_lanes in
    let whole = c.whole_lanes-m in
    let args = c.args in
    put_both args.lanes.now args.out.now lanes.new.out c.put_words.new.out args.k whole.result whole.ensures lanes.ensures c.put_words.ensures
