-- `sealing::values` meets its contract: B is unpacked into the place of E', and the encoded message goes where S' was.
-- Assumes nothing.
use Rattle.sealing.proofs.MatrixC.{values_law}
use Rattle.sealing.proofs.values.Goals as goal

pub returns : goal.returns
returns c =
    values_law c.args.set.p c.args.b.now c.args.msg.now c.args.noise.now c.split_at_mut-s.ensures.front c.split_at_mut-s.ensures.back c.split_at_mut-unpacked.ensures.back
    c.unpack.ensures c.encode_message.ensures c.mul_add_sb_plus_e.ensures c.add.ensures
