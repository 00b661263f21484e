-- `opening::open_message` meets its contract: the parts are opened, and their difference decoded.
-- Assumes nothing.
use Rattle.opening.proofs.Laws.{message_law}
use Rattle.opening.proofs.open_message.Goals as goal

pub returns : goal.returns
returns c =
    message_law _ c.args.sk.now c.args.ct.bytes.now c.args.noise.now (record { valid = c.args.ct.set.valid; ct_long = c.args.ct.sized }) c.requires.0 c.open_parts.ensures
    c.split_at.ensures.front c.split_at.ensures.back c.split_at-2.ensures.front c.split_at-2.ensures.back c.decode_difference.ensures
