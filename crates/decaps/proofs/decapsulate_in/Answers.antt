-- `decaps::decapsulate_in` meets its contract: the secret goes with the message that was opened.
-- Assumes nothing.
use Rattle.decaps.proofs.Laws.{opened_law}
use Rattle.decaps.proofs.decapsulate_in.Goals as goal

pub returns : goal.returns
returns c = let x = c.args in opened_law _ x.sk.now x.ct.bytes.now c.open_message.ensures c.secret_of.ensures
