-- `codec15::eight` meets its contract: each formula is a byte of Frodo.Pack's bit string.
-- Assumes nothing.
use Rattle.codec15.proofs.Straight.{pack_eight}
use Rattle.codec15.proofs.eight.Goals as goal

pub returns : goal.returns
returns c = pack_eight c.args.a c.args.b c.args.c c.args.d c.args.e c.args.f c.args.g c.args.h
