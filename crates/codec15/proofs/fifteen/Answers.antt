-- `codec15::fifteen` meets its contract: each formula is a word of Frodo.Pack's bit string.
-- Assumes nothing.
use native.Mathlib.Omega.{arith}
use Rattle.codec15.proofs.Straight.{unpack_fifteen}
use Rattle.codec15.proofs.fifteen.Goals as goal

pub returns : goal.returns
returns c =
    let a = c.args in
    unpack_fifteen a.b0 a.b1 a.b2 a.b3 a.b4 a.b5 a.b6 a.b7 a.b8 a.b9 a.b10 a.b11 a.b12 a.b13 a.b14
    (omega arith) (omega arith) (omega arith) (omega arith) (omega arith) (omega arith) (omega arith) (omega arith) (omega arith) (omega arith) (omega arith) (omega arith) (omega arith) (omega arith) (omega arith)
