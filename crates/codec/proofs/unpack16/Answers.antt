-- `codec::unpack16` meets its contract: after i turns the first i words are the unpacking of the first 2i bytes.
-- Assumes nothing.
use borrow.Author.Rules.{rules}
use Prim.Native.Nat.{◌+◌, ◌*◌}
use native.Mathlib.Omega.{arith}
use mathlib.Core.Path.{refl, ◌∙◌}
use lib.Dec.{lit<}
use Rattle.lists.proofs.Tables.{cons}
use Rattle.lists.proofs.Parts.{Joins, parts_none, turned}
use Rattle.lists.proofs.Pairs.{turn_single}
use Rattle.codec.specs.Pack.{unpacked}
use Rattle.codec.proofs.RoundTrip.{unpacks}
use Rattle.codec.proofs.Sixteen.{unpack_two}
use Rattle.codec.proofs.unpack16.Goals as goal

-- two bytes are a word, part by part
joins : Joins (unpacked 16) 2 1
joins = unpacks 16 2 1 (lit< tt) refl

pub loop-i-init : goal.loop-i-init
loop-i-init c = (omega arith, refl, parts_none joins _ _)

pub loop-i-preserved : goal.loop-i-preserved
loop-i-preserved c =
    let l = c.loop-i in
    let byte = c.type_inv.bytes in (
      omega arith,
      l.invariant.1,
      turn_single joins l.invariant.2 (omega arith) (omega arith) (cons (search (rules, c.from_be_bytes.ensures)) refl ∙ unpack_two _ _ (byte (2 * l.i)).fits (byte (2 * l.i + 1)).fits),
    )

pub returns : goal.returns
returns c = turned joins c.loop-i.invariant.2 (omega arith) (omega arith)
