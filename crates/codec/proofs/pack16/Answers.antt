-- `codec::pack16` meets its contract: after i turns the first 2i bytes are the packing of the first i words.
-- Assumes nothing.
use borrow.Author.Rules.{rules}
use native.Mathlib.Omega.{arith}
use mathlib.Core.Path.{refl, ◌∙◌}
use Rattle.lists.proofs.Tables.{cons}
use Rattle.lists.proofs.Parts.{Joins, parts_none, turned}
use Rattle.lists.proofs.Pairs.{turn_pair}
use Rattle.codec.specs.Pack.{packed}
use Rattle.codec.proofs.RoundTrip.{packs}
use Rattle.codec.proofs.Sixteen.{pack_one}
use Rattle.codec.proofs.pack16.Goals as goal

-- a word is two bytes, part by part
joins : Joins (packed 16) 1 2
joins = packs 16 1 2 refl

pub loop-i-init : goal.loop-i-init
loop-i-init c = (omega arith, refl, parts_none joins _ _)

pub loop-i-preserved : goal.loop-i-preserved
loop-i-preserved c =
    let l = c.loop-i in
    let w = c.type_inv.words l.i in (
      omega arith,
      l.invariant.1,
      turn_pair joins l.invariant.2 (omega arith) (omega arith) (cons (search (rules, c.to_be_bytes.ensures)) (cons (search (rules, c.to_be_bytes.ensures)) refl) ∙ pack_one _ w.fits),
    )

pub returns : goal.returns
returns c = turned joins c.loop-i.invariant.2 (omega arith) (omega arith)
