-- `words::bytes_of` meets its contract: after i turns the first 2i bytes are those of the first i words.
-- Assumes nothing.
use borrow.Author.Rules.{rules}
use native.Mathlib.Omega.{arith}
use mathlib.Core.Path.{refl}
use Rattle.lists.proofs.Tables.{cons}
use Rattle.lists.proofs.Parts.{parts_none, turned}
use Rattle.lists.proofs.Pairs.{turn_pair}
use Rattle.bits.specs.Little.{bytes_of}
use Rattle.bits.proofs.Little.{bytes_join}
use Rattle.words.proofs.bytes_of.Goals as goal

pub loop-i-init : goal.loop-i-init
loop-i-init c = (omega arith, refl, parts_none bytes_join _ _)

pub loop-i-preserved : goal.loop-i-preserved
unfolding bytes_of
loop-i-preserved c =
    let l = c.loop-i in
    (omega arith, l.invariant.1, turn_pair bytes_join l.invariant.2 (omega arith) (omega arith) (cons (search (rules, c.to_le_bytes.ensures)) (cons (search (rules, c.to_le_bytes.ensures)) refl)))

pub returns : goal.returns
returns c = turned bytes_join c.loop-i.invariant.2 (omega arith) (omega arith)
