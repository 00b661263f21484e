-- `words::words_of` meets its contract: after i turns the first i words are those of the first 2i bytes.
-- Assumes nothing.
use borrow.Author.Rules.{rules}
use native.Mathlib.Omega.{arith}
use mathlib.Core.Path.{refl}
use Rattle.lists.proofs.Tables.{cons}
use Rattle.lists.proofs.Parts.{parts_none, turned}
use Rattle.lists.proofs.Pairs.{turn_single}
use Rattle.bits.specs.Little.{words_of}
use Rattle.bits.proofs.Little.{words_join}
use Rattle.words.proofs.words_of.Goals as goal

pub loop-i-init : goal.loop-i-init
loop-i-init c = (omega arith, refl, parts_none words_join _ _)

pub loop-i-preserved : goal.loop-i-preserved
unfolding words_of
loop-i-preserved c =
    let l = c.loop-i in
    (omega arith, l.invariant.1, turn_single words_join l.invariant.2 (omega arith) (omega arith) (cons (search (rules, c.from_le_bytes.ensures)) refl))

pub returns : goal.returns
returns c = turned words_join c.loop-i.invariant.2 (omega arith) (omega arith)
