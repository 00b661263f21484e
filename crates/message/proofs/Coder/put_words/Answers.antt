-- `message::Coder::put_words` meets its contract: after j turns t is n without its j lowest groups.
-- Assumes nothing.
use Prim.Native.Nat.{ℕ, ◌%◌, ◌^◌}
use native.Mathlib.Omega.{arith}
use mathlib.Core.Path.{ap, ◌∙◌}
use Rattle.lists.proofs.Loops.{more}
use Rattle.bits.specs.Digits.{digit}
use Rattle.bits.proofs.Digits.{next}
use Rattle.message.specs.Message.{word_of}
use Rattle.message.proofs.Coder.put_words.Goals as goal

pub loop-x-preserved : goal.loop-x-preserved
unfolding digit
loop-x-preserved c =
    let l = c.loop-x in
    let a = c.args in
    let digits = ap (λ (z : ℕ). word_of a.self.q a.self.b (z % 2 ^ a.self.b)) l.invariant.1 in
    (omega arith, next a.n (2 ^ a.self.b) l.x-index l.invariant.1, more l.invariant.2 (omega arith) (c.word_of.ensures ∙ digits))
