-- `message::encode_message` meets its contract: after k turns the first 8k words are those of the first bk bytes.
-- Assumes nothing.
use borrow.Author.Rules.{rules}
use native.Mathlib.Omega.{arith}
use mathlib.Core.Path.{◌≡◌, ◌∙◌, ap, sym}
use mathlib.Core.List.{◌++◌}
use native.Mathlib.Nat.{mul_comm}
use Prim.Native.Nat.{ℕ, ◌+◌, ◌*◌, ◌<◌}
use lib.ListN.{length}
use Rattle.lists.proofs.Chunks.{chunk_done, chunk_turn, chunk_before, chunks_all}
use Rattle.lists.proofs.Parts.{parts_none, turned}
use Rattle.message.proofs.Codes.{encodes, encode_part}
use Rattle.message.proofs.encode_message.Goals as goal

pub loop-k-init : goal.loop-k-init
loop-k-init c =
    let zero : c.into_iter-k-iterator.result.count ≡ 0 = search rules in
    (search rules, record { is = search rules; fits = search rules }, rw zero (parts_none (encodes c.requires.0) _ _))

pub loop-k-preserved : goal.loop-k-preserved
loop-k-preserved c =
    let l = c.loop-k in
    let k = c.requires.0 in
    let next : c.next.new.self.count ≡ l.k-iterator.count + 1 = search rules in
    let at : c.in-Some.k ≡ l.k-iterator.count = search rules in
    let split : l.k-iterator.iter.rest.now ≡ c.in-Some.bytes.now ++ c.next.new.self.iter.rest.now = search rules in
    let part : length c.in-Some.bytes.now ≡ c.args.b = search rules in
    let size : length c.args.msg.now ≡ c.args.b * 8 = c.requires.1 ∙ mul_comm 8 c.args.b in
    let within : l.k-iterator.count < 8 = chunk_before 8 _ _ l.invariant.1 split part k.b_low size in (
      search rules,
      rw next (chunk_done _ _ l.invariant.1 split part),
      rw (next, at) (chunk_turn _ _ (encodes k) l.invariant.2 l.invariant.1 split part (c.put_words.ensures ∙ encode_part k _ part c.number_of.ensures) (omega (arith, c.requires.2))),
    )

pub returns : goal.returns
returns c =
    let l = c.loop-k in
    let left : length l.k-iterator.iter.rest.now < c.args.b = search rules in
    let size : length c.args.msg.now ≡ c.args.b * 8 = c.requires.1 ∙ mul_comm 8 c.args.b in
    let all : l.k-iterator.count ≡ 8 = chunks_all 8 l.invariant.1 left size in
    turned (encodes c.requires.0) l.invariant.2 (size ∙ ap (λ (n : ℕ). c.args.b * n) (sym all)) (omega arith)
