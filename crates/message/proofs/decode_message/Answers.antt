-- `message::decode_message` meets its contract: after k turns the first bk bytes are those of the first 8k words.
-- Assumes nothing.
use borrow.Author.Rules.{rules}
use native.Mathlib.Omega.{arith}
use mathlib.Core.Path.{◌≡◌, ◌∙◌, ap, sym}
use mathlib.Core.List.{◌++◌}
use native.Mathlib.Nat.{mul_comm}
use Prim.Native.Nat.{ℕ, ◌+◌, ◌*◌, ◌≤◌, ◌<◌}
use lib.ListN.{length}
use Rattle.lists.proofs.Chunks.{chunk_done, chunk_turn, chunk_before, chunks_all}
use Rattle.lists.proofs.Parts.{parts_none, turned}
use Rattle.lists.proofs.Spans.{room, length_part}
use Rattle.message.proofs.Codes.{decodes, decode_part}
use Rattle.message.proofs.decode_message.Goals as goal

pub loop-k-init : goal.loop-k-init
loop-k-init c =
    let zero : c.into_iter-k-iterator.result.count ≡ 0 = search rules in
    (search rules, record { is = search rules; fits = search rules }, rw zero (parts_none (decodes c.requires.0) _ _))

pub loop-k-preserved : goal.loop-k-preserved
loop-k-preserved c =
    let l = c.loop-k in
    let b = c.args.b in
    let k = c.requires.0 in
    let next : c.next.new.self.count ≡ l.k-iterator.count + 1 = search rules in
    let at : c.in-Some.k ≡ l.k-iterator.count = search rules in
    let split : l.k-iterator.iter.rest.now ≡ c.in-Some.eight.now ++ c.next.new.self.iter.rest.now = search rules in
    let eight : length c.in-Some.eight.now ≡ 8 = search rules in
    let before : l.k-iterator.count < 8 = chunk_before 8 _ _ l.invariant.1 split eight (omega arith) c.requires.1 in
    let within : b * l.k-iterator.count + b ≤ length l.out = omega (arith, room b l.k-iterator.count 8 before, mul_comm 8 b, c.requires.2, l.invariant.2.front.len) in (
      search rules,
      rw next (chunk_done _ _ l.invariant.1 split eight),
      rw (next, at) (chunk_turn _ _ (decodes k) l.invariant.2 l.invariant.1 split eight (c.put_bytes.ensures ∙ decode_part k _ eight (rw at (length_part (b * l.k-iterator.count) b l.out within)) c.number_of_groups-n.ensures) (omega (arith, within, l.invariant.2.front.len))),
    )

pub returns : goal.returns
returns c =
    let l = c.loop-k in
    let left : length l.k-iterator.iter.rest.now < 8 = search rules in
    let all : l.k-iterator.count ≡ 8 = chunks_all 8 l.invariant.1 left c.requires.1 in
    turned (decodes c.requires.0) l.invariant.2 (omega arith) (c.requires.2 ∙ mul_comm 8 c.args.b ∙ ap (λ (n : ℕ). c.args.b * n) (sym all))
