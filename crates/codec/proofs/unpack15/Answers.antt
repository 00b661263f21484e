-- `codec::unpack15` meets its contract: after k turns the first 8k words are the unpacking of the first 15k bytes.
-- Assumes nothing.
use native.Mathlib.Omega.{arith}
use borrow.Author.Rules.{rules}
use mathlib.Core.Path.{◌≡◌, refl, ◌∙◌}
use mathlib.Core.List.{◌++◌}
use Prim.Native.Nat.{◌+◌, ◌<◌}
use lib.Dec.{lit<}
use lib.ListN.{length}
use Rattle.lists.proofs.Parts.{Joins, parts_none, turned}
use Rattle.codec.specs.Pack.{unpacked}
use Rattle.lists.proofs.Chunks.{chunk_fits, chunk_done, chunk_turn, chunks_and_rest}
use Rattle.codec.proofs.RoundTrip.{unpacks}
use Rattle.codec.proofs.unpack15.Goals as goal

-- fifteen bytes are eight words, part by part
joins : Joins (unpacked 15) 15 8
joins = unpacks 15 15 8 (lit< tt) refl

pub loop-k-init : goal.loop-k-init
loop-k-init c =
    let zero : c.into_iter-k-iterator.result.count ≡ 0 = search rules in
    (search rules, record { is = search rules; fits = search rules }, rw zero (parts_none joins _ _))

pub loop-k-preserved : goal.loop-k-preserved
unfolding unpacked
loop-k-preserved c =
    let l = c.loop-k in
    let next : c.next.new.self.count ≡ l.k-iterator.count + 1 = search rules in
    let at : c.in-Some.k ≡ l.k-iterator.count = search rules in
    let split : l.k-iterator.iter.rest.now ≡ c.in-Some.fifteen.now ++ c.next.new.self.iter.rest.now = search rules in
    let fifteen : length c.in-Some.fifteen.now ≡ 15 = search rules in (
      search rules,
      rw next (chunk_done _ _ l.invariant.1 split fifteen),
      rw (next, at) (chunk_turn _ _ joins l.invariant.2 l.invariant.1 split fifteen (c.copy_from_slice.ensures.after ∙ c.unpack_fifteen.ensures) (omega (arith, chunk_fits _ _ l.invariant.1 split fifteen))),
    )

pub returns : goal.returns
returns c =
    let left : length c.loop-k.k-iterator.iter.rest.now < 15 = search rules in
    let all : c.loop-k.k-iterator.count ≡ c.requires.count = omega (arith, chunks_and_rest c.loop-k.invariant.1) in
    turned joins c.loop-k.invariant.2 (omega arith) (omega arith)
