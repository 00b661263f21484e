-- `pkh::pkh_of` meets its contract: after k turns the sponge has taken seedA and the first 8k words of B, packed.
-- Assumes nothing.
use borrow.Author.Rules.{rules}
use mathlib.Core.Path.{subst, ◌∙◌}
use mathlib.Core.List.{List, ◌++◌}
use Prim.Native.Nat.{ℕ, ◌*◌, ◌/◌, ◌<◌}
use native.Mathlib.Omega.{arith}
use lib.ListN.{length}
use lib.Seq.{take_all}
use Rattle.std.proofs.lemmas.Grind.{common_steps}
use Rattle.shake.proofs.Uses.{Absorbed, none, more, ready, squeezing}
use Rattle.shake.proofs.Eights.{eight_at}
use Rattle.codec.specs.Pack.{packed}
use Rattle.rows.proofs.Rows.{bits_le}
use Rattle.hashes.proofs.Laws.{rate_taken}
use Rattle.pkh.proofs.Laws.{took_none, took_eight, absorbed_words, hashed, eight_pack}
use Rattle.pkh.proofs.pkh_of.Goals as goal
use Rattle.pkh.proofs.pkh_of.Goals.{After-absorb-sponge, After-loop-eight, After-new-sponge}

seeded : (c : After-absorb-sponge) → (let a = c.args in Absorbed a.set.p.rate a.seed.now c.absorb-sponge.result)
seeded c = more _ (none (rate_taken c.args.set.valid) c.new-sponge.ensures) c.type_inv.seed c.absorb-sponge.ensures

whole : (c : After-loop-eight)
    → (let a = c.args in Absorbed a.set.p.rate (a.seed.now ++ packed a.set.p.d a.b.now) c.loop-eight.sponge)
whole c =
    let l = c.loop-eight in
    subst (λ (ws : List ℕ). Absorbed c.args.set.p.rate (c.args.seed.now ++ packed c.args.set.p.d ws) l.sponge) (take_all (8 * l.eight-index) c.args.b.now (omega (arith, c.loop-eight-test.false, c.as_chunks.ensures.front_len, c.requires)))
    (absorbed_words (more _ (none (rate_taken c.args.set.valid) c.new-sponge.ensures) c.type_inv.seed c.absorb-sponge.ensures) l.invariant.1)

pub loop-eight-init : goal.loop-eight-init
loop-eight-init c = (search rules, took_none _ _ _)

pub absorb_eight-more-requires : goal.absorb_eight-more-requires
absorb_eight-more-requires c = let l = c.loop-eight in
    (ready (absorbed_words (seeded (goal.at.absorb_eight-more-requires c).After-absorb-sponge) l.invariant.1), eight_pack c.args.set.p.d _ c.args.set.valid.d_cases (omega arith), omega (arith, bits_le c.args.set.valid))

-- the chunk is found by grind: so an edit of the form of must-fail/first_words_left_out is proved where it leaves no words out
pub loop-eight-preserved : goal.loop-eight-preserved
loop-eight-preserved c =
    let l = c.loop-eight in
    let room : l.eight-index < length c.args.b.now / 8 = omega (arith, c.loop-eight-test.true, c.as_chunks.ensures.front_len) in
    (search rules, took_eight l.invariant.1 room (grind (arith, common_steps, eight_at, c.as_chunks.ensures.front)) c.absorb_eight-more.ensures)

pub finish-sponge-requires : goal.finish-sponge-requires
finish-sponge-requires c = ready (whole (goal.at.finish-sponge-requires c).After-loop-eight)

pub squeeze-requires : goal.squeeze-requires
squeeze-requires c = squeezing (whole (goal.at.squeeze-requires c).After-loop-eight) c.finish-sponge.ensures

pub returns : goal.returns
returns c = c.squeeze.ensures.0 ∙ hashed _ _ (whole (goal.at.returns c).After-loop-eight) c.finish-sponge.ensures
