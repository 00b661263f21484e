-- `encaps::encapsulate_from` meets its contract: the ciphertext from seedSE', the secret from k, and the scratch wiped.
-- Assumes nothing.
use mathlib.Core.Path.{◌∙◌}
use Prim.Native.Nat.{◌+◌, ◌*◌, ◌-◌}
use native.Mathlib.Omega.{arith}
use borrow.Author.Rules.{rules}
use Rattle.lists.proofs.Filled.{wiped_front}
use Rattle.encaps.proofs.Seeds.{seedse_room, secret_law}
use Rattle.encaps.proofs.encapsulate_from.Goals as goal

pub split_at-requires : goal.split_at-requires
split_at-requires c = seedse_room _ c.requires.0.valid _ _ _ c.requires.1

pub returns : goal.returns
returns c = let sized = c.requires.0 in
    let valid = sized.valid in
    let sealed = c.seal in
    record {
      ct_is = sealed.ensures;
      ss_is = secret_law _ valid _ _ _ c.requires.1 sized.ss_long sealed.ensures c.split_at.ensures.back c.hash.ensures;
      noise_is = search (rules, c.fill.ensures.after) ∙ wiped_front _ (16 * c.args.set.p.n + 64 - 0) c.args.noise.now sealed.new.noise sealed.auto.noise (omega (arith, valid.noise_is)) sized.scratch.noise_room;
      work_is = search (rules, c.fill-2.ensures.after) ∙ wiped_front _ (8 * c.args.set.p.n - 0) c.args.work.now sealed.new.work sealed.auto.work (omega (arith, valid.work_is)) sized.scratch.work_room;
    }
