-- `decaps::decapsulate` meets its contract: the message and the secret, and then zeros.
-- Assumes nothing.
use borrow.Author.Rules.{rules}
use native.Mathlib.Omega.{arith}
use mathlib.Core.Path.{◌∙◌}
use Prim.Native.Nat.{◌+◌, ◌*◌, ◌-◌}
use Rattle.lists.proofs.Filled.{wiped_front}
use Rattle.decaps.proofs.decapsulate.Goals as goal

pub returns : goal.returns
returns c =
    let p = c.args.set.p in
    let done = c.decapsulate_in in
    record {
      ss_is = search rules;
      msg_is = search rules;
      noise_is = search (rules, c.fill.ensures.after) ∙ wiped_front p.noise (16 * p.n + 64 - 0) c.args.noise.now done.new.noise done.auto.noise (omega (arith, c.requires.valid.noise_is)) c.requires.scratch.noise_room;
      work_is = search (rules, c.fill-2.ensures.after) ∙ wiped_front p.work (8 * p.n - 0) c.args.work.now done.new.work done.auto.work (omega (arith, c.requires.valid.work_is)) c.requires.scratch.work_room;
    }
