-- `finish` adds the two bytes of the padding and permutes.
-- Assumes nothing.
use mathlib.Core.Path.{ap, ◌∙◌}
use mathlib.Core.List.{List}
use Prim.Native.Nat.{ℕ, ◌-◌, ◌/◌}
use lib.ListN.{set}
use Rattle.keccak.specs.Keccak.{keccak_f}
use Rattle.shake.specs.Sponge.{made, xor_byte, finished}
use Rattle.shake.proofs.Sponge.finish.Goals as goal

pub returns : goal.returns
unfolding finished xor_byte
returns c =
    let p = c.args.self in
    let first = c.add_byte in
    let last : ℕ = p.rate - 1 in
    ap (λ (s : List ℕ). made s 0 p.rate)
    (c.permute.ensures
    ∙ ap keccak_f
    (ap (set (set p.lanes (p.at / 8) first.result) (last / 8)) c.add_byte-2.ensures
    ∙ ap (λ (x : ℕ). xor_byte (set p.lanes (p.at / 8) x) last 0x80) first.ensures))
