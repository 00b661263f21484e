-- `message::Coder::number_of_groups` meets its contract: t is the number of the groups of the words that are read, which are the last ones.
-- Assumes nothing.
use borrow.Author.Rules.{rules}
use mathlib.Core.Path.{refl, ap, ◌∙◌}
use mathlib.Core.List.{[], ◌∷◌, append-nil, map}
use Prim.Native.Nat.{ℕ, ◌^◌, ◌<◌, ◌≤◌}
use native.Mathlib.Omega.{arith}
use lib.ListN.{length, length-map}
use lib.Pow.{pow_pos}
use Rattle.bits.specs.Digits.{number}
use Rattle.bits.proofs.FromTop.{end_more, end_left, read_more, scaled_fits, more_fits}
use Rattle.message.specs.Message.{group_of}
use Rattle.message.specs.Coding.{Coding}
use Rattle.message.proofs.Codes.{groups_fit}
use Rattle.message.proofs.Coded.{coded}
use Rattle.message.proofs.Coder.number_of_groups.Goals as goal

-- eight groups fit 32 bits
fits : {q b : ℕ} → ∥ Coding q b ∥₁ → (2 ^ b) ^ 8 ≤ 4294967296
fits {q} {b} h = groups_fit b (coded h).b_high refl refl

pub loop-x-init : goal.loop-x-init
unfolding number
loop-x-init c = ([], search (rules, append-nil), refl)

pub overflow_mul-t : goal.overflow_mul-t
overflow_mul-t c =
    let i = c.loop-x.invariant in
    let s = c.args.self in
    let left = end_left c.next.new.self.iter.rest.now i.0 c.in-Some.x.now i.1 (search rules) in
    let few : length (map (group_of s.q s.b) i.0) < 8 = omega (arith, left, length-map i.0 (group_of s.q s.b), c.requires) in
    rw c.count-base.ensures (record { fits = scaled_fits 4294967296 8 _ i.2 few (pow_pos s.b) (fits s.coding) })

pub overflow_add-t : goal.overflow_add-t
overflow_add-t c =
    let i = c.loop-x.invariant in
    let s = c.args.self in
    let left = end_left c.next.new.self.iter.rest.now i.0 c.in-Some.x.now i.1 (search rules) in
    let few : length (map (group_of s.q s.b) i.0) < 8 = omega (arith, left, length-map i.0 (group_of s.q s.b), c.requires) in
    rw c.count-base.ensures (record { fits = more_fits 4294967296 8 _ i.2 few (pow_pos s.b) (fits s.coding) c.group_of.ensures.1 })

pub loop-x-preserved : goal.loop-x-preserved
loop-x-preserved c =
    let i = c.loop-x.invariant in
    let s = c.args.self in
    let groups = map (group_of s.q s.b) i.0 in (
      c.in-Some.x.now ∷ i.0,
      end_more c.next.new.self.iter.rest.now i.0 c.in-Some.x.now i.1 (search rules),
      rw c.count-base.ensures (read_more groups i.2 c.group_of.ensures.1 ∙ ap (λ (z : ℕ). number (2 ^ s.b) (z ∷ groups)) c.group_of.ensures.0),
    )
