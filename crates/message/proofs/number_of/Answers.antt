-- `message::number_of` meets its contract: t is the number of the bytes that are read, which are the last ones.
-- Assumes nothing.
use borrow.Author.Rules.{rules}
use mathlib.Core.Path.{refl, ap, ◌∙◌}
use mathlib.Core.List.{[], ◌∷◌, append-nil}
use Prim.Native.Nat.{ℕ}
use lib.Dec.{lit<}
use Rattle.bits.specs.Digits.{number}
use Rattle.bits.proofs.FromTop.{end_more, end_left, read_more, scaled_fits, more_fits}
use Rattle.message.proofs.Codes.{bytes_fit}
use Rattle.message.proofs.number_of.Goals as goal

pub loop-x-init : goal.loop-x-init
unfolding number
loop-x-init c = ([], search (rules, append-nil), refl)

pub overflow_mul-t : goal.overflow_mul-t
overflow_mul-t c = let i = c.loop-x.invariant in
    record { fits = scaled_fits 4294967296 _ i.0 i.2 (end_left c.next.new.self.iter.rest.now i.0 c.in-Some.x.now i.1 (search rules)) (lit< tt) (bytes_fit _ c.requires) }

pub overflow_add-t : goal.overflow_add-t
overflow_add-t c = let i = c.loop-x.invariant in
    record { fits = more_fits 4294967296 _ i.0 i.2 (end_left c.next.new.self.iter.rest.now i.0 c.in-Some.x.now i.1 (search rules)) (lit< tt) (bytes_fit _ c.requires) (search rules) }

pub loop-x-preserved : goal.loop-x-preserved
loop-x-preserved c = let i = c.loop-x.invariant in
    (c.in-Some.x.now ∷ i.0, end_more c.next.new.self.iter.rest.now i.0 c.in-Some.x.now i.1 (search rules), read_more i.0 i.2 (search rules) ∙ ap (λ (z : ℕ). number 256 (z ∷ i.0)) (search rules))
