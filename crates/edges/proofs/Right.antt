-- Every case of the table of specs/Edges.antt holds: the definitions compute each.
-- Assumes nothing.
use mathlib.Core.Path.{◌≡◌, refl}
use mathlib.Core.Bool.{true}
use Rattle.bits.specs.Stream.{bits, value, stream, groups}
use Rattle.bits.specs.Digits.{number, digit, recoded}
use Rattle.codec.specs.Pack.{packed}
use Rattle.message.specs.Message.{groups_of, word_of, group_of, encoded}
use Rattle.noise.specs.Noise.{count_below, signed, sampled}
use Rattle.scheme.specs.Parts.{stored}
use Rattle.scheme.specs.Margin.{largest, largest_size, every, kept_by}
use Rattle.edges.specs.Edges.{same, holds, all, cases}

pub right : all cases ≡ true
unfolding same holds all cases packed groups stream bits value encoded groups_of recoded digit number word_of group_of stored sampled signed count_below largest largest_size every kept_by
right = refl
