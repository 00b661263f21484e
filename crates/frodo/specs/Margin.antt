-- All that `margin` leaves, whatever it is lent (docs/RULES.md, 4.11).
-- Assumes nothing.
use Rattle.std.specs.Prelude.{List, ℕ, length}
use Rattle.lists.specs.Lists.{wiped}
use Rattle.sets.specs.declared.Params.{Params}
use Rattle.sets.specs.Answers.{Answer}
use Rattle.lengths.specs.Refusals.{margin_test}
use Rattle.message.specs.Message.{half}
use Rattle.scheme.specs.Margin.{margin_size, kept}
use Rattle.ratio.specs.Answered.{MarginAnswer, refused_margin, done_margin}
use Rattle.frodo.specs.Outcome.{leaves}

pub record MarginLent : Type 0 where
  pub set : ℕ
  pub seed : List ℕ
  pub msg : List ℕ
  pub salt : List ℕ
  pub noise : List ℕ
  pub work : List ℕ

-- seed, msg and salt are lent to be read: nothing can change them. The answer stands in the margin
pub record MarginLeft : Type 0 where
  pub margin : MarginAnswer
  pub noise : List ℕ
  pub work : List ℕ

abbrev pub margin_tests : MarginLent → Params → Answer
margin_tests i p = margin_test p (length i.seed) (length i.msg) (length i.salt) (length i.noise) (length i.work)

-- refused: size 0, ratio 0.0, lost
abbrev pub margin_refused : MarginLent → Answer → MarginLeft
margin_refused i a = record { margin = refused_margin a; noise = i.noise; work = i.work }

-- done: the largest size of a centred entry of S'E + E'' - E'S, that size over h, and the verdict
abbrev pub margin_done : MarginLent → Params → MarginLeft
margin_done i p = record {
  margin = done_margin (margin_size p i.seed i.msg i.salt) (half p.q p.b) (kept p i.seed i.msg i.salt);
  noise = wiped p.noise i.noise;
  work = wiped p.work i.work;
}

unfoldable pub margin_leaves : MarginLent → MarginLeft
margin_leaves i = leaves i.set (margin_tests i) (margin_done i) (margin_refused i)
