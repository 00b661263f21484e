-- docs/RULES.md, 3.3: a call is done, or it is refused and leaves every byte and word lent as it was.
-- Assumes nothing.
use Rattle.std.specs.Prelude.{cond, ℕ, eqb}
use Rattle.sets.specs.Sets.{params_of}
use Rattle.sets.specs.Answers.{number_of}
use Rattle.sets.specs.declared.Params.{Params}
use Rattle.sets.specs.Answers.{Answer}
use Rattle.lengths.specs.Refusals.{tested}

-- what a call leaves: by the number of its answer, which is that of the first test that fails, what a done call of the set leaves or what a refused one does
abbrev pub leaves : {Left : Type 0} (set : ℕ) (tests : Params → Answer) (done : Params → Left) (refused : Answer → Left) → Left
leaves set tests done refused = cond (eqb (number_of (tested set tests)) 0) (done (params_of set)) (refused (tested set tests))
