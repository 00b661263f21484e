-- A call of the C interface answers the paper's number where the call of the crate frodo answers an `Answer`; all else is as that call's contract says.
-- Assumes nothing.
use Rattle.std.specs.Prelude.{◌≡◌, Bool, true, false, ℕ}
use Rattle.sets.specs.Answers.{number_of}
use Rattle.sets.specs.Answers.{Answer}
use Rattle.ratio.specs.Answered.{MarginAnswer}
use Rattle.frodo_c.specs.declared.FrodoMargin.{FrodoMargin}

pub record Call (left : Answer → Type 0) (r : ℕ) : Type 0 where
  pub answer : Answer
  pub number : r ≡ number_of answer
  pub holds : left answer

-- 1 for kept, 0 for lost
abbrev pub flag_of : Bool → ℕ
flag_of true = 1
flag_of false = 0

-- a margin as struct frodo_margin has it
abbrev pub margin_of : MarginAnswer → FrodoMargin
margin_of m = record { refusal = number_of m.answer; size = m.size; ratio = m.ratio; kept = flag_of m.kept }

pub record MarginCall (left : MarginAnswer → Type 0) (r : FrodoMargin) : Type 0 where
  pub margin : MarginAnswer
  pub is : r ≡ margin_of margin
  pub holds : left margin
