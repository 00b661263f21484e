-- docs/RULES.md, 4.11: what the margin answers, refused or done.
-- Assumes nothing.
use Rattle.std.specs.Prelude.{◌≡◌, Bool, false, ℕ, pos, Float, Result, Ok, Err}
use Rattle.std.specs.Float.{fin}
use Rattle.std.specs.Float.Ieee.Exact.{HasValue}
use Rattle.sets.specs.Answers.{Answer, Done}
use Rattle.sets.specs.declared.Refusal.{Refusal}
use Rattle.scheme.specs.Margin.{refused_size, refused_kept}
use Rattle.ratio.specs.declared.Margin.{Margin}
use Rattle.ratio.specs.Ratio.{ratio_of}

-- a margin that was measured: a size, that size over h, a verdict
abbrev pub measured_margin : (size h : ℕ) (kept : Bool) → Margin
measured_margin size h kept = record { size = size; ratio = ratio_of size h; kept = kept }

-- r is that, and its ratio is size over h exactly
pub record Measured (size h : ℕ) (kept : Bool) (r : Margin) : Type 0 where
  pub is : r ≡ measured_margin size h kept
  pub exact : HasValue r.ratio false size h

-- all that a call of the margin answers, done or refused
pub record MarginAnswer : Type 0 where
  pub answer : Answer
  pub size : ℕ
  pub ratio : Float
  pub kept : Bool

-- refused: size 0, ratio 0.0, lost
abbrev pub refused_margin : (answer : Answer) → MarginAnswer
refused_margin answer = record { answer = answer; size = refused_size; ratio = fin false 0 (pos 0); kept = refused_kept }

-- done: a size, that size over h, a verdict
abbrev pub done_margin : (size h : ℕ) (kept : Bool) → MarginAnswer
done_margin size h kept = record { answer = Done; size = size; ratio = ratio_of size h; kept = kept }

-- what a call's result says: `Ok` is done with that margin, an error is refused
abbrev pub answered : Result Margin Refusal → MarginAnswer
answered (Ok m) = record { answer = Done; size = m.size; ratio = m.ratio; kept = m.kept }
answered (Err r) = refused_margin (Err r)
