-- A tally as `Tally::new` and `Tally::with` make it, and closures that make no other.
-- Assumes nothing.
use Rattle.std.specs.Prelude.{◌≤◌, Result, IfOk}
use Rattle.replay.specs.declared.Line.{Line}
use Rattle.replay.specs.declared.Tally.{Tally}

-- no more answers agree than there are, and it has stopped at a million
abbrev pub Counted : Tally → Type 0
Counted t = (t.right ≤ t.all) × (t.all ≤ 1000000)

-- `step f t line r f'`: f, called with t and line, may answer r and be f' then. Each call with such a tally answers such a one, or an error.
abbrev pub KeepsCounted : {F E : Type 0} (step : F → Tally → Line → Result Tally E → F → Type 0) → Type 0
KeepsCounted {F} {E} step = (f : F) (t : Tally) (line : Line) (r : Result Tally E) (f' : F) → Counted t → step f t line r f' → IfOk r Counted
