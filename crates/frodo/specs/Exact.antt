-- What the ratio of a done margin is worth (docs/RULES.md, 4.11): nothing was rounded. proofs/Exact.antt proves it.
-- Assumes nothing.
use Rattle.std.specs.Prelude.{◌≡◌, false}
use Rattle.std.specs.Float.Ieee.Exact.{HasValue}
use Rattle.sets.specs.Sets.{params_of}
use Rattle.sets.specs.Answers.{Done}
use Rattle.message.specs.Message.{half}
use Rattle.frodo.specs.Margin.{MarginLent, margin_leaves}

-- the value of the ratio is the size over h
abbrev pub MarginExact : Type 0
MarginExact = (i : MarginLent) → (margin_leaves i).margin.answer ≡ Done
    → HasValue (margin_leaves i).margin.ratio false (margin_leaves i).margin.size (half (params_of i.set).q (params_of i.set).b)
