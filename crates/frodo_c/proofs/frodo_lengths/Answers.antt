-- `frodo_lengths` answers the table: its numbers fit, so that the casts keep them.
-- Assumes nothing.
use mathlib.Core.Path.{sym, ap, ◌∙◌, subst}
use Rattle.frodo_c.specs.Table.{Fits, lengths_in_c}
use Rattle.frodo_c.proofs.Fits.{fits}
use Rattle.frodo_c.proofs.frodo_lengths.Goals as goal

pub lengths_in_c-requires : goal.lengths_in_c-requires
lengths_in_c-requires c = subst Fits (sym c.lengths_of-l.ensures) (fits c.args.set)

pub returns : goal.returns
returns c = c.lengths_in_c.ensures ∙ ap lengths_in_c c.lengths_of-l.ensures
