-- `margin` leaves what `margin_leaves` says, on each of its three ways out.
-- Assumes nothing.
use mathlib.Core.Path.{◌≡◌, refl, sym, ap, ◌∙◌}
use Rattle.std.specs.Prelude.{Result, Ok, Err}
use Rattle.std.proofs.Common.{rules}
use Rattle.std.specs.Option.{option_map}
use Rattle.sets.specs.declared.Set.{Set}
use Rattle.sets.specs.declared.Refusal.{Refusal}
use Rattle.sets.specs.declared.Refusal.TheVariants.{UnknownSet}
use Rattle.lengths.proofs.Shown.{margin_shown, known_valid}
use Rattle.ratio.specs.Answered.{answered}
use Rattle.ratio.specs.declared.Margin.{Margin}
use Rattle.frodo.specs.Margin.{MarginLent, MarginLeft, margin_leaves}
use Rattle.frodo.proofs.Outcomes.{given, unknown, refusal, finished}
use Rattle.frodo.proofs.DoneWhen.{margin}
use Rattle.frodo.proofs.margin.Goals as goal
use Rattle.frodo.proofs.margin.Goals.{After-choose}

-- what the call was lent
lent : After-choose → MarginLent
lent c = let a = c.args in record { set = a.set; seed = a.seed.now; msg = a.msg.now; salt = a.salt.now; noise = a.noise.now; work = a.work.now }

-- what a result says, beside scratches that stand
beside : MarginLent → Result Margin Refusal → MarginLeft
beside i r = record { margin = answered r; noise = i.noise; work = i.work }

pub returns-in_err-set : goal.returns-in_err-set
unfolding margin_leaves lent beside
returns-in_err-set c =
    let no_set : c.from_residual.result ≡ Err UnknownSet = search rules in
    let i = lent (goal.at.returns-in_err-set c).After-choose in
    ap (beside i) no_set ∙ unknown (margin i) (sym c.choose.ensures ∙ ap (option_map (λ (s : Set). s.p)) c.in_err-set.ensures.ok_part) refl

pub returns-in_err-margin : goal.returns-in_err-margin
unfolding margin_leaves lent beside
returns-in_err-margin c =
    let i = lent (goal.at.returns-in_err-margin c).After-choose in
    ap (beside i) (given c.from_residual-in_err-margin.ensures) ∙ refusal (margin i) (sym c.choose.ensures ∙ ap (option_map (λ (s : Set). s.p)) c.in_ok-set.ensures.ok_part) c.in_err-margin.ensures refl

pub margin-requires-2 : goal.margin-requires-2
margin-requires-2 c = margin_shown _ (known_valid _ _ (sym c.choose.ensures ∙ ap (option_map (λ (s : Set). s.p)) c.in_ok-set.ensures.ok_part)) _ _ _ _ _ (sym c.in_ok-margin.ensures)

pub returns : goal.returns
unfolding margin_leaves lent
returns c =
    let m = c.margin-2.ensures in
    finished (margin (lent (goal.at.returns c).After-choose)) (sym c.choose.ensures ∙ ap (option_map (λ (s : Set). s.p)) c.in_ok-set.ensures.ok_part) c.in_ok-margin.ensures
    (λ j. record { margin = answered (Ok (m.is j)); noise = m.noise_is j; work = m.work_is j })
