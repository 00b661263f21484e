-- `encapsulate` leaves what `encaps_leaves` says, on each of its three ways out.
-- Assumes nothing.
use mathlib.Core.Path.{◌≡◌, sym, ◌∙◌, ap}
use Rattle.std.specs.Option.{option_map}
use Rattle.std.specs.Prelude.{Err}
use Rattle.std.proofs.Common.{rules}
use Rattle.sets.specs.Answers.{Done}
use Rattle.sets.specs.declared.Set.{Set}
use Rattle.sets.specs.declared.Refusal.TheVariants.{UnknownSet}
use Rattle.lengths.proofs.Shown.{encaps_shown, known_valid}
use Rattle.frodo.specs.Encaps.{EncapsLent, encaps_leaves}
use Rattle.frodo.proofs.Outcomes.{given, unknown, refusal, finished}
use Rattle.frodo.proofs.DoneWhen.{encaps}
use Rattle.frodo.proofs.encapsulate.Goals as goal
use Rattle.frodo.proofs.encapsulate.Goals.{After-choose}

-- what the call was lent
lent : After-choose → EncapsLent
lent c = let a = c.args in record { set = a.set; pk = a.pk.now; msg = a.msg.now; salt = a.salt.now; ct = a.ct.now; ss = a.ss.now; noise = a.noise.now; work = a.work.now }

pub returns-in_err-set : goal.returns-in_err-set
unfolding encaps_leaves lent
returns-in_err-set c =
    let no_set : c.from_residual.result ≡ Err UnknownSet = search rules in
    unknown (encaps (lent (goal.at.returns-in_err-set c).After-choose)) (sym c.choose.ensures ∙ ap (option_map (λ (s : Set). s.p)) c.in_err-set.ensures.ok_part) no_set

pub returns-in_err-encaps : goal.returns-in_err-encaps
unfolding encaps_leaves lent
returns-in_err-encaps c =
    refusal (encaps (lent (goal.at.returns-in_err-encaps c).After-choose)) (sym c.choose.ensures ∙ ap (option_map (λ (s : Set). s.p)) c.in_ok-set.ensures.ok_part)
    c.in_err-encaps.ensures (given c.from_residual-in_err-encaps.ensures)

pub encapsulate-requires : goal.encapsulate-requires
encapsulate-requires c = encaps_shown _ (known_valid _ _ (sym c.choose.ensures ∙ ap (option_map (λ (s : Set). s.p)) c.in_ok-set.ensures.ok_part)) _ _ _ _ _ _ _ (sym c.in_ok-encaps.ensures)

pub returns : goal.returns
unfolding encaps_leaves lent
returns c =
    let m = c.encapsulate.ensures in
    finished (encaps (lent (goal.at.returns c).After-choose)) (sym c.choose.ensures ∙ ap (option_map (λ (s : Set). s.p)) c.in_ok-set.ensures.ok_part) c.in_ok-encaps.ensures
    (λ j. record { answer = Done; ct = m.ct_is j; ss = m.ss_is j; noise = m.noise_is j; work = m.work_is j })
