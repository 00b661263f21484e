-- `decapsulate` leaves what `decaps_leaves` says, on each of its three ways out.
-- Assumes nothing.
use mathlib.Core.Path.{◌≡◌, sym, ◌∙◌, ap}
use Rattle.std.specs.Option.{option_map}
use Rattle.std.specs.Prelude.{Err}
use Rattle.std.proofs.Common.{rules}
use Rattle.sets.specs.Answers.{Done}
use Rattle.sets.specs.declared.Set.{Set}
use Rattle.sets.specs.declared.Refusal.TheVariants.{UnknownSet}
use Rattle.lengths.proofs.Shown.{decaps_shown, known_valid}
use Rattle.frodo.specs.Decaps.{DecapsLent, decaps_leaves}
use Rattle.frodo.proofs.Outcomes.{given, unknown, refusal, finished}
use Rattle.frodo.proofs.DoneWhen.{decaps}
use Rattle.frodo.proofs.decapsulate.Goals as goal
use Rattle.frodo.proofs.decapsulate.Goals.{After-choose}

-- what the call was lent
lent : After-choose → DecapsLent
lent c = let a = c.args in record { set = a.set; sk = a.sk.now; ct = a.ct.now; ss = a.ss.now; msg = a.msg.now; noise = a.noise.now; work = a.work.now }

pub returns-in_err-set : goal.returns-in_err-set
unfolding decaps_leaves lent
returns-in_err-set c =
    let no_set : c.from_residual.result ≡ Err UnknownSet = search rules in
    unknown (decaps (lent (goal.at.returns-in_err-set c).After-choose)) (sym c.choose.ensures ∙ ap (option_map (λ (s : Set). s.p)) c.in_err-set.ensures.ok_part) no_set

pub returns-in_err-decaps : goal.returns-in_err-decaps
unfolding decaps_leaves lent
returns-in_err-decaps c =
    refusal (decaps (lent (goal.at.returns-in_err-decaps c).After-choose)) (sym c.choose.ensures ∙ ap (option_map (λ (s : Set). s.p)) c.in_ok-set.ensures.ok_part)
    c.in_err-decaps.ensures (given c.from_residual-in_err-decaps.ensures)

pub decapsulate-requires : goal.decapsulate-requires
decapsulate-requires c = decaps_shown _ (known_valid _ _ (sym c.choose.ensures ∙ ap (option_map (λ (s : Set). s.p)) c.in_ok-set.ensures.ok_part)) _ _ _ _ _ _ (sym c.in_ok-decaps.ensures)

pub returns : goal.returns
unfolding decaps_leaves lent
returns c =
    let m = c.decapsulate.ensures in
    finished (decaps (lent (goal.at.returns c).After-choose)) (sym c.choose.ensures ∙ ap (option_map (λ (s : Set). s.p)) c.in_ok-set.ensures.ok_part) c.in_ok-decaps.ensures
    (λ j. record { answer = Done; ss = m.ss_is j; msg = m.msg_is j; noise = m.noise_is j; work = m.work_is j })
