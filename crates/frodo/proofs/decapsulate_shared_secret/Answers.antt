-- `decapsulate_shared_secret` leaves what `decaps_secret_leaves` says, on each of its three ways out.
-- Assumes nothing.
use mathlib.Core.Path.{◌≡◌, sym, ◌∙◌, ap}
use Rattle.std.specs.Option.{option_map}
use Rattle.std.specs.Prelude.{Err}
use Rattle.std.proofs.Common.{rules}
use Rattle.sets.specs.Answers.{Done}
use Rattle.sets.specs.declared.Set.{Set}
use Rattle.sets.specs.declared.Refusal.TheVariants.{UnknownSet}
use Rattle.lengths.proofs.Shown.{decaps_secret_shown, known_valid}
use Rattle.frodo.specs.Decaps.{DecapsSecretLent, decaps_secret_leaves}
use Rattle.frodo.proofs.Outcomes.{given, unknown, refusal, finished}
use Rattle.frodo.proofs.DoneWhen.{decaps_secret}
use Rattle.frodo.proofs.decapsulate_shared_secret.Goals as goal
use Rattle.frodo.proofs.decapsulate_shared_secret.Goals.{After-choose}

-- what the call was lent
lent : After-choose → DecapsSecretLent
lent c = let a = c.args in record { set = a.set; sk = a.sk.now; ct = a.ct.now; ss = a.ss.now; noise = a.noise.now; work = a.work.now }

pub returns-in_err-set : goal.returns-in_err-set
unfolding decaps_secret_leaves lent
returns-in_err-set c =
    let no_set : c.from_residual.result ≡ Err UnknownSet = search rules in
    unknown (decaps_secret (lent (goal.at.returns-in_err-set c).After-choose)) (sym c.choose.ensures ∙ ap (option_map (λ (s : Set). s.p)) c.in_err-set.ensures.ok_part) no_set

pub returns-in_err-decaps_secret : goal.returns-in_err-decaps_secret
unfolding decaps_secret_leaves lent
returns-in_err-decaps_secret c =
    refusal (decaps_secret (lent (goal.at.returns-in_err-decaps_secret c).After-choose)) (sym c.choose.ensures ∙ ap (option_map (λ (s : Set). s.p)) c.in_ok-set.ensures.ok_part)
    c.in_err-decaps_secret.ensures (given c.from_residual-in_err-decaps_secret.ensures)

pub decapsulate_shared_secret-requires : goal.decapsulate_shared_secret-requires
decapsulate_shared_secret-requires c = decaps_secret_shown _ (known_valid _ _ (sym c.choose.ensures ∙ ap (option_map (λ (s : Set). s.p)) c.in_ok-set.ensures.ok_part)) _ _ _ _ _ (sym c.in_ok-decaps_secret.ensures)

pub returns : goal.returns
unfolding decaps_secret_leaves lent
returns c =
    let m = c.decapsulate_shared_secret.ensures in
    finished (decaps_secret (lent (goal.at.returns c).After-choose)) (sym c.choose.ensures ∙ ap (option_map (λ (s : Set). s.p)) c.in_ok-set.ensures.ok_part) c.in_ok-decaps_secret.ensures
    (λ j. record { answer = Done; ss = m.ss_is j; noise = m.noise_is j; work = m.work_is j })
