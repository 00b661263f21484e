-- `generate_keypair_from_seed` leaves what `keypair_leaves` says, on each of its three ways out.
-- Assumes nothing.
use mathlib.Core.Path.{◌≡◌, sym, ◌∙◌, ap}
use Rattle.std.specs.Option.{option_map}
use Rattle.std.specs.Prelude.{Err}
use Rattle.std.proofs.Common.{rules}
use Rattle.sets.specs.Answers.{Done}
use Rattle.sets.specs.declared.Set.{Set}
use Rattle.sets.specs.declared.Refusal.TheVariants.{UnknownSet}
use Rattle.lengths.proofs.Shown.{keypair_shown, known_valid}
use Rattle.frodo.specs.Keypair.{KeypairLent, keypair_leaves}
use Rattle.frodo.proofs.Outcomes.{given, unknown, refusal, finished}
use Rattle.frodo.proofs.DoneWhen.{keypair}
use Rattle.frodo.proofs.generate_keypair_from_seed.Goals as goal
use Rattle.frodo.proofs.generate_keypair_from_seed.Goals.{After-choose}

-- what the call was lent
lent : After-choose → KeypairLent
lent c = let a = c.args in record { set = a.set; seed = a.seed.now; pk = a.pk.now; sk = a.sk.now; noise = a.noise.now; work = a.work.now }

pub returns-in_err-set : goal.returns-in_err-set
unfolding keypair_leaves lent
returns-in_err-set c =
    let no_set : c.from_residual.result ≡ Err UnknownSet = search rules in
    unknown (keypair (lent (goal.at.returns-in_err-set c).After-choose)) (sym c.choose.ensures ∙ ap (option_map (λ (s : Set). s.p)) c.in_err-set.ensures.ok_part) no_set

pub returns-in_err-keypair : goal.returns-in_err-keypair
unfolding keypair_leaves lent
returns-in_err-keypair c =
    refusal (keypair (lent (goal.at.returns-in_err-keypair c).After-choose)) (sym c.choose.ensures ∙ ap (option_map (λ (s : Set). s.p)) c.in_ok-set.ensures.ok_part)
    c.in_err-keypair.ensures (given c.from_residual-in_err-keypair.ensures)

pub generate-requires : goal.generate-requires
generate-requires c = keypair_shown _ (known_valid _ _ (sym c.choose.ensures ∙ ap (option_map (λ (s : Set). s.p)) c.in_ok-set.ensures.ok_part)) _ _ _ _ _ (sym c.in_ok-keypair.ensures)

pub returns : goal.returns
unfolding keypair_leaves lent
returns c =
    let m = c.generate.ensures in
    finished (keypair (lent (goal.at.returns c).After-choose)) (sym c.choose.ensures ∙ ap (option_map (λ (s : Set). s.p)) c.in_ok-set.ensures.ok_part) c.in_ok-keypair.ensures
    (λ j. record { answer = Done; seed = m.seed_is j; pk = m.pk_is j; sk = m.sk_is j; noise = m.noise_is j; work = m.work_is j })
