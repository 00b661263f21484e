-- Each call's contract admits one outcome of one input.
-- Assumes nothing.
use mathlib.Core.Path.{◌≡◌, sym, ap, ◌∙◌}
use mathlib.Core.List.{List}
use Prim.Native.Nat.{ℕ}
use Rattle.std.specs.Prelude.{Result, Ok, Err}
use Rattle.sets.specs.Answers.{Answer, number_of}
use Rattle.sets.specs.declared.Refusal.{Refusal}
use Rattle.ratio.specs.declared.Margin.{Margin}
use Rattle.ratio.specs.Answered.{answered}
use Rattle.frodo.specs.Keypair.{keypair_leaves}
use Rattle.frodo.specs.Encaps.{encaps_leaves}
use Rattle.frodo.specs.Decaps.{decaps_leaves, decaps_secret_leaves}
use Rattle.frodo.specs.Margin.{MarginLent, margin_leaves}
use Rattle.frodo.specs.One.{OneOutcome, Keypair, Encaps, Decaps, DecapsSecret, Margins}
use Rattle.frodo.proofs.Outcomes.{not_zero}

-- a contract that says what is left as a function of what was lent
pub by_function : {Lent Left : Type 0} (f : Lent → Left) → OneOutcome (λ (i : Lent) (o : Left). o ≡ f i)
by_function f i x y e g = e ∙ sym g

pub keypair_one : OneOutcome Keypair
keypair_one = by_function keypair_leaves

pub encaps-one : OneOutcome Encaps
encaps-one = by_function encaps_leaves

pub decaps_one : OneOutcome Decaps
decaps_one = by_function decaps_leaves

pub decaps_secret_one : OneOutcome DecapsSecret
decaps_secret_one = by_function decaps_secret_leaves

pub margin_one : OneOutcome Margins
margin_one = by_function margin_leaves

-- ---- the margin's own result, which its contract names by what it says

-- two results that say one thing are one
answered_one : (r s : Result Margin Refusal) → answered r ≡ answered s → r ≡ s
answered_one (Ok m) (Ok n) e = λ i. Ok (record { size = (e i).size; ratio = (e i).ratio; kept = (e i).kept })
answered_one (Ok m) (Err s) e = absurd (not_zero s (sym (ap (λ a. number_of a.answer) e)))
answered_one (Err r) (Ok n) e = absurd (not_zero r (ap (λ a. number_of a.answer) e))
answered_one (Err r) (Err s) e =
    let q : ◌≡◌ {A = Answer} (Err r) (Err s) = ap (λ a. a.answer) e in
    let p : r ≡ s = cc in
    ap Err p

-- so the contract admits one result, and one content of each scratch
pub margin_result_one : (i : MarginLent) (r s : Result Margin Refusal) (noise work noise' work' : List ℕ)
    → Margins i (record { margin = answered r; noise = noise; work = work }) → Margins i (record { margin = answered s; noise = noise'; work = work' })
    → (r ≡ s) × (noise ≡ noise') × (work ≡ work')
margin_result_one i r s noise work noise' work' a b =
    let e = margin_one i _ _ a b in
    (answered_one r s (ap (λ l. l.margin) e), ap (λ l. l.noise) e, ap (λ l. l.work) e)
