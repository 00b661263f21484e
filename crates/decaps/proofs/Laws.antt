-- The steps of decapsulation (docs/RULES.md, 4.10) as laws of lists: what the callees leave makes up the choice and the secret.
-- Assumes nothing.
use mathlib.Core.Path.{◌≡◌, ap, ◌∙◌}
use mathlib.Core.Bool.{cond}
use mathlib.Core.List.{List, ◌++◌}
use Prim.Native.Nat.{ℕ, ◌+◌, ◌*◌, ◌-◌}
use native.Mathlib.Omega.{arith}
use lib.Dec.{eqb}
use lib.ListN.{length, take, drop, length-drop}
use lib.Seq.{take_all}
use Rattle.sets.specs.Sets.{Valid}
use Rattle.sets.specs.declared.Params.{Params}
use Rattle.scheme.specs.Parts.{hash}
use Rattle.scheme.specs.Encaps.{draw}
use Rattle.scheme.specs.Decaps.{sk_random_s, sk_pkh, ct_salt, agrees, decaps_k, decaps_message, decaps_secret}
use Rattle.opening.specs.Opening.{bit}
use Rattle.opening.proofs.Choices.{bit_test}

-- ---- the choice and the secret

-- what is drawn over the stored pkh, the message and the salt
pub drawn_again : (p : Params) → Valid p → (sk ct msg : List ℕ) {salt seeds : List ℕ} {l : ℕ} → length sk ≡ p.sk → l ≡ p.seedse + p.secret → salt ≡ ct_salt p ct
    → seeds ≡ hash p (take (length sk - (p.sk - p.secret)) (drop (p.sk - p.secret) sk) ++ (msg ++ salt)) l
    → seeds ≡ draw p (sk_pkh p sk) msg (ct_salt p ct)
unfolding draw
drawn_again p v sk ct msg long el is-salt es =
    let at : p.sk - p.secret ≡ p.secret + p.pk + 16 * p.n = omega (arith, v.sk_is) in
    let pkh = take_all _ (drop (p.sk - p.secret) sk) (omega (arith, length-drop (p.sk - p.secret) sk)) ∙ ap (λ (j : ℕ). drop j sk) at in
    es ∙ (λ i. hash p (pkh i ++ (msg ++ is-salt i)) (el i))

-- the choice between k' and s is what is hashed behind the ciphertext
pub secret_law : (p : Params) (sk ct msg drawn : List ℕ) {k s ss : List ℕ} {choice l : ℕ} → drawn ≡ draw p (sk_pkh p sk) msg (ct_salt p ct)
    → k ≡ drop p.seedse drawn → s ≡ sk_random_s p sk → choice ≡ bit (agrees p sk ct msg) → l ≡ p.secret
    → ss ≡ hash p (ct ++ cond (eqb choice 1) k s) l
    → ss ≡ hash p (ct ++ decaps_k p sk ct msg) p.secret
unfolding decaps_k
secret_law p sk ct msg drawn is-drawn is-k is-s ec el es =
    let K = is-k ∙ ap (drop p.seedse) is-drawn in
    let t = ap (λ (x : ℕ). eqb x 1) ec ∙ bit_test (agrees p sk ct msg) in
    es ∙ (λ i. hash p (ct ++ cond (t i) (K i) (is-s i)) (el i))

-- the secret goes with the message that was opened
pub opened_law : (p : Params) (sk ct : List ℕ) {msg ss : List ℕ} → msg ≡ decaps_message p sk ct → ss ≡ hash p (ct ++ decaps_k p sk ct msg) p.secret
    → (ss ≡ decaps_secret p sk ct) × (msg ≡ decaps_message p sk ct)
unfolding decaps_secret
opened_law p sk ct em es = (es ∙ ap (λ (m : List ℕ). hash p (ct ++ decaps_k p sk ct m) p.secret) em, em)
