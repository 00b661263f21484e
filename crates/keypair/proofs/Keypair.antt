-- Both keys, and what is zeroed (docs/RULES.md, 4.8): the steps make up the call.
-- Assumes nothing.
use mathlib.Core.Path.{◌≡◌, ap, ◌∙◌}
use mathlib.Core.List.{List, ◌++◌}
use Prim.Native.Nat.{ℕ, ◌*◌, ◌-◌}
use native.Mathlib.Omega.{arith}
use lib.ListN.{length, take, drop, replicate}
use Rattle.lists.specs.Lists.{wiped}
use Rattle.lists.proofs.Spans.{drop_front}
use Rattle.bits.specs.Little.{bytes_of}
use Rattle.sets.specs.declared.Params.{Params}
use Rattle.lengths.specs.Sized.{KeypairSized}
use Rattle.scheme.specs.Parts.{pkh_of}
use Rattle.scheme.specs.KeyGen.{seed_s, key_noise, secret_key}
use Rattle.scheme.proofs.Keys.{length_key_noise}
use Rattle.keys.specs.Made.{PublicMade}
use Rattle.keys.proofs.Matrices.{front_is_S}
use Rattle.keypair.specs.Made.{KeypairMade}
use Rattle.lists.proofs.Filled.{drop_later}

module _ (p : Params) (seed pk sk noise work : List ℕ) (sized : KeypairSized p (length seed) (length pk) (length sk) (length noise) (length work)) {pk' noise' work' : List ℕ} (made : PublicMade p seed noise work pk' noise' work') where
  -- what the call leaves
  pub keypair_made : {seed'' sk'' noise'' work'' : List ℕ} → sk'' ≡ seed_s p seed ++ (pk' ++ (bytes_of (take (8 * p.n - 0) noise') ++ pkh_of p pk'))
      → seed'' ≡ replicate (length seed) 0 → noise'' ≡ wiped p.noise noise' → work'' ≡ wiped p.work work'
      → KeypairMade p seed noise work seed'' pk' sk'' noise'' work''
  unfolding secret_key
  keypair_made esk es en ew =
      let n = p.n in
      let v = sized.valid in
      let S = front_is_S p v seed _ made.matrix.noise_is in
      record {
        seed_is = es;
        pk_is = made.pk_is;
        sk_is = esk ∙ (λ i. seed_s p seed ++ (made.pk_is i ++ (bytes_of (S i) ++ pkh_of p (made.pk_is i))));
        noise_is = en ∙ ap (λ (t : List ℕ). replicate p.noise 0 ++ t) (ap (drop p.noise) made.matrix.noise_is ∙ drop_front noise (key_noise p seed) (16 * n) p.noise (length_key_noise p v seed) (omega (arith, v.noise_is)));
        work_is = ew ∙ ap (λ (t : List ℕ). replicate p.work 0 ++ t) (drop_later (9 * n) p.work work' work (omega (arith, v.work_is)) made.matrix.rest_is);
      }
