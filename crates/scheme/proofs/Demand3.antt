-- The third demand (specs/Demand3.antt), proved once over every valid set: that the message comes back exactly where the noise is in range follows from
-- the law of each group (Groups.antt). Then for every set number, through `chosen`.
-- Assumes nothing.
use mathlib.Core.Path.{◌≡◌, sym, ap, ◌∙◌, subst}
use mathlib.Core.Logic.{◌↔◌}
use mathlib.Core.Bool.{true}
use mathlib.Core.List.{List, ◌++◌}
use Prim.Native.Nat.{ℕ, ◌+◌, ◌*◌, ◌/◌, ◌%◌, ◌^◌, ◌<◌}
use native.Mathlib.Nat.{div-add-mod'}
use native.Mathlib.Omega.{arith}
use lib.ListN.{length, get_or}
use lib.Seq.{ext_get_or}
use Rattle.lists.specs.Lists.{residues, Below}
use Rattle.lists.proofs.Tables.{equal_refl}
use Rattle.sets.specs.Sets.{Valid}
use Rattle.sets.specs.declared.Params.{Params}
use Rattle.sets.proofs.Facts.{valid, picked}
use Rattle.message.specs.Message.{half, groups_of, message_of}
use Rattle.message.proofs.RoundTrip.{below_groups, length_groups, message_groups}
use Rattle.scheme.specs.Parts.{hash, pkh_of}
use Rattle.scheme.specs.KeyGen.{public_key, secret_key}
use Rattle.scheme.specs.Encaps.{enc_k, enc_b, enc_c, shared_secret}
use Rattle.scheme.specs.Decaps.{agrees, decaps_k, decaps_secret}
use Rattle.scheme.specs.Noise.{InRange, centred_at, AllInRange, noise_at}
use Rattle.scheme.specs.Demand3.{sealed, recovered_message, recovered_secret, Demand3, ThirdDemand}
use Rattle.scheme.proofs.Decode.{drifted, group_kept}
use Rattle.scheme.proofs.Parts.{coding}
use Rattle.scheme.proofs.Keys.{sk_pk_lem, sk_pkh_lem}
use Rattle.scheme.proofs.Ciphertexts.{ct_salt_lem, ct_B, ct_C, length_decaps_message, below_decaps_message}
use Rattle.scheme.proofs.Groups.{groupwise}

module _ (p : Params) (ok : Valid p) (seed msg salt : List ℕ) where
  -- the group sent at an entry, and the one that comes back
  abbrev sent : (i j : ℕ) → ℕ
  sent i j = get_or (groups_of p.b msg) (i * 8 + j) 0

  abbrev back : (i j : ℕ) → ℕ
  back i j = get_or (groups_of p.b (recovered_message p seed msg salt)) (i * 8 + j) 0

  -- ---- the message, from the law of groups

  module _ (law : (i j : ℕ) → i < 8 → j < 8 → back i j ≡ drifted p.q (half p.q p.b) (2 ^ p.b) (sent i j) (noise_at p seed msg salt i j)) where
    -- a group comes back exactly where its own entry is in range
    pub group_back : (i j : ℕ) → i < 8 → j < 8 → (back i j ≡ sent i j) ↔ InRange (half p.q p.b) (centred_at p seed msg salt i j)
    group_back i j hi hj =
        let r = group_kept (coding p ok) (sent i j) (noise_at p seed msg salt i j) (below_groups p.b msg (i * 8 + j)) in
        (λ e. r.0 (sym (law i j hi hj) ∙ e), λ e. law i j hi hj ∙ r.1 e)

    -- so the message comes back exactly where every entry is
    pub message_back : length msg ≡ p.secret → Below 256 msg → (recovered_message p seed msg salt ≡ msg) ↔ AllInRange p seed msg salt
    message_back len bytes = (there, here)
      where
        there : recovered_message p seed msg salt ≡ msg → AllInRange p seed msg salt
        there e i j hi hj = (group_back i j hi hj).0 (ap (λ (m : List ℕ). get_or (groups_of p.b m) (i * 8 + j) 0) e)

        -- a message of the right length and its groups
        count : (m : List ℕ) → length m ≡ p.secret → length (groups_of p.b m) ≡ 64
        count m l = length_groups p.b ok.b_low 8 m (l ∙ ok.message_is)

        whole : (m : List ℕ) → length m ≡ p.secret → Below 256 m → message_of p.b (groups_of p.b m) ≡ m
        whole m l h = message_groups p.b ok.b_low 8 m (l ∙ ok.message_is) h

        here : AllInRange p seed msg salt → recovered_message p seed msg salt ≡ msg
        here all =
            let m = recovered_message p seed msg salt in
            let l : length m ≡ p.secret = length_decaps_message p ok (secret_key p seed) (sealed p seed msg salt) in
            let groups : groups_of p.b m ≡ groups_of p.b msg
            = ext_get_or 0 (groups_of p.b m) (groups_of p.b msg) (count m l ∙ sym (count msg len))
            (λ t ht.
            let small : t < 64 = omega (arith, count m l) in
            subst (λ (x : ℕ). get_or (groups_of p.b m) x 0 ≡ get_or (groups_of p.b msg) x 0) (div-add-mod' t 8)
            ((group_back (t / 8) (t % 8) (omega arith) (omega arith)).1 (all (t / 8) (t % 8) (omega arith) (omega arith)))) in
            sym (whole m l (below_decaps_message p ok (secret_key p seed) (sealed p seed msg salt))) ∙ ap (message_of p.b) groups ∙ whole msg len bytes

  -- ---- the secret

  module _ (enough : length seed ≡ p.seed) where
    -- encapsulation redone with the message gives the ciphertext's own matrices
    pub agrees_here : agrees p (secret_key p seed) (sealed p seed msg salt) msg ≡ true
    unfolding agrees
    agrees_here =
        let pk = public_key p seed in
        rw (sk_pk_lem p ok seed enough, sk_pkh_lem p ok seed enough, ct_salt_lem p ok pk msg salt, ct_B p ok pk msg salt, ct_C p ok pk msg salt, equal_refl (residues p.q (enc_b p pk (pkh_of p pk) msg salt)))
        (equal_refl (residues p.q (enc_c p pk (pkh_of p pk) msg salt)))

    -- so that k is encapsulation's
    k_back : decaps_k p (secret_key p seed) (sealed p seed msg salt) msg ≡ enc_k p (pkh_of p (public_key p seed)) msg salt
    unfolding decaps_k
    k_back = rw (agrees_here, sk_pkh_lem p ok seed enough, ct_salt_lem p ok (public_key p seed) msg salt)

    -- and the secret too
    pub secret_back : recovered_message p seed msg salt ≡ msg → recovered_secret p seed msg salt ≡ shared_secret p (public_key p seed) msg salt
    unfolding decaps_secret shared_secret
    secret_back e =
        ap (λ (m : List ℕ). hash p (sealed p seed msg salt ++ decaps_k p (secret_key p seed) (sealed p seed msg salt) m) p.secret) e
        ∙ ap (λ (k : List ℕ). hash p (sealed p seed msg salt ++ k) p.secret) k_back

-- of every valid set
pub demand3 : (p : Params) → Valid p → (seed msg salt : List ℕ) → length seed ≡ p.seed → length msg ≡ p.secret → Below 256 msg → Demand3 p seed msg salt
demand3 p ok seed msg salt enough len bytes =
    let law = groupwise p ok seed msg salt enough in
    record { groupwise = law; message = message_back p ok seed msg salt law len bytes; secret = secret_back p ok seed msg salt enough }

-- of every set number
pub third-demand : ThirdDemand
third-demand set p e = demand3 p (subst Valid (sym (picked set p e).1) (valid set))
