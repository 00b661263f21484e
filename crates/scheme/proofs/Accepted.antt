-- What decapsulation accepts (specs/Accepted.antt): exactly the bytes that are, every one of them, what encapsulation makes of the message that they open to.
-- Assumes nothing.
use mathlib.Core.Path.{◌≡◌, refl, sym, ap, ◌∙◌}
use mathlib.Core.Bool.{Bool, true, false, cond}
use mathlib.Core.List.{List, ◌++◌}
use Prim.Native.Nat.{ℕ, ◌*◌}
use native.Mathlib.Omega.{arith}
use lib.ListN.{length, drop}
use lib.Seq.{length-take-le}
use Rattle.lists.specs.Lists.{residues, Below, equal}
use Rattle.lists.proofs.Tables.{below_take, below_drop, both_true, equal_true, equal_refl}
use Rattle.lists.proofs.Spans.{length_mid, parts_whole}
use Rattle.sets.specs.Sets.{Valid}
use Rattle.sets.specs.declared.Params.{Params}
use Rattle.codec.specs.Pack.{packed, unpacked}
use Rattle.codec.proofs.RoundTrip.{pack_unpack, packed_mod}
use Rattle.scheme.specs.Parts.{hash, pkh_of}
use Rattle.scheme.specs.Encaps.{enc_k, enc_b, enc_c, ciphertext, shared_secret}
use Rattle.scheme.specs.Decaps.{sk_random_s, sk_pk, sk_pkh, ct_c1, ct_c2, ct_salt, ct_b, ct_c, decaps_message, agrees, decaps_k, decaps_secret}
use Rattle.scheme.specs.Accepted.{HoldsItsHash, Remade, AcceptedExactly}
use Rattle.scheme.proofs.Parts.{d_pos}
use Rattle.scheme.proofs.Ciphertexts.{ct_B, ct_C}

module _ (p : Params) (valid : Valid p) where
  -- words whose residues are unpacked from bytes pack to these bytes
  pack_back : (c : ℕ) (ws bs : List ℕ) → length bs ≡ p.d * c → Below 256 bs → residues p.q ws ≡ unpacked p.d bs → packed p.d ws ≡ bs
  pack_back c ws bs l h e =
      sym (packed_mod p.d ws) ∙ ap (λ (q : ℕ). packed p.d (residues q ws)) (sym valid.q_is) ∙ ap (packed p.d) e ∙ pack_unpack p.d c (d_pos p valid) bs l h

  -- bytes whose matrices agree with a message, under a key whose pkh is the hash of its public key, are what that key makes of the message and the bytes' own salt
  pub accepted : (sk ct msg : List ℕ) → length ct ≡ p.ct → Below 256 ct → HoldsItsHash p sk → agrees p sk ct msg ≡ true → Remade p sk ct msg
  unfolding agrees ciphertext
  accepted sk ct msg len bytes passes e =
      let fits = valid.ct_is in
      let b = both_true (equal (residues p.q (enc_b p (sk_pk p sk) (sk_pkh p sk) msg (ct_salt p ct))) (ct_b p ct)) (equal (residues p.q (enc_c p (sk_pk p sk) (sk_pkh p sk) msg (ct_salt p ct))) (ct_c p ct)) e in
      rw (← passes)
      ((λ i. pack_back p.n (enc_b p (sk_pk p sk) (sk_pkh p sk) msg (ct_salt p ct)) (ct_c1 p ct) (length-take-le (p.d * p.n) ct (omega arith)) (below_take (p.d * p.n) ct bytes) (equal_true _ _ b.0) i
      ++ (pack_back 8 (enc_c p (sk_pk p sk) (sk_pkh p sk) msg (ct_salt p ct)) (ct_c2 p ct) (length_mid (p.d * p.n) (p.d * 8) ct (omega arith)) (below_take (p.d * 8) (drop (p.d * p.n) ct) (below_drop (p.d * p.n) ct bytes)) (equal_true _ _ b.1) i
      ++ ct_salt p ct))
      ∙ parts_whole (p.d * p.n) (p.d * 8) ct)

  -- and the matrices of such bytes agree
  pub remade_agrees : (sk ct msg : List ℕ) → HoldsItsHash p sk → Remade p sk ct msg → agrees p sk ct msg ≡ true
  unfolding agrees
  remade_agrees sk ct msg passes e =
      let pk = sk_pk p sk in
      let salt = ct_salt p ct in
      let b : ct_b p ct ≡ residues p.q (enc_b p pk (pkh_of p pk) msg salt) = ap (ct_b p) (sym e) ∙ ct_B p valid pk msg salt in
      let c : ct_c p ct ≡ residues p.q (enc_c p pk (pkh_of p pk) msg salt) = ap (ct_c p) (sym e) ∙ ct_C p valid pk msg salt in
      rw (passes, b, c, equal_refl (residues p.q (enc_b p pk (pkh_of p pk) msg salt))) (equal_refl (residues p.q (enc_c p pk (pkh_of p pk) msg salt)))

  -- ---- the secret

  module _ (sk ct : List ℕ) where
    -- what is hashed behind the bytes, by whether the matrices agree
    by_agreement : (b : Bool) → agrees p sk ct (decaps_message p sk ct) ≡ b
        → decaps_secret p sk ct ≡ hash p (ct ++ cond b (enc_k p (sk_pkh p sk) (decaps_message p sk ct) (ct_salt p ct)) (sk_random_s p sk)) p.secret
    unfolding decaps_secret decaps_k
    by_agreement b e = ap (λ (t : Bool). hash p (ct ++ cond t (enc_k p (sk_pkh p sk) (decaps_message p sk ct) (ct_salt p ct)) (sk_random_s p sk)) p.secret) e

    taken_is : HoldsItsHash p sk → Remade p sk ct (decaps_message p sk ct) → decaps_secret p sk ct ≡ shared_secret p (sk_pk p sk) (decaps_message p sk ct) (ct_salt p ct)
    unfolding shared_secret
    taken_is passes e =
        by_agreement true (remade_agrees sk ct (decaps_message p sk ct) passes e)
        ∙ (λ i. hash p (sym e i ++ enc_k p (passes i) (decaps_message p sk ct) (ct_salt p ct)) p.secret)

    refused_is : (agrees p sk ct (decaps_message p sk ct) ≡ true → ⊥) → (b : Bool) → agrees p sk ct (decaps_message p sk ct) ≡ b
        → decaps_secret p sk ct ≡ hash p (ct ++ sk_random_s p sk) p.secret
    refused_is never true e = absurd (never e)
    refused_is never false e = by_agreement false e

-- of every valid set
pub accepted_exactly : AcceptedExactly
accepted_exactly p valid sk ct passes len bytes =
    let m = decaps_message p sk ct in
    record {
      exactly = (accepted p valid sk ct m len bytes passes, remade_agrees p valid sk ct m passes);
      taken = taken_is p valid sk ct passes;
      refused = λ never. refused_is p valid sk ct (λ e. never (accepted p valid sk ct m len bytes passes e)) (agrees p sk ct m) refl;
    }
