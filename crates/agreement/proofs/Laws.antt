-- Encapsulation redone and compared (docs/RULES.md, 4.10) as laws of lists: what the callees leave makes up the comparison.
-- Assumes nothing.
use mathlib.Core.Path.{◌≡◌, sym, ap, ap₂, ◌∙◌}
use mathlib.Core.List.{List}
use Prim.Native.Nat.{ℕ, ◌+◌, ◌*◌, ◌-◌}
use native.Mathlib.Omega.{arith}
use lib.Bits.{bit_and}
use lib.ListN.{length, take, drop}
use borrow.Rule.Slice.PartMut.{put_mid}
use Rattle.lists.specs.Lists.{residues, equal}
use Rattle.lists.proofs.Spans.{put_before, put_after}
use Rattle.sets.specs.Sets.{Valid}
use Rattle.sets.specs.declared.Params.{Params}
use Rattle.codec.specs.Pack.{unpacked}
use Rattle.codec.proofs.RoundTrip.{length_unpacked}
use Rattle.products.proofs.Laws.{words_low}
use Rattle.scheme.specs.Encaps.{enc_seed_se, enc_noise, enc_b, enc_c}
use Rattle.scheme.specs.Decaps.{sk_pk, sk_pkh, ct_c1, ct_c2, ct_salt, ct_b, ct_c, agrees}
use Rattle.scheme.proofs.Parts.{d_pos}
use Rattle.sealing.specs.Sealing.{mask_noise, mask_b, mask_c, Masked}
use Rattle.sealing.proofs.Names.{enc_noise_lem, enc_B, enc_C}
use Rattle.opening.specs.Opening.{bit}
use Rattle.opening.proofs.Choices.{bit_and_lem}
use Rattle.agreement.specs.Again.{MasksCompared}

module _ (p : Params) (valid : Valid p) (noise : List ℕ) where
  -- S'*A + E', masked, against B' of c1, which is put where E' was
  pub masks_compared : (seed c1 drawn : List ℕ) (q : ℕ) {work masked words : List ℕ} {same : ℕ} → length c1 ≡ p.d * p.n → length noise ≡ 16 * p.n + 64
      → Masked p seed drawn noise work → q ≡ p.q → masked ≡ residues q work → words ≡ unpacked p.d c1
      → (let put = put_mid (8 * p.n) (16 * p.n - 8 * p.n) noise words in
      same ≡ bit (equal masked words)
      → MasksCompared p seed c1 drawn put same)
  masks_compared seed c1 drawn q {words = words} lc ln made eq em eu es =
      let a = 8 * p.n in
      let k = 16 * p.n - 8 * p.n in
      let lw : length words ≡ k = ap length eu ∙ length_unpacked p.d p.n (d_pos p valid) c1 lc ∙ omega arith in
      let end : a + k ≡ 16 * p.n = omega arith in
      let after : drop (a + k) (put_mid a k noise words) ≡ drop (a + k) noise = put_after a k noise words (omega arith) lw in
      record {
        same_is =
            es ∙ ap₂ (λ (x y : List ℕ). bit (equal x y)) (em ∙ ap₂ residues eq made.b_is ∙ words_low valid (mask_b p seed drawn)) eu;
        s_stays = put_before a k noise words (omega arith) lw a (omega arith) ∙ made.s_stays;
        e_stays = (rw end at after) ∙ made.e_stays;
      }

module _ (p : Params) (sk ct msg : List ℕ) where
  -- both comparisons, over what encapsulation gives again
  pub both_compared : (seedse : List ℕ) {pk seed_a b c1 c2 noise' : List ℕ} {masked valued : ℕ} → seedse ≡ enc_seed_se p (sk_pkh p sk) msg (ct_salt p ct)
      → pk ≡ sk_pk p sk → seed_a ≡ take 16 pk → b ≡ drop 16 pk → c1 ≡ ct_c1 p ct → c2 ≡ ct_c2 p ct
      → MasksCompared p seed_a c1 (mask_noise p seedse) noise' masked
      → valued ≡ bit (equal (residues p.q (mask_c p b msg (take (8 * p.n) noise') (drop (16 * p.n) noise'))) (unpacked p.d c2))
      → bit_and masked valued ≡ bit (agrees p sk ct msg)
  unfolding agrees
  both_compared seedse eseed is-pk is-seed_a is-b is-c1 is-c2 compared evalued =
      let pkh = sk_pkh p sk in
      let salt = ct_salt p ct in
      let N : mask_noise p seedse ≡ enc_noise p pkh msg salt = ap (mask_noise p) eseed ∙ sym (enc_noise_lem p pkh msg salt) in
      let S = compared.s_stays ∙ ap (take (8 * p.n)) N in
      let E = compared.e_stays ∙ ap (drop (16 * p.n)) N in
      let B = ap₂ (mask_b p) (is-seed_a ∙ ap (take 16) is-pk) N ∙ sym (enc_B p pkh msg salt (sk_pk p sk)) in
      let C = (λ i. mask_c p ((is-b ∙ ap (drop 16) is-pk) i) msg (S i) (E i)) ∙ sym (enc_C p pkh msg salt (sk_pk p sk)) in
      ap₂ bit_and
      (compared.same_is ∙ (λ i. bit (equal (residues p.q (B i)) (unpacked p.d (is-c1 i)))))
      (evalued ∙ (λ i. bit (equal (residues p.q (C i)) (unpacked p.d (is-c2 i)))))
      ∙ bit_and_lem (equal (residues p.q (enc_b p (sk_pk p sk) pkh msg salt)) (ct_b p ct)) (equal (residues p.q (enc_c p (sk_pk p sk) pkh msg salt)) (ct_c p ct))
