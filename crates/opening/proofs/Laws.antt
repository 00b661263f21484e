-- Opening a ciphertext (docs/RULES.md, 4.10) as laws of lists: what the callees leave makes up the message.
-- Assumes nothing.
use mathlib.Core.Path.{◌≡◌, refl, ap, ◌∙◌}
use mathlib.Core.List.{List, ◌++◌}
use Prim.Native.Nat.{ℕ, ◌+◌, ◌*◌}
use native.Mathlib.Omega.{arith}
use lib.ListN.{length, take, drop}
use lib.Seq.{take_at, drop_at}
use Rattle.lists.specs.Lists.{residues}
use Rattle.lists.proofs.Spans.{length_mid}
use Rattle.bits.proofs.Little.{length_words}
use Rattle.algebra.specs.Congruence.{minus}
use Rattle.algebra.specs.Matrix.{Matrix, mat, mat_t, mul, table}
use Rattle.algebra.proofs.Congruences.{same_refl, minus_same}
use Rattle.algebra.proofs.Tables.{table_cong, same_entry}
use Rattle.sets.specs.Sets.{Valid}
use Rattle.sets.specs.declared.Params.{Params}
use Rattle.codec.proofs.RoundTrip.{length_unpacked}
use Rattle.message.specs.Message.{decoded}
use Rattle.scheme.specs.Decaps.{sk_matrix_s, ct_b, ct_c, opened, decaps_message}
use Rattle.scheme.proofs.Parts.{d_pos, q_pos}
use Rattle.ciphertext.specs.Sized.{CiphertextSized}
use Rattle.ciphertext.proofs.Lengths.{c1_long, c2_long}
use Rattle.opening.specs.Opening.{OpenSized}

-- C - X mod q, where X is a product that was kept mod q
pub difference : (p : Params) → Valid p → (c : List ℕ) (X : Matrix) {product work : List ℕ} → product ≡ residues p.q (table 8 8 X)
    → work ≡ table 8 8 (λ i j. minus p.q (mat 8 c i j) (mat 8 product i j))
    → work ≡ table 8 8 (λ i j. minus p.q (mat 8 c i j) (X i j))
difference p valid c X ep ew =
    let q = p.q in
    ew
    ∙ ap (λ (l : List ℕ). table 8 8 (λ i j. minus q (mat 8 c i j) (mat 8 l i j))) ep
    ∙ table_cong 8 8 (λ i j. minus q (mat 8 c i j) (mat 8 (residues q (table 8 8 X)) i j)) (λ i j. minus q (mat 8 c i j) (X i j))
    (λ i j hi hj. minus_same (q_pos p valid) (same_refl q (mat 8 c i j)) (same_entry q 8 8 X i j hi hj))

module _ (p : Params) (sk ct noise : List ℕ) (view : CiphertextSized p (length ct)) (sized : OpenSized p (length sk) (length noise)) where
  -- how many words S, B' and C have
  long_S : length (sk_matrix_s p sk) ≡ 8 * p.n
  long_S = length_words (8 * p.n) _ (length_mid (p.secret + p.pk) (16 * p.n) sk (omega (arith, sized.sk_long, view.valid.sk_is)) ∙ omega arith)

  long_B : length (ct_b p ct) ≡ 8 * p.n
  long_B = length_unpacked p.d p.n (d_pos p view.valid) _ (c1_long p ct view.valid view.ct_long refl)

  long_C : length (ct_c p ct) ≡ 64
  long_C = length_unpacked p.d 8 (d_pos p view.valid) _ (c2_long p ct view.valid view.ct_long refl)

  -- split where they meet, S, B' and C come out again, and what is decoded from them is the message
  pub message_law : {noise' s rest b c msg : List ℕ} → noise' ≡ sk_matrix_s p sk ++ (ct_b p ct ++ ct_c p ct)
      → s ≡ take (8 * p.n) noise' → rest ≡ drop (8 * p.n) noise' → b ≡ take (8 * p.n) rest → c ≡ drop (8 * p.n) rest
      → msg ≡ decoded p.q p.b (table 8 8 (λ i j. minus p.q (mat 8 c i j) (mul p.n (mat p.n b) (mat_t p.n s) i j)))
      → msg ≡ decaps_message p sk ct
  unfolding decaps_message opened
  message_law made es er eb ec em =
      let S = es ∙ ap (take (8 * p.n)) made ∙ take_at (sk_matrix_s p sk) _ (8 * p.n) long_S in
      let R = er ∙ ap (drop (8 * p.n)) made ∙ drop_at (sk_matrix_s p sk) _ (8 * p.n) long_S in
      let B = eb ∙ ap (take (8 * p.n)) R ∙ take_at (ct_b p ct) _ (8 * p.n) long_B in
      let C = ec ∙ ap (drop (8 * p.n)) R ∙ drop_at (ct_b p ct) _ (8 * p.n) long_B in
      em ∙ (λ t. decoded p.q p.b (table 8 8 (λ i j. minus p.q (mat 8 (C t) i j) (mul p.n (mat p.n (B t)) (mat_t p.n (S t)) i j))))
