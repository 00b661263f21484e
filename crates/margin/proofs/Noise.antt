-- The noise of a sealed message and its margin (docs/RULES.md, 4.11), as laws of lists: what the products and the measure leave is what the scheme states.
-- Assumes nothing.
use mathlib.Core.Path.{◌≡◌, sym, ap, ◌∙◌, subst}
use mathlib.Core.List.{List, ◌++◌, append_assoc}
use Prim.Native.Nat.{ℕ, ◌+◌, ◌*◌, ◌-◌, ◌≤◌}
use native.Mathlib.Nat.{add-sub_cancel_left}
use native.Mathlib.Omega.{arith}
use lib.ListN.{length, take, drop, replicate}
use lib.Seq.{take_at, take-add, length-take-le}
use borrow.Rule.Slice.PartMut.{put_mid}
use Rattle.lists.specs.Lists.{residues, Below, wiped}
use Rattle.lists.proofs.Spans.{length_mid, put_at, put_after, drop_front}
use Rattle.algebra.specs.Congruence.{minus}
use Rattle.algebra.specs.Matrix.{Matrix, mat, mat_t, mul, ◌⊕◌, table}
use Rattle.algebra.proofs.Congruences.{minus_same}
use Rattle.algebra.proofs.Tables.{length_table, length_kept, same_entry, table_cong}
use Rattle.sets.specs.Sets.{Valid}
use Rattle.sets.specs.declared.Params.{Params}
use Rattle.rows.proofs.Rows.{q_pos}
use Rattle.products.proofs.Laws.{below_sub}
use Rattle.lengths.specs.Sized.{Scratch}
use Rattle.message.specs.Message.{half}
use Rattle.scheme.specs.Noise.{noise_of, noise_at}
use Rattle.scheme.specs.Margin.{largest_size, kept_by, noise_table}
use Rattle.ratio.specs.Answered.{Measured}
use Rattle.ratio.specs.declared.Margin.{Margin}
use Rattle.margin.specs.Made.{BothMade, sealing_part, key_part, NoiseMade, MarginMade}
use Rattle.lists.proofs.Filled.{drop_later}
use Rattle.margin.proofs.Places.{Row, first_is, second_is}

-- ---- the products and their difference

module _ (p : Params) (valid : Valid p) (noise work : List ℕ) (scratch : Scratch p (length noise) (length work)) where
  abbrev gap : ℕ
  gap = 16 * p.n + 64 - 16 * p.n

  -- work with v behind S and E'
  abbrev placed : List ℕ → List ℕ
  placed v = put_mid (16 * p.n) gap work v

  -- in which these stay
  same_key : (v : List ℕ) → key_part p (placed v) ≡ key_part p work
  same_key v =
      let n = p.n in
      let S = take (8 * n) work in
      let E' = take (8 * n) (drop (8 * n) work) in
      let rest = v ++ drop gap (drop (16 * n) work) in
      let twice : 16 * n ≡ 8 * n + 8 * n = omega arith in
      let row : Row n S E' rest (placed v) = record {
        is = ap (λ (t : List ℕ). t ++ rest) (ap (λ (j : ℕ). take j work) twice ∙ take-add (8 * n) (8 * n) work) ∙ append_assoc S E' rest;
        first = length-take-le (8 * n) work (omega (arith, valid.work_is, scratch.work_room));
        second = length_mid (8 * n) (8 * n) work (omega (arith, valid.work_is, scratch.work_room));
      } in
      λ i. mul n (mat n (second_is row i)) (mat_t n (first_is row i))

  -- the difference of the two, each mod q
  pub noise_made : {v w d : List ℕ} → v ≡ residues p.q (table 8 8 (sealing_part p noise)) → w ≡ residues p.q (table 8 8 (key_part p (placed v)))
      → d ≡ table 8 8 (λ i j. minus p.q (mat 8 (take gap (drop (16 * p.n) (placed v))) i j) (mat 8 (take 64 (w ++ drop 64 noise)) i j))
      → NoiseMade p noise work (d ++ drop 64 (w ++ drop 64 noise)) (placed v)
  noise_made {v} {w} {d} ev ew ed =
      let n = p.n in
      let q = p.q in
      let X = sealing_part p noise in
      let Y = key_part p work in
      let sixtyfour : gap ≡ 64 = add-sub_cancel_left (16 * n) 64 in
      let room : 16 * n + gap ≤ length work = omega (arith, valid.work_is, scratch.work_room) in
      let lv : length v ≡ gap = ap length ev ∙ length_kept q 8 8 X ∙ sym sixtyfour in
      let is-w : w ≡ residues q (table 8 8 Y) = ew ∙ ap (λ (f : Matrix). residues q (table 8 8 f)) (same_key v) in
      let lw : length w ≡ 64 = ap length is-w ∙ length_kept q 8 8 Y in
      let ld : length d ≡ 64 = ap length ed ∙ length_table 8 8 _ in
      let left : take gap (drop (16 * n) (placed v)) ≡ residues q (table 8 8 X) = put_at (16 * n) gap work v room lv ∙ ev in
      let right : take 64 (w ++ drop 64 noise) ≡ residues q (table 8 8 Y) = take_at w (drop 64 noise) 64 lw ∙ is-w in
      record {
        is = take_at d _ 64 ld ∙ ed ∙ (λ k. table 8 8 (λ i j. minus q (mat 8 (left k) i j) (mat 8 (right k) i j)))
            ∙ table_cong 8 8 (λ i j. minus q (mat 8 (residues q (table 8 8 X)) i j) (mat 8 (residues q (table 8 8 Y)) i j)) (λ i j. minus q (X i j) (Y i j))
            (λ i j hi hj. minus_same (q_pos valid) (same_entry q 8 8 X i j hi hj) (same_entry q 8 8 Y i j hi hj));
        noise_rest = drop_front (w ++ drop 64 noise) d 64 p.noise ld (omega (arith, valid.noise_is)) ∙ drop_front noise w 64 p.noise lw (omega (arith, valid.noise_is));
        work_rest = drop_later (16 * n + gap) p.work (placed v) work (omega (arith, valid.work_is)) (put_after (16 * n) gap work v room lv);
      }

-- ---- the margin

module _ (p : Params) (valid : Valid p) (seed msg salt noise work : List ℕ) {noise1 work1 noise2 work2 : List ℕ} (both : BothMade p seed msg salt noise work noise1 work1) (made : NoiseMade p noise1 work1 noise2 work2) where
  -- the 64 words are the scheme's noise
  is_noise : take 64 noise2 ≡ noise_table p seed msg salt
  unfolding noise_at noise_of
  is_noise =
      let n = p.n in
      made.is
      ∙ (λ k. table 8 8 (λ i j. minus p.q ((mul n (mat n (both.S'_is k)) (mat 8 (both.E_is k)) ⊕ mat 8 (both.E''_is k)) i j) (mul n (mat n (both.E'_is k)) (mat_t n (both.S_is k)) i j)))

  -- words mod q
  pub noise_below : Below p.q (take 64 noise2)
  noise_below = subst (λ (l : List ℕ). Below p.q l) (sym made.is) (below_sub valid _ _)

  -- what the call answers and leaves
  pub margin_made : {r : Margin} {noise3 work3 : List ℕ} → Measured (largest_size p.q (take 64 noise2)) (half p.q p.b) (kept_by p.q (half p.q p.b) (take 64 noise2)) r
      → noise3 ≡ wiped p.noise noise2 → work3 ≡ wiped p.work work2 → MarginMade p seed msg salt noise work r noise3 work3
  margin_made {r} m en ew =
      let h = half p.q p.b in
      let measured : Measured (largest_size p.q (noise_table p seed msg salt)) h (kept_by p.q h (noise_table p seed msg salt)) r =
      subst (λ (l : List ℕ). Measured (largest_size p.q l) h (kept_by p.q h l) r) is_noise m in
      record {
        is = measured.is;
        exact = measured.exact;
        noise_is = en ∙ ap (λ (t : List ℕ). replicate p.noise 0 ++ t) (made.noise_rest ∙ both.noise_rest);
        work_is = ew ∙ ap (λ (t : List ℕ). replicate p.work 0 ++ t) (made.work_rest ∙ both.work_rest);
      }
