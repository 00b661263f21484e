-- Words written by lanes, and what is left of them one by one. Assumes nothing.
use mathlib.Core.Path.{◌≡◌, sym, ap, ap₂, ◌∙◌}
use Prim.Native.Nat.{ℕ, ◌+◌, ◌-◌, ◌*◌, ◌/◌, ◌%◌, ◌^◌, ◌≤◌, ◌<◌}
use native.Mathlib.Omega.{arith}
use mathlib.Core.List.{List, ◌++◌}
use mathlib.Core.Logic.{◌⊎◌, inl, inr}
use lib.ListN.{length, get_or, take, drop, length-append, length-drop}
use lib.Seq.{length-take-le}
use borrow.Rule.Slice.PartMut.{put_mid}
use Rattle.lists.specs.Lists.{tab}
use Rattle.lists.proofs.Tables.{length_tab, tab_cong, tab_add}
use Rattle.lists.proofs.Spans.{length_mid, put_last}
use Rattle.shake.specs.Sponge.{word_at, Whole}

-- word j of lane l + t
pub lane_word : (lanes : List ℕ) (l t j : ℕ) → j < 4 → get_or lanes (l + t) 0 / 2 ^ (16 * j) % 65536 ≡ word_at lanes (8 * l + 2 * (4 * t + j))
lane_word lanes l t j h =
    let d : l + t ≡ (8 * l + 2 * (4 * t + j)) / 8 = omega arith in
    let m : 16 * j ≡ 8 * ((8 * l + 2 * (4 * t + j)) % 8) = omega arith in
    ap₂ (λ (i e : ℕ). get_or lanes i 0 / 2 ^ e % 65536) d m

-- m words by lanes and the others one by one are all words from place k on
pub put_both : (s out xs ys : List ℕ) (k r : ℕ) → Whole k (length out) 4 r
    → xs ≡ tab (length (take (4 * r - 0) out)) (λ j. word_at s (8 * (k / 8) + 2 * j))
    → ys ≡ tab (length (take (length out - 4 * r) (drop (4 * r) (xs ++ drop (4 * r - 0) out)))) (λ j. word_at s (k + 2 * (4 * r) + 2 * j))
    → put_mid (4 * r) (length out - 4 * r) (xs ++ drop (4 * r - 0) out) ys ≡ tab (length out) (λ j. word_at s (k + 2 * j))
put_both s out xs ys k r w ex ey =
    let l : 4 * r ≤ length out = omega (arith, w.within) in
    let z : 4 * r - 0 ≡ 4 * r = omega arith in
    let g : ℕ → ℕ = λ j. word_at s (k + 2 * j) in
    let lx : length (take (4 * r - 0) out) ≡ 4 * r = ap (λ (n : ℕ). length (take n out)) z ∙ length-take-le (4 * r) out l in
    let nx : length xs ≡ 4 * r = ap length ex ∙ length_tab _ _ ∙ lx in
    let fx : xs ≡ tab (4 * r) g = ex ∙ ap (λ (n : ℕ). tab n (λ j. word_at s (8 * (k / 8) + 2 * j))) lx ∙ tab_cong (4 * r) _ g (λ j h. ap (λ (n : ℕ). word_at s (n + 2 * j)) (start j h w.lane)) in
    let nw : length (xs ++ drop (4 * r - 0) out) ≡ length out = length-append xs (drop (4 * r - 0) out) ∙ omega (arith, nx, length-drop (4 * r - 0) out) in
    let ly : length (take (length out - 4 * r) (drop (4 * r) (xs ++ drop (4 * r - 0) out))) ≡ length out - 4 * r = length_mid (4 * r) (length out - 4 * r) (xs ++ drop (4 * r - 0) out) (omega arith) in
    let fy : ys ≡ tab (length out - 4 * r) (λ j. g (4 * r + j)) =
    ey ∙ ap (λ (n : ℕ). tab n (λ j. word_at s (k + 2 * (4 * r) + 2 * j))) ly
    ∙ tab_cong (length out - 4 * r) _ (λ j. g (4 * r + j)) (λ j _. let e : k + 2 * (4 * r) + 2 * j ≡ k + 2 * (4 * r + j) = omega arith in ap (word_at s) e) in
    let e : length out - 4 * r ≡ length (xs ++ drop (4 * r - 0) out) - 4 * r = omega arith in
    let f : 4 * r + (length out - 4 * r) ≡ length out = omega arith in
    ap (λ (n : ℕ). put_mid (4 * r) n (xs ++ drop (4 * r - 0) out) ys) e
    ∙ put_last xs (drop (4 * r - 0) out) ys (4 * r) nx
    ∙ (λ i. fx i ++ fy i)
    ∙ sym (tab_add (4 * r) (length out - 4 * r) g)
    ∙ ap (λ (n : ℕ). tab n g) f
  where
    start : (j : ℕ) → j < 4 * r → (k % 8 ≡ 0) ⊎ (r ≡ 0) → 8 * (k / 8) ≡ k
    start j h (inl e) = omega arith
    start j h (inr e) = absurd (omega arith)
