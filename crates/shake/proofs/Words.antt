-- Words of two bytes, squeezed whole: a lane holds them in a row. Assumes nothing.
use mathlib.Core.Path.{◌≡◌, sym, ap, ap₂, ◌∙◌, subst}
use Prim.Native.Nat.{ℕ, zero, suc, ◌+◌, ◌-◌, ◌*◌, ◌/◌, ◌%◌, ◌^◌, ◌≤◌, ◌<◌}
use native.Mathlib.Omega.{arith}
use mathlib.Core.List.{List}
use lib.ListN.{length, get_or, take, drop}
use borrow.Rule.Slice.PartMut.{put_mid}
use lib.Pow.{shr-shr}
use Rattle.lists.specs.Lists.{tab}
use Rattle.lists.proofs.Tables.{tab_cong}
use Rattle.lists.proofs.Loops.{Upto, moved}
use Rattle.lists.proofs.Spans.{length_part, upto_part}
use Rattle.bits.specs.Little.{words_of}
use Rattle.bits.proofs.Little.{words_tab}
use Rattle.shake.specs.Shake.{byte_at}
use Rattle.shake.specs.Sponge.{made, turned, after, first, nth, squeezed, word_at, Ready, Squeezing, Even}
use Rattle.shake.specs.declared.Sponge.{Sponge}
use Rattle.shake.proofs.Turn.{ready_turned, even_turned}
use Rattle.shake.proofs.Squeeze.{Gave, gave_none, gave_more, after_add, block_byte, block_after}

-- the word that a sponge gives after k others
abbrev pub word : Sponge → ℕ → ℕ
word p k = nth p (2 * k) + 256 * nth p (2 * k + 1)

-- n of them are 2n bytes
pub words_are : (p : Sponge) (n : ℕ) → tab n (word p) ≡ words_of (squeezed p (2 * n))
unfolding squeezed
words_are p n = sym (words_tab (nth p) n)

-- the two bytes from an even place on stand in one lane
bytes_word : (s : List ℕ) (k : ℕ) → k % 2 ≡ 0 → byte_at s k + 256 * byte_at s (k + 1) ≡ word_at s k
bytes_word s k h =
    let d : (k + 1) / 8 ≡ k / 8 = omega arith in
    let m : 8 * ((k + 1) % 8) ≡ 8 * (k % 8) + 8 = omega arith in
    ap (λ (y : ℕ). byte_at s k + 256 * (y % 256)) (ap₂ (λ (i e : ℕ). get_or s i 0 / 2 ^ e) d m ∙ sym (shr-shr (get_or s (k / 8) 0) (8 * (k % 8)) 8))
    ∙ halves (get_or s (k / 8) 0 / 2 ^ (8 * (k % 8)))
  where
    halves : (x : ℕ) → x % 256 + 256 * (x / 256 % 256) ≡ x % 65536
    halves x = omega arith

-- ---- the loop's invariant: p₀ gave n words and is p

pub record GaveWords (p₀ : Sponge) (n : ℕ) (p : Sponge) : Type 0 where
  pub gave : Gave p₀ (2 * n) p
  pub even : Even p

-- none
pub words_none : (p₀ : Sponge) → Squeezing p₀ → Even p₀ → GaveWords p₀ 0 p₀
words_none p₀ h e = record { gave = gave_none p₀ h; even = e }

module _ {p₀ p q : Sponge} {n : ℕ} (g : GaveWords p₀ n p) (t : q ≡ turned p) where
  -- with a byte to give there are two
  pub words_ready : (q.at + 2 ≤ q.rate) × (q.rate ≤ 200) × (q.at % 2 ≡ 0)
  words_ready =
      let r : Ready q = subst (λ (z : Sponge). Ready z) (sym t) (ready_turned p g.gave.squeezing) in
      let e : Even q = subst (λ (z : Sponge). Even z) (sym t) (even_turned p g.even) in
      (room q.at q.rate r.within e.rate e.place, r.small, e.place)
    where
      room : (a r : ℕ) → a < r → r % 2 ≡ 0 → a % 2 ≡ 0 → a + 2 ≤ r
      room a r l x y = omega arith

  -- m words of the block are given
  pub words_more : (m : ℕ) → 0 < m → q.at + 2 * m ≤ q.rate → GaveWords p₀ (n + m) (made q.lanes (q.at + 2 * m) q.rate)
  words_more m pos l =
      let e : 2 * n + 2 * m ≡ 2 * (n + m) = omega arith in
      let f : Even q = subst (λ (z : Sponge). Even z) (sym t) (even_turned p g.even) in
      record {
        gave = subst (λ (k : ℕ). Gave p₀ k (made q.lanes (q.at + 2 * m) q.rate)) e (gave_more (2 * m) g.gave (sym (step (2 * m) (omega arith) l)));
        even = record { rate = f.rate; place = omega (arith, f.place) };
      }
    where
      step : (k : ℕ) → 0 < k → q.at + k ≤ q.rate → after p k ≡ made q.lanes (q.at + k) q.rate
      step zero z w = absurd (omega arith)
      step (suc k) z w = block_after p q g.gave.squeezing t k w

  -- word j of the block is given
  pub words_word : (j : ℕ) → q.at + 2 * j + 2 ≤ q.rate → word p₀ (n + j) ≡ word_at q.lanes (q.at + 2 * j)
  words_word j l =
      let a : 2 * (n + j) ≡ 2 * n + 2 * j = omega arith in
      let b : 2 * (n + j) + 1 ≡ 2 * n + (2 * j + 1) = omega arith in
      let d : q.at + (2 * j + 1) ≡ q.at + 2 * j + 1 = omega arith in
      let f : Even q = subst (λ (z : Sponge). Even z) (sym t) (even_turned p g.even) in
      ap₂ (λ (x y : ℕ). x + 256 * y) (ap (nth p₀) a ∙ byte (2 * j) (omega arith)) (ap (nth p₀) b ∙ byte (2 * j + 1) (omega arith) ∙ ap (byte_at q.lanes) d)
      ∙ bytes_word q.lanes (q.at + 2 * j) (omega (arith, f.place))
    where
      byte : (k : ℕ) → q.at + k < q.rate → nth p₀ (2 * n + k) ≡ byte_at q.lanes (q.at + k)
      byte k w = ap first (after_add p₀ (2 * n) k ∙ ap (λ (z : Sponge). after z k) (sym g.gave.is)) ∙ block_byte p q g.gave.squeezing t k w

  -- m words of the block are written behind the n that are
  pub words_part : {d e : List ℕ} (m : ℕ) (ys : List ℕ) → Upto (word p₀) n d e → q.at + 2 * m ≤ q.rate → n + m ≤ length d
      → ys ≡ tab (length (take (n + m - n) (drop n e))) (λ j. word_at q.lanes (q.at + 2 * j)) → Upto (word p₀) (n + m) d (put_mid n (n + m - n) e ys)
  words_part {d} {e} m ys u l h f =
      let k : n + m - n ≡ m = omega arith in
      let s : n + (n + m - n) ≡ n + m = omega arith in
      moved
      (upto_part (n + m - n) ys u (omega arith)
      (f ∙ ap (λ (z : ℕ). tab z (λ j. word_at q.lanes (q.at + 2 * j))) (length_part n m e (omega (arith, u.len)) ∙ sym k)
      ∙ tab_cong (n + m - n) _ (λ j. word p₀ (n + j)) (λ j o. sym (words_word j (omega arith)))))
      s
