-- Parts of the two scratches, in the forms in which they are lent.
-- Assumes nothing.
use mathlib.Core.Path.{◌≡◌, ap, ap₂, ◌∙◌}
use mathlib.Core.List.{List, ◌++◌}
use Prim.Native.Nat.{ℕ, ◌+◌, ◌*◌, ◌-◌}
use native.Mathlib.Omega.{arith}
use lib.ListN.{length, take, drop}
use lib.Seq.{take_at, drop_at}
use borrow.Rule.Slice.PartMut.{put_mid}
use Rattle.lists.proofs.Spans.{part_at, rest_at}

-- a part that starts at 0 is as long as its end says
pub front : (m : ℕ) → m - 0 ≡ m
front m = omega arith

-- the part from 8n up to 16n has 8n words
pub behind : (n : ℕ) → 16 * n - 8 * n ≡ 8 * n
behind n = omega arith

-- ---- three lists in a row, the first two of 8n words

pub record Row (n : ℕ) (xs ys zs l : List ℕ) : Type 0 where
  pub is : l ≡ xs ++ (ys ++ zs)
  pub first : length xs ≡ 8 * n
  pub second : length ys ≡ 8 * n

module _ {n : ℕ} {xs ys zs l : List ℕ} (row : Row n xs ys zs l) where
  -- the first
  pub first_is : take (8 * n) l ≡ xs
  first_is = ap (take (8 * n)) row.is ∙ take_at xs (ys ++ zs) (8 * n) row.first

  -- the second
  pub second_is : take (8 * n) (drop (8 * n) l) ≡ ys
  second_is = ap (λ (t : List ℕ). take (8 * n) (drop (8 * n) t)) row.is ∙ part_at xs ys zs (8 * n) (8 * n) row.first row.second

  -- what follows
  pub rest_is : drop (16 * n) l ≡ zs
  rest_is =
      let twice : 16 * n ≡ 8 * n + 8 * n = omega arith in
      ap₂ drop twice row.is ∙ rest_at xs ys zs (8 * n) (8 * n) row.first row.second

  -- the second is lent
  pub lent_is : take (16 * n - 8 * n) (drop (8 * n) l) ≡ ys
  lent_is = ap (λ (j : ℕ). take j (drop (8 * n) l)) (behind n) ∙ second_is

  -- and another put in its place
  pub exchanged : (vs : List ℕ) {ws : List ℕ} → ws ≡ vs → length vs ≡ 8 * n → Row n xs vs zs (put_mid (8 * n) (16 * n - 8 * n) l ws)
  exchanged vs e q = record {
    is = (λ i. put_mid (8 * n) (behind n i) (row.is i) (e i))
        ∙ rw (take_at xs (ys ++ zs) (8 * n) row.first, drop_at xs (ys ++ zs) (8 * n) row.first, drop_at ys zs (8 * n) row.second);
    first = row.first;
    second = q;
  }
