-- Bytes squeezed one at a time, in as many pieces as one likes, and within a block. Assumes nothing.
use mathlib.Core.Path.{◌≡◌, refl, sym, ap, ◌∙◌, subst}
use mathlib.Core.List.{List, ◌++◌}
use Prim.Native.Nat.{ℕ, zero, suc, ◌+◌, ◌*◌, ◌%◌, ◌≤◌, ◌<◌}
use native.Mathlib.Nat.{add-zero, add-suc}
use native.Mathlib.Omega.{arith}
use Rattle.lists.specs.Lists.{tab}
use Rattle.lists.proofs.Tables.{tab_cong, tab_add}
use Rattle.shake.specs.Shake.{byte_at}
use Rattle.shake.specs.Sponge.{made, turned, stepped, after, first, nth, squeezed, Ready, Squeezing, Even}
use Rattle.shake.specs.declared.Sponge.{Sponge}
use Rattle.shake.proofs.Turn.{turn_part, ready_turned, even_turned, turned_turned}

-- ---- in pieces

-- n bytes and then m are n + m bytes
pub after_add : (p : Sponge) (n m : ℕ) → after p (n + m) ≡ after (after p n) m
unfolding after
after_add p n zero = ap (after p) (add-zero n)
after_add p n (suc m) = ap (after p) (add-suc n m) ∙ ap (λ (q : Sponge). stepped (turned q)) (after_add p n m)

pub squeezed_add : (p : Sponge) (n m : ℕ) → squeezed p (n + m) ≡ squeezed p n ++ squeezed (after p n) m
unfolding squeezed
squeezed_add p n m =
    tab_add n m (nth p) ∙ ap (λ (l : List ℕ). tab n (nth p) ++ l) (tab_cong m (λ k. nth p (n + k)) (nth (after p n)) (λ k _. ap first (after_add p n k)))

-- bytes can be squeezed further
pub squeezing_after : (p : Sponge) (n : ℕ) → Squeezing p → Squeezing (after p n)
unfolding after
squeezing_after p zero h = h
squeezing_after p (suc n) h =
    let r : Ready (turned (after p n)) = ready_turned (after p n) (squeezing_after p n h) in
    record { small = r.small; some = omega (arith, r.within); within = omega (arith, r.within) }

-- ---- the loop's invariant: p₀ gave n bytes and is p

pub record Gave (p₀ : Sponge) (n : ℕ) (p : Sponge) : Type 0 where
  pub is : p ≡ after p₀ n
  pub squeezing : Squeezing p

-- none
pub gave_none : (p₀ : Sponge) → Squeezing p₀ → Gave p₀ 0 p₀
unfolding after
gave_none p₀ h = record { is = refl; squeezing = h }

-- m more
pub gave_more : {p₀ p q : Sponge} {n : ℕ} (m : ℕ) → Gave p₀ n p → q ≡ after p m → Gave p₀ (n + m) q
gave_more {p₀} {p} {q} {n} m g e = record {
  is = e ∙ ap (λ (z : Sponge). after z m) g.is ∙ sym (after_add p₀ n m);
  squeezing = subst (λ (z : Sponge). Squeezing z) (sym e) (squeezing_after p m g.squeezing);
}

-- where its block is turned there is a byte to give
pub gave_ready : {p₀ p q : Sponge} {n : ℕ} → Gave p₀ n p → q ≡ turned p → Ready q
gave_ready {p₀} {p} g t = subst (λ (z : Sponge). Ready z) (sym t) (ready_turned p g.squeezing)

-- which is the next
pub gave_byte : {p₀ p q : Sponge} {n : ℕ} → Gave p₀ n p → q ≡ turned p → byte_at q.lanes q.at ≡ nth p₀ n
gave_byte g t = ap (λ (z : Sponge). byte_at z.lanes z.at) (t ∙ ap turned g.is)

-- and is given
pub gave_next : {p₀ p q : Sponge} {n : ℕ} → Gave p₀ n p → q ≡ turned p → Gave p₀ (n + 1) (stepped q)
unfolding after
gave_next g t = gave_more 1 g (ap stepped t)

-- as many in other words
pub gave_all : {p₀ p : Sponge} {n : ℕ} (m : ℕ) → Gave p₀ n p → n ≡ m → p ≡ after p₀ m
gave_all {p₀} m g e = g.is ∙ ap (after p₀) e

-- ---- within a block

-- j bytes of the block are given
ahead : (q : Sponge) (j : ℕ) → q.at + j ≤ q.rate → after q j ≡ made q.lanes (q.at + j) q.rate
unfolding after
ahead q zero l = sym (ap (λ (n : ℕ). made q.lanes n q.rate) (add-zero q.at))
ahead q (suc j) l =
    let e : q.at + j + 1 ≡ q.at + suc j = omega arith in
    ap (λ (p : Sponge). stepped (turned p)) (ahead q j (omega arith))
    ∙ ap stepped (turn_part (made q.lanes (q.at + j) q.rate) (λ z. omega arith))
    ∙ ap (λ (n : ℕ). made q.lanes n q.rate) e

-- a turn that comes before the first byte does not matter
after_turned : (p : Sponge) (j : ℕ) → Squeezing p → after (turned p) (suc j) ≡ after p (suc j)
unfolding after
after_turned p zero h = ap stepped (turned_turned p h)
after_turned p (suc j) h = ap (λ (q : Sponge). stepped (turned q)) (after_turned p j h)

nth_turned : (p : Sponge) (j : ℕ) → Squeezing p → nth (turned p) j ≡ nth p j
unfolding after
nth_turned p zero h = ap (λ (q : Sponge). byte_at q.lanes q.at) (turned_turned p h)
nth_turned p (suc j) h = ap first (after_turned p j h)

-- a sponge that is turned gives the bytes of its block, and is further by them
module _ (p q : Sponge) (h : Squeezing p) (t : q ≡ turned p) where
  pub block_byte : (j : ℕ) → q.at + j < q.rate → nth p j ≡ byte_at q.lanes (q.at + j)
  block_byte j l =
      sym (ap (λ (z : Sponge). nth z j) t ∙ nth_turned p j h)
      ∙ ap first (ahead q j (omega arith))
      ∙ ap (λ (z : Sponge). byte_at z.lanes z.at) (turn_part (made q.lanes (q.at + j) q.rate) (λ z. omega arith))

  pub block_after : (j : ℕ) → q.at + suc j ≤ q.rate → after p (suc j) ≡ made q.lanes (q.at + suc j) q.rate
  block_after j l = sym (ap (λ (z : Sponge). after z (suc j)) t ∙ after_turned p j h) ∙ ahead q (suc j) l

-- an even number of bytes leaves an even place
pub even_after : (p : Sponge) (n : ℕ) → Squeezing p → Even p → Even (after p (2 * n))
unfolding after
even_after p zero h e = e
even_after p (suc n) h e =
    let s : Squeezing (after p (2 * n)) = squeezing_after p (2 * n) h in
    let q : Sponge = turned (after p (2 * n)) in
    let r : Ready q = ready_turned (after p (2 * n)) s in
    let f : Even q = even_turned (after p (2 * n)) (even_after p n h e) in
    let m : 2 * suc n ≡ 2 * n + 2 = omega arith in
    subst (λ (z : Sponge). Even z) (sym (ap (after p) m ∙ after_add p (2 * n) 2 ∙ block_after (after p (2 * n)) q s refl 1 (room q.at q.rate r.within f.rate f.place)))
    (record { rate = f.rate; place = omega (arith, f.place) })
  where
    room : (a r : ℕ) → a < r → r % 2 ≡ 0 → a % 2 ≡ 0 → a + 2 ≤ r
    room a r l x y = omega arith
