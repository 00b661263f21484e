-- The end of a block: the permutation, and the next block. Assumes nothing.
use mathlib.Core.Path.{◌≡◌, refl, sym, ap, ◌∙◌, subst}
use mathlib.Core.Bool.{Bool, true, false}
use mathlib.Core.List.{List}
use Prim.Native.Nat.{ℕ, ◌+◌, ◌%◌, ◌≤◌, ◌<◌}
use native.Mathlib.Nat.{zero-add, add_comm, add-mod_right}
use native.Mathlib.Omega.{arith}
use borrow.Author.Tests.{eq-eqb, ne_eqb, eqb-true, eqb-false}
use lib.Dec.{eqb}
use lib.ListN.{length}
use Rattle.keccak.specs.Keccak.{keccak_f, rounds, round, iota, iota_with, chi}
use Rattle.shake.specs.Sponge.{made, turned, Ready, Squeezing, Even}
use Rattle.shake.specs.declared.Sponge.{Sponge}

-- a permuted state has 25 lanes
pub length_keccak_f : (s : List ℕ) → length (keccak_f s) ≡ 25
unfolding keccak_f rounds round iota iota_with chi
length_keccak_f s = refl

-- at the end
pub turn_full : (p : Sponge) → p.at ≡ p.rate → turned p ≡ made (keccak_f p.lanes) 0 p.rate
unfolding turned
turn_full p e = rw (eq-eqb _ _ e)

-- before the end
pub turn_part : (p : Sponge) → (p.at ≡ p.rate → ⊥) → turned p ≡ p
unfolding turned
turn_part p e = rw (ne_eqb _ _ e)

-- what holds at the end and before it holds
pub by_turn {ℓ} : (p : Sponge) (P : Sponge → Type ℓ) → (p.at ≡ p.rate → P (made (keccak_f p.lanes) 0 p.rate)) → ((p.at ≡ p.rate → ⊥) → P p) → P (turned p)
by_turn p P full part = go (eqb p.at p.rate) refl
  where
    go : (t : Bool) → eqb p.at p.rate ≡ t → P (turned p)
    go true e = subst P (sym (turn_full p (eqb-true _ _ e))) (full (eqb-true _ _ e))
    go false e = subst P (sym (turn_part p (eqb-false _ _ e))) (part (eqb-false _ _ e))

-- a byte can be absorbed or read after a turn
pub ready_turned : (p : Sponge) → Squeezing p → Ready (turned p)
ready_turned p h =
    by_turn p (λ q. Ready q) (λ _. record { small = h.small; within = h.some }) (λ n. record { small = h.small; within = below p.at p.rate h.within n })
  where
    below : (a r : ℕ) → a ≤ r → (a ≡ r → ⊥) → a < r
    below a r l n = omega arith

-- an even place stays even
pub even_turned : (p : Sponge) → Even p → Even (turned p)
even_turned p h = by_turn p (λ q. Even q) (λ _. record { rate = h.rate; place = omega arith }) (λ _. h)

-- the rate stays
pub rate_turned : (p : Sponge) → (turned p).rate ≡ p.rate
rate_turned p = by_turn p (λ q. q.rate ≡ p.rate) (λ _. refl) (λ _. refl)

-- and so does the number of lanes
pub lanes_turned : (p : Sponge) → length p.lanes ≡ 25 → length (turned p).lanes ≡ 25
lanes_turned p h = by_turn p (λ q. length q.lanes ≡ 25) (λ _. length_keccak_f p.lanes) (λ _. h)

-- the place is the same in its block
pub place_turned : (p : Sponge) (n : ℕ) → ((turned p).at + n) % p.rate ≡ (p.at + n) % p.rate
place_turned p n =
    by_turn p (λ q. (q.at + n) % p.rate ≡ (p.at + n) % p.rate)
    (λ e. ap (λ (k : ℕ). k % p.rate) (zero-add n) ∙ sym (add-mod_right n p.rate) ∙ ap (λ (k : ℕ). k % p.rate) (add_comm n p.rate ∙ ap (λ (k : ℕ). k + n) (sym e)))
    (λ _. refl)

-- turned twice is turned once
pub turned_turned : (p : Sponge) → Squeezing p → turned (turned p) ≡ turned p
turned_turned p h = let r : Ready (turned p) = ready_turned p h in turn_part (turned p) (λ e. apart (turned p).at (turned p).rate r.within e)
  where
    apart : (a r : ℕ) → a < r → a ≡ r → ⊥
    apart a r l e = omega arith
