-- What a caller of the sponge cites: it has absorbed a list, and more; it is finished; it gives SHAKE's bytes, in as many pieces as one likes. Assumes nothing.
use mathlib.Core.Path.{◌≡◌, refl, sym, ap, ◌∙◌, subst}
use mathlib.Core.List.{List, [], ◌++◌}
use Prim.Native.Nat.{ℕ, ◌*◌, ◌/◌, ◌%◌, ◌≤◌, ◌<◌}
use native.Mathlib.Omega.{arith}
use lib.Dec.{lit<}
use lib.ListN.{length, get_or, replicate}
use mir.Syntax.{w8}
use mir.Val.{Fits}
use Rattle.lists.specs.Lists.{Below}
use Rattle.lists.proofs.Tables.{below_append}
use Rattle.bits.specs.Little.{words_of}
use Rattle.shake.specs.Shake.{absorb_blocks, padded, shake}
use Rattle.shake.specs.Sponge.{made, empty, absorb_bytes, finished, squeezed, Ready, Squeezing, Even}
use Rattle.shake.specs.declared.Sponge.{Sponge}
use Rattle.shake.proofs.Absorb.{absorb_append, ready_bytes}
use Rattle.shake.proofs.Padding.{absorbed}
use Rattle.shake.proofs.Blocks.{squeezed_blocks}
-- and, for a sponge that is squeezed in pieces, these four of Squeeze.antt
pub use Rattle.shake.proofs.Squeeze.{squeezed_add, after_add, squeezing_after, even_after}

-- a rate that the sponge takes
abbrev pub Rate : ℕ → Type 0
Rate r = (0 < r) × (r ≤ 200)

-- p has absorbed the bytes xs at the rate r
pub record Absorbed (r : ℕ) (xs : List ℕ) (p : Sponge) : Type 0 where
  pub rate : Rate r
  pub bytes : Below 256 xs
  pub is : p ≡ absorb_bytes (empty r) xs

-- `new` has absorbed nothing
pub none : {r : ℕ} {p : Sponge} → Rate r → p ≡ empty r → Absorbed r [] p
unfolding absorb_bytes
none h e = record { rate = h; bytes = λ i. lit< tt; is = e }

-- `absorb` goes on with a slice
pub more : {r : ℕ} {xs : List ℕ} {p q : Sponge} (ys : List ℕ) → Absorbed r xs p → ((i : ℕ) → Fits w8 (get_or ys i 0)) → q ≡ absorb_bytes p ys → Absorbed r (xs ++ ys) q
more {r} {xs} ys a b f = record {
  rate = a.rate;
  bytes = below_append xs ys a.bytes (λ i. (b i).fits);
  is = f ∙ ap (λ (p : Sponge). absorb_bytes p ys) a.is ∙ sym (absorb_append (empty r) xs ys);
}

-- what `absorb` and `finish` ask
pub ready : {r : ℕ} {xs : List ℕ} {p : Sponge} → Absorbed r xs p → Ready p
ready {r} {xs} a = subst (λ (q : Sponge). Ready q) (sym a.is) (ready_bytes (empty r) xs (record { small = a.rate.1; within = a.rate.0 }))

-- `finish` leaves the lanes of specs/Shake.antt at the start of a block
ended : {r : ℕ} {xs : List ℕ} {p q : Sponge} → Absorbed r xs p → q ≡ finished p → q ≡ made (absorb_blocks r (length (padded r xs) / r) (replicate 25 0) (padded r xs)) 0 r
ended {r} {xs} a f = f ∙ ap finished a.is ∙ absorbed r a.rate.0 a.rate.1 xs a.bytes

-- what `squeeze` asks
pub squeezing : {r : ℕ} {xs : List ℕ} {p q : Sponge} → Absorbed r xs p → q ≡ finished p → Squeezing q
squeezing a f = subst (λ (q : Sponge). Squeezing q) (sym (ended a f)) (record { small = a.rate.1; some = a.rate.0; within = omega arith })

-- what `squeeze_words` asks besides
pub even : {r : ℕ} {xs : List ℕ} {p q : Sponge} → Absorbed r xs p → q ≡ finished p → r % 2 ≡ 0 → Even q
even a f e = subst (λ (q : Sponge). Even q) (sym (ended a f)) (record { rate = e; place = refl })

-- the bytes are SHAKE's
pub shakes : {r : ℕ} {xs : List ℕ} {p q : Sponge} (d : ℕ) → Absorbed r xs p → q ≡ finished p → squeezed q d ≡ shake r xs d
unfolding shake
shakes {r} d a f = ap (λ (q : Sponge). squeezed q d) (ended a f) ∙ squeezed_blocks r a.rate.0 _ d

-- the words are those of SHAKE's bytes
pub shakes_words : {r : ℕ} {xs : List ℕ} {p q : Sponge} (n : ℕ) → Absorbed r xs p → q ≡ finished p → words_of (squeezed q (2 * n)) ≡ words_of (shake r xs (2 * n))
shakes_words n a f = ap words_of (shakes (2 * n) a f)
