-- A sponge that takes packed words eight at a time takes the packing of all of them (docs/RULES.md, 4.3).
-- Assumes nothing.
use mathlib.Core.Path.{◌≡◌, refl, sym, ap, ap₂, ◌∙◌}
use mathlib.Core.List.{List, [], ◌∷◌, ◌++◌}
use mathlib.Core.Logic.{◌⊎◌}
use Prim.Native.Nat.{ℕ, ◌+◌, ◌*◌, ◌/◌, ◌<◌}
use native.Mathlib.Nat.{mul_comm, mul-one, mul-zero, suc-ne-zero}
use native.Mathlib.Omega.{arith}
use lib.ListN.{length, take, drop}
use lib.Seq.{take-add, length-take-le}
use Rattle.shake.specs.Sponge.{absorb_bytes, finished, squeezed}
use Rattle.shake.specs.declared.Sponge.{Sponge}
use Rattle.shake.proofs.Absorb.{absorb_append}
use Rattle.shake.proofs.Uses.{Absorbed, more, shakes}
use Rattle.sets.specs.declared.Params.{Params}
use Rattle.codec.specs.Pack.{packed}
use Rattle.codec.specs.Packing.{Packing}
use Rattle.codec.proofs.RoundTrip.{below_packed, length_packed, packs}
use Rattle.scheme.specs.Parts.{hash}

-- no words, no bytes
packed_none : (d : ℕ) → packed d [] ≡ []
packed_none d = empty (packed d []) (length_packed d 0 [] refl ∙ mul-zero d)
  where
    empty : (l : List ℕ) → length l ≡ 0 → l ≡ []
    empty [] q = refl
    empty (x ∷ l) q = absurd (suc-ne-zero (length l) q)

-- t is s when it has taken the first 8k of the words ws, packed
pub record Took (d k : ℕ) (ws : List ℕ) (s t : Sponge) : Type 0 where
  pub is : t ≡ absorb_bytes s (packed d (take (8 * k) ws))

-- none is taken
pub took_none : (d : ℕ) (ws : List ℕ) (s : Sponge) → Took d 0 ws s s
unfolding absorb_bytes
took_none d ws s = record { is = sym (ap (absorb_bytes s) (packed_none d)) }

-- eight more are taken
pub took_eight : {d k : ℕ} {ws eight : List ℕ} {s t u : Sponge} → Took d k ws s t → k < length ws / 8 → eight ≡ take 8 (drop (8 * k) ws)
    → u ≡ absorb_bytes t (packed d eight) → Took d (k + 1) ws s u
took_eight {d} {k} {ws} {s = s} took room is e =
    let next : 8 * k + 8 ≡ 8 * (k + 1) = omega arith in
    let part = packed d (take 8 (drop (8 * k) ws)) in
    let joined : packed d (take (8 * k) ws) ++ part ≡ packed d (take (8 * (k + 1)) ws) =
    sym ((packs d 8 d (mul_comm 8 d)).joins k (take (8 * k) ws) (take 8 (drop (8 * k) ws)) (length-take-le (8 * k) ws (omega arith)))
    ∙ ap (packed d) (sym (take-add (8 * k) 8 ws) ∙ ap (λ (n : ℕ). take n ws) next) in
    record {
      is = e ∙ ap₂ (λ (p : Sponge) (x : List ℕ). absorb_bytes p (packed d x)) took.is is ∙ sym (absorb_append s (packed d (take (8 * k) ws)) part) ∙ ap (absorb_bytes s) joined;
    }

-- a sponge that had absorbed xs has absorbed those words, packed, behind
pub absorbed_words : {r d k : ℕ} {xs ws : List ℕ} {s t : Sponge} → Absorbed r xs s → Took d k ws s t → Absorbed r (xs ++ packed d (take (8 * k) ws)) t
absorbed_words a took = more _ a (λ i. record { fits = below_packed _ _ i }) took.is

-- a sponge that has absorbed a list gives its hash
pub hashed : (p : Params) {xs : List ℕ} {s t : Sponge} (l : ℕ) → Absorbed p.rate xs s → t ≡ finished s → squeezed t l ≡ hash p xs l
unfolding hash
hashed p l a f = shakes l a f

-- what packing asks of eight words
pub eight_pack : (d : ℕ) (eight : List ℕ) → (d ≡ 15) ⊎ (d ≡ 16) → length eight ≡ 8 → Packing d (length eight) d
eight_pack d eight width long = record { width = width; count = 1; words = long; bytes = sym (mul-one d) }
