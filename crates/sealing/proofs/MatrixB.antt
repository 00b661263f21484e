-- What `masks` leaves (docs/RULES.md, 4.9), from what the draw and the product leave.
-- Assumes nothing.
use mathlib.Core.Path.{◌≡◌, ap, ap₂, ◌∙◌, subst}
use mathlib.Core.List.{List, ◌∷◌, ◌++◌}
use Prim.Native.Nat.{ℕ, ◌+◌, ◌*◌, ◌-◌}
use native.Mathlib.Omega.{arith}
use lib.ListN.{length, take, drop}
use lib.Seq.{drop_at, take-take, take-append-le, length-take-le}
use Rattle.lists.specs.Lists.{residues}
use Rattle.lists.proofs.Filled.{drop_of_take}
use Rattle.algebra.specs.Matrix.{mat, ◌⊕◌, mul, table}
use Rattle.sets.specs.declared.Params.{Params}
use Rattle.rows.specs.Row.{mat_a}
use Rattle.scheme.specs.Parts.{hash, noise_words}
use Rattle.sealing.specs.Sealing.{mask_noise, mask_b, Masked}

-- drawn is the noise, of whose first 16n words, S' and E', the product leaves `left`
pub masks_law : (p : Params) (seed seedse noise left : List ℕ) {drawn out : List ℕ} → length noise ≡ 16 * p.n + 64
    → drawn ≡ noise_words p (hash p (0x96 ∷ seedse) (2 * length noise)) → length drawn ≡ length noise
    → (let k = 16 * p.n - 0 in
    length left ≡ length (take k drawn)
    → (out ≡ residues 65536 (table 8 p.n (mul p.n (mat p.n (take (8 * p.n) (take k drawn))) (mat_a p seed) ⊕ mat p.n (drop (8 * p.n) (take k drawn)))))
    × (take (8 * p.n) left ≡ take (8 * p.n) (take k drawn))
    → Masked p seed (mask_noise p seedse) (left ++ drop k drawn) out)
unfolding mask_noise mask_b
masks_law p seed seedse noise left {drawn} {out} long ed ld ll made =
    let k = 16 * p.n - 0 in
    let m = 8 * p.n in
    let lk : length left ≡ 16 * p.n = ll ∙ length-take-le k drawn (omega arith) ∙ omega arith in
    let s : take m (take k drawn) ≡ take m drawn = take-take m k drawn (omega arith) in
    let halves : k ≡ m + m = omega arith in
    let whole : k ≡ 16 * p.n = omega arith in
    let e : drop m (take k drawn) ≡ take m (drop m drawn) = ap (λ (j : ℕ). drop m (take j drawn)) halves ∙ drop_of_take m m drawn (omega arith) in
    subst (λ (noise : List ℕ). Masked p seed noise (left ++ drop k drawn) out)
    (ed ∙ ap (λ (l : ℕ). noise_words p (hash p (0x96 ∷ seedse) (2 * l))) long)
    (record {
      b_is = made.0 ∙ ap₂ (λ (x y : List ℕ). residues 65536 (table 8 p.n (mul p.n (mat p.n x) (mat_a p seed) ⊕ mat p.n y))) s e;
      s_stays = take-append-le m left (drop k drawn) (omega arith) ∙ made.1 ∙ s;
      e_stays = drop_at left (drop k drawn) (16 * p.n) lk ∙ ap (λ (j : ℕ). drop j drawn) whole;
    })
