-- The public key (docs/RULES.md, 2.2): seedA in its first 16 bytes, and B packed behind them.
-- Assumes nothing.
use mathlib.Core.Path.{◌≡◌, ap, ap₂, ◌∙◌}
use mathlib.Core.List.{List, ◌++◌}
use mathlib.Core.Logic.{◌⊎◌, inl, inr}
use Prim.Native.Nat.{ℕ, ◌+◌, ◌*◌, ◌-◌, ◌≤◌}
use native.Mathlib.Omega.{arith}
use lib.ListN.{length, take, drop, length-drop}
use lib.Seq.{take_all}
use Rattle.sets.specs.Sets.{Valid}
use Rattle.sets.specs.declared.Params.{Params}
use Rattle.codec.specs.Pack.{packed}
use Rattle.codec.proofs.RoundTrip.{packed_words}
use Rattle.scheme.specs.Parts.{hash}
use Rattle.scheme.specs.KeyGen.{key_seed_a, key_b, public_key}
use Rattle.keys.specs.Made.{MatrixMade, PublicMade}

-- 15 and 16 are at most 16
narrow : {d : ℕ} → (d ≡ 15) ⊎ (d ≡ 16) → d ≤ 16
narrow (inl e) = omega arith
narrow (inr e) = omega arith

-- 16 bytes of the hash of z are seedA
pub is_seed_a : (p : Params) (seed : List ℕ) → length seed ≡ p.seed → {h : List ℕ} {l : ℕ} → l ≡ 16
    → h ≡ hash p (take (p.seed - (p.secret + p.seedse)) (drop (p.secret + p.seedse) seed)) l → h ≡ key_seed_a p seed
unfolding key_seed_a
is_seed_a p seed long el e =
    let z = p.secret + p.seedse in
    e ∙ ap₂ (hash p) (take_all (p.seed - z) (drop z seed) (omega (arith, length-drop z seed))) el

-- and with B packed behind it the key is whole
pub public_made : (p : Params) → Valid p → (seed : List ℕ) {h ys noise work noise' work' : List ℕ} → h ≡ key_seed_a p seed → MatrixMade p seed noise work noise' work'
    → ys ≡ packed p.d (take (8 * p.n - 0) work') → PublicMade p seed noise work (h ++ ys) noise' work'
unfolding public_key
public_made p valid seed {ys = ys} {work' = work'} e m ey =
    let k : 8 * p.n - 0 ≡ 8 * p.n = omega arith in
    let y : ys ≡ packed p.d (key_b p seed) =
    ey ∙ ap (packed p.d) (ap (λ (j : ℕ). take j work') k ∙ m.b_is) ∙ packed_words p.d (key_b p seed) (narrow valid.d_cases) in
    record { pk_is = ap₂ ◌++◌ e y; matrix = m }
