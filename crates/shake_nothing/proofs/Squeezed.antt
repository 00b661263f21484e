-- A sponge that can take bytes can be squeezed once it is padded, whatever it has taken (crates/shake/specs/Sponge.antt), and in words where its rate is even.
-- Assumes nothing.
use mathlib.Core.Path.{◌≡◌, refl, ap, ◌∙◌}
use Prim.Native.Nat.{ℕ, ◌%◌}
use native.Mathlib.Omega.{arith}
use Rattle.shake.specs.Sponge.{Ready, Squeezing, Even, finished}
use Rattle.shake.specs.declared.Sponge.{Sponge}

pub squeezing : (p : Sponge) → Ready p → Squeezing (finished p)
unfolding finished
squeezing p h = record { small = h.small; some = omega (arith, h.within); within = omega arith }

pub words_asked : {n : ℕ} → n % 2 ≡ 0 → (p : Sponge) → Ready p → p.rate ≡ n → Squeezing (finished p) × Even (finished p)
unfolding finished
words_asked e p h f = (squeezing p h, record { rate = ap (λ (r : ℕ). r % 2) f ∙ e; place = refl })
