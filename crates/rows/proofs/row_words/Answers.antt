-- `rows::row_words` meets its contract: the sponge has absorbed i's two bytes, then the seed, and gives the row's words.
-- Assumes nothing.
use native.Mathlib.Omega.{arith}
use Rattle.std.specs.Int.{to_le_bytes}
use Rattle.lists.proofs.Tables.{cons}
use Rattle.shake.specs.Sponge.{absorb_bytes}
use mathlib.Core.Path.{◌≡◌, ap, refl, ◌∙◌}
use mathlib.Core.List.{List, [], ◌∷◌, ◌++◌}
use Prim.Native.Nat.{ℕ, zero, suc, ◌/◌, ◌%◌, ◌<◌}
use lib.ListN.{get_or}
use mir.Syntax.{w8, w16}
use mir.Val.{Fits}
use Rattle.shake.proofs.Uses.{Absorbed, none, more, ready, squeezing, even, shakes_words}
use Rattle.rows.specs.Row.{row_words}
use Rattle.rows.proofs.row_words.Goals as goal
use Rattle.rows.proofs.row_words.Goals.{After-absorb-sponge, After-absorb-sponge-2, After-new-sponge}

-- i as two bytes, the lower first
abbrev number : ℕ → List ℕ
number i = i % 256 ∷ i / 256 ∷ []

number-bytes : (i : ℕ) → i < 65536 → (k : ℕ) → Fits w8 (get_or (number i) k 0)
number-bytes i h zero = record { fits = omega arith }
number-bytes i h (suc zero) = record { fits = omega arith }
number-bytes i h (suc (suc k)) = record { fits = omega arith }

-- and as the library writes them
written : (i : ℕ) {bytes : List ℕ} → i < 65536 → bytes ≡ to_le_bytes w16 i → bytes ≡ number i
written i h e = e ∙ cons (omega arith) (cons (omega arith) refl)

nothing : (c : After-new-sponge) → Absorbed 168 [] c.new-sponge.result
nothing c = none (omega arith, omega arith) c.new-sponge.ensures

two_bytes : (c : After-absorb-sponge) → Absorbed 168 (number c.args.i) c.absorb-sponge.result
two_bytes c = more (number c.args.i) (none (omega arith, omega arith) c.new-sponge.ensures) (number-bytes c.args.i c.requires) (c.absorb-sponge.ensures ∙ ap (absorb_bytes c.new-sponge.result) (written c.args.i c.requires c.to_le_bytes-number.ensures))

all-bytes : (c : After-absorb-sponge-2) → let a = c.args in Absorbed 168 (number a.i ++ a.seed.now) c.absorb-sponge-2.result
all-bytes c =
    let two = more (number c.args.i) (none (omega arith, omega arith) c.new-sponge.ensures) (number-bytes c.args.i c.requires) (c.absorb-sponge.ensures ∙ ap (absorb_bytes c.new-sponge.result) (written c.args.i c.requires c.to_le_bytes-number.ensures)) in
    more _ two c.type_inv.seed c.absorb-sponge-2.ensures

pub absorb-sponge-requires-2 : goal.absorb-sponge-requires-2
absorb-sponge-requires-2 c = ready (two_bytes (goal.at.absorb-sponge-requires-2 c).After-absorb-sponge)

pub finish-sponge-requires : goal.finish-sponge-requires
finish-sponge-requires c = ready (all-bytes (goal.at.finish-sponge-requires c).After-absorb-sponge-2)

pub squeeze_words-requires : goal.squeeze_words-requires
squeeze_words-requires c = (squeezing (all-bytes (goal.at.squeeze_words-requires c).After-absorb-sponge-2) c.finish-sponge.ensures, even (all-bytes (goal.at.squeeze_words-requires c).After-absorb-sponge-2) c.finish-sponge.ensures refl)

pub returns : goal.returns
unfolding row_words
returns c = c.squeeze_words.ensures.0
    ∙ shakes_words _ (all-bytes (goal.at.returns c).After-absorb-sponge-2) c.finish-sponge.ensures
