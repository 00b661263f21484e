-- What `values` leaves (docs/RULES.md, 4.9), from what unpacking, the product, the coding and the sum leave.
-- Assumes nothing.
use mathlib.Core.Path.{◌≡◌, ap, ◌∙◌}
use mathlib.Core.List.{List}
use Prim.Native.Nat.{ℕ, ◌+◌, ◌*◌}
use native.Mathlib.Omega.{arith}
use lib.ListN.{take, drop}
use lib.Seq.{drop-drop}
use Rattle.lists.specs.Lists.{residues}
use Rattle.algebra.specs.Matrix.{Matrix, mat, ◌⊕◌, mul, table}
use Rattle.algebra.proofs.Congruences.{same_add, same_refl}
use Rattle.algebra.proofs.Tables.{words_cong, same_entry}
use Rattle.sets.specs.declared.Params.{Params}
use Rattle.codec.specs.Pack.{unpacked}
use Rattle.message.specs.Message.{encoded}
use Rattle.sealing.specs.Sealing.{mask_c}

-- a sum of entries that were kept mod q is the sum mod q
sum_kept : (q rows cols : ℕ) (X Y : Matrix) {o : List ℕ} → o ≡ residues q (table rows cols X)
    → residues q (table rows cols (mat cols o ⊕ Y)) ≡ residues q (table rows cols (X ⊕ Y))
sum_kept q rows cols X Y e =
    ap (λ (l : List ℕ). residues q (table rows cols (mat cols l ⊕ Y))) e
    ∙ words_cong q rows cols (mat cols (residues q (table rows cols X)) ⊕ Y) (X ⊕ Y)
    (λ i j hi hj. (same_add (same_entry q rows cols X i j hi hj) (same_refl q (Y i j))).eq)

-- the product, to which the encoded message is added: noise is split into S', the place of E' and E''
pub values_law : (p : Params) (b msg noise : List ℕ) {s rest e words code out out' : List ℕ} → s ≡ take (8 * p.n) noise → rest ≡ drop (8 * p.n) noise → e ≡ drop (8 * p.n) rest
    → words ≡ unpacked p.d b → code ≡ encoded p.q p.b msg
    → out ≡ residues p.q (table 8 8 (mul p.n (mat p.n s) (mat 8 words) ⊕ mat 8 e))
    → out' ≡ residues p.q (table 8 8 (mat 8 out ⊕ mat 8 code))
    → out' ≡ residues p.q (mask_c p b msg (take (8 * p.n) noise) (drop (16 * p.n) noise))
unfolding mask_c
values_law p b msg noise {out = out} is-s is-rest is-e ew ec made added =
    let twice : 8 * p.n + 8 * p.n ≡ 16 * p.n = omega arith in
    let last = is-e ∙ ap (drop (8 * p.n)) is-rest ∙ drop-drop (8 * p.n) (8 * p.n) noise ∙ ap (λ (k : ℕ). drop k noise) twice in
    let X = mul p.n (mat p.n (take (8 * p.n) noise)) (mat 8 (unpacked p.d b)) ⊕ mat 8 (drop (16 * p.n) noise) in
    let product : out ≡ residues p.q (table 8 8 X) = made ∙ (λ i. residues p.q (table 8 8 (mul p.n (mat p.n (is-s i)) (mat 8 (ew i)) ⊕ mat 8 (last i)))) in
    added
    ∙ ap (λ (l : List ℕ). residues p.q (table 8 8 (mat 8 out ⊕ mat 8 l))) ec
    ∙ sum_kept p.q 8 8 X (mat 8 (encoded p.q p.b msg)) product
