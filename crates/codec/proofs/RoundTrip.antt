-- Packing and unpacking, over d: lengths, bounds, and the two round trips of docs/RULES.md, 4.3. Eight words of d bits are d bytes.
-- Assumes nothing.
use mathlib.Core.Path.{◌≡◌, ◌∙◌, subst}
use mathlib.Core.List.{List}
use Prim.Native.Nat.{ℕ, ◌+◌, ◌-◌, ◌*◌, ◌^◌, ◌≤◌, ◌<◌}
use native.Mathlib.Nat.{mul_comm, zero-add, sub-add_cancel}
use lib.Dec.{lit<}
use lib.ListN.{length}
use Rattle.lists.specs.Lists.{residues, Below}
use Rattle.lists.proofs.Tables.{residues_id}
use Rattle.lists.proofs.Parts.{Joins}
use Rattle.bits.proofs.Regroup.{below_regrouped, regrouped_residues, length_regrouped, regroups, regroup_back}
use Rattle.codec.specs.Pack.{packed, unpacked}

-- packed bytes are bytes
pub below_packed : (d : ℕ) (ws : List ℕ) → Below 256 (packed d ws)
unfolding packed
below_packed d ws = below_regrouped d 8 ws

-- unpacked words are below 2^d
pub below_unpacked : (d : ℕ) (bs : List ℕ) → Below (2 ^ d) (unpacked d bs)
unfolding unpacked
below_unpacked d bs = below_regrouped 8 d bs

-- 8c words are dc bytes
pub length_packed : (d c : ℕ) (ws : List ℕ) → length ws ≡ 8 * c → length (packed d ws) ≡ d * c
unfolding packed
length_packed d c ws = length_regrouped d 8 8 d (lit< tt) (mul_comm 8 d) c ws

-- dc bytes are 8c words
pub length_unpacked : (d c : ℕ) → 0 < d → (bs : List ℕ) → length bs ≡ d * c → length (unpacked d bs) ≡ 8 * c
unfolding unpacked
length_unpacked d c pos bs = length_regrouped 8 d d 8 pos (mul_comm d 8) c bs

-- unpacking a packing gives the words mod 2^d
pub unpack_pack : (d c : ℕ) → 0 < d → (ws : List ℕ) → length ws ≡ 8 * c → unpacked d (packed d ws) ≡ residues (2 ^ d) ws
unfolding packed unpacked
unpack_pack d c pos ws = regroup_back d 8 8 d (lit< tt) (mul_comm 8 d) pos c ws

-- packing an unpacking gives the bytes
pub pack_unpack : (d c : ℕ) → 0 < d → (bs : List ℕ) → length bs ≡ d * c → Below 256 bs → packed d (unpacked d bs) ≡ bs
unfolding packed unpacked
pack_unpack d c pos bs q h = regroup_back 8 d d 8 pos (mul_comm d 8) (lit< tt) c bs q ∙ residues_id 256 bs h

-- bits above the d low ones of each word are not packed
packed_residues : (d j : ℕ) (ws : List ℕ) → packed d (residues (2 ^ (j + d)) ws) ≡ packed d ws
unfolding packed
packed_residues d j ws = regrouped_residues d 8 j ws

-- words are packed mod 2^d
pub packed_mod : (d : ℕ) (ws : List ℕ) → packed d (residues (2 ^ d) ws) ≡ packed d ws
packed_mod d ws = subst (λ (k : ℕ). packed d (residues (2 ^ k) ws) ≡ packed d ws) (zero-add d) (packed_residues d 0 ws)

-- so that words kept mod 2^16 pack as the numbers themselves
pub packed_words : (d : ℕ) (ws : List ℕ) → d ≤ 16 → packed d (residues 65536 ws) ≡ packed d ws
packed_words d ws h = subst (λ (k : ℕ). packed d (residues (2 ^ k) ws) ≡ packed d ws) (sub-add_cancel h) (packed_residues d (16 - d) ws)

-- A words of d bits are B bytes, part by part
pub packs : (d A B : ℕ) → A * d ≡ B * 8 → Joins (packed d) A B
unfolding packed
packs d A B e = regroups d 8 A B (lit< tt) e

-- A bytes are B words of d bits, part by part
pub unpacks : (d A B : ℕ) → 0 < d → A * 8 ≡ B * d → Joins (unpacked d) A B
unfolding unpacked
unpacks d A B pos e = regroups 8 d A B pos e
