-- What a valid set gives to all that follows: lengths of hashes and of noise, and words that were packed and unpacked.
-- Assumes nothing.
use mathlib.Core.Path.{◌≡◌, ◌∙◌}
use mathlib.Core.Logic.{◌⊎◌, inl, inr}
use mathlib.Core.List.{List}
use Prim.Native.Nat.{ℕ, ◌*◌, ◌≤◌, ◌<◌}
use native.Mathlib.Omega.{arith}
use lib.ListN.{length, length-map}
use lib.Pow.{pow_pos}
use Rattle.lists.specs.Lists.{residues}
use Rattle.bits.specs.Little.{words_of}
use Rattle.bits.proofs.Little.{length_words}
use Rattle.shake.proofs.Length.{length_shake}
use Rattle.sets.specs.Sets.{Valid}
use Rattle.sets.specs.declared.Params.{Params}
use Rattle.codec.specs.Pack.{packed, unpacked}
use Rattle.codec.proofs.RoundTrip.{unpack_pack}
use Rattle.message.specs.Coding.{Coding}
use Rattle.noise.specs.Noise.{sampled, table_of}
use Rattle.scheme.specs.Parts.{hash, samples, stored, noise_words}

-- one of two numbers has what both have
either : {x a b : ℕ} (P : ℕ → Type 0) → (x ≡ a) ⊎ (x ≡ b) → P a → P b → P x
either P (inl e) l r = rw e l
either P (inr e) l r = rw e r

module _ (p : Params) (valid : Valid p) where
  -- a set's q and b code messages
  pub coding : Coding p.q p.b
  coding = record {
    d = p.d;
    q_is = valid.q_is;
    d_high = either (λ x. x ≤ 16) valid.d_cases (omega arith) (omega arith);
    b_room = either (λ x. p.b < x) valid.d_cases (omega (arith, valid.b_high)) (omega (arith, valid.b_high));
    b_low = valid.b_low;
    b_high = valid.b_high;
  }

  -- neither the bits of q nor q are 0
  pub d_pos : 0 < p.d
  d_pos = either (λ x. 0 < x) valid.d_cases (omega arith) (omega arith)

  pub q_pos : 0 < p.q
  q_pos = rw valid.q_is (pow_pos p.d)

  -- as many bytes as were asked for
  pub length_hash : (x : List ℕ) (l : ℕ) → length (hash p x l) ≡ l
  unfolding hash
  length_hash x l = length_shake p.rate x l (either (λ r. 0 < r) valid.rate_cases (omega arith) (omega arith))

  -- a word for each two bytes of a hash
  pub length_noise : (x : List ℕ) (k : ℕ) → length (noise_words p (hash p x (2 * k))) ≡ k
  length_noise x k =
      length-map (samples p.chi (words_of (hash p x (2 * k)))) stored ∙ length-map (words_of (hash p x (2 * k))) (sampled (table_of p.chi)) ∙ length_words k (hash p x (2 * k)) (length_hash x (2 * k))

  -- words that were packed come back mod q
  pub packed_back : (c : ℕ) (ws : List ℕ) → length ws ≡ 8 * c → unpacked p.d (packed p.d ws) ≡ residues p.q ws
  packed_back c ws e = rw valid.q_is (unpack_pack p.d c d_pos ws e)
