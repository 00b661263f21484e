-- How the noise of the key and of encapsulation come to stand in the scratches (docs/RULES.md, 4.11), as laws of lists.
-- Assumes nothing.
use mathlib.Core.Path.{◌≡◌, sym, ap, ap₂, ◌∙◌}
use mathlib.Core.List.{List, ◌∷◌, ◌++◌, append_assoc}
use Prim.Native.Nat.{ℕ, ◌+◌, ◌*◌, ◌-◌, ◌≤◌}
use native.Mathlib.Omega.{arith}
use lib.ListN.{length, take, drop, length-drop, take-append-drop}
use lib.Seq.{take_at, drop_at, drop-drop, take-append-le, length-take-le}
use borrow.Rule.Slice.PartMut.{put_mid}
use Rattle.lists.proofs.Spans.{length_mid, parts_whole, drop_front}
use Rattle.sets.specs.Sets.{Valid}
use Rattle.sets.specs.declared.Params.{Params}
use Rattle.codec.specs.Pack.{packed}
use Rattle.codec.proofs.RoundTrip.{packed_words}
use Rattle.rows.proofs.Rows.{bits_le}
use Rattle.keys.specs.Made.{MatrixSized, MatrixMade}
use Rattle.scheme.specs.Parts.{hash, noise_words}
use Rattle.scheme.specs.KeyGen.{key_seed_a, key_noise, key_s, key_e, key_b, public_key}
use Rattle.scheme.specs.Encaps.{draw, enc_noise, enc_s, enc_e, enc_e2}
use Rattle.scheme.proofs.Parts.{length_hash}
use Rattle.scheme.proofs.Keys.{length_key_noise, length_key_s}
use Rattle.scheme.proofs.Ciphertexts.{length_enc_noise}
use Rattle.margin.specs.Made.{key_pkh, KeyMade, CopyMade, BothMade}
use Rattle.lists.proofs.Filled.{length_front, drop_later}
use Rattle.margin.proofs.Places.{front, Row, first_is, second_is, rest_is, lent_is, exchanged}

-- ---- the key's noise and pkh

module _ (p : Params) (seed noise work : List ℕ) (sized : MatrixSized p (length seed) (length noise) (length work)) where
  -- the hash of seedA and B packed is pkh
  pub key_made : {a pkh' noise' work' : List ℕ} {k : ℕ} → a ≡ key_seed_a p seed → MatrixMade p seed noise work noise' work' → k ≡ p.secret
      → pkh' ≡ hash p (a ++ packed p.d (take (8 * p.n - 0) work')) k → KeyMade p seed noise work pkh' noise' work'
  unfolding public_key
  key_made {a} {pkh'} {noise'} {work'} ea made q e =
      let b : packed p.d (take (8 * p.n - 0) work') ≡ packed p.d (key_b p seed) =
      ap (packed p.d) (ap (λ (j : ℕ). take j work') (front (8 * p.n)) ∙ made.b_is) ∙ packed_words p.d (key_b p seed) (bits_le sized.valid) in
      record { pkh_is = e ∙ (λ i. hash p (ea i ++ b i) (q i)); noise_is = made.noise_is; rest_is = made.rest_is }

  -- S and E, copied
  pub copy_made : {pkh' noise' work' c : List ℕ} → KeyMade p seed noise work pkh' noise' work' → c ≡ take (16 * p.n - 0) noise'
      → CopyMade p seed noise work pkh' noise' (c ++ drop (16 * p.n - 0) work')
  copy_made {pkh'} {noise'} {work'} key ec =
      let n = p.n in
      let K = key_noise p seed in
      let whole : take (16 * n) (K ++ drop (16 * n) noise) ≡ K = take_at K (drop (16 * n) noise) (16 * n) (length_key_noise p sized.valid seed) in
      let tail : drop (16 * n - 0) work' ≡ drop (16 * n) work =
      ap (λ (j : ℕ). drop j work') (front (16 * n)) ∙ drop_later (9 * n) (16 * n) work' work (omega arith) key.rest_is in
      record { pkh_is = key.pkh_is; noise_is = key.noise_is; work_is = λ i. (ec ∙ ap₂ take (front (16 * n)) key.noise_is ∙ whole) i ++ tail i }

-- ---- encapsulation's noise

module _ (p : Params) (valid : Valid p) (pkh msg salt seeds noise : List ℕ) (seeds-room : 128 ≤ length seeds) (noise_room : p.noise ≤ length noise) where
  abbrev seeds_end : ℕ
  seeds_end = p.seedse + p.secret

  -- what is drawn over 0x96 and seedSE'
  pub sealing_drawn : {s x : List ℕ} → s ≡ hash p (pkh ++ (msg ++ salt)) (length (take (seeds_end - 0) seeds))
      → x ≡ noise_words p (hash p (0x96 ∷ take (p.seedse - 0) (s ++ drop (seeds_end - 0) seeds)) (2 * length (take (p.noise - 0) noise)))
      → x ++ drop (p.noise - 0) noise ≡ enc_noise p pkh msg salt ++ drop p.noise noise
  unfolding draw enc_noise
  sealing_drawn {s} {x} es ex =
      let long : length (take (seeds_end - 0) seeds) ≡ seeds_end = length_front seeds_end seeds (omega (arith, valid.seedse_high, valid.message_is, valid.b_high)) in
      let is : s ≡ draw p pkh msg salt = es ∙ ap (hash p (pkh ++ (msg ++ salt))) long in
      let ls : length s ≡ seeds_end = ap length is ∙ length_hash p valid (pkh ++ (msg ++ salt)) seeds_end in
      let seed : take (p.seedse - 0) (s ++ drop (seeds_end - 0) seeds) ≡ take p.seedse (draw p pkh msg salt) =
      ap (λ (j : ℕ). take j (s ++ drop (seeds_end - 0) seeds)) (front p.seedse) ∙ take-append-le p.seedse s (drop (seeds_end - 0) seeds) (omega arith) ∙ ap (take p.seedse) is in
      let words : length (take (p.noise - 0) noise) ≡ 16 * p.n + 64 = length_front p.noise noise noise_room ∙ valid.noise_is in
      λ i. (ex ∙ (λ k. noise_words p (hash p (0x96 ∷ seed k) (2 * words k)))) i ++ drop (front p.noise i) noise

-- ---- both

-- what stands behind 64 words at 16n
noise_end : {p : Params} → Valid p → (xs ys l : List ℕ) → drop (16 * p.n) l ≡ xs ++ ys → length xs ≡ 64 → drop p.noise l ≡ ys
noise_end {p} valid xs ys l e q = ap (λ (j : ℕ). drop j l) valid.noise_is ∙ sym (drop-drop 64 (16 * p.n) l) ∙ ap (drop 64) e ∙ drop_at xs ys 64 q

module _ (p : Params) (seed msg salt noise work : List ℕ) (valid : Valid p) {pkh' noise1 work1 : List ℕ} (key : CopyMade p seed noise work pkh' noise1 work1) where
  -- the noise drawn by encapsulation: S', E', E''
  sealing_row : {noise2 : List ℕ} → noise2 ≡ enc_noise p pkh' msg salt ++ drop p.noise noise1
      → Row p.n (enc_s p (key_pkh p seed) msg salt) (enc_e p (key_pkh p seed) msg salt) (enc_e2 p (key_pkh p seed) msg salt ++ drop p.noise noise) noise2
  sealing_row en =
      let n = p.n in
      let X = enc_noise p (key_pkh p seed) msg salt in
      let lX = length_enc_noise p valid (key_pkh p seed) msg salt in
      let twice : 8 * n + 8 * n ≡ 16 * n = omega arith in
      let tail : drop p.noise noise1 ≡ drop p.noise noise =
      ap (drop p.noise) key.noise_is ∙ drop_front noise (key_noise p seed) (16 * n) p.noise (length_key_noise p valid seed) (omega (arith, valid.noise_is)) in
      record {
        is = en ∙ (λ i. enc_noise p (key.pkh_is i) msg salt ++ tail i)
            ∙ ap (λ (t : List ℕ). t ++ drop p.noise noise) (sym (parts_whole (8 * n) (8 * n) X) ∙ ap (λ (j : ℕ). take (8 * n) X ++ (take (8 * n) (drop (8 * n) X) ++ drop j X)) twice)
            ∙ simp append_assoc;
        first = length-take-le (8 * n) X (omega arith);
        second = length_mid (8 * n) (8 * n) X (omega arith);
      }

  -- the key's: S, E
  key_row : Row p.n (key_s p seed) (key_e p seed) (drop (16 * p.n) work) work1
  key_row =
      let n = p.n in
      let K = key_noise p seed in
      record {
        is = key.work_is ∙ ap (λ (t : List ℕ). t ++ drop (16 * n) work) (sym (take-append-drop (8 * n) K)) ∙ append_assoc (key_s p seed) (key_e p seed) (drop (16 * n) work);
        first = length_key_s p valid seed;
        second = length-drop (8 * n) K ∙ omega (arith, length_key_noise p valid seed);
      }

  -- E and E' are exchanged
  pub both_made : {noise2 a b : List ℕ} → noise2 ≡ enc_noise p pkh' msg salt ++ drop p.noise noise1
      → a ≡ take (16 * p.n - 8 * p.n) (drop (8 * p.n) work1) → b ≡ take (16 * p.n - 8 * p.n) (drop (8 * p.n) noise2)
      → BothMade p seed msg salt noise work (put_mid (8 * p.n) (16 * p.n - 8 * p.n) noise2 a) (put_mid (8 * p.n) (16 * p.n - 8 * p.n) work1 b)
  both_made en ea eb =
      let n = p.n in
      let E2 = enc_e2 p (key_pkh p seed) msg salt in
      let drawn = sealing_row en in
      let N = exchanged drawn (key_e p seed) (ea ∙ lent_is key_row) key_row.second in
      let W = exchanged key_row (enc_e p (key_pkh p seed) msg salt) (eb ∙ lent_is drawn) drawn.second in
      let lE2 : length E2 ≡ 64 = length-drop (16 * n) (enc_noise p (key_pkh p seed) msg salt) ∙ omega (arith, length_enc_noise p valid (key_pkh p seed) msg salt) in
      record {
        S'_is = first_is N;
        E_is = second_is N;
        E''_is = ap (take 64) (rest_is N) ∙ take_at E2 (drop p.noise noise) 64 lE2;
        S_is = first_is W;
        E'_is = second_is W;
        noise_rest = noise_end valid E2 (drop p.noise noise) _ (rest_is N) lE2;
        work_rest = drop_later (16 * n) p.work _ work (omega (arith, valid.work_is)) (rest_is W);
      }
