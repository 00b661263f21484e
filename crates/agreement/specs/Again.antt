-- What redoing encapsulation asks of lengths besides the ciphertext's own, and what the comparison of the first matrix leaves (docs/RULES.md, 4.10).
-- Lists are named as on entry, and with ' as on exit.
-- Assumes nothing.
use Rattle.std.specs.Prelude.{◌≡◌, List, ℕ, ◌+◌, ◌*◌, take, drop}
use Rattle.lists.specs.Lists.{residues, equal}
use Rattle.sets.specs.declared.Params.{Params}
use Rattle.codec.specs.Pack.{unpacked}
use Rattle.sealing.specs.Sealing.{mask_b}
use Rattle.opening.specs.Opening.{bit}

-- a secret key, a message and the scratches: of the scratches just the parts that it takes
pub record AgainSized (p : Params) (sk msg noise work : ℕ) : Type 0 where
  pub sk_long : sk ≡ p.sk
  pub msg_long : msg ≡ p.secret
  pub noise_long : noise ≡ 16 * p.n + 64
  pub work_long : work ≡ 8 * p.n

-- whether c1 holds S'*A + E' mod q; of the noise that this was made of S' and E'' still stand
pub record MasksCompared (p : Params) (seed c1 noise noise' : List ℕ) (same : ℕ) : Type 0 where
  pub same_is : same ≡ bit (equal (residues p.q (mask_b p seed noise)) (unpacked p.d c1))
  pub s_stays : take (8 * p.n) noise' ≡ take (8 * p.n) noise
  pub e_stays : drop (16 * p.n) noise' ≡ drop (16 * p.n) noise
