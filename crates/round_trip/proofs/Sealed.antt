-- What key generation and encapsulation leave when both are done, and what any opening is lent of it: the part of the round trip that both openings share.
-- Assumes nothing.
use mathlib.Core.Path.{◌≡◌, sym, ap, ap₂, ◌∙◌, subst}
use mathlib.Core.Bool.{true}
use mathlib.Core.List.{List}
use Prim.Native.Nat.{ℕ}
use lib.ListN.{length}
use Rattle.lists.specs.Lists.{Below}
use Rattle.sets.specs.Sets.{known, params_of}
use Rattle.sets.specs.declared.Params.{Params}
use Rattle.sets.proofs.Facts.{valid}
use Rattle.lengths.specs.Sized.{EncapsSized, DecapsSized, DecapsSecretSized, MarginSized, Scratch}
use Rattle.scheme.specs.KeyGen.{public_key, secret_key}
use Rattle.scheme.specs.Encaps.{ciphertext, shared_secret}
use Rattle.scheme.specs.Decaps.{decaps_message, decaps_secret}
use Rattle.scheme.specs.Demand3.{Demand3, sealed, recovered_message, recovered_secret}
use Rattle.scheme.proofs.Keys.{length_secret_key}
use Rattle.scheme.proofs.Ciphertexts.{length_ciphertext}
use Rattle.scheme.proofs.Demand3.{demand3}
use Rattle.frodo.specs.Keypair.{KeypairLent, KeypairLeft, keypair_done, keypair_leaves}
use Rattle.frodo.specs.Encaps.{EncapsLent, EncapsLeft, encaps_done, encaps_leaves}
use Rattle.frodo.specs.Margin.{MarginLent}
use Rattle.frodo.specs.DoneWhen.{Fits, MarginFits}
use Rattle.frodo.proofs.DoneWhen.{keypair_done_when, keypair_done_left, encaps_done_when, encaps_done_left}
use Rattle.round_trip.specs.RoundTrip.{Sealed, Opens}

module _ {k : KeypairLent} {e : EncapsLent} (made : Sealed k e) where
  abbrev p : Params
  p = params_of k.set

  a_set : known k.set ≡ true
  a_set = ((keypair_done_when k).0 made.keys_done).a_set

  seed_long : length k.seed ≡ p.seed
  seed_long = ((keypair_done_when k).0 made.keys_done).sized.seed_long

  keys : keypair_leaves k ≡ keypair_done k p
  keys = keypair_done_left k made.keys_done

  sealed_sized : EncapsSized p (length e.pk) (length e.msg) (length e.salt) (length e.ct) (length e.ss) (length e.noise) (length e.work)
  sealed_sized =
      subst (λ (s : ℕ). EncapsSized (params_of s) (length e.pk) (length e.msg) (length e.salt) (length e.ct) (length e.ss) (length e.noise) (length e.work))
      made.sealed_set ((encaps_done_when e).0 made.sealing_done).sized

  sealing : encaps_leaves e ≡ encaps_done e p
  sealing = encaps_done_left e made.sealing_done ∙ ap (λ (s : ℕ). encaps_done e (params_of s)) made.sealed_set

  public_is : e.pk ≡ public_key p k.seed
  public_is = made.public_key ∙ ap (λ (l : KeypairLeft). l.pk) keys

  secret_is : (keypair_leaves k).sk ≡ secret_key p k.seed
  secret_is = ap (λ (l : KeypairLeft). l.sk) keys

  sealed_is : (encaps_leaves e).ct ≡ sealed p k.seed e.msg e.salt
  sealed_is = ap (λ (l : EncapsLeft). l.ct) sealing ∙ ap (λ (pk : List ℕ). ciphertext p pk e.msg e.salt) public_is

  pub shared_is : (encaps_leaves e).ss ≡ shared_secret p (public_key p k.seed) e.msg e.salt
  shared_is = ap (λ (l : EncapsLeft). l.ss) sealing ∙ ap (λ (pk : List ℕ). shared_secret p pk e.msg e.salt) public_is

  -- the third demand of this seed, message and salt
  pub law : Below 256 e.msg → Demand3 p k.seed e.msg e.salt
  law bytes = demand3 p (valid k.set) k.seed e.msg e.salt seed_long sealed_sized.msg_long bytes

  -- number and lengths of a margin of the same seed, message and salt fit, once those of its scratches are said
  pub margin_fits : (m : MarginLent) → m.set ≡ k.set → m.seed ≡ k.seed → m.msg ≡ e.msg → m.salt ≡ e.salt
      → Scratch p (length m.noise) (length m.work) → MarginFits m
  margin_fits m one_set seed msg salt scratch = record {
    a_set = subst (λ (s : ℕ). known s ≡ true) (sym one_set) a_set;
    sized = subst (λ (s : ℕ). MarginSized (params_of s) (length m.seed) (length m.msg) (length m.salt) (length m.noise) (length m.work)) (sym one_set)
        (record { valid = valid k.set; seed_long = ap length seed ∙ seed_long; msg_long = ap length msg ∙ sealed_sized.msg_long; salt_long = ap length salt ∙ sealed_sized.salt_long; scratch = scratch });
  }

  -- ---- what an opening is lent of them

  module _ {set : ℕ} {sk ct : List ℕ} {ss noise work : ℕ} (o : Opens k e set sk ct ss noise work) where
    key_is : sk ≡ secret_key p k.seed
    key_is = o.secret_key ∙ secret_is

    ct_is : ct ≡ sealed p k.seed e.msg e.salt
    ct_is = o.ciphertext ∙ sealed_is

    -- it opens to what the scheme speaks of
    pub opens_to_message : decaps_message p sk ct ≡ recovered_message p k.seed e.msg e.salt
    opens_to_message = ap₂ (decaps_message p) key_is ct_is

    pub opens_to_secret : decaps_secret p sk ct ≡ recovered_secret p k.seed e.msg e.salt
    opens_to_secret = ap₂ (decaps_secret p) key_is ct_is

    key_long : length sk ≡ p.sk
    key_long = ap length key_is ∙ length_secret_key p (valid k.set) k.seed seed_long

    ct_long : length ct ≡ p.ct
    ct_long = ap length ct_is ∙ length_ciphertext p (valid k.set) (public_key p k.seed) e.msg e.salt sealed_sized.salt_long

    -- its lengths fit, once those of its own buffers are said
    pub fits : {Sized : Params → Type 0} → Sized p → Fits set Sized
    fits {Sized} sized = record { a_set = subst (λ (s : ℕ). known s ≡ true) (sym o.opened_set) a_set; sized = subst (λ (s : ℕ). Sized (params_of s)) (sym o.opened_set) sized }

    pub secret_sized : DecapsSecretSized p (length sk) (length ct) ss noise work
    secret_sized = record { valid = valid k.set; sk_long = key_long; ct_long = ct_long; ss_long = o.ss_long; scratch = o.scratch }

    pub sized : {msg : ℕ} → msg ≡ p.secret → DecapsSized p (length sk) (length ct) ss msg noise work
    sized msg_long = record { valid = valid k.set; sk_long = key_long; ct_long = ct_long; ss_long = o.ss_long; msg_long = msg_long; scratch = o.scratch }
