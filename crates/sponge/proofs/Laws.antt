-- A sponge that takes parts in a row, and what is squeezed out of it: SHAKE of the parts (crates/shake/specs/Shake.antt). Assumes nothing.
use mathlib.Core.Path.{◌≡◌, refl, sym, ap, ◌∙◌, subst}
use mathlib.Core.List.{List, [], ◌∷◌, ◌++◌, append_assoc, append-nil}
use Prim.Native.Nat.{ℕ, ◌+◌, ◌<◌}
use lib.Dec.{lit<}
use lib.ListN.{length, get_or, take}
use mir.Syntax.{w8}
use mir.Val.{Fits}
use Rattle.std.specs.Borrow.{Bor}
use Rattle.std.proofs.lemmas.List.{take_more}
use Rattle.lists.specs.Lists.{Below}
use Rattle.bits.specs.Little.{words_of}
use Rattle.shake.specs.Shake.{shake}
use Rattle.shake.specs.Sponge.{squeezed, empty, absorb_bytes, finished}
use Rattle.shake.specs.declared.Sponge.{Sponge}
use Rattle.shake.proofs.Uses.{Rate, Absorbed, none, more, shakes}
use Rattle.sponge.specs.Parts.{joined}
use Rattle.sponge.specs.Full.{full}

-- one part, and parts behind it
joined_first : (part : Bor (List ℕ)) (parts : List (Bor (List ℕ))) → joined (part ∷ parts) ≡ part.now ++ joined parts
joined_first part [] = sym (append-nil part.now)
joined_first part (next ∷ parts) = refl

-- parts, and one behind them
joined_last : (parts : List (Bor (List ℕ))) (part : Bor (List ℕ)) → joined (parts ++ (part ∷ [])) ≡ joined parts ++ part.now
joined_last [] part = refl
joined_last (first ∷ parts) part =
    joined_first first (parts ++ (part ∷ [])) ∙ ap (λ (l : List ℕ). first.now ++ l) (joined_last parts part)
    ∙ sym (append_assoc first.now (joined parts) part.now) ∙ sym (ap (λ (l : List ℕ). l ++ part.now) (joined_first first parts))

-- a sponge that took i parts takes another
pub took_part : {r i : ℕ} {s t : Sponge} (parts : List (Bor (List ℕ))) (d : Bor (List ℕ)) → i < length parts → Absorbed r (joined (take i parts)) s
    → (t ≡ absorb_bytes s (get_or parts i d).now) × Below 256 (get_or parts i d).now → Absorbed r (joined (take (i + 1) parts)) t
took_part {r} {i} {t = t} parts d h took step =
    subst (λ (xs : List ℕ). Absorbed r xs t) (sym (ap joined (take_more parts i d h) ∙ joined_last (take i parts) (get_or parts i d)))
    (more _ took (λ k. record { fits = step.1 k }) step.0)

-- the sponge that the padding went to
pub taken : {r : ℕ} {xs : List ℕ} → Rate r → Below 256 xs → Absorbed r xs (absorb_bytes (empty r) xs)
taken rate bytes = record { rate = rate; bytes = bytes; is = refl }

-- what is squeezed out of it
pub squeezed_parts : {r : ℕ} (parts : List (Bor (List ℕ))) (d : ℕ) → Rate r → Below 256 (joined parts)
    → squeezed (finished (absorb_bytes (empty r) (joined parts))) d ≡ shake r (joined parts) d
squeezed_parts parts d rate bytes = shakes d (taken rate bytes) refl

-- ---- three parts, each taken as the sponge stands then

-- a slice's elements are bytes
abbrev pub Bytes : List ℕ → Type 0
Bytes xs = (i : ℕ) → Fits w8 (get_or xs i 0)

-- a new sponge that took one slice, two, and three in a row, each time as the sponge that was lent stands then
pub took_one : {r : ℕ} {s t : Sponge} (a : List ℕ) → Rate r → s ≡ empty r → Bytes a → t ≡ absorb_bytes s a → Absorbed r a t
took_one a h new x one = more a (none h new) x one

pub took_two : {r : ℕ} {s t u : Sponge} (a b : List ℕ) → Rate r → s ≡ empty r → Bytes a → t ≡ absorb_bytes s a → Bytes b → u ≡ absorb_bytes t b
    → Absorbed r (a ++ b) u
took_two a b h new x one y two = more b (took_one a h new x one) y two

pub took_three : {r : ℕ} {s t u v : Sponge} (a b c : List ℕ) → Rate r → s ≡ empty r → Bytes a → t ≡ absorb_bytes s a → Bytes b → u ≡ absorb_bytes t b
    → Bytes c → v ≡ absorb_bytes u c → Absorbed r ((a ++ b) ++ c) v
took_three a b c h new x one y two z three = more c (took_two a b h new x one y two) z three

pub three : {r : ℕ} (a b c : List ℕ) (d : ℕ) → Rate r → Bytes a → Bytes b → Bytes c → squeezed (full r a b c) d ≡ shake r (a ++ (b ++ c)) d
three {r} a b c d h x y z = shakes d (more c (more b (more a (none h refl) x refl) y refl) z refl) refl ∙ ap (λ (l : List ℕ). shake r l d) (append_assoc a b c)

-- nothing more is taken
pub nothing_more : (r : ℕ) (a : List ℕ) (d : ℕ) → shake r (a ++ []) d ≡ shake r a d
nothing_more r a d = ap (λ (l : List ℕ). shake r l d) (append-nil a)

-- of two slices, the words
pub two_words : {r : ℕ} (a b : List ℕ) (d : ℕ) → Rate r → Bytes a → Bytes b → words_of (squeezed (full r a b []) d) ≡ words_of (shake r (a ++ b) d)
two_words {r} a b d h x y = ap words_of (three a b [] d h x y (λ i. record { fits = lit< tt }) ∙ ap (λ (l : List ℕ). shake r (a ++ l) d) (append-nil b))
