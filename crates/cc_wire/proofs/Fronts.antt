-- What the bytes in front say.
use Rattle.std.proofs.Common.{◌≡◌, ℕ, ◌+◌, ◌<◌, ◌≤◌, Bool, true, false, List, [], ◌∷◌, length, take, drop, refl, sym, ap, ◌∙◌, arith, nat_le}
use Rattle.std.specs.Int.{Width, w16, w32, w64, byte_len, from_be_bytes}
use Rattle.std.proofs.lemmas.Bool.{le-leb}
use Rattle.std.proofs.lemmas.Bool.Decides.{nat_tests}
use Rattle.cc_meaning.specs.declared.fault.ImageFault.TheVariants.{CutOff}
use Rattle.cc_meaning_images.specs.Reading.{Got, got, wrong, number_if, number, byte}

pub number_got : (w : Width) (at : ℕ) (rest : List ℕ) → byte_len w ≤ length rest → number w at rest ≡ got (from_be_bytes w (take (byte_len w) rest)) (at + byte_len w) (drop (byte_len w) rest)
unfolding number number_if
number_got w at rest h = rw (le-leb (byte_len w) (length rest) h) refl

pub number_cut : (w : Width) (at : ℕ) (rest : List ℕ) → length rest < byte_len w → number w at rest ≡ wrong CutOff
unfolding number number_if
number_cut w at rest h = let few : nat_le (byte_len w) (length rest) ≡ false = grind (arith, nat_tests) in rw few refl

pub byte_cut : (at : ℕ) (rest : List ℕ) → rest ≡ [] → byte at rest ≡ wrong CutOff
unfolding byte
byte_cut at rest e = rw e refl

pub byte_got : (at b : ℕ) (rest more : List ℕ) → rest ≡ b ∷ more → byte at rest ≡ got b (at + 1) more
unfolding byte
byte_got at b rest more e = rw e refl

pub number_reads : (w : Width) (at n : ℕ) (rest front back : List ℕ) → byte_len w ≤ length rest → front ≡ take (byte_len w) rest → back ≡ drop (byte_len w) rest →
    n ≡ from_be_bytes w front → number w at rest ≡ got n (at + byte_len w) back
number_reads w at n rest front back h f b e =
    number_got w at rest h ∙ ap (λ (m : ℕ). got m (at + byte_len w) (drop (byte_len w) rest)) (sym (e ∙ ap (from_be_bytes w) f)) ∙ ap (λ (xs : List ℕ). got n (at + byte_len w) xs) (sym b)
