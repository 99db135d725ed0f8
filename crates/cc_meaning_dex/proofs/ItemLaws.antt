-- A text item is read exactly where it is spelled.
use Rattle.std.proofs.Common.{◌≡◌, ℕ, List, length, Option, Some, Result, Ok, Err, refl, sym, ap, ◌∙◌}
use Rattle.cc_meaning.specs.declared.fault.LebFault.{LebFault}
use Rattle.cc_meaning.specs.declared.fault.TextFault.{TextFault}
use Rattle.cc_meaning.specs.declared.fault.LebFault.TheVariants as leb
use Rattle.cc_meaning_dex.specs.Leb128.{uleb_at}
use Rattle.cc_meaning_dex.specs.Mutf8.{mutf8_at}
use Rattle.cc_meaning_dex.specs.Texts.{SpellsText, units_of, text_counted, text_item_at, text_at}
use Rattle.cc_meaning_dex.specs.TextLaws.{TextAgrees, OneText}
use Rattle.cc_meaning_dex.proofs.LebLaws.{uleb_agrees}
use Rattle.cc_meaning_dex.proofs.TextLaws.{mutf8_agrees, mutf8_at-length}

units_of-Some : (r : Result (List ℕ × ℕ) TextFault) (units : List ℕ) → units_of r ≡ Some units → (next : ℕ) × (r ≡ Ok (units, next))
units_of-Some (Ok text) units h = let same : text.0 ≡ units = cc in (text.1, ap (λ us. Ok (us, text.1)) same)
units_of-Some (Err fault) units h = absurd cc

text_counted-Ok : (file : List ℕ) (r : Result (ℕ × ℕ) LebFault) (units : List ℕ) (next : ℕ) → text_counted file r ≡ Ok (units, next) →
    (count : ℕ) × (place : ℕ) × (r ≡ Ok (count, place)) × (mutf8_at file place count ≡ Ok (units, next))
text_counted-Ok file (Ok count) units next h = (count.0, count.1, refl, h)
text_counted-Ok file (Err leb.CutOff) units next h = absurd cc
text_counted-Ok file (Err leb.TooBig) units next h = absurd cc

text_spelled : (file : List ℕ) (at : ℕ) (units : List ℕ) → text_at file at ≡ Some units → SpellsText file at units
unfolding text_at text_item_at
text_spelled file at units h =
    let read = units_of-Some (text_counted file (uleb_at file at)) units h in
    let head = text_counted-Ok file (uleb_at file at) units read.0 read.1 in
    let count : length units ≡ head.0 = mutf8_at-length file head.1 head.0 units read.0 head.3 in
    record {
      place = head.1;
      next = read.0;
      count = (uleb_agrees file at (length units) head.1).0 (head.2 ∙ ap (λ n. Ok (n, head.1)) (sym count));
      text = (mutf8_agrees file head.1 units read.0).0 (ap (mutf8_at file head.1) count ∙ head.3);
    }

text_read : (file : List ℕ) (at : ℕ) (units : List ℕ) → SpellsText file at units → text_at file at ≡ Some units
unfolding text_at text_item_at
text_read file at units s =
    ap (λ r. units_of (text_counted file r)) ((uleb_agrees file at (length units) s.place).1 s.count)
    ∙ ap units_of ((mutf8_agrees file s.place units s.next).1 s.text)

pub text_agrees : TextAgrees
text_agrees file at units = (text_spelled file at units, text_read file at units)

pub one_text : OneText
one_text file at these those s t =
    let same : Some these ≡ (let o : Option (List ℕ) = Some those in o) = sym (text_read file at these s) ∙ text_read file at those t in
    cc
