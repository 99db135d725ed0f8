-- The verdict on the parts of a Hello.
use Rattle.std.proofs.Common.{ℕ, List, Ok, Err, sym, subst, ◌∙◌, ◌≡◌, Bool, true, false, not, refl}
use Rattle.std.specs.Str.{bytes_eq}
use Rattle.std.proofs.lemmas.Slice.Eq.{bytes_eq-Decides}
use Rattle.cc_meaning_plain.specs.declared.plain.Plain.{Plain}
use Rattle.cc_meaning_plain.specs.Plain.{IsPlain}
use Rattle.cc_meaning_plain.specs.Laws.{PlainOnce}
use Rattle.cc_meaning_clone.specs.Hello.{SpellsHello, NamesMain, IsJudged, accepted, of_another_form, HelloOnce}
use Rattle.cc_clone.specs.Parts.{FitsHello}

-- the plain file's class is another
pub other_name : PlainOnce → (main file script : List ℕ) (plain : Plain) → IsPlain file plain → (NamesMain main plain → ⊥) → (other : Plain) → FitsHello main file script other → ⊥
other_name once main file script plain is another other fits = another (subst (NamesMain main) (once file other plain fits.is_plain is) fits.names_main)

module _ (payload main file script : List ℕ) (spells : SpellsHello payload main file script) where
  pub fits_judged : (plain : Plain) → FitsHello main file script plain → IsJudged payload (Ok plain)
  fits_judged plain fits = accepted plain (record {
    main = main;
    file = file;
    script = script;
    spells = spells;
    is_plain = fits.is_plain;
    names_main = fits.names_main;
    no_classes = fits.no_classes;
  })

  pub other_judged : HelloOnce → ((plain : Plain) → FitsHello main file script plain → ⊥) → IsJudged payload (Err 80)
  other_judged once none = of_another_form (main, file, script, spells) (λ plain of.
      let same = once payload of.main of.file of.script main file script of.spells spells in
      none plain (record {
        is_plain = subst (λ (bytes : List ℕ). IsPlain bytes plain) same.1 of.is_plain;
        names_main = subst (λ (bytes : List ℕ). NamesMain bytes plain) same.0 of.names_main;
        no_classes = sym same.2 ∙ of.no_classes;
      }))

-- a test of equality that is false when turned round
pub same_bytes : (a b : List ℕ) → false ≡ not (bytes_eq a b) → a ≡ b
same_bytes a b e = (bytes_eq-Decides a b).0 (by (bytes_eq a b) e)
  where
    by : (t : Bool) → false ≡ not t → t ≡ true
    by true h = refl
    by false h = absurd cc
