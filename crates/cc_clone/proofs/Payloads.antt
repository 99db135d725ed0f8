-- The parts of a Hello, one after another.
use Rattle.std.proofs.Common.{◌≡◌, ℕ, List, [], ◌∷◌, ◌++◌, drop, Option, None, sym, ap, subst, ◌∙◌}
use Rattle.std.specs.Option.{MatchOption}
use Rattle.std.specs.Str.{IsUtf8}
use Rattle.std.proofs.lemmas.List.{append-nil}
use Rattle.cc_meaning_nodes.specs.Clone.{version}
use Rattle.cc_meaning_clone.specs.Hello.{with_length, BeginsWith, SpellsHello, IsHello, TextOnce}

pub none_gives : {X : Type 0} (o : Option X) (P : Type 0) (Q : X → Type 0) → o ≡ None → P → MatchOption o P Q
none_gives {X = X} o P Q e p = subst (λ (r : Option X). MatchOption r P Q) (sym e) p

module _ (once : TextOnce) (payload first : List ℕ) (is : payload ≡ version ∷ first) where
  begins : (main file script : List ℕ) → SpellsHello payload main file script → BeginsWith first main (with_length file ++ with_length script)
  begins main file script h = record { spelled = ap (drop 1) (sym is ∙ h.spelled); is_short = h.main_is_short }

  module _ (main second : List ℕ) (one : BeginsWith first main second) where
    begins_second : (m f s : List ℕ) → SpellsHello payload m f s → BeginsWith second f (with_length s)
    begins_second m f s h = record { spelled = (once first main second m (with_length f ++ with_length s) one (begins m f s h)).1; is_short = h.file_is_short }

    pub no_file : ((text rest : List ℕ) → BeginsWith second text rest → ⊥) → IsHello payload → ⊥
    no_file none (m, f, s, h) = none f (with_length s) (begins_second m f s h)

    main-is : (m f s : List ℕ) → SpellsHello payload m f s → main ≡ m
    main-is m f s h = (once first main second m (with_length f ++ with_length s) one (begins m f s h)).0

    pub no_text : (IsUtf8 main → ⊥) → IsHello payload → ⊥
    no_text none (m, f, s, h) = none (subst IsUtf8 (sym (main-is m f s h)) h.main_is_text)

    module _ (file third : List ℕ) (two : BeginsWith second file third) where
      begins_third : (m f s : List ℕ) → SpellsHello payload m f s → BeginsWith third s []
      begins_third m f s h = record { spelled = (once second file third f (with_length s) two (begins_second m f s h)).1 ∙ sym (append-nil (with_length s)); is_short = h.script_is_short }

      pub no_script : ((text rest : List ℕ) → BeginsWith third text rest → ⊥) → IsHello payload → ⊥
      no_script none (m, f, s, h) = none s [] (begins_third m f s h)

      pub no_end : (script rest : List ℕ) → BeginsWith third script rest → (rest ≡ [] → ⊥) → IsHello payload → ⊥
      no_end script rest three more (m, f, s, h) = more (once third script rest s [] three (begins_third m f s h)).1
