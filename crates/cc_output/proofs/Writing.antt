-- A plan is carried out.
use Rattle.std.proofs.Common.{◌≡◌, ℕ, List, [], ◌∷◌, ◌++◌, length, arith, take, drop, Option, Some, None, refl, sym, ap, ◌∙◌, append_assoc}
use Rattle.std.proofs.lemmas.List.{append-nil, take-append-drop}
use Rattle.cc_outside.specs.Telling.{more}
use Rattle.cc_outside.specs.Sinks.{Pipe}
use Rattle.cc_output.specs.Carrying.{Wrote}

more-more : (a b : List ℕ) (o : Option (List ℕ)) → more (a ++ b) o ≡ more b (more a o)
more-more a b None = refl
more-more a b (Some xs) = ap Some (sym (append_assoc xs a b))

more-nil : (o : Option (List ℕ)) → more [] o ≡ o
more-nil None = refl
more-nil (Some xs) = ap Some (append-nil xs)

pub wrote_nothing : (text : List ℕ) (p : Pipe) → length text ≡ 0 → Wrote text p p
wrote_nothing [] p e = sym (more-nil p.text)
wrote_nothing (x ∷ text) p e = absurd (omega arith)

-- rest is left of the text
abbrev pub IsWritten : List ℕ → List ℕ → Pipe → Pipe → Type 0
IsWritten text rest p p' = (front : List ℕ) × (front ++ rest ≡ text) × Wrote front p p'

pub written_more : (text rest : List ℕ) (n : ℕ) (p mid p' : Pipe) → IsWritten text rest p mid → p'.text ≡ more (take n rest) mid.text → IsWritten text (drop n rest) p p'
written_more text rest n p mid p' w e = (
  w.0 ++ take n rest,
  append_assoc w.0 (take n rest) (drop n rest) ∙ ap (λ (xs : List ℕ). w.0 ++ xs) (take-append-drop n rest) ∙ w.1,
  e ∙ ap (more (take n rest)) w.2 ∙ sym (more-more w.0 (take n rest) p.text),
)
