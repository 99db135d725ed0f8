-- The texts of a file's rows in order.
use Rattle.std.proofs.Common.{◌≡◌, ◌↔◌, ℕ, ◌<◌, List, [], length, map, get_or, unwrap_or, sym, ap, subst, ◌∙◌}
use Rattle.std.specs.Prelude.{Contains}
use Rattle.std.proofs.lemmas.List.Elements.{Contains-get_or}
use Rattle.std.proofs.lemmas.Option.{slice_get-get_or}
use Rattle.cc_meaning.specs.declared.file.Ids.{Ids}
use Rattle.cc_meaning_program.specs.Named.{text_of}
use Rattle.cc_meaning_program.specs.ClassNames.{AreTexts}
use Rattle.cc_names.specs.InOrder.{AreInOrder}
use Rattle.cc_names.proofs.Ordered.{mapped_from}

pub text_there : (ids : Ids) (row : ℕ) (d : List ℕ) → row < length ids.texts → text_of ids row ≡ get_or ids.texts row d
unfolding text_of
text_there ids row d within = ap (λ text. unwrap_or text []) (slice_get-get_or ids.texts row d within)

pub texts_are : (ids : Ids) (rows sorted : List ℕ) → ((row : ℕ) → Contains rows row ↔ (row < length ids.texts)) → AreInOrder (text_of ids) rows sorted → AreTexts ids (map (text_of ids) sorted)
texts_are ids rows sorted all are = record { rise = are.rise; are = λ text. (λ here. listed text (mapped_from (text_of ids) sorted text here), λ there. named text there) }
  where
    listed : (text : List ℕ) → (row : ℕ) × Contains sorted row × (text_of ids row ≡ text) → Contains ids.texts text
    listed text (row, here, is) =
        let within = (all row).0 (are.among row here) in
        subst (Contains ids.texts) (sym (text_there ids row [] within) ∙ is) (Contains-get_or ids.texts row [] within)

    named : (text : List ℕ) → Contains ids.texts text → Contains (map (text_of ids) sorted) text
    named text (row, within, is) = subst (Contains (map (text_of ids) sorted)) (text_there ids row text within ∙ is) (are.named row ((all row).1 within))
