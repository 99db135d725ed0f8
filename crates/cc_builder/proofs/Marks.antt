-- Rows put at marks, one after the other.
use Rattle.std.proofs.Common.{◌≡◌, ℕ, ◌+◌, ◌<◌, ◌≤◌, List, ◌∷◌, length, drop, get_or, sym, subst}
use Rattle.std.proofs.lemmas.List.{drop_all, drop_more}
use Rattle.cc_meaning.specs.declared.file.Ids.{Ids}
use Rattle.cc_meaning.specs.declared.listing.Mark.{Mark}
use Rattle.cc_meaning_builder.specs.Members.{ArePut, HasRoom, done, more, put_row}
use Rattle.cc_meaning_builder.specs.Named.{Means}

-- what is put behind a place ends as what is put behind the next one, once the mark there is put
pub put_next : (ids : Ids) (marks : List Mark) (place : ℕ) (mark : Mark) (number : ℕ) (units end : List ℕ) → place < length marks → mark ≡ get_or marks place mark → Means ids mark.row number → HasRoom mark.at number units →
    ArePut ids (drop (place + 1) marks) (put_row mark.at number units) end → ArePut ids (drop place marks) units end
put_next ids marks place mark number units end within is means room behind =
    let step : ArePut ids (mark ∷ drop (place + 1) marks) units end = more number means room behind in
    let shape : mark ∷ drop (place + 1) marks ≡ drop place marks = let cut = drop_more marks place mark within in cc in
    subst (λ all. ArePut ids all units end) shape step

pub put_none : (ids : Ids) (marks : List Mark) (place : ℕ) (units : List ℕ) → length marks ≤ place → ArePut ids (drop place marks) units units
put_none ids marks place units end = subst (λ all. ArePut ids all units units) (sym (drop_all place marks end)) done
