use Rattle.std.proofs.Common.{◌≡◌, ◌≢◌, List, ℕ, Bool, false, Option, sym, ◌∙◌, subst, true≢false}
use Rattle.std.specs.Bool.{Decides}
use Rattle.std.proofs.lemmas.Bool.Decides.{Decides-eqb}
use Rattle.std.proofs.lemmas.Slice.Eq.{slice_eq-Decides}
use Rattle.cc_meaning_plain.specs.declared.plain.Plain.{Plain}
use Rattle.cc_partition.specs.Partition.{IsNamed, nothing_moved, moves_none}
use Rattle.cc_partition.proofs.Reading.{not_quoted, no_text, no_function, a_function}
use Rattle.cc_partition.proofs.partition.read_partition.Goals as goal

-- a test whether two texts are equal failed, and one of them is this
other_text : (r : Bool) (text form whole : List ℕ) → Decides r (text ≡ form) → form ≡ whole → r ≡ false → text ≢ whole
other_text r text form whole decides same fails e = true≢false (sym (decides.1 (e ∙ sym same)) ∙ fails)

named_as : (plain : Plain) (name quoted : List ℕ) (place wanted : Option ℕ) → name ≡ quoted → place ≡ wanted → IsNamed plain name place → IsNamed plain quoted wanted
named_as plain name quoted place wanted same is named =
    subst (λ (w : Option ℕ). IsNamed plain quoted w) is (subst (λ (n : List ℕ). IsNamed plain n place) same named)

pub returns-then-eq : goal.returns-then-eq
returns-then-eq c =
    let decides = slice_eq-Decides Decides-eqb c.args.text.now c.as_slice.result.now c.eq.result c.eq.ensures in
    moves_none (decides.0 c.if-eq.true ∙ c.as_slice.ensures)

pub returns-in_default : goal.returns-in_default
returns-in_default c =
    let decides = slice_eq-Decides Decides-eqb c.args.text.now c.as_slice.result.now c.eq.result c.eq.ensures in
    not_quoted c.args.plain.now c.args.text.now (other_text c.eq.result c.args.text.now c.as_slice.result.now nothing_moved decides c.as_slice.ensures c.if-eq.false) c.in_default.ensures

pub returns-in_default-text_of : goal.returns-in_default-text_of
returns-in_default-text_of c =
    let decides = slice_eq-Decides Decides-eqb c.args.text.now c.as_slice.result.now c.eq.result c.eq.ensures in
    no_text c.args.plain.now c.args.text.now c.in-Some.quoted.now c.in-Some.ensures
    (other_text c.eq.result c.args.text.now c.as_slice.result.now nothing_moved decides c.as_slice.ensures c.if-eq.false) c.in_default-text_of.ensures

pub returns-in-Some-2 : goal.returns-in-Some-2
returns-in-Some-2 c =
    let text = c.in-Some-text_of.ensures in
    a_function c.args.plain.now c.args.text.now c.in-Some.quoted.now c.in-Some.ensures text.1 text.2 c.in-Some-2.place
    (named_as c.args.plain.now c.in-Some-text_of.name.now c.in-Some.quoted.now c.in_ok-place.field-0 _ text.0 c.in-Some-2.is c.in_ok-place.ensures)

pub returns-in-None : goal.returns-in-None
returns-in-None c =
    let text = c.in-Some-text_of.ensures in
    let decides = slice_eq-Decides Decides-eqb c.args.text.now c.as_slice.result.now c.eq.result c.eq.ensures in
    no_function c.args.plain.now c.args.text.now c.in-Some.quoted.now c.in-Some.ensures
    (other_text c.eq.result c.args.text.now c.as_slice.result.now nothing_moved decides c.as_slice.ensures c.if-eq.false)
    (named_as c.args.plain.now c.in-Some-text_of.name.now c.in-Some.quoted.now c.in_ok-place.field-0 _ text.0 c.in-None.is c.in_ok-place.ensures)
