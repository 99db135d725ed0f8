use Rattle.std.proofs.Common.{◌≡◌, ◌<◌, ◌↔◌, ℕ, Contains, length, map, take, sym, ap, subst, ◌∙◌, arith}
use Rattle.std.proofs.lemmas.List.{take_all, length-map}
use Rattle.cc_meaning_program.specs.Named.{text_of}
use Rattle.cc_meaning_program.specs.ClassNames.{AreTexts}
use Rattle.cc_names.proofs.TextRows.{texts_are}
use Rattle.cc_names.proofs.listed.texts.Goals as goal

pub returns-clause-texts : goal.returns-clause-texts
returns-clause-texts c =
    let ids = c.args.ids.now in
    let items = c.as_slice-row-items.result.now in
    let taken : take c.loop-row.row-index items ≡ items = take_all c.loop-row.row-index items (omega (arith, c.loop-row-test.false)) in
    let sorted = c.in_ok-rows-2.rows in
    let texts : c.loop-row.texts ≡ map (text_of ids) sorted = c.loop-row.invariant ∙ ap (map (text_of ids)) (taken ∙ c.as_slice-row-items.ensures) in
    let all : (row : ℕ) → Contains c.in_ok-rows.rows row ↔ (row < length ids.texts) = rw c.len.ensures.value at c.in_ok-rows.ensures.are in
    subst (AreTexts ids) (sym texts) (texts_are ids c.in_ok-rows.rows sorted all c.in_ok-rows-2.ensures)

pub returns-clause-few : goal.returns-clause-few
returns-clause-few c =
    let items = c.as_slice-row-items.result.now in
    let sorted = c.in_ok-rows-2.rows in
    let taken : take c.loop-row.row-index items ≡ items = take_all c.loop-row.row-index items (omega (arith, c.loop-row-test.false)) in
    let texts : c.loop-row.texts ≡ map (text_of c.args.ids.now) sorted = c.loop-row.invariant ∙ ap (map (text_of c.args.ids.now)) (taken ∙ c.as_slice-row-items.ensures) in
    omega (arith, ap length texts, length-map sorted (text_of c.args.ids.now), c.in_ok-rows-2.ensures.few, c.in_ok-rows.ensures.count, c.len.ensures.value)
