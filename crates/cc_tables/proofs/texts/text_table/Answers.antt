use Rattle.std.proofs.Common.{◌≡◌, subst, ap, ◌∙◌}
use Rattle.cc_meaning.specs.declared.file.Ids.{Ids}
use Rattle.cc_meaning_program.specs.ClassNames.{AreTexts}
use Rattle.cc_tables.specs.Made.{IsTextTable}
use Rattle.cc_tables.specs.Needs.{texts_of}
use Rattle.cc_tables.proofs.Mapped.{ok_weaker}
use Rattle.cc_tables.proofs.texts.text_table.Goals as goal

pub returns-clause-table : goal.returns-clause-table
returns-clause-table c =
    let given = c.only_texts-given.result in
    let all : given.texts ≡ texts_of c.args.needs.now = ap (λ (ids : Ids). ids.texts) c.only_texts-given.ensures ∙ c.in_ok-all.ensures in
    ok_weaker (AreTexts given) (IsTextTable (texts_of c.args.needs.now)) (λ texts are. subst (λ given. IsTextTable given texts) all (record { rise = are.rise; are = are.are })) c.texts.result c.texts.ensures.texts
