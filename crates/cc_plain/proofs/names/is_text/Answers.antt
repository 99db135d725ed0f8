use Rattle.std.proofs.Common.{subst}
use Rattle.cc_meaning_dex.specs.Leb128.{SpellsUleb}
use Rattle.cc_plain.proofs.TextLemmas.{other_count, text_from_bytes, bytes_from_text}
use Rattle.cc_plain.proofs.names.is_text.Goals as goal

pub returns-then-count-name : goal.returns-then-count-name
returns-then-count-name c =
    (λ e. absurd (cc), λ text. absurd (other_count c.one_uleb.ensures c.args.file.now c.args.at c.in-Ok.count c.in-Ok.place c.args.name.now c.in-Ok.ensures.spelled c.if-count-name.true text))

pub returns : goal.returns
returns c =
    let file = c.args.file.now in
    let name = c.args.name.now in
    let number = subst (λ n. SpellsUleb file c.args.at n c.in-Ok.place) c.if-count-name.false c.in-Ok.ensures.spelled in (
      λ e. text_from_bytes file c.args.at c.in-Ok.place name c.requires number (c.stands_ended.ensures.0 e),
      λ text. c.stands_ended.ensures.1 (bytes_from_text c.one_uleb.ensures file c.args.at c.in-Ok.count c.in-Ok.place name c.requires c.in-Ok.ensures.spelled text),
    )
