use Rattle.std.proofs.Common.{sym, ◌∙◌}
use Rattle.cc_meaning_program.specs.Members.{KindResolved}
use Rattle.cc_members.proofs.Spelling.{body_read}
use Rattle.cc_members.proofs.sources.Sources.kind.Goals as goal

pub returns-then-has_flag : goal.returns-then-has_flag
returns-then-has_flag c = λ program into. KindResolved.native (sym c.has_flag.ensures ∙ c.if-has_flag.true)

pub returns-then-has_flag-2 : goal.returns-then-has_flag-2
returns-then-has_flag-2 c = λ program into. KindResolved.abstract (sym c.has_flag.ensures ∙ c.if-has_flag.false) (sym c.has_flag-2.ensures ∙ c.if-has_flag-2.true)

pub returns : goal.returns
returns c = λ program into.
    let read = body_read c.args.raw.now.code c.args.body c.requires.read c.in-Some-Some.code c.in-Some-Some.insns c.in-Some-Some.is-0 c.in-Some-Some.is-1 in
    KindResolved.code (sym c.has_flag.ensures ∙ c.if-has_flag.false) (sym c.has_flag-2.ensures ∙ c.if-has_flag-2.false) c.in-Some-Some.is-0
    (c.in_ok-linked-in-Some-Some.ensures c.args.self.now.ids.now c.args.self.now.classes.now program into read)
