use Rattle.std.proofs.Common.{IsTrue, refl, ◌+◌, subst, sym}
use Rattle.cc_meaning_plain.specs.Code.{held_at_first, UsesWhatIsSet}
use Rattle.cc_plain.specs.Code.{scope_in}
use Rattle.cc_plain.proofs.CodeLemmas.{code_uses}
use Rattle.cc_plain.proofs.code.read_code.Goals as goal

pub returns-else-uses_what_is_set : goal.returns-else-uses_what_is_set
returns-else-uses_what_is_set c = λ code of is.
    let read = rw c.in-Some.is at c.in_ok-insns.ensures in
    let used = code_uses c.law_insns_once.ensures c.args.file.now (scope_in c.args.known.now) c.args.kind c.args.at c.u16_at-registers.result (c.args.at + 16) c.u32_at-units.result
    c.in-Some.insns c.in-Some.last c.requires.rising read.0 c.u16_at-registers.ensures refl c.u32_at-units.ensures read.1 code of is in
    let found : IsTrue c.uses_what_is_set.result =
    c.uses_what_is_set.ensures.1 (subst (UsesWhatIsSet c.in-Some.last (held_at_first c.in-Some.last c.u16_at-registers.result)) (sym c.as_slice.ensures) used) in
    absurd cc
