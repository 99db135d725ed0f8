use Rattle.std.proofs.Common.{rules, ◌≡◌, true, subst}
use Rattle.std.proofs.lemmas.Option.{MatchOption-at_some, MatchOption-at_none}
use Rattle.cc_meaning_plain.specs.Plain.{IsPlain}
use Rattle.cc_meaning_clone.specs.Hello.{NamesMain, no_script}
use Rattle.cc_clone.proofs.Judged.{other_name, same_bytes}
use Rattle.cc_clone.proofs.hello.judge_parts.Goals as goal

pub returns-in-None-clause-parts : goal.returns-in-None-clause-parts
returns-in-None-clause-parts c plain fits = MatchOption-at_none _ _ c.in-None.is c.in_ok-job.ensures.read plain fits.is_plain

pub returns-then-names_main-clause-parts : goal.returns-then-names_main-clause-parts
returns-then-names_main-clause-parts c =
    let hello = c.args.hello.now in
    let plain = c.in-Some.job in
    let is : IsPlain hello.file.now plain = MatchOption-at_some _ _ plain c.in-Some.is c.in_ok-job.ensures.read in
    let script : hello.script.now ≡ no_script = same_bytes hello.script.now no_script c.if-ne.ensures in
    record { is_plain = is; names_main = subst (NamesMain hello.main.now) c.plain.ensures.same (c.names_main.ensures.0 c.if-names_main.true); no_classes = script }

pub returns-else-names_main-clause-parts : goal.returns-else-names_main-clause-parts
returns-else-names_main-clause-parts c other fits =
    let hello = c.args.hello.now in
    let plain = c.in-Some.job in
    let is : IsPlain hello.file.now plain = MatchOption-at_some _ _ plain c.in-Some.is c.in_ok-job.ensures.read in
    let other_class : NamesMain hello.main.now c.plain.result.now → ⊥ = λ n. (let yes_it_is : c.names_main.result ≡ true = c.names_main.ensures.1 n in let no_it_isnt = c.if-names_main.false in absurd cc) in
    let another : NamesMain hello.main.now plain → ⊥ = subst (λ p. NamesMain hello.main.now p → ⊥) c.plain.ensures.same other_class in
    other_name c.in_ok-job.ensures.once hello.main.now hello.file.now hello.script.now plain is another other fits
