use Rattle.std.proofs.Common.{sym, subst}
use Rattle.std.specs.Bool.{Decides}
use Rattle.cc_meaning_program.specs.declared.plan.MethodSource.{MethodSource}
use Rattle.cc_meaning_program.specs.Programs.{main_member}
use Rattle.cc_program.specs.Mains.{IsMainSource}
use Rattle.cc_program.proofs.MainPlans.{decides_source}
use Rattle.cc_program.proofs.main_class.is_main_source.Goals as goal

pub returns-in-Some : goal.returns-in-Some
unfolding main_member
returns-in-Some c =
    subst (λ (source : MethodSource). Decides c.is_member.result (IsMainSource c.args.ids.now c.args.class.now source)) (sym c.in-File.is)
    (decides_source c.args.ids.now c.args.class.now.methods c.in-File.place c.in-Some.method.now c.is_member.result (sym c.in-Some.ensures.value) c.is_member.ensures)
