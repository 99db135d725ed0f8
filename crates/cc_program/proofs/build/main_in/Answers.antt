use Rattle.std.proofs.Common.{◌≡◌, ◌<◌, ◌≤◌, ℕ, List, Some, length, sym, ap, ◌∙◌, subst, arith, slice_index_or}
use Rattle.std.specs.Prelude.{slice_get}
use Rattle.std.proofs.lemmas.Option.{slice_get_within}
use Rattle.cc_meaning.specs.declared.file.RawClass.{RawClass}
use Rattle.cc_program.specs.Mains.{IsMainPlan}
use Rattle.cc_program.proofs.Assembly.{some_same}
use Rattle.cc_program.proofs.Building.{row_at}
use Rattle.cc_program.proofs.MainNames.{main_is_planned}
use Rattle.cc_program.proofs.build.main_in.Goals as goal

pub main_number-requires : goal.main_number-requires
main_number-requires c =
    let main = c.requires.main.1 in
    let within = subst (λ (xs : List RawClass). c.args.main.definition < length xs) (sym c.as_slice.ensures) (slice_get_within c.args.raw.now c.args.main.definition main.class main.there) in
    let there = subst (λ (xs : List RawClass). slice_get xs c.args.main.definition ≡ Some c.index-as_slice-main.result) c.as_slice.ensures (row_at c.as_slice.result.now c.args.main.definition c.index-as_slice-main.result within c.index-as_slice-main.is) in
    let same = some_same main.class c.index-as_slice-main.result (sym main.there ∙ there) in
    let planned = main_is_planned c.args.ids.now c.args.raw.now c.args.names.now c.requires.planned.0 c.args.plans.now c.requires.main.0 c.args.main.definition c.args.main.place c.class_of-owner.result
    c.requires.tables c.requires.sound c.descriptors_agree.ensures c.requires.names c.requires.planned.1 main (c.class_of-owner.ensures main.stated main.defined) in
    (planned.0, subst (λ (class : RawClass). IsMainPlan c.args.ids.now class c.class_of-owner.result c.args.plans.now planned.0) same planned.1)

pub overflow_cast-result : goal.overflow_cast-result
overflow_cast-result c =
    let planned = c.main_number.ensures in
    let within = slice_get_within c.args.plans.now c.main_number.result planned.plan planned.there in
    let long = c.len.ensures.value in
    let most = c.if-len-gt-MOST.false in
    omega (arith, within, long, most)

pub returns : goal.returns
returns c =
    let main = c.requires.main.1 in
    let within = subst (λ (xs : List RawClass). c.args.main.definition < length xs) (sym c.as_slice.ensures) (slice_get_within c.args.raw.now c.args.main.definition main.class main.there) in
    let there = subst (λ (xs : List RawClass). slice_get xs c.args.main.definition ≡ Some c.index-as_slice-main.result) c.as_slice.ensures (row_at c.as_slice.result.now c.args.main.definition c.index-as_slice-main.result within c.index-as_slice-main.is) in
    record {
      stated = main.stated;
      defined = main.defined;
      class = c.index-as_slice-main.result;
      members = there;
      owner = c.class_of-owner.result;
      numbered = c.class_of-owner.ensures main.stated main.defined;
      planned = c.main_number.ensures;
    }
