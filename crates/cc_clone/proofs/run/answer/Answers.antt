use Rattle.std.proofs.Common.{rules, ◌≡◌, ℕ, ℤ, List, [], ◌∷◌, Some, None, sym, ap, ◌∙◌, arith}
use Rattle.std.specs.Int.{w32, cast_signed, cast_unsigned}
use Rattle.std.proofs.lemmas.Int.{to_z-of_z}
use Rattle.std.proofs.lemmas.Option.{MatchOption-at_some, MatchOption-at_none}
use Rattle.std.proofs.lemmas.Result.{IfOk-weaker}
use Rattle.cc_meaning.specs.declared.value.Value.TheVariants as value
use Rattle.cc_meaning.specs.declared.report.CallEnd.{CallEnd}
use Rattle.cc_meaning.specs.declared.report.CallEnd.TheVariants as end
use Rattle.cc_meaning_plain.specs.Text.{value_of}
use Rattle.cc_meaning_clone.specs.Functions.{end_image}
use Rattle.cc_meaning_clone.specs.Served.{answered}
use Rattle.cc_clone.proofs.Serving.{argument_is, some_argument, returned, stopped}
use Rattle.cc_clone.proofs.run.answer.Goals as goal
use Rattle.cc_clone.proofs.run.answer.Goals.{in-Some-2, in-None}

pub unreachable-requires : goal.unreachable-requires
unreachable-requires c =
    let parts = c.runs_have_parts.ensures c.args.plain.now c.args.run.now c.requires.is_run in
    let none : None ≡ Some parts.function = c.in_default.ensures ∙ parts.found in
    absurd cc

pub at-requires : goal.at-requires
at-requires c = let one = some_argument c.args.plain.now c.args.run.now (c.runs_have_parts.ensures c.args.plain.now c.args.run.now c.requires.is_run) in omega (arith, one)

pub unreachable-requires-in_default-at : goal.unreachable-requires-in_default-at
unreachable-requires-in_default-at c =
    let parts = c.runs_have_parts.ensures c.args.plain.now c.args.run.now c.requires.is_run in
    c.in_default-at.not-Int parts.argument (argument_is c.args.plain.now c.args.run.now parts c.at.result.now c.at.ensures.get)

pub returns : goal.returns
returns c =
    let plain = c.args.plain.now in
    let run = c.args.run.now in
    let parts = c.runs_have_parts.ensures plain run c.requires.is_run in
    let same : value.Int c.in-Int.argument ≡ value.Int parts.argument = sym c.in-Int.is ∙ argument_is plain run parts c.at.result.now c.at.ensures.get in
    let args = parts.args ∙ ap (λ v. v ∷ []) (sym same) in
    let found = sym c.in-Some.ensures in
    let f = c.in-Some.function.now in
    let equal : end_image c.match-branch-2.ending.0 c.match-branch-2.ending.1 run ≡ answered plain run =
    elim c.match-branch-2.branch [
      | in-Some-2 w ↦
          let given = MatchOption-at_some _ _ (w.in-Some-2.value, w.in-Some-2.left) w.in-Some-2.is c.in_ok-value.ensures in
          ap (λ (e : CallEnd × ℕ). end_image e.0 e.1 run) w.ending-is
          ∙ returned c.answered_is.ensures plain c.requires.of_file run c.requires.is_run f c.in-Int.argument found args (cast_signed w32 (cast_unsigned w32 w.in-Some-2.value)) w.in-Some-2.left (to_z-of_z w32 w.in-Some-2.value (search rules) ∙ given.0 ∙ ap (value_of f.code) (to_z-of_z w32 c.in-Int.argument (search rules))) given.1
      | in-None w ↦
          ap (λ (e : CallEnd × ℕ). end_image e.0 e.1 run) w.ending-is
          ∙ stopped c.answered_is.ensures plain c.requires.of_file run c.requires.is_run f c.in-Int.argument found args (MatchOption-at_none _ _ w.in-None.is c.in_ok-value.ensures)
    ] in
    IfOk-weaker c.end_image.result _ _ (λ back e. e ∙ equal) c.end_image.ensures
