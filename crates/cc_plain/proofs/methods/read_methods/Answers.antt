use Rattle.std.proofs.Common.{Some, sym, ◌∙◌}
use Rattle.cc_plain.proofs.DescriptorLemmas.{false_is_not}
use Rattle.cc_plain.proofs.MethodLemmas.{two_mains, no_method, main_step, function_step}
use Rattle.cc_plain.proofs.methods.read_methods.Goals as goal
use Rattle.cc_plain.proofs.methods.read_methods.Goals.{then-branch+else-is_some, else-branch+in_ok-function+in-Some+in_ok-push}

pub returns-then-is_some : goal.returns-then-is_some
returns-then-is_some c = λ main functions h.
    let called = rw c.as_slice.ensures at (c.in_ok-is_called_main.ensures.0 c.if-branch.true) in
    two_mains c.law_main_is_no_function.ensures c.args.file.now c.args.known.now.class c.args.members.now c.loop-member.member-index _ c.loop-member.main (Some main)
    c.loop-member.functions functions (sym c.is_some.ensures ∙ c.if-is_some.true) c.loop-member-test.true called c.loop-member.invariant h

pub returns-in_default : goal.returns-in_default
returns-in_default c = λ main functions h.
    let is = rw c.as_slice.ensures at c.in_ok-is_called_main.ensures in
    no_method c.args.file.now c.args.known.now.class c.args.members.now c.loop-member.member-index _ (Some main) functions c.loop-member-test.true
    (false_is_not c.in_ok-is_called_main.field-0 _ is c.if-branch.false) (rw c.in_default.is at c.in_ok-function.ensures) h

pub loop-member-preserved : goal.loop-member-preserved
loop-member-preserved c = elim c.if-branch.branch [
  | then-branch+else-is_some w ↦
      main_step c.args.file.now c.args.known.now.class c.args.members.now c.loop-member.member-index _ c.loop-member.main c.if-branch.main c.loop-member.functions c.if-branch.functions
      c.loop-member-test.true (sym w.is_some.ensures ∙ w.if-is_some.false) (rw c.as_slice.ensures at (c.in_ok-is_called_main.ensures.0 w.if-branch.true)) c.loop-member.invariant w.main-is w.functions-is
  | else-branch+in_ok-function+in-Some+in_ok-push w ↦
      function_step c.args.file.now c.args.known.now.class c.args.members.now c.loop-member.member-index _ c.loop-member.main c.if-branch.main c.loop-member.functions c.if-branch.functions
      w.in-Some.function c.loop-member-test.true (rw w.in-Some.is at w.in_ok-function.ensures) c.loop-member.invariant w.main-is (w.functions-is ∙ w.in_ok-push.ensures.ok)
]
