use Rattle.std.proofs.Common.{◌≡◌, ℕ, ◌+◌, List, length, subst, arith}
use Rattle.std.specs.Prelude.{Ok, Err}
use Rattle.std.proofs.lemmas.Grind.{common_steps}
use Rattle.cc_meaning_script.specs.declared.listed.ListedAnswer.{ListedAnswer}
use Rattle.cc_meaning_script.specs.Script.{methods_from, givens_from, class_members}
use Rattle.cc_script.specs.Gives.{Gives}
use Rattle.cc_script.proofs.ClassLemmas.{gives_on}
use Rattle.cc_script.proofs.Resolving.{free_fault, answers_fault}
use Rattle.cc_script.proofs.resolve.class_members.Goals as goal

pub returns-in-Err-givens_of : goal.returns-in-Err-givens_of
returns-in-Err-givens_of c = λ n e.
    let given : List ListedAnswer → Type 0 = λ (pairs : List ListedAnswer). Gives (givens_from c.args.program.now c.args.listed.now.name n (length c.args.listed.now.unpinned) pairs) (Err c.in-Err-givens_of.fault) in
    let first : methods_from c.args.program.now c.args.listed.now.name n 0 c.args.listed.now.unpinned ≡ Ok c.in-Ok.methods =
    subst (λ (members : List (List ℕ)). methods_from c.args.program.now c.args.listed.now.name n 0 members ≡ Ok c.in-Ok.methods) c.as_slice.ensures (c.in-Ok.ensures n e) in
    gives_on (givens_from c.args.program.now c.args.listed.now.name n (length c.args.listed.now.unpinned) c.args.listed.now.free) (class_members c.args.program.now n c.args.class c.args.listed.now) c.in-Err-givens_of.fault
    (λ f bad. free_fault c.args.program.now n c.args.class c.args.listed.now c.in-Ok.methods f first bad)
    (subst given c.as_slice-2.ensures (c.in-Err-givens_of.ensures n (length c.args.listed.now.unpinned) e (λ at. grind (arith, common_steps))))

pub returns-in-Err-givens_of-2 : goal.returns-in-Err-givens_of-2
returns-in-Err-givens_of-2 c = λ n e.
    let start : ℕ = length c.args.listed.now.unpinned + length c.args.listed.now.free in
    let given : List ListedAnswer → Type 0 = λ (pairs : List ListedAnswer). Gives (givens_from c.args.program.now c.args.listed.now.name n start pairs) (Err c.in-Err-givens_of-2.fault) in
    let first : methods_from c.args.program.now c.args.listed.now.name n 0 c.args.listed.now.unpinned ≡ Ok c.in-Ok.methods =
    subst (λ (members : List (List ℕ)). methods_from c.args.program.now c.args.listed.now.name n 0 members ≡ Ok c.in-Ok.methods) c.as_slice.ensures (c.in-Ok.ensures n e) in
    let second : givens_from c.args.program.now c.args.listed.now.name n (length c.args.listed.now.unpinned) c.args.listed.now.free ≡ Ok c.in-Ok-givens_of.givens =
    subst (λ (pairs : List ListedAnswer). givens_from c.args.program.now c.args.listed.now.name n (length c.args.listed.now.unpinned) pairs ≡ Ok c.in-Ok-givens_of.givens) c.as_slice-2.ensures
    (c.in-Ok-givens_of.ensures n (length c.args.listed.now.unpinned) e (λ at. grind (arith, common_steps))) in
    gives_on (givens_from c.args.program.now c.args.listed.now.name n start c.args.listed.now.answers) (class_members c.args.program.now n c.args.class c.args.listed.now) c.in-Err-givens_of-2.fault
    (λ f bad. answers_fault c.args.program.now n c.args.class c.args.listed.now c.in-Ok.methods c.in-Ok-givens_of.givens f first second bad)
    (subst given c.as_slice-3.ensures (c.in-Err-givens_of-2.ensures n start e (λ at. grind (arith, common_steps))))
