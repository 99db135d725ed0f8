-- A member or a pair at a place of a class.
use Rattle.std.proofs.Common.{◌≡◌, ℕ, ◌+◌, length, List, Option, Some, None, ap, sym, ◌∙◌}
use Rattle.std.specs.Prelude.{Result, Ok, Err}
use Rattle.cc_meaning.specs.declared.fault.ScriptFault.{ScriptFault}
use Rattle.cc_meaning.specs.declared.fault.ScriptFault.TheVariants as faults
use Rattle.cc_meaning.specs.declared.program.DexType.{DexType}
use Rattle.cc_meaning.specs.declared.program.Program.{Program}
use Rattle.cc_meaning.specs.declared.report.Answer.{Answer}
use Rattle.cc_meaning.specs.declared.script.Given.{Given}
use Rattle.cc_meaning.specs.declared.script.ScriptClass.{ScriptClass}
use Rattle.cc_meaning_script.specs.declared.listed.ListedAnswer.{ListedAnswer}
use Rattle.cc_meaning_script.specs.declared.listed.ListedClass.{ListedClass}
use Rattle.cc_meaning_script.specs.Answers.{answer_for}
use Rattle.cc_meaning_script.specs.Listed.{capped, on_ok}
use Rattle.cc_meaning_script.specs.Script.{scripted_named, method_or_fault, method_at, given_or_fault, given_at, result_of, methods_from, givens_from, class_members}

pub no_method : (p : Program) (class member : List ℕ) (number place c k : ℕ) → c ≡ capped number → k ≡ capped place → None ≡ scripted_named p class member →
    method_at p class number place member ≡ Err (faults.UnknownMethod c k)
no_method p class member number place c k e f none =
    ap (method_or_fault number place) (sym none) ∙ ap (λ n. Err (faults.UnknownMethod n (capped place))) (sym e) ∙ ap (λ n. Err (faults.UnknownMethod c n)) (sym f)

pub some_method : (p : Program) (class member : List ℕ) (number place m : ℕ) → Some m ≡ scripted_named p class member → method_at p class number place member ≡ Ok m
some_method p class member number place m some = ap (method_or_fault number place) (sym some)

pub given_fault : (p : Program) (class : List ℕ) (number place : ℕ) (pair : ListedAnswer) (fault : ScriptFault) → method_at p class number place pair.member ≡ Err fault →
    given_at p class number place pair ≡ Err fault
given_fault p class number place pair fault e = ap (λ r. on_ok r (λ m. given_or_fault number place m (answer_for p (result_of p m) pair.answer))) e

pub no_answer : (p : Program) (class : List ℕ) (number place m c k : ℕ) (pair : ListedAnswer) (type : Option DexType) → c ≡ capped number → k ≡ capped place →
    method_at p class number place pair.member ≡ Ok m → type ≡ result_of p m → None ≡ answer_for p type pair.answer → given_at p class number place pair ≡ Err (faults.BadAnswer c k)
no_answer p class number place m c k pair type e f good is none =
    ap (λ r. on_ok r (λ m. given_or_fault number place m (answer_for p (result_of p m) pair.answer))) good
    ∙ ap (λ t. given_or_fault number place m (answer_for p t pair.answer)) (sym is)
    ∙ ap (given_or_fault number place m) (sym none)
    ∙ ap (λ n. Err (faults.BadAnswer n (capped place))) (sym e) ∙ ap (λ n. Err (faults.BadAnswer c n)) (sym f)

pub some_answer : (p : Program) (class : List ℕ) (number place m : ℕ) (pair : ListedAnswer) (type : Option DexType) (answer : Answer) →
    method_at p class number place pair.member ≡ Ok m → type ≡ result_of p m → Some answer ≡ answer_for p type pair.answer → given_at p class number place pair ≡ Ok (record { method = m; answer = answer })
some_answer p class number place m pair type answer good is some =
    ap (λ r. on_ok r (λ m. given_or_fault number place m (answer_for p (result_of p m) pair.answer))) good
    ∙ ap (λ t. given_or_fault number place m (answer_for p t pair.answer)) (sym is)
    ∙ ap (given_or_fault number place m) (sym some)

-- ---- a class

pub free_fault : (p : Program) (number class : ℕ) (listed : ListedClass) (unpinned : List ℕ) (fault : ScriptFault) → methods_from p listed.name number 0 listed.unpinned ≡ Ok unpinned →
    givens_from p listed.name number (length listed.unpinned) listed.free ≡ Err fault → class_members p number class listed ≡ Err fault
free_fault p number class listed unpinned fault first bad =
    let ends : List ℕ → List Given → List Given → Result ScriptClass ScriptFault = λ (unpinned : List ℕ) (free : List Given) (answers : List Given). Ok (record { class = class; unpinned = unpinned; free = free; answers = answers }) in
    ap (λ r. on_ok r (λ unpinned. on_ok (givens_from p listed.name number (length listed.unpinned) listed.free) (λ free.
    on_ok (givens_from p listed.name number (length listed.unpinned + length listed.free) listed.answers) (λ answers. ends unpinned free answers)))) first
    ∙ ap (λ r. on_ok r (λ free. on_ok (givens_from p listed.name number (length listed.unpinned + length listed.free) listed.answers) (λ answers. ends unpinned free answers))) bad

pub answers_fault : (p : Program) (number class : ℕ) (listed : ListedClass) (unpinned : List ℕ) (free : List Given) (fault : ScriptFault) → methods_from p listed.name number 0 listed.unpinned ≡ Ok unpinned →
    givens_from p listed.name number (length listed.unpinned) listed.free ≡ Ok free →
    givens_from p listed.name number (length listed.unpinned + length listed.free) listed.answers ≡ Err fault → class_members p number class listed ≡ Err fault
answers_fault p number class listed unpinned free fault first second bad =
    let ends : List ℕ → List Given → List Given → Result ScriptClass ScriptFault = λ (unpinned : List ℕ) (free : List Given) (answers : List Given). Ok (record { class = class; unpinned = unpinned; free = free; answers = answers }) in
    ap (λ r. on_ok r (λ unpinned. on_ok (givens_from p listed.name number (length listed.unpinned) listed.free) (λ free.
    on_ok (givens_from p listed.name number (length listed.unpinned + length listed.free) listed.answers) (λ answers. ends unpinned free answers)))) first
    ∙ ap (λ r. on_ok r (λ free. on_ok (givens_from p listed.name number (length listed.unpinned + length listed.free) listed.answers) (λ answers. ends unpinned free answers))) second
    ∙ ap (λ r. on_ok r (λ answers. ends unpinned free answers)) bad
