-- What a Back of a plain file's function holds, whatever numbers its payload has.
use Rattle.std.proofs.Common.{◌≡◌, ℕ, zero, suc, ◌==◌, ◌&&◌, ℤ, true, cond, List, [], ◌∷◌, Option, Some, Ok, sym, ap, ◌∙◌, subst, arith, nat_le, slice_get}
use Rattle.std.specs.Int.{w32, w64, cast_signed}
use Rattle.std.specs.Int.RustNames.{FitsSigned}
use Rattle.std.proofs.lemmas.Int.{ints}
use Rattle.std.proofs.lemmas.Bool.{and_parts}
use Rattle.std.proofs.lemmas.Bool.Decides.{nat_tests}
use Rattle.cc_meaning.specs.declared.instruction.Kind.TheVariants as access
use Rattle.cc_meaning.specs.declared.value.Value.{Value}
use Rattle.cc_meaning.specs.declared.value.Value.TheVariants as value
use Rattle.cc_meaning.specs.declared.report.CallEnd.{CallEnd}
use Rattle.cc_meaning.specs.declared.report.CallEnd.TheVariants as end
use Rattle.cc_meaning.specs.declared.report.StopCause.{StopCause}
use Rattle.cc_meaning.specs.declared.report.StopCause.TheVariants as cause
use Rattle.cc_meaning.specs.declared.program.Base.TheVariants as base
use Rattle.cc_meaning.specs.declared.program.DexType.{DexType}
use Rattle.cc_meaning.specs.declared.image.RunImage.{RunImage}
use Rattle.cc_meaning.specs.declared.image.BackImage.{BackImage}
use Rattle.cc_meaning_images.specs.Reading.{got, reading, number, byte, values, none, result, ending_by, ending, statuses_since, static_kinds, result_of, BackHead, back_head, back_by_head, back_behind, back_fits, read_back}
use Rattle.cc_meaning_images.proofs.Numbers.{through, same_got, was_allowed}
use Rattle.cc_meaning_images.proofs.Runs.{was_whole}
use Rattle.cc_meaning_plain.specs.declared.plain.PlainFunction.{PlainFunction}
use Rattle.cc_meaning_plain.specs.declared.plain.Plain.{Plain}
use Rattle.cc_meaning_plain.specs.Program.{simple, function_number, function_of, program_of}
use Rattle.cc_meaning_plain.proofs.Numbers.{numbers_methods}
use Rattle.cc_meaning_clone.proofs.Answers.{form_is}

-- a function gives a number, or the run stops in it
pub data IsIntEnd : CallEnd → Type 0 where
  gives : {x : ℤ} → FitsSigned w32 x → IsIntEnd (end.Returned (Some (value.Int x)))
  stops : {stop : StopCause} → IsIntEnd (end.Stopped stop)

-- ---- how the function ended

signed_fits : (n : ℕ) → FitsSigned w32 (cast_signed w32 n)
signed_fits n = omega (arith, ints)

is_nothing : (at : ℕ) (rest : List ℕ) (vs : List Value) (next : ℕ) (more : List ℕ) → values [] at rest ≡ got vs next more → vs ≡ []
unfolding values
is_nothing at rest vs next more e = sym (same_got [] vs at next rest more e).0

is_number : (at : ℕ) (rest : List ℕ) (vs : List Value) (next : ℕ) (more : List ℕ) → values (access.Plain ∷ []) at rest ≡ got vs next more →
    (x : ℤ) × FitsSigned w32 x × (vs ≡ value.Int x ∷ [])
unfolding values
is_number at rest vs next more e =
    let t = through (number w32 at rest) _ vs next more e in
    let t2 = through (values [] t.next t.more) _ vs next more t.then in
    let x = cast_signed w32 t.value in
    let one = same_got (value.Int x ∷ t2.value) vs t2.next next t2.more more t2.then in
    (x, signed_fits t.value, sym one.0 ∙ ap (λ (rest : List Value). value.Int x ∷ rest) (is_nothing t.next t.more t2.value t2.next t2.more t2.first))

returned_is : (at : ℕ) (rest : List ℕ) (v : Option Value) (next : ℕ) (more : List ℕ) → result (Some (simple base.Int)) at rest ≡ got v next more → IsIntEnd (end.Returned v)
unfolding result
returned_is at rest v next more e =
    let t = through (values (access.Plain ∷ []) at rest) _ v next more e in
    let n = is_number at rest t.value t.next t.more t.first in
    let gave = same_got (slice_get t.value 0) v t.next next t.more more t.then in
    let is : Some (value.Int n.0) ≡ v = sym (ap (λ (vs : List Value). slice_get vs 0) n.2) ∙ gave.0 in
    subst (λ (x : Option Value). IsIntEnd (end.Returned x)) is (gives n.1)

ending_by_is : (b from at : ℕ) (rest : List ℕ) (e : CallEnd) (next : ℕ) (more : List ℕ) → ending_by (Some (simple base.Int)) b from at rest ≡ got e next more → IsIntEnd e
unfolding ending_by
ending_by_is zero from at rest e next more h =
    let t = through (result (Some (simple base.Int)) at rest) _ e next more h in
    subst IsIntEnd (same_got (end.Returned t.value) e t.next next t.more more t.then).0 (returned_is at rest t.value t.next t.more t.first)
ending_by_is (suc zero) from at rest e next more h = absurd cc
ending_by_is (suc (suc zero)) from at rest e next more h = subst IsIntEnd (same_got (end.Stopped cause.Budget) e at next rest more h).0 stops
ending_by_is (suc (suc (suc zero))) from at rest e next more h = subst IsIntEnd (same_got (end.Stopped cause.Heap) e at next rest more h).0 stops
ending_by_is (suc (suc (suc (suc n)))) from at rest e next more h = absurd cc

ending_is : (at : ℕ) (rest : List ℕ) (e : CallEnd) (next : ℕ) (more : List ℕ) → ending (Some (simple base.Int)) at rest ≡ got e next more → IsIntEnd e
unfolding ending
ending_is at rest e next more h =
    let t = through (byte at rest) _ e next more h in
    ending_by_is t.value at t.next t.more e next more t.then

head_is : (at : ℕ) (rest : List ℕ) (head : BackHead) (next : ℕ) (more : List ℕ) → back_head (Some (simple base.Int)) at rest ≡ got head next more → IsIntEnd head.ending
unfolding back_head
head_is at rest head next more h =
    let t1 = through (ending (Some (simple base.Int)) at rest) _ head next more h in
    let t2 = through (number w64 t1.next t1.more) _ head next more t1.then in
    let t3 = through (number w32 t2.next t2.more) _ head next more t2.then in
    let is = same_got (record { ending = t1.value; instructions = t2.value; words = t3.value }) head t3.next next t3.more more t3.then in
    subst (λ (x : BackHead). IsIntEnd x.ending) is.0 (ending_is at rest t1.value t1.next t1.more t1.first)

-- ---- what else it holds

no_more : (at : ℕ) (rest ss : List ℕ) (next : ℕ) (more : List ℕ) → statuses_since [] at rest ≡ got ss next more → ss ≡ []
unfolding statuses_since
no_more at rest ss next more e = sym (same_got [] ss at next rest more e).0

-- the one class was ready, and so it is still
still_ready : (at : ℕ) (rest ss : List ℕ) (next : ℕ) (more : List ℕ) → statuses_since (2 ∷ []) at rest ≡ got ss next more → ss ≡ 2 ∷ []
unfolding statuses_since
still_ready at rest ss next more e =
    let t = through (byte at rest) _ ss next more e in
    let k = was_allowed (nat_le t.value 3 && cond (2 == 0) true (t.value == 2)) at _ ss next more t.then in
    let t2 = through (statuses_since [] t.next t.more) _ ss next more k.1 in
    let ready : t.value ≡ 2 = let test : (t.value == 2) ≡ true = (and_parts (nat_le t.value 3) (t.value == 2) k.0).1 in grind (arith, nat_tests, test) in
    sym (same_got (t.value ∷ t2.value) ss t2.next next t2.more more t2.then).0
    ∙ ap (λ (rest : List ℕ). t.value ∷ rest) (no_more t.next t.more t2.value t2.next t2.more t2.first)
    ∙ ap (λ (status : ℕ). status ∷ []) ready

-- the Back of a function that began with its class ready
pub record IsFunctionBack (back : BackImage) : Type 0 where
  pub head : BackHead
  pub is : back ≡ back_by_head head (2 ∷ []) []
  pub ends : IsIntEnd head.ending

behind_is : (plain : Plain) (head : BackHead) (at : ℕ) (rest : List ℕ) (back : BackImage) (next : ℕ) (more : List ℕ) → back_behind (program_of plain) (2 ∷ []) head at rest ≡ got back next more →
    back ≡ back_by_head head (2 ∷ []) []
unfolding back_behind
behind_is plain head at rest back next more h =
    let p = program_of plain in
    let t1 = through (statuses_since (2 ∷ []) at rest) _ back next more h in
    let t2 = through (values (static_kinds p) t1.next t1.more) _ back next more t1.then in
    let t3 = through (none t2.next t2.more) _ back next more t2.then in
    let t4 = through (none t3.next t3.more) _ back next more t3.then in
    let t5 = through (none t4.next t4.more) _ back next more t4.then in
    let statics = is_nothing t1.next t1.more t2.value t2.next t2.more (sym (ap (λ kinds. values kinds t1.next t1.more) (form_is plain).no_statics) ∙ t2.first) in
    sym (same_got (back_by_head head t1.value t2.value) back t5.next next t5.more more t5.then).0
    ∙ ap (λ (ss : List ℕ). back_by_head head ss t2.value) (still_ready at rest t1.value t1.next t1.more t1.first)
    ∙ ap (λ (vs : List Value). back_by_head head (2 ∷ []) vs) statics

pub result_is : (plain : Plain) (function : ℕ) (f : PlainFunction) → slice_get plain.functions function ≡ Some f → result_of (slice_get (program_of plain).methods (function_number plain function)) ≡ Some (simple base.Int)
unfolding function_of
result_is plain function f e = ap result_of ((numbers_methods plain).functions function f e)

pub function_back : (plain : Plain) (function : ℕ) (f : PlainFunction) (run : RunImage) (bytes : List ℕ) (back : BackImage) → slice_get plain.functions function ≡ Some f →
    run.method ≡ function_number plain function → run.statuses ≡ 2 ∷ [] → read_back (program_of plain) run bytes ≡ Ok back → IsFunctionBack back
unfolding read_back
function_back plain function f run bytes back ef method statuses h =
    let p = program_of plain in
    let type : result_of (slice_get p.methods run.method) ≡ Some (simple base.Int) = ap (λ (m : ℕ). result_of (slice_get p.methods m)) method ∙ result_is plain function f ef in
    let w = was_whole (back_fits run) (reading (back_head (result_of (slice_get p.methods run.method)) 0 bytes) (λ head at rest. back_behind p run.statuses head at rest)) back h in
    let t = through (back_head (result_of (slice_get p.methods run.method)) 0 bytes) _ back w.at [] w.is in
    record {
      head = t.value;
      is = behind_is plain t.value t.next t.more back w.at [] (sym (ap (λ ss. back_behind p ss t.value t.next t.more) statuses) ∙ t.then);
      ends = head_is 0 bytes t.value t.next t.more (sym (ap (λ (x : Option DexType). back_head x 0 bytes) type) ∙ t.first);
    }
