-- From methods to programs.
use Rattle.std.proofs.Common.{◌≡◌, inl, inr, ◌↔◌, ℕ, zero, suc, ◌+◌, ◌<◌, Bool, false, List, [], ◌∷◌, length, Some, refl, sym, ap, ◌∙◌, subst, arith, slice_get}
use Rattle.std.specs.Prelude.{IsTrue}
use Rattle.cc_meaning.specs.declared.fault.VerifyFault.{VerifyFault}
use Rattle.cc_meaning.specs.declared.program.Code.{Code}
use Rattle.cc_meaning.specs.declared.program.Method.{Method}
use Rattle.cc_meaning.specs.declared.program.MethodKind.TheVariants as kinds
use Rattle.cc_meaning.specs.declared.program.Program.{Program}
use Rattle.cc_meaning_typing.specs.Code.{Body}
use Rattle.cc_meaning_typing.specs.Hierarchy.{IsHierarchy}
use Rattle.cc_meaning_typing.specs.WellTyped.{WellTyped}
use Rattle.cc_meaning_typing.specs.Faults.{IsBodyOf, IsFirstFault, FitsWidth}
use Rattle.cc_meaning_typing.specs.VerifyLaws.{SoundHasNoFault}
use Rattle.cc_verify.specs.Verdicts.{HasNoFault, IsClear, AreClear, HasFault}
use Rattle.cc_verify.proofs.Tables.{test_eq}

pub not_so : (b : Bool) (P : Type 0) → b ≡ false → IsTrue b ↔ P → P → ⊥
not_so b P e h p = let t = h.1 p in absurd (cc)

get_inside : {A : Type 0} (xs : List A) (k : ℕ) (x : A) → slice_get xs k ≡ Some x → k < length xs
get_inside [] k x e = absurd (cc)
get_inside (y ∷ xs) zero x e = omega arith
get_inside (y ∷ xs) (suc k) x e = let h = get_inside xs k x e in omega arith

body_with : Program → Method → Code → Body
body_with program method code = record { program = program; method = method; code = code }

coded_same : (m n : Method) (c d : Code) → m ≡ n → m.kind ≡ kinds.Code c → n.kind ≡ kinds.Code d → c ≡ d
coded_same m n c d e f g = let f2 = rw e at f in cc

body_same : (program : Program) (m : ℕ) (a b : Body) → IsBodyOf program m a → IsBodyOf program m b → a ≡ b
unfolding body_with
body_same program m a b x y =
    let f = x.stands in
    let g = y.stands in
    let method : a.method ≡ b.method = cc in
    let code = coded_same a.method b.method a.code b.code method x.coded y.coded in
    ap (λ z. body_with z a.method a.code) (x.here ∙ sym y.here) ∙ ap (λ z. body_with b.program z a.code) method ∙ ap (λ z. body_with b.program b.method z) code

pub clear_of : (program : Program) (m : ℕ) (body : Body) → IsBodyOf program m body → HasNoFault body → IsClear program m
clear_of program m body of h other x = subst HasNoFault (body_same program m body other of x) h

pub clear_without : (program : Program) (m : ℕ) (method : Method) → slice_get program.methods m ≡ Some method → ((code : Code) → method.kind ≡ kinds.Code code → ⊥) → IsClear program m
clear_without program m method e none other x =
    let s = x.stands in
    let same : method ≡ other.method = cc in
    absurd (none other.code (ap (λ (z : Method). z.kind) same ∙ x.coded))

pub clear_next : (program : Program) (n : ℕ) → AreClear program n → IsClear program n → AreClear program (n + 1)
clear_next program n h c m l = elim (test_eq m n) [ inl t ↦ rw t.1 c | inr t ↦ let ne = t.1 in h m (omega arith) ]

pub clear_none : (program : Program) → AreClear program 0
clear_none program m l = absurd (omega arith)

pub first_of : (program : Program) (n : ℕ) (fault : VerifyFault) → IsHierarchy program → SoundHasNoFault → AreClear program n → HasFault program n fault → IsFirstFault program fault
first_of program n fault hierarchy law h f = record {
  number = n;
  body = f.body;
  of = f.of;
  is = f.is;
  first = λ earlier other found l x is.
      let c = h earlier l other x in
      law other earlier found (subst IsHierarchy (sym x.here) hierarchy) c.sound c.narrow is;
}

pub all_typed : (program : Program) → AreClear program (length program.methods) → WellTyped program
all_typed program h = record { sound = λ m method code e f. (h m (get_inside program.methods m method e) (record { program = program; method = method; code = code }) (record { here = refl; stands = e; coded = f })).sound }

pub all_fit : (program : Program) → AreClear program (length program.methods) → FitsWidth program
all_fit program h m body x = (h m (get_inside program.methods m body.method x.stands) body x).narrow
