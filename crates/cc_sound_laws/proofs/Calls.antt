-- Arguments as they are read, and the method that a call finds.
use Rattle.std.proofs.Common.{◌≡◌, inl, inr, ℕ, zero, suc, ◌+◌, ◌==◌, ◌&&◌, not, Bool, true, false, cond, List, [], ◌∷◌, Option, Some, None, refl, sym, ap, ◌∙◌, subst, slice_get, arith}
use Rattle.std.specs.Str.{bytes_eq}
use Rattle.cc_meaning.specs.declared.instruction.Kind.{Kind}
use Rattle.cc_meaning.specs.declared.instruction.Kind.TheVariants as kind
use Rattle.cc_meaning.specs.declared.instruction.TypeRef.{TypeRef}
use Rattle.cc_meaning.specs.declared.program.DexType.{DexType}
use Rattle.cc_meaning.specs.declared.program.Method.{Method}
use Rattle.cc_meaning.specs.declared.program.Program.{Program}
use Rattle.cc_meaning.specs.declared.value.Cell.{Cell}
use Rattle.cc_meaning.specs.declared.value.Value.{Value}
use Rattle.cc_meaning.specs.Kinds.{kind_of}
use Rattle.cc_meaning_typing.specs.declared.state.State.{State}
use Rattle.cc_meaning_typing.specs.Hierarchy.{on_value, superclass_of, IsHierarchy, Inherits, itself, further}
use Rattle.cc_meaning_typing.specs.Types.{is_same_type}
use Rattle.cc_meaning_typing.specs.Rules.{Follows, Arguments}
use Rattle.cc_meaning_typing.proofs.Least.{test_type}
use Rattle.cc_sound_laws.proofs.Cells.{declared_read}
use Rattle.cc_sound_laws.proofs.Tests.{same_true, both_true, not_true}
use Rattle.cc_meaning_exec.specs.Dispatch.{same_types, same_result, stands_for, first_in, or_above, search_from}
use Rattle.cc_meaning_exec.specs.Registers.{onto, skipping, values_in}
use Rattle.cc_meaning_fits.specs.Fits.{Heap, AllFit, ArgumentsFit, no_more, one}

-- ---- arguments

module _ (p : Program) (hierarchy : IsHierarchy p) (made : ℕ → Option TypeRef) (h : Heap) (s : State) (cells : List Cell) (fits : AllFit p made h s.registers cells) where
  follow : (k : Kind) (r : ℕ) (rs : List ℕ) (Rest : List ℕ → Type 0) → Follows p s k r rs Rest → Rest (skipping k rs)
  unfolding skipping
  follow kind.Wide r [] Rest f = absurd f
  follow kind.Wide r (second ∷ rs) Rest f = f.2
  follow kind.Object r rs Rest f = f
  follow kind.Plain r rs Rest f = f
  follow kind.Boolean r rs Rest f = f
  follow kind.Byte r rs Rest f = f
  follow kind.Char r rs Rest f = f
  follow kind.Short r rs Rest f = f

  pub arguments_read : (types : List DexType) (rs : List ℕ) → Arguments p s types rs → (vs : List Value) × (values_in cells types rs ≡ Some vs) × ArgumentsFit p h types vs
  unfolding values_in onto
  arguments_read [] rs f = ([], refl, no_more)
  arguments_read (t ∷ ts) [] f = absurd f
  arguments_read (t ∷ ts) (r ∷ rs) f =
      let x = declared_read p hierarchy made h t r fits f.0 in
      let y = arguments_read ts (skipping (kind_of t) rs) (follow (kind_of t) r rs (Arguments p s ts) f.1) in
      (x.0 ∷ y.0, rw (x.1, y.1) refl, one x.2 y.2)

-- ---- the search for a method

type_same : (a b : DexType) → is_same_type a b ≡ true → a ≡ b
type_same a b e = elim (test_type a b) [ inl t ↦ t.1 | inr t ↦ absurd (let f = t.0 in cc) ]

types_same : (as' bs : List DexType) → same_types as' bs ≡ true → as' ≡ bs
unfolding same_types
types_same [] [] e = refl
types_same (a ∷ as') (b ∷ bs) e = let x = both_true _ _ e in let q = type_same a b x.0 in let r = types_same as' bs x.1 in cc
types_same [] (b ∷ bs) e = absurd (cc)
types_same (a ∷ as') [] e = absurd (cc)

result_same : (a b : Option DexType) → same_result a b ≡ true → a ≡ b
unfolding same_result
result_same None None e = refl
result_same (Some a) (Some b) e = ap Some (type_same a b e)
result_same None (Some b) e = absurd (cc)
result_same (Some a) None e = absurd (cc)

-- a method that a call finds: in this class, not static, with the parameters and the result of the named one
pub record IsFound (p : Program) (class : ℕ) (named : Method) (m : ℕ) : Type 0 where
  pub callee : Method
  pub there : slice_get p.methods m ≡ Some callee
  pub inherits : Inherits p class callee.class
  pub dynamic : callee.is_static ≡ false
  pub params : callee.params ≡ named.params
  pub result : callee.result ≡ named.result

record IsFirst (class : ℕ) (named : Method) (from m : ℕ) (ms : List Method) : Type 0 where
  pub callee : Method
  pub place : ℕ
  pub is : m ≡ from + place
  pub there : slice_get ms place ≡ Some callee
  pub stands : stands_for class named callee ≡ true

first_if : (class : ℕ) (named : Method) (from m : ℕ) (x : Method) (ms : List Method) (b : Bool) → stands_for class named x ≡ b → cond b (Some from) (first_in class named (suc from) ms) ≡ Some m →
    (first_in class named (suc from) ms ≡ Some m → IsFirst class named (suc from) m ms) → IsFirst class named from m (x ∷ ms)
first_if class named from m x ms true t e ih = record { callee = x; place = 0; is = let q : from ≡ m = cc in omega arith; there = refl; stands = t }
first_if class named from m x ms false t e ih = let y = ih e in record { callee = y.callee; place = suc y.place; is = let q = y.is in omega arith; there = y.there; stands = y.stands }

first : (class : ℕ) (named : Method) (from m : ℕ) (ms : List Method) → first_in class named from ms ≡ Some m → IsFirst class named from m ms
unfolding first_in
first class named from m [] e = absurd (cc)
first class named from m (x ∷ ms) e = first_if class named from m x ms (stands_for class named x) refl e (first class named (suc from) m ms)

first_found : (p : Program) (class : ℕ) (named : Method) (m : ℕ) → first_in class named 0 p.methods ≡ Some m → IsFound p class named m
unfolding stands_for
first_found p class named m e =
    let x = first class named 0 m p.methods e in
    let r : Bool = same_types x.callee.params named.params && same_result x.callee.result named.result in
    let a = both_true (x.callee.class == class) (not x.callee.is_static && (bytes_eq x.callee.name named.name && r)) x.stands in
    let b = both_true (not x.callee.is_static) (bytes_eq x.callee.name named.name && r) a.1 in
    let c = both_true (bytes_eq x.callee.name named.name) r b.1 in
    let d = both_true (same_types x.callee.params named.params) (same_result x.callee.result named.result) c.1 in
    let place : m ≡ x.place = let z = x.is in omega arith in
    record {
      callee = x.callee;
      there = ap (slice_get p.methods) place ∙ x.there;
      inherits = subst (λ z. Inherits p class z) (sym (same_true x.callee.class class a.0)) itself;
      dynamic = not_true x.callee.is_static b.0;
      params = types_same x.callee.params named.params d.0;
      result = result_same x.callee.result named.result d.1;
    }

pub further_found : (p : Program) (class above : ℕ) (named : Method) (m : ℕ) → superclass_of p class ≡ Some above → IsFound p above named m → IsFound p class named m
further_found p class above named m s f = record { callee = f.callee; there = f.there; inherits = further s f.inherits; dynamic = f.dynamic; params = f.params; result = f.result }

above_found : (p : Program) (class : ℕ) (named : Method) (m : ℕ) (go : ℕ → Option ℕ) (x : Option ℕ) → superclass_of p class ≡ x → on_value x None go ≡ Some m → ((z : ℕ) → go z ≡ Some m → IsFound p z named m) → IsFound p class named m
unfolding on_value
above_found p class named m go None s e ih = absurd (cc)
above_found p class named m go (Some z) s e ih = further_found p class z named m s (ih z e)

or_found : (p : Program) (class : ℕ) (named : Method) (m : ℕ) (here : Option ℕ) (above : Option ℕ) → first_in class named 0 p.methods ≡ here → or_above here above ≡ Some m → (above ≡ Some m → IsFound p class named m) → IsFound p class named m
unfolding or_above
or_found p class named m None above q e ih = ih e
or_found p class named m (Some x) above q e ih = first_found p class named m (q ∙ e)

pub search_found : (p : Program) (n : ℕ) (named : Method) (class m : ℕ) → search_from p n named class ≡ Some m → IsFound p class named m
unfolding search_from
search_found p zero named class m e = first_found p class named m e
search_found p (suc n) named class m e =
    or_found p class named m (first_in class named 0 p.methods) _ refl e (λ f. above_found p class named m (λ z. search_from p n named z) (superclass_of p class) refl f (λ z. search_found p n named z m))
