-- New objects fit.
use Rattle.std.proofs.Common.{◌≡◌, ℕ, zero, suc, ◌==◌, ◌&&◌, ◌||◌, not, Bool, true, false, cond, List, [], ◌∷◌, Option, Some, None, refl, sym, ap, subst, slice_get}
use Rattle.std.specs.Str.{bytes_eq}
use Rattle.cc_meaning.specs.declared.instruction.Kind.{Kind}
use Rattle.cc_meaning.specs.declared.instruction.Kind.TheVariants as kind
use Rattle.cc_meaning.specs.declared.program.Class.{Class}
use Rattle.cc_meaning.specs.declared.program.DexType.{DexType}
use Rattle.cc_meaning.specs.declared.program.Program.{Program}
use Rattle.cc_meaning.specs.declared.value.Object.TheVariants as object
use Rattle.cc_meaning.specs.BuiltIn.{string_name, string_builder_name}
use Rattle.cc_meaning.specs.Kinds.{kind_of, zero_of}
use Rattle.cc_meaning_typing.specs.Code.{type_of_class}
use Rattle.cc_meaning_typing.specs.Types.{class_type}
use Rattle.cc_meaning_typing.specs.Registers.{register_of, register_of_kind}
use Rattle.cc_meaning_typing.specs.WellTyped.{is_of_file, is_file_interface, is_abstract_in_file, is_never_made, can_be_made}
use Rattle.cc_sound_laws.proofs.Tests.{same_true, same_false}
use Rattle.cc_meaning_fits.specs.Fits.{Heap, ValueFits, int as an_int, long as a_long, reference as a_reference, FitsType, ValuesFit, ObjectFits}
use Rattle.cc_meaning_fits.specs.Premises.{IsLinked}
use Rattle.cc_meaning_world.specs.Layouts.{shape, zeros, new_object}
use Rattle.cc_meaning_world.specs.Sorts.{sort_of, number_of, type_of}

pub zero_fits : (p : Program) (h : Heap) (type : DexType) (k : Kind) → ValueFits p h (register_of_kind p type k) (zero_of k)
unfolding register_of_kind
zero_fits p h type kind.Wide = a_long
zero_fits p h type kind.Object = a_reference tt
zero_fits p h type kind.Plain = an_int
zero_fits p h type kind.Boolean = an_int
zero_fits p h type kind.Byte = an_int
zero_fits p h type kind.Char = an_int
zero_fits p h type kind.Short = an_int

pub zeros_fit : (p : Program) (h : Heap) (types : List DexType) → ValuesFit p h types (zeros types)
unfolding zeros register_of
zeros_fit p h [] i type e = absurd (cc)
zeros_fit p h (t ∷ ts) zero type e = (zero_of (kind_of t), refl, let q : t ≡ type = cc in subst (λ z. FitsType p h z (zero_of (kind_of t))) q (zero_fits p h t (kind_of t)))
zeros_fit p h (t ∷ ts) (suc i) type e = zeros_fit p h ts i type e

pub no_interface : (file interface abstract never : Bool) → (not (file && (interface || abstract)) && never) ≡ true → (file && interface) ≡ false
no_interface true true abstract never e = absurd (cc)
no_interface true false abstract never e = refl
no_interface false interface abstract never e = refl

pub made_class : (x : Option Class) → can_be_made x ≡ true → is_file_interface x ≡ false
unfolding can_be_made is_file_interface is_abstract_in_file
made_class None e = refl
made_class (Some c) e = no_interface (is_of_file c.kind) c.is_interface c.is_abstract _ e

pub made_named : (c : Class) → can_be_made (Some c) ≡ true → bytes_eq c.name string_name ≡ true → ⊥
unfolding can_be_made is_never_made
made_named c e n = no_name (not (is_abstract_in_file c)) (bytes_eq c.name string_name) _ e n
  where
    no_name : (a b x : Bool) → (a && not (b || x)) ≡ true → b ≡ true → ⊥
    no_name true true x e n = cc
    no_name true false x e n = cc
    no_name false b x e n = cc

pub made_some : (x : Option Class) → can_be_made x ≡ true → (c : Class) × (x ≡ Some c)
unfolding can_be_made
made_some None e = absurd (cc)
made_some (Some c) e = (c, refl)

pub no_text_made : (p : Program) (linked : IsLinked p) (class : ℕ) → can_be_made (slice_get p.classes class) ≡ true → class ≡ number_of p string_name → ⊥
no_text_made p linked class m e =
    let c = made_some (slice_get p.classes class) m in
    made_named c.0 (subst (λ z. can_be_made z ≡ true) c.1 m) (linked.text_named c.0 (subst (λ z. slice_get p.classes z ≡ Some c.0) e c.1))

pub new_fits : (p : Program) (linked : IsLinked p) (h : Heap) (class : ℕ) → can_be_made (slice_get p.classes class) ≡ true → type_of_class p class ≡ class_type class → ObjectFits p h (new_object p class)
unfolding new_object
new_fits p linked h class m t = by (class == number_of p string_builder_name) refl
  where
    by : (b : Bool) → (class == number_of p string_builder_name) ≡ b → ObjectFits p h (cond b (object.Builder []) (object.Instance class (zeros (shape p class))))
    by true e = tt
    by false e = (
      record {
        made = m;
        no_builder = λ q. same_false class (number_of p string_builder_name) e q;
        no_array = t;
      },
      zeros_fit p h (shape p class),
    )

pub new_type : (p : Program) (class : ℕ) → type_of p (sort_of (new_object p class)) ≡ class_type class
unfolding new_object sort_of type_of
new_type p class = by (class == number_of p string_builder_name) refl
  where
    by : (b : Bool) → (class == number_of p string_builder_name) ≡ b → type_of p (sort_of (cond b (object.Builder []) (object.Instance class (zeros (shape p class))))) ≡ class_type class
    by true e = ap class_type (sym (same_true class (number_of p string_builder_name) e))
    by false e = refl
