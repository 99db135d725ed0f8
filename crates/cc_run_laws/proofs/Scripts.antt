-- What a script's text says of a complete program fits it.
use Rattle.std.proofs.Common.{unwrap_or, ◌≡◌, ◌≢◌, ◌⊎◌, inl, inr, ℕ, zero, suc, ◌+◌, ◌<◌, ℤ, pos, negsuc, Bool, true, false, not, ◌&&◌, ◌||◌, cond, List, [], ◌∷◌, length, slice_index_or, Option, Some, None, refl, sym, ap, ◌∙◌, subst, arith, slice_get}
use Rattle.std.specs.Prelude.{◌==◌, option_map, option_and_then, Result, Ok, Err, if◌then◌else◌}
use Rattle.std.specs.Str.{bytes_eq}
use Rattle.std.specs.Cmp.Lexicographic.{slice_cmp}
use Rattle.std.specs.Ordering.{nat_cmp}
use Rattle.std.specs.declared.cmp.Ordering.TheVariants.{Equal}
use Rattle.std.proofs.lemmas.Bool.{cases_lt}
use Rattle.std.proofs.lemmas.Cmp.{nat_list_cmp_total, tied_itself}
use Rattle.std.proofs.lemmas.Bool.Decides.{nat_tests}
use Rattle.std.proofs.lemmas.Option.{slice_get_within, get_or_from_slice_get}
use Rattle.serde_json.specs.Data.{Data}
use Rattle.cc_meaning.specs.declared.fault.ScriptFault.{ScriptFault}
use Rattle.cc_meaning.specs.declared.program.Base.{Base}
use Rattle.cc_meaning.specs.declared.program.Base.TheVariants as base
use Rattle.cc_meaning.specs.declared.program.Class.{Class}
use Rattle.cc_meaning.specs.declared.program.ClassKind.{ClassKind}
use Rattle.cc_meaning.specs.declared.program.ClassKind.TheVariants as origin
use Rattle.cc_meaning.specs.declared.program.DexType.{DexType}
use Rattle.cc_meaning.specs.declared.program.Method.{Method}
use Rattle.cc_meaning.specs.declared.program.Program.{Program}
use Rattle.cc_meaning.specs.declared.program.RegType.TheVariants as reg
use Rattle.cc_meaning.specs.declared.report.Answer.{Answer}
use Rattle.cc_meaning.specs.declared.report.Answer.TheVariants as answer
use Rattle.cc_meaning.specs.declared.script.Given.{Given}
use Rattle.cc_meaning.specs.declared.script.Script.{Script}
use Rattle.cc_meaning.specs.declared.script.ScriptClass.{ScriptClass}
use Rattle.cc_meaning.specs.BuiltIn.{is_built_in, is_built_in_throwable, object_name, string_name, system_name, print_stream_name, throwable_name, exception_name, error_name}
use Rattle.cc_meaning.specs.Lookup.{class_named}
use Rattle.cc_meaning.specs.Order.{IsBefore}
use Rattle.cc_units.specs.Units.{units_of}
use Rattle.cc_meaning_script.specs.declared.listed.Listed.{Listed}
use Rattle.cc_meaning_script.specs.declared.listed.Listed.TheVariants as listed
use Rattle.cc_meaning_script.specs.declared.listed.ListedAnswer.{ListedAnswer}
use Rattle.cc_meaning_script.specs.declared.listed.ListedClass.{ListedClass}
use Rattle.cc_meaning_script.specs.Answers.{class_listed, is_outside, is_outside_error, is_built_in_kind, can_be_thrown, holds_of, is_text_class, takes_text, when, is_within, truth_answer, int_answer, long_answer, instance_answer, object_answer, array_answer, base_answer, result_answer, thrown_answer, answer_for}
use Rattle.cc_meaning_script.specs.Listed.{on_ok, then_all, listed_classes}
use Rattle.cc_meaning_script.specs.Script.{each, method_at, given_or_fault, result_of, given_at, methods_from, givens_from, class_or_fault, class_at, classes_at, with_classes, SaysScript}
use Rattle.cc_meaning_typing.specs.Complete.{IsComplete}
use Rattle.cc_meaning_typing.specs.Code.{string_type, throwable_type, type_of_class}
use Rattle.cc_meaning_typing.specs.Hierarchy.{superclass_in, superclass_of, object_class, has_ancestor, Inherits, itself, further}
use Rattle.cc_meaning_typing.specs.Registers.{register_of_kind, register_of}
use Rattle.cc_meaning_typing.specs.Types.{typed, class_type, object_type, is_loose_kind, is_loose_in, is_loose, held_base, held, IsBelow, same, object as top, classes as by_classes, fits_class}
use Rattle.cc_meaning_typing.specs.WellTyped.{is_of_file, is_abstract_in_file, is_never_made, can_be_made, is_file_interface}
use Rattle.cc_meaning_typing.proofs.ClassTests.{class_tests}
use Rattle.cc_meaning_fits.specs.Premises.{AnswerFits, GivenFits, AllGivenFit, AllClassesFit, ScriptFits}
use Rattle.cc_meaning_world.specs.Sorts.{number_of}
use Rattle.cc_program_laws.proofs.Lists.{same_bytes, some_same}
use Rattle.cc_program_laws.proofs.Names.{object_in, throwable_in, exception_in, error_in}
use Rattle.cc_run_laws.proofs.BuiltNames.{string_in, system_in, stream_in, never_made, throwable_is}
use Rattle.cc_run_laws.proofs.Built.{plain_type, number_object, built, only_object, loose_above}
use Rattle.cc_run_laws.proofs.Throwables.{built_made, below_throwable, below_as_type, exception_throwable, error_throwable}
use Rattle.cc_run_laws.proofs.Stated.{array_register}

-- ---- tests

yes : (b : Bool) {A : Type 0} (x y : A) → when b x ≡ Some y → (b ≡ true) × (x ≡ y)
yes true x y e = (refl, some_same x y e)
yes false x y e = absurd cc

both_true : (a b : Bool) → (a && b) ≡ true → (a ≡ true) × (b ≡ true)
both_true true b e = (refl, e)
both_true false b e = absurd cc

either_true : (a b : Bool) → (a || b) ≡ true → (a ≡ true) ⊎ (b ≡ true)
either_true true b e = inl refl
either_true false b e = inr e

-- a class of a number that passes a test is there
passing : (test : Class → Bool) (p : Program) (n : ℕ) → holds_of test p n ≡ true → (c : Class) × (slice_get p.classes n ≡ Some c) × (test c ≡ true)
passing test p n e = by (slice_get p.classes n) refl e
  where
    by : (o : Option Class) → slice_get p.classes n ≡ o → unwrap_or (option_map test o) false ≡ true → (c : Class) × (slice_get p.classes n ≡ Some c) × (test c ≡ true)
    by None q e = absurd cc
    by (Some c) q e = (c, q, e)

not_before_itself : (name : List ℕ) → IsBefore name name → ⊥
not_before_itself name less =
    let same : slice_cmp nat_cmp name name ≡ Equal = tied_itself nat_list_cmp_total name in
    absurd cc

module _ (p : Program) (whole : IsComplete p) where
  -- ---- classes that a script names

  -- no two classes have one name
  apart : (i k : ℕ) (x c : Class) → i < k → slice_get p.classes i ≡ Some x → slice_get p.classes k ≡ Some c → x.name ≡ c.name → ⊥
  apart i k x c less a b equal =
      let rise = whole.in_order.classes_rise i k x less (slice_get_within p.classes k c b) in
      let one : slice_index_or p.classes i x ≡ x = get_or_from_slice_get p.classes i x x a in
      let other : slice_index_or p.classes k x ≡ c = get_or_from_slice_get p.classes k c x b in
      not_before_itself c.name (subst (λ n. IsBefore n c.name) (ap (λ (z : Class). z.name) one ∙ equal) (subst (λ (z : Class). IsBefore (slice_index_or p.classes i x).name z.name) other rise))

  -- a class that has the name of a built-in one is that
  is_built_one : (n : ℕ) (c : Class) (name : List ℕ) → slice_get p.classes n ≡ Some c → is_built_in name ≡ true → c.name ≡ name → n ≡ number_of p name
  is_built_one n c name at b named =
      let one = built p whole name b in
      elim (cases_lt n (number_of p name)) [
        | inl less ↦ absurd (apart n (number_of p name) c one.class less at one.there (named ∙ sym one.called))
        | inr more ↦ elim (cases_lt (number_of p name) n) [
          | inl less ↦ absurd (apart (number_of p name) n one.class c less one.there at (one.called ∙ sym named))
          | inr least ↦ omega (arith, more, least)
        ]
      ]

  kind_of_named : (n : ℕ) (c : Class) (name : List ℕ) → slice_get p.classes n ≡ Some c → is_built_in name ≡ true → c.name ≡ name → c.kind ≡ origin.BuiltIn
  kind_of_named n c name at b named =
      let one = built p whole name b in
      let e = is_built_one n c name at b named in
      ap (λ (z : Class). z.kind) (some_same c one.class (sym at ∙ (ap (slice_get p.classes) e ∙ one.there))) ∙ one.kind

  -- a class that isn't built in hasn't the name of one
  other_name : (n : ℕ) (c : Class) (name : List ℕ) → slice_get p.classes n ≡ Some c → is_built_in name ≡ true → c.kind ≢ origin.BuiltIn → bytes_eq c.name name ≡ false
  other_name n c name at b other = by (bytes_eq c.name name) refl
    where
      by : (t : Bool) → bytes_eq c.name name ≡ t → bytes_eq c.name name ≡ false
      by true e = absurd (other (kind_of_named n c name at b (same_bytes c.name name e)))
      by false e = e

  -- an outside class can be made
  made_outside : (n : ℕ) (c : Class) → slice_get p.classes n ≡ Some c → is_outside c.kind ≡ true → can_be_made (slice_get p.classes n) ≡ true
  unfolding can_be_made is_abstract_in_file is_never_made is_of_file
  made_outside n c at e =
      let other = no_built_in c.kind e in
      ap can_be_made at
      ∙ (ap (λ b. not (b && (c.is_interface || c.is_abstract)) && not (is_never_made c)) (no_file c.kind e)
      ∙ (ap (λ b. not (b || (bytes_eq c.name system_name || bytes_eq c.name print_stream_name))) (other_name n c string_name at string_in other)
      ∙ (ap (λ b. not (b || bytes_eq c.name print_stream_name)) (other_name n c system_name at system_in other)
      ∙ ap not (other_name n c print_stream_name at stream_in other))))
    where
      no_file : (k : ClassKind) → is_outside k ≡ true → is_of_file k ≡ false
      no_file origin.File e = absurd cc
      no_file origin.BuiltIn e = refl
      no_file origin.Outside e = refl
      no_file origin.OutsideError e = refl
      no_file origin.Array e = refl

      no_built_in : (k : ClassKind) → is_outside k ≡ true → k ≢ origin.BuiltIn
      no_built_in origin.File e q = cc
      no_built_in origin.BuiltIn e q = cc
      no_built_in origin.Outside e q = cc
      no_built_in origin.OutsideError e q = cc
      no_built_in origin.Array e q = cc

  no_array : (k : ClassKind) → is_outside k ≡ true → k ≢ origin.Array
  no_array origin.File e q = cc
  no_array origin.BuiltIn e q = cc
  no_array origin.Outside e q = cc
  no_array origin.OutsideError e q = cc
  no_array origin.Array e q = cc

  outside_no_interface : (n : ℕ) (c : Class) → slice_get p.classes n ≡ Some c → is_outside c.kind ≡ true → is_file_interface (slice_get p.classes n) ≡ false
  unfolding is_file_interface is_of_file
  outside_no_interface n c at e = ap is_file_interface at ∙ by c.kind e
    where
      by : (k : ClassKind) → is_outside k ≡ true → (is_of_file k && c.is_interface) ≡ false
      by origin.File e = absurd cc
      by origin.BuiltIn e = refl
      by origin.Outside e = refl
      by origin.OutsideError e = refl
      by origin.Array e = refl

  -- ---- below

  held_loose : (n : ℕ) → is_loose p n ≡ true → held p (class_type n) ≡ object_type p
  unfolding held held_base
  held_loose n e = ap (λ b. class_type (cond b (object_class p) n)) e

  held_itself : (n : ℕ) → is_loose p n ≡ false → held p (class_type n) ≡ class_type n
  unfolding held held_base
  held_itself n e = ap (λ b. class_type (cond b (object_class p) n)) e

  held_object : held p (object_type p) ≡ object_type p
  held_object = held_itself (object_class p) (ap (is_loose p) (number_object p) ∙ (built p whole object_name object_in).held)

  -- an object of a class fits a declared class, as both are held
  fitting : (n declared : ℕ) → n < length p.classes → is_file_interface (slice_get p.classes n) ≡ false → fits_class p n declared ≡ true → IsBelow p (held p (class_type n)) (held p (class_type declared))
  unfolding fits_class
  fitting n declared within plain e = by (is_loose p declared) refl e
    where
      under : {low high : ℕ} → Inherits p low high → low ≡ n → high ≡ declared → is_loose p n ≡ true → is_loose p declared ≡ false → declared ≡ object_class p
      under itself a b l d = absurd (let q = ap (is_loose p) (sym a ∙ b) in cc)
      under (further {class = low} {above = next} s h) a b l d =
          let o = loose_above p whole n next l plain (ap (superclass_of p) (sym a) ∙ s) in
          sym b ∙ only_object p whole h o

      inherits : is_loose p declared ≡ false → (b : Bool) → is_loose p n ≡ b → Inherits p n declared → IsBelow p (held p (class_type n)) (held p (class_type declared))
      inherits d true l h = top (ap (λ z. held p (class_type z)) (under h refl refl l d) ∙ held_object)
      inherits d false l h = subst (λ z. IsBelow p z (held p (class_type declared))) (sym (held_itself n l)) (subst (IsBelow p (class_type n)) (sym (held_itself declared d)) (by_classes h d))

      by : (b : Bool) → is_loose p declared ≡ b → cond b true (has_ancestor p n declared) ≡ true → IsBelow p (held p (class_type n)) (held p (class_type declared))
      by true l e = top (held_loose declared l)
      by false l e = inherits l (is_loose p n) refl (((class_tests p whole.well_formed.hierarchy).ancestors n declared within).0 e)

  -- ---- exceptions

  abbrev Thrown : ℕ → Type 0
  Thrown n = (can_be_made (slice_get p.classes n) ≡ true) × (type_of_class p n ≡ class_type n) × IsBelow p (held p (class_type n)) (throwable_type p)

  thrown : (n : ℕ) (c : Class) → slice_get p.classes n ≡ Some c → can_be_thrown c ≡ true → Thrown n
  unfolding throwable_type number_of superclass_of superclass_in is_loose is_loose_in is_loose_kind never_made
  thrown n c at e = elim (either_true (is_outside_error c.kind) (is_built_in_kind c.kind && is_built_in_throwable c.name) e) [
    | inl o ↦ outside (error_kind c.kind o)
    | inr b ↦ (
        let two = both_true (is_built_in_kind c.kind) (is_built_in_throwable c.name) b in
        let t = throwable_is c.name two.1 in
        let q = is_built_one n c c.name at t.0 refl in
        let one = built p whole c.name t.0 in
        subst Thrown (sym q) (built_made p whole c.name t.0 t.1, one.is_type, subst (λ z. IsBelow p (held p z) (throwable_type p)) one.is_type (below_as_type p whole c.name t.0 two.1)))
  ]
    where
      error_kind : (k : ClassKind) → is_outside_error k ≡ true → k ≡ origin.OutsideError
      error_kind origin.File e = absurd cc
      error_kind origin.BuiltIn e = absurd cc
      error_kind origin.Outside e = absurd cc
      error_kind origin.OutsideError e = refl
      error_kind origin.Array e = absurd cc

      under : (name : List ℕ) → is_built_in name ≡ true → is_built_in_throwable name ≡ true → c.superclass ≡ class_named name p → Inherits p n (number_of p throwable_name)
      under name b t s = further (ap superclass_in at ∙ (s ∙ (built p whole name b).named)) (below_throwable p whole name t)

      outside : c.kind ≡ origin.OutsideError → Thrown n
      outside k =
          let h : Inherits p n (number_of p throwable_name) = elim ((whole.classes n c at).below.outside_error k) [ inl s ↦ under exception_name exception_in exception_throwable s | inr s ↦ under error_name error_in error_throwable s ] in
          let own : is_loose p n ≡ false = ap is_loose_in at ∙ ap (λ z. is_loose_kind z c.is_interface) k in (
            made_outside n c at (ap is_outside k),
            plain_type p n c at (λ q. let z = k in cc),
            subst (λ z. IsBelow p z (throwable_type p)) (sym (held_itself n own)) (by_classes h (built p whole throwable_name throwable_in).held),
          )

  -- ---- answers

  int_is : (type : DexType) (low high : ℤ) (said : Listed) (a : Answer) → register_of p type ≡ reg.Int → int_answer low high said ≡ Some a → AnswerFits p (Some type) a
  int_is type low high (listed.Whole n) a r e = subst (AnswerFits p (Some type)) (yes (is_within low high n) (answer.Int n) a e).1 (type, refl, r)
  int_is type low high listed.Null a r e = absurd cc
  int_is type low high (listed.Truth b) a r e = absurd cc
  int_is type low high (listed.Text t) a r e = absurd cc
  int_is type low high (listed.Object t) a r e = absurd cc
  int_is type low high (listed.Throw t) a r e = absurd cc
  int_is type low high listed.Other a r e = absurd cc

  truth_is : (type : DexType) (said : Listed) (a : Answer) → register_of p type ≡ reg.Int → truth_answer said ≡ Some a → AnswerFits p (Some type) a
  truth_is type (listed.Truth true) a r e = subst (AnswerFits p (Some type)) (some_same (answer.Int (pos 1)) a e) (type, refl, r)
  truth_is type (listed.Truth false) a r e = subst (AnswerFits p (Some type)) (some_same (answer.Int (pos 0)) a e) (type, refl, r)
  truth_is type listed.Null a r e = absurd cc
  truth_is type (listed.Whole n) a r e = absurd cc
  truth_is type (listed.Text t) a r e = absurd cc
  truth_is type (listed.Object t) a r e = absurd cc
  truth_is type (listed.Throw t) a r e = absurd cc
  truth_is type listed.Other a r e = absurd cc

  long_is : (type : DexType) (said : Listed) (a : Answer) → register_of p type ≡ reg.LongLow → long_answer said ≡ Some a → AnswerFits p (Some type) a
  long_is type (listed.Whole n) a r e = subst (AnswerFits p (Some type)) (some_same (answer.Long n) a e) (type, refl, r)
  long_is type listed.Null a r e = absurd cc
  long_is type (listed.Truth b) a r e = absurd cc
  long_is type (listed.Text t) a r e = absurd cc
  long_is type (listed.Object t) a r e = absurd cc
  long_is type (listed.Throw t) a r e = absurd cc
  long_is type listed.Other a r e = absurd cc

  -- a text is below what takes it
  text_below : (declared : ℕ) → takes_text p declared ≡ true → IsBelow p (held p (string_type p)) (held p (class_type declared))
  unfolding string_type number_of
  text_below declared e = elim (either_true (is_loose p declared) (holds_of is_text_class p declared) e) [
    | inl l ↦ top (held_loose declared l)
    | inr h ↦ (
        let c = passing is_text_class p declared h in
        elim (either_true (bytes_eq c.0.name string_name) (bytes_eq c.0.name object_name) c.2) [
          | inl s ↦ subst (λ z. IsBelow p (held p (string_type p)) (held p (class_type z))) (sym (is_built_one declared c.0 string_name c.1 string_in (same_bytes c.0.name string_name s))) same
          | inr o ↦ top (ap (λ z. held p (class_type z)) (is_built_one declared c.0 object_name c.1 object_in (same_bytes c.0.name object_name o) ∙ sym (number_object p)) ∙ held_object)
        ])
  ]

  object_is : (declared : ℕ) (said : Listed) (a : Answer) → object_answer p declared said ≡ Some a → AnswerFits p (Some (class_type declared)) a
  unfolding register_of register_of_kind
  object_is declared listed.Null a e = subst (AnswerFits p (Some (class_type declared))) (some_same answer.Null a e) (class_type declared, refl, refl, tt)
  object_is declared (listed.Text t) a e =
      let y = yes (takes_text p declared) (answer.Text (units_of t)) a e in
      subst (AnswerFits p (Some (class_type declared))) y.1 (class_type declared, refl, refl, text_below declared y.0)
  object_is declared (listed.Object t) a e = by (class_listed p t) e
    where
      by : (o : Option ℕ) → instance_answer p declared o ≡ Some a → AnswerFits p (Some (class_type declared)) a
      by None e = absurd cc
      by (Some n) e =
          let y = yes (holds_of (λ (c : Class). is_outside c.kind) p n && fits_class p n declared) (answer.Instance n) a e in
          let two = both_true (holds_of (λ (c : Class). is_outside c.kind) p n) (fits_class p n declared) y.0 in
          let c = passing (λ (z : Class). is_outside z.kind) p n two.0 in
          subst (AnswerFits p (Some (class_type declared))) y.1
          (made_outside n c.0 c.1 c.2, plain_type p n c.0 c.1 (no_array c.0.kind c.2), (class_type declared, refl, refl, fitting n declared (slice_get_within p.classes n c.0 c.1) (outside_no_interface n c.0 c.1 c.2) two.1))
  object_is declared (listed.Truth b) a e = absurd cc
  object_is declared (listed.Whole n) a e = absurd cc
  object_is declared (listed.Throw t) a e = absurd cc
  object_is declared listed.Other a e = absurd cc

  base_is : (b : Base) (said : Listed) (a : Answer) → base_answer p b said ≡ Some a → AnswerFits p (Some (typed 0 b)) a
  unfolding register_of register_of_kind
  base_is base.Boolean said a e = truth_is (typed 0 base.Boolean) said a refl e
  base_is base.Byte said a e = int_is (typed 0 base.Byte) (negsuc 127) (pos 127) said a refl e
  base_is base.Short said a e = int_is (typed 0 base.Short) (negsuc 32767) (pos 32767) said a refl e
  base_is base.Char said a e = int_is (typed 0 base.Char) (pos 0) (pos 65535) said a refl e
  base_is base.Int said a e = int_is (typed 0 base.Int) (negsuc 2147483647) (pos 2147483647) said a refl e
  base_is base.Long said a e = long_is (typed 0 base.Long) said a refl e
  base_is (base.Class declared) said a e = object_is declared said a e

  array_is : (n : ℕ) (b : Base) (said : Listed) (a : Answer) → array_answer said ≡ Some a → AnswerFits p (Some (typed (suc n) b)) a
  array_is n b listed.Null a e = subst (AnswerFits p (Some (typed (suc n) b))) (some_same answer.Null a e) (typed (suc n) b, refl, array_register p n b, tt)
  array_is n b (listed.Truth t) a e = absurd cc
  array_is n b (listed.Whole t) a e = absurd cc
  array_is n b (listed.Text t) a e = absurd cc
  array_is n b (listed.Object t) a e = absurd cc
  array_is n b (listed.Throw t) a e = absurd cc
  array_is n b listed.Other a e = absurd cc

  type_is : (n : ℕ) (b : Base) (said : Listed) (a : Answer) → (if n == 0 then base_answer p b said else array_answer said) ≡ Some a → AnswerFits p (Some (typed n b)) a
  type_is zero b said a e = base_is b said a e
  type_is (suc n) b said a e =
      let some : (suc n == 0) ≡ false = grind (arith, nat_tests) in
      array_is n b said a (sym (ap (λ t. if t then base_answer p b said else array_answer said) some) ∙ e)

  result_is : (type : Option DexType) (said : Listed) (a : Answer) → result_answer p type said ≡ Some a → AnswerFits p type a
  result_is None listed.Null a e = subst (AnswerFits p None) (some_same answer.Nothing a e) refl
  result_is None (listed.Truth t) a e = absurd cc
  result_is None (listed.Whole t) a e = absurd cc
  result_is None (listed.Text t) a e = absurd cc
  result_is None (listed.Object t) a e = absurd cc
  result_is None (listed.Throw t) a e = absurd cc
  result_is None listed.Other a e = absurd cc
  result_is (Some type) said a e = type_is type.dims type.base said a e

  answer_is : (type : Option DexType) (said : Listed) (a : Answer) → answer_for p type said ≡ Some a → AnswerFits p type a
  answer_is type (listed.Throw t) a e = by (class_listed p t) e
    where
      by : (o : Option ℕ) → thrown_answer p o ≡ Some a → AnswerFits p type a
      by None e = absurd cc
      by (Some n) e =
          let y = yes (holds_of can_be_thrown p n) (answer.Throws n) a e in
          let c = passing can_be_thrown p n y.0 in
          subst (AnswerFits p type) y.1 (thrown n c.0 c.1 c.2)
  answer_is type listed.Null a e = result_is type listed.Null a e
  answer_is type (listed.Truth t) a e = result_is type (listed.Truth t) a e
  answer_is type (listed.Whole t) a e = result_is type (listed.Whole t) a e
  answer_is type (listed.Text t) a e = result_is type (listed.Text t) a e
  answer_is type (listed.Object t) a e = result_is type (listed.Object t) a e
  answer_is type listed.Other a e = result_is type listed.Other a e

  -- ---- what is given

  given_is : (class : List ℕ) (number place : ℕ) (pair : ListedAnswer) (g : Given) → given_at p class number place pair ≡ Ok g → GivenFits p g
  given_is class number place pair g e callee there = by (method_at p class number place pair.member) e
    where
      answered : (m : ℕ) (o : Option Answer) → answer_for p (result_of p m) pair.answer ≡ o → given_or_fault number place m o ≡ Ok g → AnswerFits p callee.result g.answer
      answered m None q e = absurd cc
      answered m (Some a) q e =
          let same : record { method = m; answer = a } ≡ g = cc in
          let of : m ≡ g.method = ap (λ (z : Given). z.method) same in
          let result : result_of p m ≡ callee.result = ap (option_and_then (λ (z : Method). z.result)) (ap (slice_get p.methods) of ∙ there) in
          subst (AnswerFits p callee.result) (ap (λ (z : Given). z.answer) same) (answer_is callee.result pair.answer a (ap (λ r. answer_for p r pair.answer) (sym result) ∙ q))

      by : (r : Result ℕ ScriptFault) → on_ok r (λ m. given_or_fault number place m (answer_for p (result_of p m) pair.answer)) ≡ Ok g → AnswerFits p callee.result g.answer
      by (Err f) e = absurd cc
      by (Ok m) e = answered m (answer_for p (result_of p m) pair.answer) refl e

  givens_are : (class : List ℕ) (number place : ℕ) (pairs : List ListedAnswer) (gs : List Given) → givens_from p class number place pairs ≡ Ok gs → AllGivenFit p gs
  givens_are class number place [] gs e = let same : [] ≡ gs = cc in subst (AllGivenFit p) same tt
  givens_are class number place (pair ∷ pairs) gs e = by (given_at p class number place pair) (each (given_at p class number) (place + 1) pairs) refl refl e (givens_are class number (place + 1) pairs)
    where
      by : (r : Result Given ScriptFault) (s : Result (List Given) ScriptFault) → given_at p class number place pair ≡ r → each (given_at p class number) (place + 1) pairs ≡ s → on_ok r (λ y. then_all y s) ≡ Ok gs →
          ((hs : List Given) → each (given_at p class number) (place + 1) pairs ≡ Ok hs → AllGivenFit p hs) → AllGivenFit p gs
      by (Err f) s a b e more = absurd cc
      by (Ok g) (Err f) a b e more = absurd cc
      by (Ok g) (Ok hs) a b e more = let same : g ∷ hs ≡ gs = cc in subst (AllGivenFit p) same (given_is class number place pair g a, more hs b)

  class_is : (number : ℕ) (l : ListedClass) (c : ScriptClass) → class_at p number l ≡ Ok c → AllGivenFit p c.free × AllGivenFit p c.answers
  class_is number l c e = by (class_listed p l.name) e
    where
      three : (class : ℕ) (u : Result (List ℕ) ScriptFault) (f a : Result (List Given) ScriptFault) → ((gs : List Given) → f ≡ Ok gs → AllGivenFit p gs) → ((gs : List Given) → a ≡ Ok gs → AllGivenFit p gs) →
          on_ok u (λ unpinned. on_ok f (λ free. on_ok a (λ answers. Ok (record { class = class; unpinned = unpinned; free = free; answers = answers })))) ≡ Ok c → AllGivenFit p c.free × AllGivenFit p c.answers
      three class (Err x) f a fs as' e = absurd cc
      three class (Ok us) (Err x) a fs as' e = absurd cc
      three class (Ok us) (Ok gs) (Err x) fs as' e = absurd cc
      three class (Ok us) (Ok gs) (Ok hs) fs as' e =
          let same : record { class = class; unpinned = us; free = gs; answers = hs } ≡ c = cc in
          subst (λ (z : ScriptClass). AllGivenFit p z.free × AllGivenFit p z.answers) same (fs gs refl, as' hs refl)

      by : (o : Option ℕ) → class_or_fault p number o l ≡ Ok c → AllGivenFit p c.free × AllGivenFit p c.answers
      by None e = absurd cc
      by (Some class) e =
          three class (methods_from p l.name number 0 l.unpinned) (givens_from p l.name number (length l.unpinned) l.free) (givens_from p l.name number (length l.unpinned + length l.free) l.answers)
          (givens_are l.name number (length l.unpinned) l.free) (givens_are l.name number (length l.unpinned + length l.free) l.answers) e

  classes_are : (number : ℕ) (ls : List ListedClass) (cs : List ScriptClass) → each (class_at p) number ls ≡ Ok cs → AllClassesFit p cs
  classes_are number [] cs e = let same : [] ≡ cs = cc in subst (AllClassesFit p) same tt
  classes_are number (l ∷ ls) cs e = by (class_at p number l) (each (class_at p) (number + 1) ls) refl refl e (classes_are (number + 1) ls)
    where
      by : (r : Result ScriptClass ScriptFault) (s : Result (List ScriptClass) ScriptFault) → class_at p number l ≡ r → each (class_at p) (number + 1) ls ≡ s → on_ok r (λ y. then_all y s) ≡ Ok cs →
          ((hs : List ScriptClass) → each (class_at p) (number + 1) ls ≡ Ok hs → AllClassesFit p hs) → AllClassesFit p cs
      by (Err f) s a b e more = absurd cc
      by (Ok c) (Err f) a b e more = absurd cc
      by (Ok c) (Ok hs) a b e more = let same : c ∷ hs ≡ cs = cc in let two = class_is number l c a in subst (AllClassesFit p) same (two.0, two.1, more hs b)

  pub script_fits : (value : Data) (script : Script) → SaysScript p value script → ScriptFits p script
  script_fits value script e = by (listed_classes value) e
    where
      with : (r : Result (List ScriptClass) ScriptFault) → ((cs : List ScriptClass) → r ≡ Ok cs → AllClassesFit p cs) → with_classes r ≡ Ok script → ScriptFits p script
      with (Err f) are e = absurd cc
      with (Ok cs) are e = let same : record { classes = cs } ≡ script = cc in subst (ScriptFits p) same (are cs refl)

      by : (r : Result (List ListedClass) ScriptFault) → on_ok r (λ ls. with_classes (classes_at p ls)) ≡ Ok script → ScriptFits p script
      by (Err f) e = absurd cc
      by (Ok ls) e = with (classes_at p ls) (classes_are 0 ls) e
