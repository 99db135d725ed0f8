-- The program of a file is linked.
use Rattle.std.proofs.Common.{◌≡◌, ◌≢◌, ℕ, zero, suc, ◌<◌, Bool, true, false, cond, List, [], ◌∷◌, Option, Some, None, refl, sym, ap, ◌∙◌, subst, slice_get, slice_index_or, arith}
use Rattle.std.specs.Prelude.{All, unwrap_or, codes}
use Rattle.std.specs.Str.{bytes_eq}
use Rattle.std.specs.Cmp.Lexicographic.{slice_cmp}
use Rattle.std.specs.Ordering.{nat_cmp}
use Rattle.std.specs.declared.cmp.Ordering.TheVariants.{Less, Greater}
use Rattle.std.proofs.lemmas.Bool.Decides.{Decides-eqb}
use Rattle.std.proofs.lemmas.Option.{slice_get_within, slice_get-get_or, get_or_from_slice_get}
use Rattle.cc_meaning.specs.declared.file.Ids.{Ids}
use Rattle.cc_meaning.specs.declared.file.RawClass.{RawClass}
use Rattle.cc_meaning.specs.declared.instruction.Insn.{Insn}
use Rattle.cc_meaning.specs.declared.instruction.Insn.TheVariants as insn
use Rattle.cc_meaning.specs.declared.instruction.TypeRef.TheVariants as type
use Rattle.cc_meaning.specs.declared.program.Base.{Base}
use Rattle.cc_meaning.specs.declared.program.Base.TheVariants as base
use Rattle.cc_meaning.specs.declared.program.Class.{Class}
use Rattle.cc_meaning.specs.declared.program.ClassKind.{ClassKind}
use Rattle.cc_meaning.specs.declared.program.ClassKind.TheVariants as origin
use Rattle.cc_meaning.specs.declared.program.Code.{Code}
use Rattle.cc_meaning.specs.declared.program.DexType.{DexType}
use Rattle.cc_meaning.specs.declared.program.Method.{Method}
use Rattle.cc_meaning.specs.declared.program.MethodKind.TheVariants as kinds
use Rattle.cc_meaning.specs.declared.program.Placed.{Placed}
use Rattle.cc_meaning.specs.declared.program.Program.{Program}
use Rattle.cc_meaning.specs.BuiltIn.{object_name, string_name, string_builder_name, print_stream_name, throwable_name}
use Rattle.cc_meaning.specs.Lookup.{class_named}
use Rattle.cc_meaning_dex.specs.Classes.{SpellsClasses}
use Rattle.cc_meaning_dex.specs.Descriptors.{begins_with, names_class}
use Rattle.cc_meaning_program.specs.ClassFaults.{AreSound}
use Rattle.cc_meaning_program.specs.Programs.{IsProgram}
use Rattle.cc_meaning_program.specs.Rows.{FitTables}
use Rattle.cc_meaning_typing.specs.Complete.{IsComplete, BaseStands, NamedStands, InsnStands}
use Rattle.cc_meaning_typing.specs.Code.{is_array_of, is_array, behind_brackets, base_of, type_of_kind, type_of_found, type_of_class}
use Rattle.cc_meaning_typing.specs.Hierarchy.{superclass_of, object_class}
use Rattle.cc_meaning_typing.specs.Types.{class_type}
use Rattle.cc_meaning_exec.specs.Arrays.{array_class}
use Rattle.cc_meaning_fits.specs.Premises.{MadeType, ArrayNamed, MakesNamed, IsLinked}
use Rattle.cc_meaning_world.specs.Sorts.{number_of}
use Rattle.cc_program_laws.proofs.Lists.{some_same, bytes_same, at_place}
use Rattle.cc_program_laws.proofs.Names.{object_in, throwable_in}
use Rattle.cc_program_laws.proofs.Standing.{array_begins}
use Rattle.cc_run_laws.proofs.BuiltNames.{built_in_begins, string_in, builder_in, stream_in}
use Rattle.cc_run_laws.proofs.Built.{IsBuilt, plain_type, number_object, built, differ, plain_in, above_plain, above_is, loose_above, text_closed, builder_closed, throwable_plain, called_so}
use Rattle.cc_run_laws.proofs.Layouts.{slots, messages}
use Rattle.cc_run_laws.proofs.Mains.{initialisers}
use Rattle.cc_run_laws.proofs.Signatures.{rows}
use Rattle.cc_run_laws.proofs.Stated.{stated}
use Rattle.cc_run_laws.proofs.Throwables.{raised}
use Rattle.cc_run_laws.proofs.Types.{two_firsts, behind_begins, array_is}

true_or_false : true ≡ false → ⊥
true_or_false e = cc

less_or_greater : Greater ≡ Less → ⊥
less_or_greater e = cc

greater : (us vs : List ℕ) → slice_cmp nat_cmp (91 ∷ us) (76 ∷ vs) ≡ Greater
greater us vs = refl

-- what begins like an array stands behind what begins like a class
after_classes : (name other : List ℕ) → begins_with 91 name ≡ true → names_class other ≡ true → slice_cmp nat_cmp name other ≡ Less → ⊥
after_classes [] other a c e = cc
after_classes (u ∷ us) [] a c e = cc
after_classes (u ∷ us) (v ∷ vs) a c e =
    let x : u ≡ 91 = (Decides-eqb u 91).0 a in
    let y : v ≡ 76 = (Decides-eqb v 76).0 c in
    less_or_greater (sym (greater us vs) ∙ (ap (λ w. slice_cmp nat_cmp (w ∷ us) (76 ∷ vs)) (sym x) ∙ (ap (λ w. slice_cmp nat_cmp (u ∷ us) (w ∷ vs)) (sym y) ∙ e)))

module _ (file : List ℕ) (ids : Ids) (classes : List RawClass) (asked : Option (List ℕ)) (p : Program) (spelled : SpellsClasses file ids classes) (fit : FitTables ids) (sound : AreSound ids classes) (is : IsProgram ids classes asked p) (whole : IsComplete p) where
  -- ---- arrays

  -- the first class is no array
  first_plain : (c : Class) → slice_get p.classes 0 ≡ Some c → c.kind ≢ origin.Array
  first_plain c there q = by (number_of p print_stream_name) refl
    where
      begins : begins_with 91 c.name ≡ true
      begins = array_begins ids c.name (sym (is.each_class 0 c there).kind ∙ q)

      stream : IsBuilt p print_stream_name
      stream = built p whole print_stream_name stream_in

      by : (n : ℕ) → number_of p print_stream_name ≡ n → ⊥
      by zero e =
          let same : c ≡ stream.class = some_same c stream.class (sym there ∙ (ap (slice_get p.classes) (sym e) ∙ stream.there)) in
          two_firsts c.name (ap names_class (ap (λ (z : Class). z.name) same ∙ stream.called) ∙ built_in_begins print_stream_name stream_in) begins
      by (suc k) e =
          let at : slice_get p.classes (suc k) ≡ Some stream.class = ap (slice_get p.classes) (sym e) ∙ stream.there in
          let less = whole.well_formed.classes_rise 0 (suc k) c (omega arith) (slice_get_within p.classes (suc k) stream.class at) in
          let front : slice_index_or p.classes 0 c ≡ c = get_or_from_slice_get p.classes 0 c c there in
          let back : slice_index_or p.classes (suc k) c ≡ stream.class = get_or_from_slice_get p.classes (suc k) stream.class c at in
          after_classes c.name print_stream_name begins (built_in_begins print_stream_name stream_in)
          (subst (λ (z : Class). slice_cmp nat_cmp z.name print_stream_name ≡ Less) front (subst (λ n. slice_cmp nat_cmp (slice_index_or p.classes 0 c).name n ≡ Less) (ap (λ (z : Class). z.name) back ∙ stream.called) less))

  first_stands : BaseStands p (base.Class 0)
  first_stands =
      let stream = built p whole print_stream_name stream_in in
      let within = slice_get_within p.classes (number_of p print_stream_name) stream.class stream.there in
      let first = at_place p.classes 0 (omega (arith, within)) in
      (first.0, first.1, first_plain first.0 first.1)

  -- a base by its name stands
  base_stands : (name : List ℕ) → (begins_with 91 name ≡ true → ⊥) → BaseStands p (base_of p name)
  unfolding base_of
  base_stands name plain = six (bytes_eq name (codes "Z")) (bytes_eq name (codes "B")) (bytes_eq name (codes "S")) (bytes_eq name (codes "C")) (bytes_eq name (codes "I")) (bytes_eq name (codes "J")) (base.Class (unwrap_or (class_named name p) 0)) (by (class_named name p) refl)
    where
      six : (z b s c i j : Bool) (last : Base) → BaseStands p last → BaseStands p (cond z base.Boolean (cond b base.Byte (cond s base.Short (cond c base.Char (cond i base.Int (cond j base.Long last))))))
      six true b s c i j last t = tt
      six false true s c i j last t = tt
      six false false true c i j last t = tt
      six false false false true i j last t = tt
      six false false false false true j last t = tt
      six false false false false false true last t = tt
      six false false false false false false last t = t

      by : (o : Option ℕ) → class_named name p ≡ o → BaseStands p (base.Class (unwrap_or o 0))
      by None e = first_stands
      by (Some n) e = let c = called_so p whole name n e in (c.0, c.1, λ q. plain (subst (λ m. begins_with 91 m ≡ true) c.2 (array_begins ids c.0.name (sym (is.each_class n c.0 c.1).kind ∙ q))))

  held_stands : (array : ℕ) → is_array (type_of_class p array) ≡ true → BaseStands p (type_of_class p array).base
  unfolding type_of_class type_of_found type_of_kind is_array is_array_of
  held_stands array a = by (slice_get p.classes array) a
    where
      of_kind : (k : ClassKind) (name : List ℕ) → is_array (type_of_kind p array k name) ≡ true → BaseStands p (type_of_kind p array k name).base
      of_kind origin.File name a = absurd cc
      of_kind origin.BuiltIn name a = absurd cc
      of_kind origin.Outside name a = absurd cc
      of_kind origin.OutsideError name a = absurd cc
      of_kind origin.Array name a = base_stands (behind_brackets name) (behind_begins name)

      by : (o : Option Class) → is_array (type_of_found p array o) ≡ true → BaseStands p (type_of_found p array o).base
      by None a = absurd cc
      by (Some c) a = of_kind c.kind c.name a

  array_classes : (array class : ℕ) → is_array (type_of_class p array) ≡ true → array_class p (type_of_class p array) ≡ Some class → (type_of_class p class ≡ type_of_class p array) × (superclass_of p class ≡ Some (object_class p))
  unfolding array_class
  array_classes array class a e = array_is ids classes asked p fit sound is whole (type_of_class p array) class a (held_stands array a) e

  -- ---- what code makes

  made_type : (b : Base) → BaseStands p b → MadeType p b
  made_type base.Boolean s = tt
  made_type base.Byte s = tt
  made_type base.Short s = tt
  made_type base.Char s = tt
  made_type base.Int s = tt
  made_type base.Long s = tt
  made_type (base.Class n) s = plain_type p n s.0 s.1 s.2

  array_named : (named : DexType) → NamedStands p (type.Known named) → ArrayNamed p named
  unfolding is_array is_array_of array_class
  array_named named s a =
      let c = s.1 (some named.dims a) in
      (c.0, c.1, (array_is ids classes asked p fit sound is whole named c.0 a s.0.base c.1).0)
    where
      some : (n : ℕ) → is_array_of n ≡ true → 0 < n
      some zero e = absurd cc
      some (suc n) e = omega arith

  makes_named : (i : Insn) → InsnStands p i → MakesNamed p i
  makes_named (insn.NewInstance to (type.Known named)) s = made_type named.base s.0.base
  makes_named (insn.NewArray to size (type.Known named)) s = array_named named s
  makes_named (insn.FilledNewArray (type.Known named) args) s = array_named named s
  makes_named i s = tt

  makes : (m : ℕ) (method : Method) (code : Code) → slice_get p.methods m ≡ Some method → method.kind ≡ kinds.Code code → All (λ (placed : Placed). MakesNamed p placed.insn) code.insns
  makes m method code there kind k d less =
      makes_named (slice_index_or code.insns k d).insn (((whole.methods m method there).code code kind).insns k (slice_index_or code.insns k d) (slice_get-get_or code.insns k d less))

  owners : (m : ℕ) (method : Method) (code : Code) → slice_get p.methods m ≡ Some method → method.kind ≡ kinds.Code code → type_of_class p method.class ≡ class_type method.class
  owners m method code there kind = let c = whole.owners m method code there kind in plain_type p method.class c.0 c.1 (λ q. let f = c.2 in cc)

  -- ---- the program

  -- String's class is of its name
  text_named : (class : Class) → slice_get p.classes (number_of p string_name) ≡ Some class → bytes_eq class.name string_name ≡ true
  text_named class there =
      let one = built p whole string_name string_in in
      let same : class ≡ one.class = some_same class one.class (sym there ∙ one.there) in
      ap (λ n. bytes_eq n string_name) (ap (λ (z : Class). z.name) same ∙ one.called) ∙ bytes_same string_name

  no_object : (name : List ℕ) → IsBuilt p name → bytes_eq name object_name ≡ false → number_of p name ≡ object_class p → ⊥
  no_object name one d e =
      let top = built p whole object_name object_in in
      let same : one.class ≡ top.class = some_same one.class top.class (sym one.there ∙ (ap (slice_get p.classes) (e ∙ number_object p) ∙ top.there)) in
      let named : name ≡ object_name = sym one.called ∙ (ap (λ (z : Class). z.name) same ∙ top.called) in
      true_or_false (sym (bytes_same name) ∙ (ap (bytes_eq name) named ∙ d))

  pub linked : IsLinked p
  unfolding object_name string_name string_builder_name print_stream_name throwable_name
  linked = record {
    hierarchy = whole.well_formed.hierarchy;
    raised = raised ids classes asked p fit sound is whole;
    loose = loose_above p whole;
    plain = λ name plain. (built p whole name (plain_in p whole name plain)).no_interface;
    above_plain = above_plain p whole;
    slots = λ f field class made. slots ids classes asked p fit sound is whole f field class made.made;
    owners = owners;
    makes = makes;
    plain_type = λ name plain. (built p whole name (plain_in p whole name plain)).is_type;
    above_type = λ class next e. (above_is p whole class next e).1;
    array_classes = array_classes;
    rows = rows ids classes asked p fit sound is whole;
    text_held = (built p whole string_name string_in).held;
    builder_held = (built p whole string_builder_name builder_in).held;
    text_closed = text_closed p whole;
    builder_closed = builder_closed p whole;
    text_named = text_named;
    text_object = no_object string_name (built p whole string_name string_in) refl;
    builder_object = no_object string_builder_name (built p whole string_builder_name builder_in) refl;
    text_builder = differ p whole string_name string_builder_name string_in builder_in refl;
    text_stream = differ p whole string_name print_stream_name string_in stream_in refl;
    builder_stream = differ p whole string_builder_name print_stream_name builder_in stream_in refl;
    throwable_held = (built p whole throwable_name throwable_in).held;
    throwable_object = no_object throwable_name (built p whole throwable_name throwable_in) refl;
    throwable_plain = throwable_plain p whole;
    messages = λ class made. messages p whole class made.made;
    stated = stated file ids classes asked p spelled fit sound is whole;
    initialisers = initialisers ids classes asked p fit sound is whole;
  }
