-- Two programs of one file: their lists of names are one, so each name has the same number in both.
use Rattle.std.proofs.Common.{◌≡◌, ℕ, zero, suc, ◌+◌, Bool, cond, List, [], ◌∷◌, ◌++◌, length, map, replicate, Option, Some, None, refl, sym, ap, ◌∙◌, arith}
use Rattle.std.specs.Prelude.{nat_lt, not, slice_get, slice_index_or, position, codes}
use Rattle.std.specs.List.{flat_map, position_or_len}
use Rattle.std.specs.Str.{bytes_eq}
use Rattle.cc_meaning.specs.declared.program.Base.{Base}
use Rattle.cc_meaning.specs.declared.program.Base.TheVariants as base
use Rattle.cc_meaning.specs.declared.program.Class.{Class}
use Rattle.cc_meaning.specs.declared.program.DexType.{DexType}
use Rattle.cc_meaning.specs.declared.program.Field.{Field}
use Rattle.cc_meaning.specs.declared.program.Method.{Method}
use Rattle.cc_meaning.specs.declared.program.Program.{Program}
use Rattle.cc_meaning.specs.Lookup.{class_named}
use Rattle.cc_meaning.specs.Names.{name_or_none, class_name, base_descriptor, descriptor, result_descriptor, prototype, method_name, field_name}
use Rattle.cc_meaning_program.specs.TypeNames.{base_spelled, type_spelled}
use Rattle.cc_meaning_program.specs.Resolved.{names_of}

-- ---- lists

pub length_map : {A B : Type 0} (f : A → B) (xs : List A) → length (map f xs) ≡ length xs
length_map f [] = refl
length_map f (x ∷ xs) = ap suc (length_map f xs)

first_place_map : {A B : Type 0} (test : B → Bool) (f : A → B) (xs : List A) → position_or_len (λ x. test (f x)) xs ≡ position_or_len test (map f xs)
first_place_map test f [] = refl
first_place_map test f (x ∷ xs) = ap (λ n. cond (not (test (f x))) (1 + n) 0) (first_place_map test f xs)

pub position_map : {A B : Type 0} (test : B → Bool) (f : A → B) (xs : List A) → position (λ x. test (f x)) xs ≡ position test (map f xs)
position_map test f xs =
    let place = first_place_map test f xs in
    let long = length_map f xs in
    ap (λ n. cond (nat_lt n (length xs)) (Some n) None) place ∙ ap (λ m. cond (nat_lt (position_or_len test (map f xs)) m) (Some (position_or_len test (map f xs))) None) (sym long)

-- lists as long with the same elements are one
pub same_lists : {A : Type 0} (xs ys : List A) → length xs ≡ length ys → ((k : ℕ) (x y : A) → slice_get xs k ≡ Some x → slice_get ys k ≡ Some y → x ≡ y) → xs ≡ ys
same_lists [] [] long same = refl
same_lists [] (y ∷ ys) long same = absurd (cc)
same_lists (x ∷ xs) [] long same = absurd (cc)
same_lists (x ∷ xs) (y ∷ ys) long same =
    let first : x ≡ y = same 0 x y refl refl in
    let rest : xs ≡ ys = same_lists xs ys (let e : suc (length xs) ≡ suc (length ys) = long in omega arith) (λ k. same (suc k)) in
    ap (λ z. z ∷ xs) first ∙ ap (λ zs. y ∷ zs) rest

-- ---- descriptors

class_at : (classes : List Class) (k : ℕ) → name_or_none (slice_get classes k) ≡ slice_index_or (map (λ (class : Class). class.name) classes) k []
class_at [] k = refl
class_at (class ∷ classes) zero = refl
class_at (class ∷ classes) (suc k) = class_at classes k

base_by_names : (program : Program) (b : Base) → base_descriptor program b ≡ base_spelled (names_of program) b
unfolding base_spelled names_of
base_by_names program base.Boolean = refl
base_by_names program base.Byte = refl
base_by_names program base.Short = refl
base_by_names program base.Char = refl
base_by_names program base.Int = refl
base_by_names program base.Long = refl
base_by_names program (base.Class class) = class_at program.classes class

-- a type's descriptor by the names of the classes
pub descriptor_by_names : (program : Program) (type : DexType) → descriptor program type ≡ type_spelled (names_of program) type
unfolding type_spelled
descriptor_by_names program type = ap (λ b. replicate type.dims 91 ++ b) (base_by_names program type.base)

-- ---- programs with the same names of classes

module _ (this that : Program) (names : names_of this ≡ names_of that) where
  pub same_class_name : (class : ℕ) → class_name this class ≡ class_name that class
  unfolding names_of
  same_class_name class = class_at this.classes class ∙ (ap (λ ns. slice_index_or ns class []) names ∙ sym (class_at that.classes class))

  pub same_class_number : (name : List ℕ) → class_named name this ≡ class_named name that
  unfolding names_of
  same_class_number name =
      position_map (λ n. bytes_eq n name) (λ (class : Class). class.name) this.classes
      ∙ (ap (λ ns. position (λ n. bytes_eq n name) ns) names ∙ sym (position_map (λ n. bytes_eq n name) (λ (class : Class). class.name) that.classes))

  pub same_descriptor : (type : DexType) → descriptor this type ≡ descriptor that type
  same_descriptor type = descriptor_by_names this type ∙ (ap (λ ns. type_spelled ns type) names ∙ sym (descriptor_by_names that type))

  same_descriptors : (types : List DexType) → flat_map (descriptor this) types ≡ flat_map (descriptor that) types
  same_descriptors [] = refl
  same_descriptors (type ∷ types) = ap (λ d. d ++ flat_map (descriptor this) types) (same_descriptor type) ∙ ap (λ ds. descriptor that type ++ ds) (same_descriptors types)

  same_result : (answer : Option DexType) → result_descriptor this answer ≡ result_descriptor that answer
  same_result None = refl
  same_result (Some type) = same_descriptor type

  same_prototype : (types : List DexType) (answer : Option DexType) → prototype this types answer ≡ prototype that types answer
  same_prototype types answer =
      ap (λ ds. codes "(" ++ ds ++ codes ")" ++ result_descriptor this answer) (same_descriptors types)
      ∙ ap (λ r. codes "(" ++ flat_map (descriptor that) types ++ codes ")" ++ r) (same_result answer)

  pub same_method_name : (method : Method) → method_name this method ≡ method_name that method
  same_method_name method =
      ap (λ c. c ++ codes "->" ++ (method.name ++ prototype this method.params method.result)) (same_class_name method.class)
      ∙ ap (λ p. class_name that method.class ++ codes "->" ++ (method.name ++ p)) (same_prototype method.params method.result)

  pub same_field_name : (field : Field) → field_name this field ≡ field_name that field
  same_field_name field =
      ap (λ c. c ++ codes "->" ++ field.name ++ codes ":" ++ descriptor this field.ty) (same_class_name field.class)
      ∙ ap (λ d. class_name that field.class ++ codes "->" ++ field.name ++ codes ":" ++ d) (same_descriptor field.ty)
