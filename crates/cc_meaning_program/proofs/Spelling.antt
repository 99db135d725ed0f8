-- Types and the descriptors that they spell.
use Rattle.std.proofs.Common.{◌≡◌, ◌≢◌, ℕ, zero, suc, ◌+◌, ◌<◌, Bool, true, false, eqb, cond, List, [], ◌∷◌, ◌++◌, length, get_or, drop, replicate, sym, ap, subst, ◌∙◌, refl, add-one, arith}
use Rattle.std.proofs.lemmas.Bool.Decides.{nat_tests}
use Rattle.cc_meaning.specs.declared.program.Base.{Base}
use Rattle.cc_meaning.specs.declared.program.Base.TheVariants as base
use Rattle.cc_meaning.specs.declared.program.DexType.{DexType}
use Rattle.cc_meaning.specs.Order.{IsRising}
use Rattle.cc_meaning_dex.specs.Descriptors.{dims_of, names_class}
use Rattle.cc_meaning_program.specs.ClassNames.{base_name}
use Rattle.cc_meaning_program.specs.TypeNames.{base_spelled, type_spelled, IsBase, SpellsByParts, SpelledOnce}
use Rattle.cc_meaning_program.proofs.Rising.{one_place}

-- ---- dimensions

pub dims_of_class : (name : List ℕ) → names_class name ≡ true → dims_of name ≡ 0
unfolding dims_of
dims_of_class [] class = refl
dims_of_class (u ∷ us) class =
    let test : eqb u 91 ≡ false = grind (arith, nat_tests) in
    ap (λ b. cond b (dims_of us + 1) 0) test

dims_of_base : (names : List (List ℕ)) (b : Base) → IsBase names b → dims_of (base_spelled names b) ≡ 0
unfolding dims_of base_spelled
dims_of_base names base.Boolean is = refl
dims_of_base names base.Byte is = refl
dims_of_base names base.Short is = refl
dims_of_base names base.Char is = refl
dims_of_base names base.Int is = refl
dims_of_base names base.Long is = refl
dims_of_base names (base.Class class) is = dims_of_class (get_or names class []) is

pub dims_of_spelled : (dims : ℕ) (name : List ℕ) → dims_of name ≡ 0 → dims_of (replicate dims 91 ++ name) ≡ dims
unfolding dims_of
dims_of_spelled zero name plain = plain
dims_of_spelled (suc n) name plain = let rest : dims_of (replicate n 91 ++ name) ≡ n = dims_of_spelled n name plain in omega arith

pub behind_spelled : (dims : ℕ) (name : List ℕ) → drop dims (replicate dims 91 ++ name) ≡ name
behind_spelled zero name = refl
behind_spelled (suc n) name = behind_spelled n name

bracket_more : (u : ℕ) (us : List ℕ) (n : ℕ) → u ≡ 91 → replicate n 91 ++ drop n us ≡ us → replicate (suc n) 91 ++ drop (suc n) (u ∷ us) ≡ u ∷ us
bracket_more u us n is rest = cc

one_more : (u : ℕ) (us : List ℕ) (n : ℕ) (b : Bool) → eqb u 91 ≡ b → replicate n 91 ++ drop n us ≡ us →
    replicate (cond b (n + 1) 0) 91 ++ drop (cond b (n + 1) 0) (u ∷ us) ≡ u ∷ us
one_more u us n true is rest =
    let P : ℕ → Type 0 = λ k. replicate k 91 ++ drop k (u ∷ us) ≡ u ∷ us in
    subst P (sym (add-one n)) (bracket_more u us n (grind (arith, nat_tests)) rest)
one_more u us n false is rest = refl

spelled_again : (name : List ℕ) → replicate (dims_of name) 91 ++ drop (dims_of name) name ≡ name
unfolding dims_of
spelled_again [] = refl
spelled_again (u ∷ us) = one_more u us (dims_of us) (eqb u 91) refl (spelled_again us)

pub spells_by_parts : SpellsByParts
unfolding type_spelled base_name
spells_by_parts names type descriptor = (
  λ spells.
      let plain = dims_of_base names type.base spells.based in
      let dims : type.dims ≡ dims_of descriptor = sym (dims_of_spelled type.dims (base_spelled names type.base) plain) ∙ ap dims_of spells.spelled in
      record {
        dims = dims;
        base = sym (behind_spelled type.dims (base_spelled names type.base)) ∙ ap (drop type.dims) spells.spelled ∙ ap (λ (n : ℕ). drop n descriptor) dims;
        based = spells.based;
        few = spells.few;
      },
  λ parts. record {
    spelled = ap (λ (n : ℕ). replicate n 91 ++ base_spelled names type.base) parts.dims ∙ ap (λ name. replicate (dims_of descriptor) 91 ++ name) parts.base ∙ spelled_again descriptor;
    based = parts.based;
    few = parts.few;
  },
)

-- ---- bases

abbrev letter_of : Base → ℕ
letter_of base.Boolean = 90
letter_of base.Byte = 66
letter_of base.Short = 83
letter_of base.Char = 67
letter_of base.Int = 73
letter_of base.Long = 74
letter_of (base.Class class) = 76

abbrev class_of : Base → ℕ
class_of (base.Class class) = class
class_of other = 0

abbrev base_of : ℕ → ℕ → Base
base_of letter class =
    cond (eqb letter 90) base.Boolean (cond (eqb letter 66) base.Byte (cond (eqb letter 83) base.Short (cond (eqb letter 67) base.Char (cond (eqb letter 73) base.Int (cond (eqb letter 74) base.Long (base.Class class))))))

base_is : (b : Base) → base_of (letter_of b) (class_of b) ≡ b
base_is base.Boolean = refl
base_is base.Byte = refl
base_is base.Short = refl
base_is base.Char = refl
base_is base.Int = refl
base_is base.Long = refl
base_is (base.Class class) = refl

first_letter : (names : List (List ℕ)) (b : Base) → IsBase names b → get_or (base_spelled names b) 0 0 ≡ letter_of b
unfolding base_spelled
first_letter names base.Boolean is = refl
first_letter names base.Byte is = refl
first_letter names base.Short is = refl
first_letter names base.Char is = refl
first_letter names base.Int is = refl
first_letter names base.Long is = refl
first_letter names (base.Class class) is = grind (arith, nat_tests)

within : (names : List (List ℕ)) (class : ℕ) → names_class (get_or names class []) ≡ true → class < length names
within [] class is = absurd cc
within (name ∷ names) zero is = omega arith
within (name ∷ names) (suc n) is = let rest = within names n is in omega arith

-- what has no class has the number 0
no_class : (b : Base) → letter_of b ≢ 76 → 0 ≡ class_of b
no_class base.Boolean other = refl
no_class base.Byte other = refl
no_class base.Short other = refl
no_class base.Char other = refl
no_class base.Int other = refl
no_class base.Long other = refl
no_class (base.Class class) other = absurd (other refl)

same_class : (names : List (List ℕ)) → IsRising names → (a b : Base) → IsBase names a → IsBase names b → base_spelled names a ≡ base_spelled names b → letter_of a ≡ letter_of b → class_of a ≡ class_of b
unfolding base_spelled
same_class names rise (base.Class class) (base.Class other) is also same letter = one_place names rise class other [] (within names class is) (within names other also) same
same_class names rise (base.Class class) base.Boolean is also same letter = absurd (omega arith)
same_class names rise (base.Class class) base.Byte is also same letter = absurd (omega arith)
same_class names rise (base.Class class) base.Short is also same letter = absurd (omega arith)
same_class names rise (base.Class class) base.Char is also same letter = absurd (omega arith)
same_class names rise (base.Class class) base.Int is also same letter = absurd (omega arith)
same_class names rise (base.Class class) base.Long is also same letter = absurd (omega arith)
same_class names rise base.Boolean b is also same letter = no_class b (omega arith)
same_class names rise base.Byte b is also same letter = no_class b (omega arith)
same_class names rise base.Short b is also same letter = no_class b (omega arith)
same_class names rise base.Char b is also same letter = no_class b (omega arith)
same_class names rise base.Int b is also same letter = no_class b (omega arith)
same_class names rise base.Long b is also same letter = no_class b (omega arith)

one_base : (names : List (List ℕ)) → IsRising names → (a b : Base) → IsBase names a → IsBase names b → base_spelled names a ≡ base_spelled names b → a ≡ b
one_base names rise a b is also same =
    let letter : letter_of a ≡ letter_of b = sym (first_letter names a is) ∙ ap (λ (name : List ℕ). get_or name 0 0) same ∙ first_letter names b also in
    let class = same_class names rise a b is also same letter in
    sym (base_is a) ∙ ap (λ (l : ℕ). base_of l (class_of a)) letter ∙ ap (base_of (letter_of b)) class ∙ base_is b

pub spelled_once : SpelledOnce
spelled_once names rise this that descriptor a b =
    let these = (spells_by_parts names this descriptor).0 a in
    let those = (spells_by_parts names that descriptor).0 b in
    let dims : this.dims ≡ that.dims = these.dims ∙ sym those.dims in
    let bases : this.base ≡ that.base = one_base names rise this.base that.base a.based b.based (these.base ∙ sym those.base) in
    let made : ℕ → Base → DexType = λ n b. record { dims = n; base = b } in
    let first : made this.dims this.base ≡ made that.dims this.base = ap (λ n. made n this.base) dims in
    let second : made that.dims this.base ≡ made that.dims that.base = ap (made that.dims) bases in
    first ∙ second
