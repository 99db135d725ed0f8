-- That classes are read exactly where they are spelled.
use Rattle.std.proofs.Common.{◌≡◌, ℕ, ◌+◌, Bool, true, false, cond, List, [], ◌∷◌, Option, Some, None, Result, Ok, Err, refl, sym, ap, subst, ◌∙◌}
use Rattle.cc_meaning.specs.declared.fault.DexFault.{DexFault}
use Rattle.cc_meaning.specs.declared.fault.DexFault.TheVariants.{BadClassData, BadCode, BadTry, BadValue}
use Rattle.cc_meaning.specs.declared.file.Ids.{Ids}
use Rattle.cc_meaning.specs.declared.file.ClassRow.{ClassRow}
use Rattle.cc_meaning.specs.declared.file.RawClass.{RawClass}
use Rattle.cc_meaning.specs.declared.file.RawField.{RawField}
use Rattle.cc_meaning.specs.declared.file.RawMethod.{RawMethod}
use Rattle.cc_meaning.specs.declared.program.StaticValue.{StaticValue}
use Rattle.cc_meaning_dex.specs.TextLaws.{UlebAgrees, SlebAgrees}
use Rattle.cc_meaning_dex.specs.declared.items.StatedMethod.{StatedMethod}
use Rattle.cc_meaning_dex.specs.Members.{members_of}
use Rattle.cc_meaning_dex.specs.CodeItems.{has_sound_code}
use Rattle.cc_meaning_dex.specs.Tries.{method_of}
use Rattle.cc_meaning_dex.specs.Values.{values_at}
use Rattle.cc_meaning_dex.specs.Classes.{EachPair, SpellsSoundMethod, SpellsClass, ◌>>=◌, or_fault, unless, code_fault, methods_with_code, class_of, classes_from}
use Rattle.cc_meaning_dex.specs.ClassLaws.{ClassesAgree, OneClasses}
use Rattle.cc_meaning_dex.proofs.MemberLaws.{members_agree}
use Rattle.cc_meaning_dex.proofs.CodeLaws.{sound_code, code_sound, method_spelled, method_read}
use Rattle.cc_meaning_dex.proofs.ValueLaws.{values_spelled, values_read}

pub bind_ok : {A B : Type 0} (read : Result A DexFault) (f : A → Result B DexFault) (y : B) → (read >>= f) ≡ Ok y → (x : A) × (read ≡ Ok x) × (f x ≡ Ok y)
bind_ok (Ok x) f y e = (x, refl, e)
bind_ok (Err fault) f y e = absurd (cc)

pub ok_is : {A : Type 0} (x y : A) → let read : A → Result A DexFault = λ a. Ok a in read x ≡ read y → x ≡ y
ok_is x y e = cc

pub found_part : {A : Type 0} (read : Option A) (fault : DexFault) (x : A) → or_fault read fault ≡ Ok x → read ≡ Some x
found_part (Some y) fault x e = ap Some (ok_is y x e)
found_part None fault x e = absurd (cc)

pub unless_ok : {A : Type 0} (found : Option DexFault) (rest : Result A DexFault) (x : A) → unless found rest ≡ Ok x → (found ≡ None) × (rest ≡ Ok x)
unless_ok None rest x e = (refl, e)
unless_ok (Some fault) rest x e = absurd (cc)

-- ---- methods

pub first_sound : (file : List ℕ) (ids : Ids) (method : StatedMethod) (rest : List StatedMethod) → code_fault file ids (method ∷ rest) ≡ None → (has_sound_code file ids method ≡ true) × (code_fault file ids rest ≡ None)
unfolding code_fault
first_sound file ids method rest none = cases (has_sound_code file ids method) refl none
  where
    cases : (test : Bool) → has_sound_code file ids method ≡ test → cond test (code_fault file ids rest) (Some (BadCode method.row)) ≡ None → (has_sound_code file ids method ≡ true) × (code_fault file ids rest ≡ None)
    cases true t e = (t, e)
    cases false t e = absurd (cc)

pub methods_spelled : UlebAgrees → SlebAgrees → (file : List ℕ) (ids : Ids) (stated : List StatedMethod) (methods : List RawMethod) → code_fault file ids stated ≡ None → methods_with_code file ids stated ≡ Ok methods →
    EachPair (SpellsSoundMethod file ids) stated methods
unfolding methods_with_code
methods_spelled uleb sleb file ids [] methods sound e = subst (λ (ms : List RawMethod). EachPair (SpellsSoundMethod file ids) [] ms) (ok_is [] methods e) tt
methods_spelled uleb sleb file ids (stated ∷ rest) methods sound e =
    let method = bind_ok (or_fault (method_of file ids stated) (BadTry stated.row)) (λ method. methods_with_code file ids rest >>= λ methods. Ok (method ∷ methods)) methods e in
    let others = bind_ok (methods_with_code file ids rest) (λ methods. Ok (method.0 ∷ methods)) methods method.2 in
    let first = first_sound file ids stated rest sound in
    let read = found_part (method_of file ids stated) (BadTry stated.row) method.0 method.1 in
    subst (λ (ms : List RawMethod). EachPair (SpellsSoundMethod file ids) (stated ∷ rest) ms) (ok_is (method.0 ∷ others.0) methods others.2)
    (record { sound = sound_code file ids stated first.0; spelled = method_spelled uleb sleb file ids stated method.0 read }, methods_spelled uleb sleb file ids rest others.0 first.1 others.1)

pub methods_sound : (file : List ℕ) (ids : Ids) (stated : List StatedMethod) (methods : List RawMethod) → EachPair (SpellsSoundMethod file ids) stated methods → code_fault file ids stated ≡ None
unfolding code_fault
methods_sound file ids [] [] each = refl
methods_sound file ids [] (method ∷ methods) each = absurd each
methods_sound file ids (stated ∷ rest) [] each = absurd each
methods_sound file ids (stated ∷ rest) (method ∷ methods) (first, others) = rw (code_sound file ids stated first.sound) (methods_sound file ids rest methods others)

methods_read : UlebAgrees → SlebAgrees → (file : List ℕ) (ids : Ids) (stated : List StatedMethod) (methods : List RawMethod) → EachPair (SpellsSoundMethod file ids) stated methods →
    methods_with_code file ids stated ≡ Ok methods
unfolding methods_with_code
methods_read uleb sleb file ids [] [] each = refl
methods_read uleb sleb file ids [] (method ∷ methods) each = absurd each
methods_read uleb sleb file ids (stated ∷ rest) [] each = absurd each
methods_read uleb sleb file ids (stated ∷ rest) (method ∷ methods) (first, others) =
    rw (method_read uleb sleb file ids stated method first.spelled, methods_read uleb sleb file ids rest methods others) refl

-- ---- classes

pub class_spelled : UlebAgrees → SlebAgrees → (file : List ℕ) (ids : Ids) (number : ℕ) (stated : ClassRow) (class : RawClass) → class_of file ids number stated ≡ Ok class → SpellsClass file ids stated class
unfolding class_of
class_spelled uleb sleb file ids number stated class e =
    let made : List RawField → List RawMethod → List StaticValue → RawClass = λ fields methods values. record { fields = fields; methods = methods; values = values } in
    let members = bind_ok (or_fault (members_of file ids stated) (BadClassData number)) (λ members. unless (code_fault file ids members.methods) (methods_with_code file ids members.methods) >>= λ methods. or_fault (values_at file ids members.fields stated.values_at) (BadValue number) >>= λ values. Ok (made members.fields methods values)) class e in
    let methods = bind_ok (unless (code_fault file ids members.0.methods) (methods_with_code file ids members.0.methods)) (λ methods. or_fault (values_at file ids members.0.fields stated.values_at) (BadValue number) >>= λ values. Ok (made members.0.fields methods values)) class members.2 in
    let values = bind_ok (or_fault (values_at file ids members.0.fields stated.values_at) (BadValue number)) (λ values. Ok (made members.0.fields methods.0 values)) class methods.2 in
    let sound = unless_ok (code_fault file ids members.0.methods) (methods_with_code file ids members.0.methods) methods.0 methods.1 in
    subst (λ (c : RawClass). SpellsClass file ids stated c) (ok_is (made members.0.fields methods.0 values.0) class values.2)
    (record {
      members = members.0;
      spelled = (members_agree uleb file ids stated members.0).0 (found_part (members_of file ids stated) (BadClassData number) members.0 members.1);
      fields = refl;
      methods = methods_spelled uleb sleb file ids members.0.methods methods.0 sound.0 sound.1;
      values = values_spelled uleb file ids members.0.fields stated.values_at values.0 (found_part (values_at file ids members.0.fields stated.values_at) (BadValue number) values.0 values.1);
    })

class_from : List RawField → List RawMethod → List StaticValue → RawClass
class_from fields methods values = record { fields = fields; methods = methods; values = values }

same_class : (a b : RawClass) → a.fields ≡ b.fields → a.methods ≡ b.methods → a.values ≡ b.values → a ≡ b
unfolding class_from
same_class a b fields methods values = ap (λ x. class_from x a.methods a.values) fields ∙ ap (λ x. class_from b.fields x a.values) methods ∙ ap (class_from b.fields b.methods) values

pub class_read : UlebAgrees → SlebAgrees → (file : List ℕ) (ids : Ids) (number : ℕ) (stated : ClassRow) (class : RawClass) → SpellsClass file ids stated class → class_of file ids number stated ≡ Ok class
unfolding class_of
class_read uleb sleb file ids number stated class s =
    let made : RawClass = record { fields = s.members.fields; methods = class.methods; values = class.values } in
    rw (
      (members_agree uleb file ids stated s.members).1 s.spelled,
      methods_sound file ids s.members.methods class.methods s.methods,
      methods_read uleb sleb file ids s.members.methods class.methods s.methods,
      values_read uleb file ids s.members.fields stated.values_at class.values s.values,
    )
    (ap Ok (same_class made class (sym s.fields) refl refl))

classes_spelled : UlebAgrees → SlebAgrees → (file : List ℕ) (ids : Ids) (number : ℕ) (stated : List ClassRow) (classes : List RawClass) → classes_from file ids number stated ≡ Ok classes → EachPair (SpellsClass file ids) stated classes
unfolding classes_from
classes_spelled uleb sleb file ids number [] classes e = subst (λ (cs : List RawClass). EachPair (SpellsClass file ids) [] cs) (ok_is [] classes e) tt
classes_spelled uleb sleb file ids number (stated ∷ rest) classes e =
    let class = bind_ok (class_of file ids number stated) (λ class. classes_from file ids (number + 1) rest >>= λ classes. Ok (class ∷ classes)) classes e in
    let others = bind_ok (classes_from file ids (number + 1) rest) (λ classes. Ok (class.0 ∷ classes)) classes class.2 in
    subst (λ (cs : List RawClass). EachPair (SpellsClass file ids) (stated ∷ rest) cs) (ok_is (class.0 ∷ others.0) classes others.2)
    (class_spelled uleb sleb file ids number stated class.0 class.1, classes_spelled uleb sleb file ids (number + 1) rest others.0 others.1)

classes_read : UlebAgrees → SlebAgrees → (file : List ℕ) (ids : Ids) (number : ℕ) (stated : List ClassRow) (classes : List RawClass) → EachPair (SpellsClass file ids) stated classes → classes_from file ids number stated ≡ Ok classes
unfolding classes_from
classes_read uleb sleb file ids number [] [] each = refl
classes_read uleb sleb file ids number [] (class ∷ classes) each = absurd each
classes_read uleb sleb file ids number (stated ∷ rest) [] each = absurd each
classes_read uleb sleb file ids number (stated ∷ rest) (class ∷ classes) (first, others) =
    rw (class_read uleb sleb file ids number stated class first, classes_read uleb sleb file ids (number + 1) rest classes others) refl

pub classes_agree : UlebAgrees → SlebAgrees → ClassesAgree
classes_agree uleb sleb file ids classes = (classes_spelled uleb sleb file ids 0 ids.classes classes, classes_read uleb sleb file ids 0 ids.classes classes)

pub one_classes : ClassesAgree → OneClasses
one_classes agree file ids these those this that = ok_is these those (sym ((agree file ids these).1 this) ∙ (agree file ids those).1 that)
