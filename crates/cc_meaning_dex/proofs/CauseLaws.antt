-- That each fault of a class has its cause.
use Rattle.std.proofs.Common.{◌≡◌, ◌⊎◌, inl, inr, ℕ, zero, suc, ◌+◌, ◌<◌, Bool, true, false, cond, List, [], ◌∷◌, slice_get, Option, Some, None, Result, Ok, Err, refl, ap, subst, ◌∙◌, arith}
use Rattle.cc_meaning.specs.declared.fault.DexFault.{DexFault}
use Rattle.cc_meaning.specs.declared.fault.DexFault.TheVariants.{BadClassData, BadCode, BadTry, BadValue}
use Rattle.cc_meaning.specs.declared.file.Ids.{Ids}
use Rattle.cc_meaning.specs.declared.file.ClassRow.{ClassRow}
use Rattle.cc_meaning.specs.declared.file.RawClass.{RawClass}
use Rattle.cc_meaning.specs.declared.file.RawField.{RawField}
use Rattle.cc_meaning.specs.declared.file.RawMethod.{RawMethod}
use Rattle.cc_meaning.specs.declared.program.StaticValue.{StaticValue}
use Rattle.cc_meaning_dex.specs.TextLaws.{UlebAgrees, SlebAgrees}
use Rattle.cc_meaning_dex.specs.declared.items.StatedMethod.{StatedMethod}
use Rattle.cc_meaning_dex.specs.declared.items.Members.{Members}
use Rattle.cc_meaning_dex.specs.Members.{SpellsMembers, members_of}
use Rattle.cc_meaning_dex.specs.CodeItems.{HasSoundCode, has_sound_code}
use Rattle.cc_meaning_dex.specs.Tries.{method_of}
use Rattle.cc_meaning_dex.specs.Values.{SpellsValues, values_at}
use Rattle.cc_meaning_dex.specs.Classes.{SpellsClass, ◌>>=◌, or_fault, unless, code_fault, methods_with_code, class_of, classes_from}
use Rattle.cc_meaning_dex.specs.Causes.{IsFirstWithout, EachIs, IsSpelled, LacksCode, IsCause, FaultsCaused}
use Rattle.cc_meaning_dex.proofs.Sequencing.{some_is}
use Rattle.cc_meaning_dex.proofs.MemberLaws.{members_agree}
use Rattle.cc_meaning_dex.proofs.CodeLaws.{sound_code, code_sound, method_spelled, method_read}
use Rattle.cc_meaning_dex.proofs.ValueLaws.{values_read}
use Rattle.cc_meaning_dex.proofs.ClassLaws.{found_part, first_sound, class_spelled, class_read}

-- ---- which part fails

bind_err : {A B : Type 0} (read : Result A DexFault) (f : A → Result B DexFault) (fault : DexFault) → (read >>= f) ≡ Err fault → (read ≡ Err fault) ⊎ ((x : A) × (read ≡ Ok x) × (f x ≡ Err fault))
bind_err (Ok x) f fault e = inr (x, refl, e)
bind_err (Err other) f fault e = inl (let same : other ≡ fault = cc in ap Err same)

part_err : {A : Type 0} (read : Option A) (given fault : DexFault) → or_fault read given ≡ Err fault → (read ≡ None) × (given ≡ fault)
part_err (Some x) given fault e = absurd (cc)
part_err None given fault e = (refl, cc)

unless_err : {A : Type 0} (found : Option DexFault) (rest : Result A DexFault) (fault : DexFault) → unless found rest ≡ Err fault → (found ≡ Some fault) ⊎ ((found ≡ None) × (rest ≡ Err fault))
unless_err None rest fault e = inr (refl, e)
unless_err (Some other) rest fault e = inl (let same : other ≡ fault = cc in ap Some same)

unless_none : {A : Type 0} (found : Option DexFault) (rest : Result A DexFault) (x : A) → unless found rest ≡ Ok x → (found ≡ None) × (rest ≡ Ok x)
unless_none None rest x e = (refl, e)
unless_none (Some other) rest x e = absurd (cc)

-- ---- the first that isn't so

first_here : {A : Type 0} (is_so : A → Type 0) (item : A) (items : List A) → (is_so item → ⊥) → IsFirstWithout is_so (item ∷ items) 0 item
first_here is_so item items lacks = record { there = refl; lacks = lacks; before = λ k other below e. absurd (omega (arith, below)) }

first_behind : {A : Type 0} (is_so : A → Type 0) (item : A) (items : List A) (place : ℕ) (found : A) → is_so item → IsFirstWithout is_so items place found → IsFirstWithout is_so (item ∷ items) (suc place) found
first_behind {A} is_so item items place found so first = record {
  there = first.there;
  lacks = first.lacks;
  before = λ k other below e. earlier k other below e;
}
  where
    earlier : (k : ℕ) (other : A) → k < suc place → slice_get (item ∷ items) k ≡ Some other → is_so other
    earlier zero other below e = subst is_so (some_is item other e) so
    earlier (suc k) other below e = first.before k other (omega (arith, below)) e

each_none : {A : Type 0} (is_so : A → Type 0) → EachIs is_so []
each_none is_so k item e = absurd (cc)

each_one : {A : Type 0} (is_so : A → Type 0) (item : A) (items : List A) → is_so item → EachIs is_so items → EachIs is_so (item ∷ items)
each_one is_so item items so others zero other e = subst is_so (some_is item other e) so
each_one is_so item items so others (suc k) other e = others k other e

-- ---- code

each_sound : (file : List ℕ) (ids : Ids) (methods : List StatedMethod) → code_fault file ids methods ≡ None → EachIs (HasSoundCode file ids) methods
each_sound file ids [] none = each_none (HasSoundCode file ids)
each_sound file ids (method ∷ methods) none =
    let first = first_sound file ids method methods none in
    each_one (HasSoundCode file ids) method methods (sound_code file ids method first.0) (each_sound file ids methods first.1)

-- the first method without the code that it is to have, and the fault that names it
abbrev CodeLacks : List ℕ → Ids → List StatedMethod → DexFault → Type 0
CodeLacks file ids methods fault = (row : ℕ) × (BadCode row ≡ fault) × LacksCode file ids methods row

code_lacks : (file : List ℕ) (ids : Ids) (methods : List StatedMethod) (fault : DexFault) → code_fault file ids methods ≡ Some fault → CodeLacks file ids methods fault
unfolding code_fault
code_lacks file ids [] fault e = absurd (cc)
code_lacks file ids (method ∷ methods) fault e = cases (has_sound_code file ids method) refl (code_lacks file ids methods fault) e
  where
    unsound : has_sound_code file ids method ≡ false → HasSoundCode file ids method → ⊥
    unsound t sound = absurd (let yes = code_sound file ids method sound in cc)

    behind : has_sound_code file ids method ≡ true → CodeLacks file ids methods fault → CodeLacks file ids (method ∷ methods) fault
    behind t (row, is, lacks) = (row, is, record { place = suc lacks.place; method = lacks.method; first = first_behind (HasSoundCode file ids) method methods lacks.place lacks.method (sound_code file ids method t) lacks.first; named = lacks.named })

    cases : (test : Bool) → has_sound_code file ids method ≡ test → (code_fault file ids methods ≡ Some fault → CodeLacks file ids methods fault) →
        cond test (code_fault file ids methods) (Some (BadCode method.row)) ≡ Some fault → CodeLacks file ids (method ∷ methods) fault
    cases true t later e = behind t (later e)
    cases false t later e = (method.row, some_is (BadCode method.row) fault e, record { place = 0; method = method; first = first_here (HasSoundCode file ids) method methods (unsound t); named = refl })

-- ---- tries

each_spelled : UlebAgrees → SlebAgrees → (file : List ℕ) (ids : Ids) (stated : List StatedMethod) (methods : List RawMethod) → methods_with_code file ids stated ≡ Ok methods → EachIs (IsSpelled file ids) stated
unfolding methods_with_code
each_spelled uleb sleb file ids [] methods e = each_none (IsSpelled file ids)
each_spelled uleb sleb file ids (stated ∷ rest) methods e = split (or_fault (method_of file ids stated) (BadTry stated.row)) refl (methods_with_code file ids rest) refl (each_spelled uleb sleb file ids rest) e
  where
    split : (first : Result RawMethod DexFault) → or_fault (method_of file ids stated) (BadTry stated.row) ≡ first → (others : Result (List RawMethod) DexFault) → methods_with_code file ids rest ≡ others →
        ((methods : List RawMethod) → methods_with_code file ids rest ≡ Ok methods → EachIs (IsSpelled file ids) rest) →
        (first >>= λ method. others >>= λ methods. Ok (method ∷ methods)) ≡ Ok methods → EachIs (IsSpelled file ids) (stated ∷ rest)
    split (Ok method) f (Ok others) g later e =
        each_one (IsSpelled file ids) stated rest (method, method_spelled uleb sleb file ids stated method (found_part (method_of file ids stated) (BadTry stated.row) method f)) (later others g)
    split (Ok method) f (Err fault) g later e = absurd (cc)
    split (Err fault) f others g later e = absurd (cc)

-- the first method whose tries aren't spelled, and the fault that names it
record TriesLack (file : List ℕ) (ids : Ids) (methods : List StatedMethod) (fault : DexFault) : Type 0 where
  place : ℕ
  method : StatedMethod
  first : IsFirstWithout (IsSpelled file ids) methods place method
  named : BadTry method.row ≡ fault

tries_lack : UlebAgrees → SlebAgrees → (file : List ℕ) (ids : Ids) (methods : List StatedMethod) (fault : DexFault) → methods_with_code file ids methods ≡ Err fault → TriesLack file ids methods fault
unfolding methods_with_code
tries_lack uleb sleb file ids [] fault e = absurd (cc)
tries_lack uleb sleb file ids (stated ∷ rest) fault e = split (or_fault (method_of file ids stated) (BadTry stated.row)) refl (methods_with_code file ids rest) refl (tries_lack uleb sleb file ids rest fault) e
  where
    unread : method_of file ids stated ≡ None → IsSpelled file ids stated → ⊥
    unread none (method, spelled) = absurd (let read = method_read uleb sleb file ids stated method spelled in cc)

    split : (first : Result RawMethod DexFault) → or_fault (method_of file ids stated) (BadTry stated.row) ≡ first → (others : Result (List RawMethod) DexFault) → methods_with_code file ids rest ≡ others →
        (methods_with_code file ids rest ≡ Err fault → TriesLack file ids rest fault) →
        (first >>= λ method. others >>= λ methods. Ok (method ∷ methods)) ≡ Err fault → TriesLack file ids (stated ∷ rest) fault
    split (Ok method) f (Ok others) g later e = absurd (cc)
    split (Ok method) f (Err other) g later e =
        let same : other ≡ fault = cc in
        let behind = later (g ∙ ap Err same) in
        record {
          place = suc behind.place;
          method = behind.method;
          first = first_behind (IsSpelled file ids) stated rest behind.place behind.method (method, method_spelled uleb sleb file ids stated method (found_part (method_of file ids stated) (BadTry stated.row) method f)) behind.first;
          named = behind.named;
        }
    split (Err other) f others g later e =
        let same : other ≡ fault = cc in
        let failed = part_err (method_of file ids stated) (BadTry stated.row) other f in
        record { place = 0; method = stated; first = first_here (IsSpelled file ids) stated rest (unread failed.0); named = failed.1 ∙ same }

-- ---- classes

-- what is put together in the end
abbrev class_made : List RawField → List RawMethod → List StaticValue → Result RawClass DexFault
class_made fields methods values = Ok (record { fields = fields; methods = methods; values = values })

-- the values of a class whose members and methods are spelled
values_cause : UlebAgrees → (file : List ℕ) (ids : Ids) (number : ℕ) (stated : ClassRow) (fault : DexFault) (members : Members) (methods : List RawMethod) → SpellsMembers file ids stated members →
    EachIs (HasSoundCode file ids) members.methods → EachIs (IsSpelled file ids) members.methods → (read : Option (List StaticValue)) → values_at file ids members.fields stated.values_at ≡ read →
    (or_fault read (BadValue number) >>= λ values. class_made members.fields methods values) ≡ Err fault → IsCause file ids number stated fault
values_cause uleb file ids number stated fault members methods spelled sound each (Some values) r e = absurd (cc)
values_cause uleb file ids number stated fault members methods spelled sound each None r e =
    let same : BadValue number ≡ fault = cc in
    subst (λ (f : DexFault). IsCause file ids number stated f) same (refl, members, spelled, record { sound = sound; spelled = each; lacks = λ values s. unread values s })
  where
    unread : (values : List StaticValue) → SpellsValues file ids members.fields stated.values_at values → ⊥
    unread values s = absurd (let read = values_read uleb file ids members.fields stated.values_at values s in cc)

-- the tries of a class whose members are spelled and whose code is sound
tries_cause : UlebAgrees → SlebAgrees → (file : List ℕ) (ids : Ids) (number : ℕ) (stated : ClassRow) (fault : DexFault) (members : Members) → SpellsMembers file ids stated members → EachIs (HasSoundCode file ids) members.methods →
    (read : Result (List RawMethod) DexFault) → methods_with_code file ids members.methods ≡ read →
    (read >>= λ methods. or_fault (values_at file ids members.fields stated.values_at) (BadValue number) >>= λ values. class_made members.fields methods values) ≡ Err fault → IsCause file ids number stated fault
tries_cause uleb sleb file ids number stated fault members spelled sound (Ok methods) r e =
    values_cause uleb file ids number stated fault members methods spelled sound (each_spelled uleb sleb file ids members.methods methods r) (values_at file ids members.fields stated.values_at) refl e
tries_cause uleb sleb file ids number stated fault members spelled sound (Err other) r e =
    let same : other ≡ fault = cc in
    let lacks = tries_lack uleb sleb file ids members.methods other r in
    subst (λ (f : DexFault). IsCause file ids number stated f) (lacks.named ∙ same)
    (members, spelled, record { sound = sound; place = lacks.place; method = lacks.method; first = lacks.first; named = refl })

-- the code of a class whose members are spelled
code_cause : UlebAgrees → SlebAgrees → (file : List ℕ) (ids : Ids) (number : ℕ) (stated : ClassRow) (fault : DexFault) (members : Members) → SpellsMembers file ids stated members →
    (found : Option DexFault) → code_fault file ids members.methods ≡ found →
    (unless found (methods_with_code file ids members.methods) >>= λ methods. or_fault (values_at file ids members.fields stated.values_at) (BadValue number) >>= λ values. class_made members.fields methods values) ≡ Err fault →
    IsCause file ids number stated fault
code_cause uleb sleb file ids number stated fault members spelled None r e =
    tries_cause uleb sleb file ids number stated fault members spelled (each_sound file ids members.methods r) (methods_with_code file ids members.methods) refl e
code_cause uleb sleb file ids number stated fault members spelled (Some other) r e =
    let same : other ≡ fault = cc in
    let lacks = code_lacks file ids members.methods other r in
    subst (λ (f : DexFault). IsCause file ids number stated f) (lacks.1 ∙ same) (members, spelled, lacks.2)

members_cause : UlebAgrees → SlebAgrees → (file : List ℕ) (ids : Ids) (number : ℕ) (stated : ClassRow) (fault : DexFault) → (read : Option Members) → members_of file ids stated ≡ read →
    (or_fault read (BadClassData number) >>= λ members. unless (code_fault file ids members.methods) (methods_with_code file ids members.methods) >>= λ methods. or_fault (values_at file ids members.fields stated.values_at) (BadValue number) >>= λ values. class_made members.fields methods values) ≡ Err fault →
    IsCause file ids number stated fault
members_cause uleb sleb file ids number stated fault (Some members) r e =
    code_cause uleb sleb file ids number stated fault members ((members_agree uleb file ids stated members).0 r) (code_fault file ids members.methods) refl e
members_cause uleb sleb file ids number stated fault None r e =
    let same : BadClassData number ≡ fault = cc in
    subst (λ (f : DexFault). IsCause file ids number stated f) same (refl, λ members s. unread members s)
  where
    unread : (members : Members) → SpellsMembers file ids stated members → ⊥
    unread members s = absurd (let read = (members_agree uleb file ids stated members).1 s in cc)

class_cause : UlebAgrees → SlebAgrees → (file : List ℕ) (ids : Ids) (number : ℕ) (stated : ClassRow) (fault : DexFault) → class_of file ids number stated ≡ Err fault → IsCause file ids number stated fault
unfolding class_of
class_cause uleb sleb file ids number stated fault e = members_cause uleb sleb file ids number stated fault (members_of file ids stated) refl e

-- the first of these classes that isn't spelled, where they are numbered from this number on
record FirstOf (file : List ℕ) (ids : Ids) (number : ℕ) (definitions : List ClassRow) (fault : DexFault) : Type 0 where
  place : ℕ
  stated : ClassRow
  first : IsFirstWithout (λ stated. (class : RawClass) × SpellsClass file ids stated class) definitions place stated
  cause : IsCause file ids (number + place) stated fault

classes_lack : UlebAgrees → SlebAgrees → (file : List ℕ) (ids : Ids) (number : ℕ) (definitions : List ClassRow) (fault : DexFault) → classes_from file ids number definitions ≡ Err fault → FirstOf file ids number definitions fault
unfolding classes_from
classes_lack uleb sleb file ids number [] fault e = absurd (cc)
classes_lack uleb sleb file ids number (stated ∷ rest) fault e =
    split (class_of file ids number stated) refl (classes_from file ids (number + 1) rest) refl (classes_lack uleb sleb file ids (number + 1) rest fault) e
  where
    split : (first : Result RawClass DexFault) → class_of file ids number stated ≡ first → (others : Result (List RawClass) DexFault) → classes_from file ids (number + 1) rest ≡ others →
        (classes_from file ids (number + 1) rest ≡ Err fault → FirstOf file ids (number + 1) rest fault) →
        (first >>= λ class. others >>= λ classes. Ok (class ∷ classes)) ≡ Err fault → FirstOf file ids number (stated ∷ rest) fault
    split (Ok class) f (Ok others) g later e = absurd (cc)
    split (Ok class) f (Err other) g later e =
        let same : other ≡ fault = cc in
        let behind = later (g ∙ ap Err same) in
        record {
          place = suc behind.place;
          stated = behind.stated;
          first = first_behind (λ stated. (class : RawClass) × SpellsClass file ids stated class) stated rest behind.place behind.stated (class, class_spelled uleb sleb file ids number stated class f) behind.first;
          cause = subst (λ n. IsCause file ids n behind.stated fault) (omega arith) behind.cause;
        }
    split (Err other) f others g later e =
        let same : other ≡ fault = cc in
        record {
          place = 0;
          stated = stated;
          first = first_here (λ stated. (class : RawClass) × SpellsClass file ids stated class) stated rest (λ (class, spelled). absurd (let read = class_read uleb sleb file ids number stated class spelled in cc));
          cause = subst (λ n. IsCause file ids n stated fault) (omega arith) (class_cause uleb sleb file ids number stated fault (f ∙ ap Err same));
        }

pub faults_caused : UlebAgrees → SlebAgrees → FaultsCaused
faults_caused uleb sleb file ids fault e =
    let lack = classes_lack uleb sleb file ids 0 ids.classes fault e in
    record { number = lack.place; stated = lack.stated; first = lack.first; cause = subst (λ n. IsCause file ids n lack.stated fault) (omega arith) lack.cause }
