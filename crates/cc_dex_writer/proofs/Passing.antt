-- What code passes, as its items state it.
use Rattle.std.proofs.Common.{◌≡◌, ◌≢◌, ◌⊎◌, inl, inr, ℕ, zero, suc, ◌+◌, ◌<◌, List, [], ◌∷◌, ◌++◌, length, slice_get, Some, refl, sym, subst, ◌∙◌, arith}
use Rattle.std.specs.List.{flat_map}
use Rattle.cc_meaning.specs.declared.file.ClassRow.{ClassRow}
use Rattle.cc_meaning.specs.declared.file.RawClass.{RawClass}
use Rattle.cc_meaning.specs.declared.file.RawCode.{RawCode}
use Rattle.cc_meaning.specs.declared.file.RawMethod.{RawMethod}
use Rattle.cc_meaning_dex.specs.Classes.{EachPair}
use Rattle.cc_meaning_dex.specs.Numbers.{Stands, u16_at}
use Rattle.cc_meaning_dex.specs.declared.items.StatedMethod.{StatedMethod}
use Rattle.cc_meaning_builder.specs.Forms.{class_data_form, little_form, u16_form, u32_form, tries_part, code_head, code_form}
use Rattle.cc_meaning_builder.specs.Laws.{StandsApart, WrittenU16}
use Rattle.cc_meaning_builder.specs.Written.{ClassPasses, CodePasses, IsMethodWritten, MethodsPass}
use Rattle.cc_dex_writer.specs.Items.{MembersStand, WhereGiven}
use Rattle.cc_dex_writer.specs.declared.section.Section.{Section}
use Rattle.cc_dex_writer.specs.Section.{Adds, Grows}
use Rattle.cc_dex_writer.proofs.Adding.{both, grows_twice, nothing, told}

-- the third number of an item
pub states_outs : StandsApart → WrittenU16 → (file : List ℕ) (at outs : ℕ) (code : RawCode) → outs < 65536 → Stands file at (code_form outs code) → u16_at file (at + 4) ≡ outs
unfolding code_form little_form
states_outs apart number file at outs code few stands =
    let head = apart file at (code_head outs code) (flat_map u16_form code.units ++ tries_part code) stands in
    let registers = apart file at (u16_form code.registers) (u16_form code.ins ++ (u16_form outs ++ (u16_form (length code.tries) ++ (u32_form 0 ++ u32_form (length code.units))))) head.0 in
    let arguments = apart file (at + 2) (u16_form code.ins) (u16_form outs ++ (u16_form (length code.tries) ++ (u32_form 0 ++ u32_form (length code.units)))) registers.1 in
    let passed = apart file (at + 2 + 2) (u16_form outs) (u16_form (length code.tries) ++ (u32_form 0 ++ u32_form (length code.units))) arguments.1 in
    let four : at + 2 + 2 ≡ at + 4 = omega arith in
    subst (λ place. u16_at file place ≡ outs) four (number file (at + 2 + 2) outs few passed.0).1

-- ---- one element more

-- what holds of each element and its place
abbrev pub EachAt : {A : Type 0} → (ℕ → A → Type 0) → List A → Type 0
EachAt {A = A} holds xs = (place : ℕ) (x : A) → slice_get xs place ≡ Some x → holds place x

pub each_more : {A : Type 0} (holds : ℕ → A → Type 0) (xs : List A) (x : A) → EachAt holds xs → holds (length xs) x → EachAt holds (xs ++ x ∷ [])
each_more holds [] x all here zero y e = let same : x ≡ y = cc in subst (holds 0) same here
each_more holds [] x all here (suc place) y e = absurd cc
each_more holds (z ∷ xs) x all here zero y e = all zero y e
each_more holds (z ∷ xs) x all here (suc place) y e = each_more (λ k. holds (suc k)) xs x (λ k y e. all (suc k) y e) here place y e

-- none yet, and one more, of each file that has the section
pub none_told : {A : Type 0} (holds : List ℕ → ℕ → A → Type 0) (section : Section) (xs : List A) → xs ≡ [] → Adds section section (λ file. EachAt (holds file) xs)
none_told holds section xs none =
    subst (λ all. Adds section section (λ file. EachAt (holds file) all)) (sym none) (nothing section (λ file. EachAt (holds file) []) (λ file place x e. absurd cc))

pub one_told : {A : Type 0} (holds : List ℕ → ℕ → A → Type 0) (old now next : Section) (xs : List A) (place : ℕ) (x : A) → length xs ≡ place → Adds old now (λ file. EachAt (holds file) xs) →
    Adds now next (λ file. holds file place x) → Adds old next (λ file. EachAt (holds file) (xs ++ x ∷ []))
one_told holds old now next xs place x long so_far more =
    both old now next (λ file. EachAt (holds file) xs) (λ file. holds file place x) (λ file. EachAt (holds file) (xs ++ x ∷ [])) so_far more
    (λ file all here. each_more (holds file) xs x all (subst (λ k. holds file k x) (sym long) here))

-- ---- methods and classes

-- what a method passes, at its place
abbrev pub MethodPassesAt : List ℕ → List ℕ → ℕ → StatedMethod → Type 0
MethodPassesAt outs file place method = (passed : ℕ) → slice_get outs place ≡ Some passed → CodePasses file method.code_at passed

-- what a class passes, at its place
abbrev pub ClassPassesAt : List RawClass → List (List ℕ) → List ℕ → ℕ → ClassRow → Type 0
ClassPassesAt classes outs file place stated =
    (class : RawClass) (passed : List ℕ) → slice_get classes place ≡ Some class → slice_get outs place ≡ Some passed → ClassPasses file stated class passed

pub class_told : (now next : Section) (classes : List RawClass) (outs : List (List ℕ)) (place : ℕ) (row : ClassRow) (own : List ℕ) → ((passed : List ℕ) → slice_get outs place ≡ Some passed → own ≡ passed) →
    Adds now next (λ file. WhereGiven (λ class. ClassPasses file row class own) (slice_get classes place)) → Adds now next (λ file. ClassPassesAt classes outs file place row)
class_told now next classes outs place row own is given =
    told now next (λ file. WhereGiven (λ class. ClassPasses file row class own) (slice_get classes place)) (λ file. ClassPassesAt classes outs file place row) given (λ file here class passed there stands.
    subst (λ n. ClassPasses file row class n) (is passed stands) (subst (λ found. WhereGiven (λ class. ClassPasses file row class own) found) there here))

-- ---- the members of a class

none_written : (file : List ℕ) (methods : List RawMethod) → EachPair (IsMethodWritten file) [] methods → methods ≡ []
none_written file [] each = refl
none_written file (method ∷ methods) each = absurd each

class_passes : (file : List ℕ) (row : ClassRow) (class : RawClass) (methods : List StatedMethod) (outs : List ℕ) (at : ℕ) → row.members_at ≡ at →
    EachPair (IsMethodWritten file) methods class.methods → MethodsPass file methods outs → MembersStand file at class.fields methods → ClassPasses file row class outs
class_passes file row class methods outs at same each passes stands = record { members = record { methods = methods; each = each; members = placed stands }; passed = passes }
  where
    placed : MembersStand file at class.fields methods →
        ((row.members_at ≡ 0) × (class.fields ≡ []) × (class.methods ≡ [])) ⊎ ((row.members_at ≢ 0) × Stands file row.members_at (class_data_form class.fields methods))
    placed (inl (none, no_fields, no_methods)) = inl (same ∙ none, no_fields, none_written file class.methods (subst (λ these. EachPair (IsMethodWritten file) these class.methods) no_methods each))
    placed (inr (some, there)) = inr ((λ none. some (sym same ∙ none)), subst (λ k. Stands file k (class_data_form class.fields methods)) (sym same) there)

-- the code of methods, behind it the class data, and behind that something else
pub class_added : (old coded listed new : Section) (row : ClassRow) (class : RawClass) (methods : List StatedMethod) (outs : List ℕ) (at : ℕ) → row.members_at ≡ at →
    Adds old coded (λ file. EachPair (IsMethodWritten file) methods class.methods) → Adds old coded (λ file. MethodsPass file methods outs) →
    Adds coded listed (λ file. MembersStand file at class.fields methods) → Grows listed new → Adds old new (λ file. ClassPasses file row class outs)
class_added old coded listed new row class methods outs at same written passed members grown = record {
  grown = grows_twice old coded new written.grown (grows_twice coded listed new members.grown grown);
  tells = λ file has.
      let after = grown.keeps file has in
      let early = members.grown.keeps file after in
      class_passes file row class methods outs at same (written.tells file early) (passed.tells file early) (members.tells file after);
}
