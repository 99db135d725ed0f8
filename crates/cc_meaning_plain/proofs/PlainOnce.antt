-- A file is plain in one way at most.
use Rattle.std.proofs.Common.{◌≡◌, ◌↔◌, ℕ, ◌+◌, List, [], ◌∷◌, Some, length, map, refl, sym, ap, subst, ◌∙◌, arith}
use Rattle.std.specs.List.Sorted.{IsPermutation}
use Rattle.std.proofs.lemmas.List.Sorted.{IsPermutation-sym, IsPermutation-trans}
use Rattle.cc_meaning_dex.specs.Numbers.{u32_at}
use Rattle.cc_meaning_dex.specs.Leb128.{SpellsUleb}
use Rattle.cc_meaning_dex.specs.TextLaws.{OneUleb, OneText}
use Rattle.cc_meaning_plain.specs.declared.table.Table.TheVariants.{Texts, Types}
use Rattle.cc_meaning_plain.specs.declared.plain.Member.{Member}
use Rattle.cc_meaning_plain.specs.declared.plain.Last.{Last}
use Rattle.cc_meaning_plain.specs.declared.plain.PlainCode.{PlainCode}
use Rattle.cc_meaning_plain.specs.declared.plain.PlainFunction.{PlainFunction}
use Rattle.cc_meaning_plain.specs.declared.plain.Plain.{Plain}
use Rattle.cc_meaning_plain.specs.Tables.{row_at}
use Rattle.cc_meaning_plain.specs.Code.{Scope, IsOfMain, IsPlainCode}
use Rattle.cc_meaning_plain.specs.Plain.{SpellsMembers, class_at, name_of, scope_of}
use Rattle.cc_meaning_plain.specs.Methods.{AreMethods, ListsMethods}
use Rattle.cc_meaning_plain.specs.Laws.{TypeOnce, DataOnce, CodeOnce, MethodsOnce, MethodsAgree, OrderOnce, PlainOnce}

pub type_once : OneText → TypeOnce
type_once one file row first second a b =
    one file (u32_at file (row_at file Texts (u32_at file (row_at file Types row)))) first second a.descriptor.text b.descriptor.text

-- ---- the data of a class

member_from : ℕ → ℕ → ℕ → Member
member_from method flags code_at = record { method = method; flags = flags; code_at = code_at }

same_member : (first second : Member) → first.method ≡ second.method → first.flags ≡ second.flags → first.code_at ≡ second.code_at → first ≡ second
unfolding member_from
same_member first second method flags code_at =
    ap (λ m. member_from m first.flags first.code_at) method
    ∙ ap (λ f. member_from second.method f first.code_at) flags
    ∙ ap (λ c. member_from second.method second.flags c) code_at

members_once : OneUleb → (file : List ℕ) (at row : ℕ) (xs ys : List Member) → length xs ≡ length ys → SpellsMembers file at row xs → SpellsMembers file at row ys → xs ≡ ys
members_once one file at row [] [] len a b = refl
members_once one file at row [] (y ∷ ys) len a b = absurd (omega arith)
members_once one file at row (x ∷ xs) [] len a b = absurd (omega arith)
members_once one file at row (x ∷ xs) (y ∷ ys) len a b =
    let step = one file at a.0 b.0 a.1 b.1 a.5 b.5 in
    let flags = one file a.1 x.flags y.flags a.2 b.2 a.6 (subst (λ place. SpellsUleb file place y.flags b.2) (sym step.1) b.6) in
    let code = one file a.2 x.code_at y.code_at a.3 b.3 a.7 (subst (λ place. SpellsUleb file place y.code_at b.3) (sym flags.1) b.7) in
    let method : x.method ≡ y.method = a.4 ∙ (ap (λ n. row + n) step.0 ∙ sym b.4) in
    let behind = subst (λ n. SpellsMembers file a.3 n ys) (sym method) (subst (λ place. SpellsMembers file place y.method ys) (sym code.1) b.8) in
    let first = same_member x y method flags.0 code.0 in
    let rest = members_once one file a.3 x.method xs ys (omega arith) a.8 behind in
    cc

pub data_once : OneUleb → DataOnce
data_once one file at first second a b =
    let fields = one file at 0 0 a.after_static b.after_static a.no_static_fields b.no_static_fields in
    let instance = one file a.after_static 0 0 a.after_instance b.after_instance a.no_instance_fields
    (subst (λ place. SpellsUleb file place 0 b.after_instance) (sym fields.1) b.no_instance_fields) in
    let direct = one file a.after_instance (length first) (length second) a.after_direct b.after_direct a.direct
    (subst (λ place. SpellsUleb file place (length second) b.after_direct) (sym instance.1) b.direct) in
    let counts = one file a.after_direct 0 0 a.after_counts b.after_counts a.no_virtual
    (subst (λ place. SpellsUleb file place 0 b.after_counts) (sym direct.1) b.no_virtual) in
    members_once one file a.after_counts 0 first second direct.0 a.listed (subst (λ place. SpellsMembers file place 0 second) (sym counts.1) b.listed)

-- ---- the file

plain_from : List ℕ → PlainCode → List PlainFunction → Plain
plain_from class main functions = record { class = class; main = main; functions = functions }

same_plain : (first second : Plain) → first.class ≡ second.class → first.main ≡ second.main → first.functions ≡ second.functions → first ≡ second
unfolding plain_from
same_plain first second class main functions =
    ap (λ c. plain_from c first.main first.functions) class
    ∙ ap (λ m. plain_from second.class m first.functions) main
    ∙ ap (λ f. plain_from second.class second.main f) functions

scope_from : List ℕ → List PlainFunction → Scope
scope_from class functions = record { class = class; functions = map name_of functions }

same_scope : (first second : Plain) → first.class ≡ second.class → first.functions ≡ second.functions → scope_of first ≡ scope_of second
unfolding scope_from
same_scope first second class functions = ap (λ c. scope_from c first.functions) class ∙ ap (λ f. scope_from second.class f) functions

both_of_main : (first second : Last) → IsOfMain first → IsOfMain second → IsOfMain first ↔ IsOfMain second
both_of_main first second a b = (λ h. b, λ h. a)

methods_once : CodeOnce → MethodsOnce → OrderOnce → (file : List ℕ) (members : List Member) (first second : Plain) → first.class ≡ second.class →
    ListsMethods file members first → ListsMethods file members second → first ≡ second
methods_once codes methods order file members first second class a b =
    let told = methods file first.class members (Some a.main) (Some b.main) a.functions b.functions a.methods
    (subst (λ c. AreMethods file c members (Some b.main) b.functions) (sym class) b.methods) in
    let main_is : a.main ≡ b.main = let e = told.0 in cc in
    let same : IsPermutation a.functions second.functions = subst (λ fs. IsPermutation fs second.functions) (sym told.1) b.same in
    let moved = IsPermutation-trans first.functions a.functions second.functions (IsPermutation-sym a.functions first.functions a.same) same in
    let functions = order first.functions second.functions moved a.in_order b.in_order in
    let scope = same_scope first second class functions in
    let there : IsPlainCode file (scope_of second) a.main.code_at first.main = subst (λ s. IsPlainCode file s a.main.code_at first.main) scope a.code in
    let here : IsPlainCode file (scope_of second) b.main.code_at first.main = subst (λ (m : Member). IsPlainCode file (scope_of second) m.code_at first.main) main_is there in
    let main = codes file (scope_of second) b.main.code_at first.main second.main b.in_order (both_of_main first.main.last second.main.last a.returns b.returns) here b.code in
    same_plain first second class main functions

pub plain_once : TypeOnce → DataOnce → CodeOnce → MethodsOnce → MethodsAgree → OrderOnce → PlainOnce
plain_once types datas codes methods agree order file first second a b =
    let class = types file (u32_at file (class_at file)) first.class second.class a.class b.class in
    let members = datas file (u32_at file (class_at file + 24)) a.members b.members a.members_stand b.members_stand in
    let told = (agree file a.members first).0 a.methods in
    let other = subst (λ ms. ListsMethods file ms second) (sym members) ((agree file b.members second).0 b.methods) in
    methods_once codes methods order file a.members first second class told other
