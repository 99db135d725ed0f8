-- What is read of a plain file, part by part, is what the file is; where a part fails, the file isn't plain.
use Rattle.std.proofs.Common.{◌≡◌, ◌↔◌, inl, inr, ℕ, ◌+◌, Bool, false, List, [], ◌∷◌, Option, Some, map, IsTrue, refl, sym, ap, subst, ◌∙◌}
use Rattle.std.specs.List.Sorted.{IsPermutation}
use Rattle.std.proofs.lemmas.List.Sorted.{IsPermutation-sym, IsPermutation-trans}
use Rattle.cc_meaning.specs.Order.{IsRising}
use Rattle.cc_meaning_dex.specs.Numbers.{u32_at}
use Rattle.cc_meaning_plain.specs.declared.plain.Member.{Member}
use Rattle.cc_meaning_plain.specs.declared.plain.PlainCode.{PlainCode}
use Rattle.cc_meaning_plain.specs.declared.plain.PlainFunction.{PlainFunction}
use Rattle.cc_meaning_plain.specs.declared.plain.Plain.{Plain}
use Rattle.cc_meaning_plain.specs.Names.{TypeRow}
use Rattle.cc_meaning_plain.specs.Code.{Scope, IsOfMain, IsPlainCode}
use Rattle.cc_meaning_plain.specs.Plain.{SpellsClassData, IsClassDescriptor, class_at, name_of, scope_of, IsPlain}
use Rattle.cc_meaning_plain.specs.Methods.{AreMethods, ListsMethods}
use Rattle.cc_meaning_plain.specs.Laws.{TypeOnce, DataOnce, MethodsOnce, MethodsAgree, OrderOnce}
use Rattle.cc_plain.specs.declared.kind.Known.{Known}
use Rattle.cc_plain.specs.Code.{scope_in}
use Rattle.cc_plain.specs.Class.{HasOneClass, IsClass, HaveRows, HasFunctions}
use Rattle.cc_plain.proofs.DescriptorLemmas.{false_is_not}

-- ---- the class

pub no_class : (file : List ℕ) (row : ℕ) → row ≡ u32_at file (class_at file) → ((units : List ℕ) → TypeRow file row units → ⊥) → (name : List ℕ) → IsClass file name → ⊥
no_class file row e none name is = none name (subst (λ r. TypeRow file r name) (sym e) is.class)

pub no_descriptor : TypeOnce → (file : List ℕ) (row : ℕ) (found : List ℕ) (ok : Bool) → row ≡ u32_at file (class_at file) → TypeRow file row found →
    IsTrue ok ↔ IsClassDescriptor found → ok ≡ false → (name : List ℕ) → IsClass file name → ⊥
no_descriptor types file row found ok e class descriptor failed name is =
    let same = types file row name found (subst (λ r. TypeRow file r name) (sym e) is.class) class in
    false_is_not ok (IsClassDescriptor found) descriptor failed (subst (λ units. IsClassDescriptor units) same is.descriptor)

-- ---- the functions

-- methods are rows of their table
have_rows : (file class : List ℕ) (ms : List Member) (main : Option Member) (fs : List PlainFunction) → AreMethods file class ms main fs → HaveRows file ms
have_rows file class [] main fs h = tt
have_rows file class (m ∷ ms) main fs (inl h) = (h.0.named.row_stands, have_rows file class ms _ fs h.2)
have_rows file class (m ∷ ms) main fs (inr h) = (h.3.named.method.row_stands, have_rows file class ms main h.1 h.4)

pub no_data : (file class : List ℕ) (at : ℕ) → at ≡ u32_at file (class_at file + 24) → ((members : List Member) → HaveRows file members → SpellsClassData file at members → ⊥) →
    (main : Member) (functions : List PlainFunction) → HasFunctions file class main functions → ⊥
no_data file class at e none main functions h =
    none h.members (have_rows file class h.members (Some main) h.listed h.methods) (subst (λ place. SpellsClassData file place h.members) (sym e) h.stand)

-- the methods that were read are those of the class
same_members : DataOnce → (file class : List ℕ) (at : ℕ) (members : List Member) → at ≡ u32_at file (class_at file + 24) → SpellsClassData file at members →
    (main : Member) (functions : List PlainFunction) (h : HasFunctions file class main functions) → AreMethods file class members (Some main) h.listed
same_members datas file class at members e stand main functions h =
    let same = datas file at h.members members (subst (λ place. SpellsClassData file place h.members) (sym e) h.stand) stand in
    subst (λ ms. AreMethods file class ms (Some main) h.listed) same h.methods

pub no_methods : DataOnce → (file class : List ℕ) (at : ℕ) (members : List Member) → at ≡ u32_at file (class_at file + 24) → SpellsClassData file at members →
    ((main : Member) (functions : List PlainFunction) → AreMethods file class members (Some main) functions → ⊥) →
    (main : Member) (functions : List PlainFunction) → HasFunctions file class main functions → ⊥
no_methods datas file class at members e stand none main functions h = none main h.listed (same_members datas file class at members e stand main functions h)

pub no_order : DataOnce → MethodsOnce → (file class : List ℕ) (at : ℕ) (members : List Member) (found : Member) (fs : List PlainFunction) → at ≡ u32_at file (class_at file + 24) →
    SpellsClassData file at members → AreMethods file class members (Some found) fs → ((all : List PlainFunction) → IsPermutation fs all → IsRising (map name_of all) → ⊥) →
    (main : Member) (functions : List PlainFunction) → HasFunctions file class main functions → ⊥
no_order datas methods file class at members found fs e stand are none main functions h =
    let told = methods file class members (Some main) (Some found) h.listed fs (same_members datas file class at members e stand main functions h) are in
    none functions (subst (λ (gs : List PlainFunction). IsPermutation gs functions) told.1 h.same) h.in_order

pub functions_are : (file class : List ℕ) (at : ℕ) (members : List Member) (main : Member) (fs functions : List PlainFunction) → at ≡ u32_at file (class_at file + 24) →
    SpellsClassData file at members → AreMethods file class members (Some main) fs → IsPermutation fs functions → IsRising (map name_of functions) → HasFunctions file class main functions
functions_are file class at members main fs functions e stand are same rise =
    record {
      members = members;
      stand = subst (λ place. SpellsClassData file place members) e stand;
      listed = fs;
      methods = are;
      same = same;
      in_order = rise;
    }

-- ---- the file

pub no_plain_class : (file : List ℕ) → ((name : List ℕ) → IsClass file name → ⊥) → (plain : Plain) → IsPlain file plain → ⊥
no_plain_class file none plain is = none plain.class (record { class = is.class; descriptor = is.descriptor })

-- a plain file's functions, of the class that was read
plain_functions : TypeOnce → (file class : List ℕ) → IsClass file class → (plain : Plain) (is : IsPlain file plain) (h : ListsMethods file is.members plain) →
    HasFunctions file class h.main plain.functions
plain_functions types file class found plain is h =
    let same = types file (u32_at file (class_at file)) plain.class class is.class found.class in
    subst (λ (name : List ℕ). HasFunctions file name h.main plain.functions) same
    (functions_are file plain.class (u32_at file (class_at file + 24)) is.members h.main h.functions plain.functions refl is.members_stand h.methods h.same h.in_order)

pub no_plain_functions : TypeOnce → MethodsAgree → (file class : List ℕ) → IsClass file class →
    ((main : Member) (functions : List PlainFunction) → HasFunctions file class main functions → ⊥) → (plain : Plain) → IsPlain file plain → ⊥
no_plain_functions types agree file class found none plain is =
    let h = (agree file is.members plain).0 is.methods in
    none h.main plain.functions (plain_functions types file class found plain is h)

functions_once : DataOnce → MethodsOnce → OrderOnce → (file class : List ℕ) (main1 main2 : Member) (functions1 functions2 : List PlainFunction) →
    HasFunctions file class main1 functions1 → HasFunctions file class main2 functions2 → (main1 ≡ main2) × (functions1 ≡ functions2)
functions_once datas methods order file class main1 main2 functions1 functions2 a b =
    let told = methods file class b.members (Some main1) (Some main2) a.listed b.listed
    (same_members datas file class (u32_at file (class_at file + 24)) b.members refl b.stand main1 functions1 a) b.methods in
    let main : main1 ≡ main2 = let e = told.0 in cc in
    let same : IsPermutation a.listed functions2 = subst (λ (fs : List PlainFunction). IsPermutation fs functions2) (sym told.1) b.same in
    let moved = IsPermutation-trans functions1 a.listed functions2 (IsPermutation-sym a.listed functions1 a.same) same in
    (main, order functions1 functions2 moved a.in_order b.in_order)

scope_from : List ℕ → List PlainFunction → Scope
scope_from class functions = record { class = class; functions = map name_of functions }

same_scope : (plain : Plain) (known : Known) → plain.class ≡ known.class → plain.functions ≡ known.functions → scope_of plain ≡ scope_in known
unfolding scope_from
same_scope plain known class functions = ap (λ c. scope_from c plain.functions) class ∙ ap (λ fs. scope_from known.class fs) functions

pub no_plain_code : TypeOnce → DataOnce → MethodsOnce → MethodsAgree → OrderOnce → (file class : List ℕ) (main : Member) (known : Known) → IsClass file class → known.class ≡ class →
    HasFunctions file class main known.functions → ((code : PlainCode) → IsOfMain code.last → IsPlainCode file (scope_in known) main.code_at code → ⊥) →
    (plain : Plain) → IsPlain file plain → ⊥
no_plain_code types datas methods agree order file class main known found named told none plain is =
    let h = (agree file is.members plain).0 is.methods in
    let same = functions_once datas methods order file class h.main main plain.functions known.functions (plain_functions types file class found plain is h) told in
    let same_class : plain.class ≡ known.class = types file (u32_at file (class_at file)) plain.class class is.class found.class ∙ sym named in
    let scope : scope_of plain ≡ scope_in known = same_scope plain known same_class same.1 in
    none plain.main h.returns (subst (λ (m : Member). IsPlainCode file (scope_in known) m.code_at plain.main) same.0 (subst (λ s. IsPlainCode file s h.main.code_at plain.main) scope h.code))

pub plain_is : MethodsAgree → (file class : List ℕ) (main : Member) (known : Known) (code : PlainCode) → HasOneClass file → IsClass file class → known.class ≡ class →
    HasFunctions file class main known.functions → IsOfMain code.last → IsPlainCode file (scope_in known) main.code_at code →
    IsPlain file (record { class = known.class; main = code; functions = known.functions })
plain_is agree file class main known code one found named told returns is =
    let plain : Plain = record { class = known.class; main = code; functions = known.functions } in
    let lists : ListsMethods file told.members plain = record {
      main = main;
      functions = told.listed;
      methods = subst (λ name. AreMethods file name told.members (Some main) told.listed) (sym named) told.methods;
      returns = returns;
      code = is;
      same = told.same;
      in_order = told.in_order;
    } in
    record {
      size = one.size;
      header = one.header;
      tables = one.tables;
      one_class = one.one_class;
      class = subst (TypeRow file (u32_at file (class_at file))) (sym named) found.class;
      descriptor = subst (λ name. IsClassDescriptor name) (sym named) found.descriptor;
      no_values = one.no_values;
      some_members = one.members;
      members = told.members;
      members_stand = told.stand;
      methods = (agree file told.members plain).1 lists;
    }
