-- A file spells its tables in one way at most.
use Rattle.std.proofs.Common.{◌≡◌, inl, inr, ℕ, suc, ◌+◌, ◌*◌, List, [], ◌∷◌, length, Option, Some, None, refl, sym, ap, subst, ◌∙◌, arith}
use Rattle.cc_meaning.specs.declared.file.Ids.{Ids}
use Rattle.cc_meaning.specs.declared.file.ProtoRow.{ProtoRow}
use Rattle.cc_meaning.specs.declared.file.FieldRow.{FieldRow}
use Rattle.cc_meaning.specs.declared.file.MethodRow.{MethodRow}
use Rattle.cc_meaning.specs.declared.file.ClassRow.{ClassRow}
use Rattle.cc_meaning_dex.specs.declared.table.Table.TheVariants.{Texts, Types, Prototypes, Fields, Methods, Classes}
use Rattle.cc_meaning_dex.specs.Numbers.{u16_at, u32_at}
use Rattle.cc_meaning_dex.specs.TextLaws.{OneText}
use Rattle.cc_meaning_dex.specs.Tables.{row_count, row_at}
use Rattle.cc_meaning_dex.specs.Ids.{EachSpelled, ListsTypes, TextSpelled, TypeSpelled, PrototypeSpelled, FieldSpelled, MethodSpelled, RowStated, ClassSpelled}
use Rattle.cc_meaning_dex.specs.TableLaws.{OneIds}

-- a place spells one item at most
abbrev SpellsOne : {A : Type 0} → (ℕ → A → Type 0) → Type 0
SpellsOne {A} spelled = (place : ℕ) (this that : A) → spelled place this → spelled place that → this ≡ that

behind_one : {A : Type 0} (item : A) (items : List A) (n : ℕ) (spelled : ℕ → A → Type 0) → EachSpelled (item ∷ items) n spelled → EachSpelled items (length items) (λ place. spelled (suc place))
behind_one item items n spelled each = record { all = refl; each = λ place found e. each.each (suc place) found e }

-- so two lists of such items are equal
each_once : {A : Type 0} (these those : List A) (n : ℕ) (spelled : ℕ → A → Type 0) → SpellsOne spelled → EachSpelled these n spelled → EachSpelled those n spelled → these ≡ those
each_once [] [] n spelled one a b = refl
each_once [] (that ∷ those) n spelled one a b = absurd (omega (arith, a.all, b.all))
each_once (this ∷ these) [] n spelled one a b = absurd (omega (arith, a.all, b.all))
each_once (this ∷ these) (that ∷ those) n spelled one a b =
    let front = one 0 this that (a.each 0 this refl) (b.each 0 that refl) in
    let same : length those ≡ length these = omega (arith, a.all, b.all) in
    let behind = subst (λ k. EachSpelled those k (λ place. spelled (suc place))) same (behind_one that those n spelled b) in
    let rest = each_once these those (length these) (λ place. spelled (suc place)) (λ place. one (suc place)) (behind_one this these n spelled a) behind in
    cc

-- ---- lists of types

pub listed_once : (file : List ℕ) (at : ℕ) (these those : List ℕ) → ListsTypes file at these → ListsTypes file at those → these ≡ those
listed_once file at these those (inl a) (inl b) = a.1 ∙ sym b.1
listed_once file at these those (inl a) (inr b) = absurd (b.0 a.0)
listed_once file at these those (inr a) (inl b) = absurd (a.0 b.0)
listed_once file at these those (inr a) (inr b) =
    each_once these those (u32_at file at) (λ place row. row ≡ u16_at file (at + 4 + place * 2)) (λ place this that x y. x ∙ sym y) a.1.each b.1.each

-- ---- rows

prototype_from : ℕ → List ℕ → ProtoRow
prototype_from result params = record { result = result; params = params }

same_prototype : (a b : ProtoRow) → a.result ≡ b.result → a.params ≡ b.params → a ≡ b
unfolding prototype_from
same_prototype a b result params = ap (λ r. prototype_from r a.params) result ∙ ap (λ p. prototype_from b.result p) params

prototype_once : (file : List ℕ) → SpellsOne (PrototypeSpelled file)
prototype_once file row a b x y =
    same_prototype a b (x.result ∙ sym y.result) (listed_once file (u32_at file (row_at file Prototypes row + 8)) a.params b.params x.params y.params)

field_from : ℕ → ℕ → ℕ → FieldRow
field_from class kind name = record { class = class; kind = kind; name = name }

same_field : (a b : FieldRow) → a.class ≡ b.class → a.kind ≡ b.kind → a.name ≡ b.name → a ≡ b
unfolding field_from
same_field a b class kind name =
    ap (λ c. field_from c a.kind a.name) class ∙ ap (λ k. field_from b.class k a.name) kind ∙ ap (λ n. field_from b.class b.kind n) name

field_once : (file : List ℕ) → SpellsOne (FieldSpelled file)
field_once file row a b x y = same_field a b (x.class ∙ sym y.class) (x.kind ∙ sym y.kind) (x.name ∙ sym y.name)

method_from : ℕ → ℕ → ℕ → MethodRow
method_from class proto name = record { class = class; proto = proto; name = name }

same_method : (a b : MethodRow) → a.class ≡ b.class → a.proto ≡ b.proto → a.name ≡ b.name → a ≡ b
unfolding method_from
same_method a b class proto name =
    ap (λ c. method_from c a.proto a.name) class ∙ ap (λ p. method_from b.class p a.name) proto ∙ ap (λ n. method_from b.class b.proto n) name

method_once : (file : List ℕ) → SpellsOne (MethodSpelled file)
method_once file row a b x y = same_method a b (x.class ∙ sym y.class) (x.proto ∙ sym y.proto) (x.name ∙ sym y.name)

stated_once : (stated : ℕ) (a b : Option ℕ) → RowStated a stated → RowStated b stated → a ≡ b
stated_once stated None None x y = refl
stated_once stated None (Some b) x y = absurd (y.0 x)
stated_once stated (Some a) None x y = absurd (x.0 y)
stated_once stated (Some a) (Some b) x y = ap Some (x.1 ∙ sym y.1)

class_from : ℕ → ℕ → Option ℕ → List ℕ → ℕ → ℕ → ClassRow
class_from class flags superclass interfaces members values = record { class = class; flags = flags; superclass = superclass; interfaces = interfaces; members_at = members; values_at = values }

same_class : (a b : ClassRow) → a.class ≡ b.class → a.flags ≡ b.flags → a.superclass ≡ b.superclass → a.interfaces ≡ b.interfaces → a.members_at ≡ b.members_at → a.values_at ≡ b.values_at → a ≡ b
unfolding class_from
same_class a b class flags superclass interfaces members values =
    ap (λ x. class_from x a.flags a.superclass a.interfaces a.members_at a.values_at) class
    ∙ ap (λ x. class_from b.class x a.superclass a.interfaces a.members_at a.values_at) flags
    ∙ ap (λ x. class_from b.class b.flags x a.interfaces a.members_at a.values_at) superclass
    ∙ ap (λ x. class_from b.class b.flags b.superclass x a.members_at a.values_at) interfaces
    ∙ ap (λ x. class_from b.class b.flags b.superclass b.interfaces x a.values_at) members
    ∙ ap (λ x. class_from b.class b.flags b.superclass b.interfaces b.members_at x) values

class_once : (file : List ℕ) → SpellsOne (ClassSpelled file)
class_once file row a b x y =
    same_class a b (x.class ∙ sym y.class) (x.flags ∙ sym y.flags)
    (stated_once (u32_at file (row_at file Classes row + 8)) a.superclass b.superclass x.superclass y.superclass)
    (listed_once file (u32_at file (row_at file Classes row + 12)) a.interfaces b.interfaces x.interfaces y.interfaces)
    (x.members_at ∙ sym y.members_at) (x.values_at ∙ sym y.values_at)

-- ---- all six tables

ids_from : List (List ℕ) → List ℕ → List ProtoRow → List FieldRow → List MethodRow → List ClassRow → Ids
ids_from texts types protos fields methods classes = record { texts = texts; types = types; protos = protos; fields = fields; methods = methods; classes = classes }

same_ids : (a b : Ids) → a.texts ≡ b.texts → a.types ≡ b.types → a.protos ≡ b.protos → a.fields ≡ b.fields → a.methods ≡ b.methods → a.classes ≡ b.classes → a ≡ b
unfolding ids_from
same_ids a b texts types protos fields methods classes =
    ap (λ x. ids_from x a.types a.protos a.fields a.methods a.classes) texts
    ∙ ap (λ x. ids_from b.texts x a.protos a.fields a.methods a.classes) types
    ∙ ap (λ x. ids_from b.texts b.types x a.fields a.methods a.classes) protos
    ∙ ap (λ x. ids_from b.texts b.types b.protos x a.methods a.classes) fields
    ∙ ap (λ x. ids_from b.texts b.types b.protos b.fields x a.classes) methods
    ∙ ap (λ x. ids_from b.texts b.types b.protos b.fields b.methods x) classes

pub one_ids : OneText → OneIds
one_ids one file a b x y =
    same_ids a b
    (each_once a.texts b.texts (row_count file Texts) (TextSpelled file) (λ row. one file (u32_at file (row_at file Texts row))) x.tables.texts y.tables.texts)
    (each_once a.types b.types (row_count file Types) (TypeSpelled file) (λ row this that s t. s ∙ sym t) x.tables.types y.tables.types)
    (each_once a.protos b.protos (row_count file Prototypes) (PrototypeSpelled file) (prototype_once file) x.tables.protos y.tables.protos)
    (each_once a.fields b.fields (row_count file Fields) (FieldSpelled file) (field_once file) x.tables.fields y.tables.fields)
    (each_once a.methods b.methods (row_count file Methods) (MethodSpelled file) (method_once file) x.tables.methods y.tables.methods)
    (each_once a.classes b.classes (row_count file Classes) (ClassSpelled file) (class_once file) x.tables.classes y.tables.classes)
