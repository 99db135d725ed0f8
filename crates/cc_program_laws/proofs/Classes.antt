-- There are members for each definition of the classes that a file spells, and what they name is there.
use Rattle.std.proofs.Common.{◌≡◌, ◌≢◌, ◌⊎◌, inl, inr, ℕ, zero, suc, ◌<◌, Bool, true, false, ◌||◌, List, [], ◌∷◌, ◌++◌, length, Option, Some, None, slice_get, unwrap_or, refl, sym, ap, subst, ◌∙◌, arith}
use Rattle.std.specs.Prelude.{Contains, is_some}
use Rattle.std.proofs.lemmas.List.Elements.{Contains-append_cases}
use Rattle.std.proofs.lemmas.Option.{slice_get_within, get_or_from_slice_get, option_and_then_some}
use Rattle.cc_meaning.specs.declared.file.ClassRow.{ClassRow}
use Rattle.cc_meaning.specs.declared.file.Ids.{Ids}
use Rattle.cc_meaning.specs.declared.file.RawCatch.{RawCatch}
use Rattle.cc_meaning.specs.declared.file.RawClass.{RawClass}
use Rattle.cc_meaning.specs.declared.file.RawCode.{RawCode}
use Rattle.cc_meaning.specs.declared.file.RawField.{RawField}
use Rattle.cc_meaning.specs.declared.file.RawMethod.{RawMethod}
use Rattle.cc_meaning.specs.declared.file.RawTry.{RawTry}
use Rattle.cc_meaning.specs.declared.program.StaticValue.{StaticValue}
use Rattle.cc_meaning.specs.declared.program.StaticValue.TheVariants as static
use Rattle.cc_meaning_dex.specs.Descriptors.{names_value}
use Rattle.cc_meaning_dex.specs.declared.items.Cursor.{Cursor}
use Rattle.cc_meaning_dex.specs.declared.items.Handler.{Handler}
use Rattle.cc_meaning_dex.specs.declared.items.Members.{Members}
use Rattle.cc_meaning_dex.specs.declared.items.StatedMethod.{StatedMethod}
use Rattle.cc_meaning_dex.specs.declared.items.ValueKind.{ValueKind}
use Rattle.cc_meaning_dex.specs.declared.items.ValueKind.TheVariants.{Boolean, Byte, Short, Char, Int, Long, Text, Reference}
use Rattle.cc_meaning_dex.specs.Classes.{EachPair, SpellsClass, SpellsSoundMethod}
use Rattle.cc_meaning_dex.specs.CodeItems.{unit_count, handlers_at, HasSoundCode, has_flag, has_no_code}
use Rattle.cc_meaning_dex.specs.Members.{SpellsMembers, FieldStands, MethodStands}
use Rattle.cc_meaning_dex.specs.Rows.{IsFieldOf, IsMethodOf}
use Rattle.cc_meaning_dex.specs.Sequences.{Follow}
use Rattle.cc_meaning_dex.specs.Tries.{IsValueType, PairStands, CatchAllStands, catch_all, HandlerStands, SpellsTries, TryStands, HasTries, HasCode}
use Rattle.cc_meaning_dex.specs.Values.{SpellsValue, SpellsValues, ValueStands}
use Rattle.cc_meaning_program.specs.Named.{type_name}
use Rattle.cc_meaning_program.specs.Rows.{IsTypeRow, CatchFits, TriesFit, MemberFits, MembersFit, SpelledClassesFit}

-- ---- lists

none_in : {A : Type 0} (item : A) → ¬ Contains [] item
none_in item (place, within, is) = omega (arith, within)

-- what holds of an item wherever it stands holds of each that follow
of_each : {A : Type 0} (stands : Cursor → A → Cursor → Type 0) (holds : A → Type 0) → ((from : Cursor) (item : A) (next : Cursor) → stands from item next → holds item) →
    (items : List A) (from end : Cursor) → Follow stands from items end → (item : A) → Contains items item → holds item
of_each stands holds each [] from end follow item named = absurd (none_in item named)
of_each stands holds each (first ∷ items) from end (next, here, behind) item (zero, within, is) = subst holds is (each from first next here)
of_each stands holds each (first ∷ items) from end (next, here, behind) item (suc place, within, is) = of_each stands holds each items next end behind item (place, omega (arith, within), is)

-- and of those of two lists
of_both : {A : Type 0} (holds : A → Type 0) (all these those : List A) → all ≡ these ++ those → ((item : A) → Contains these item → holds item) → ((item : A) → Contains those item → holds item) →
    (item : A) → Contains all item → holds item
of_both holds all these those same first second item named = from (Contains-append_cases these those item (subst (λ items. Contains items item) same named))
  where
    from : Contains these item ⊎ Contains those item → holds item
    from (inl here) = first item here
    from (inr behind) = second item behind

of_none : {A : Type 0} (holds : A → Type 0) (all : List A) → all ≡ [] → (item : A) → Contains all item → holds item
of_none holds all none item named = absurd (none_in item (subst (λ items. Contains items item) none named))

as_many : {A B : Type 0} (holds : A → B → Type 0) (xs : List A) (ys : List B) → EachPair holds xs ys → length ys ≡ length xs
as_many holds [] [] pairs = refl
as_many holds [] (y ∷ ys) pairs = absurd pairs
as_many holds (x ∷ xs) [] pairs = absurd pairs
as_many holds (x ∷ xs) (y ∷ ys) (here, behind) = ap suc (as_many holds xs ys behind)

pair_at : {A B : Type 0} (holds : A → B → Type 0) (xs : List A) (ys : List B) → EachPair holds xs ys → (place : ℕ) (x : A) (y : B) → slice_get xs place ≡ Some x → slice_get ys place ≡ Some y → holds x y
pair_at holds [] [] pairs place x y a b = absurd cc
pair_at holds [] (y ∷ ys) pairs place a b is_a is_b = absurd pairs
pair_at holds (x ∷ xs) [] pairs place a b is_a is_b = absurd pairs
pair_at holds (x ∷ xs) (y ∷ ys) (here, behind) zero a b is_a is_b =
    let e : x ≡ a = cc in
    let f : y ≡ b = cc in
    subst (λ other. holds a other) f (subst (λ other. holds other y) e here)
pair_at holds (x ∷ xs) (y ∷ ys) (here, behind) (suc place) a b is_a is_b = pair_at holds xs ys behind place a b is_a is_b

-- what holds of the second of a pair whose first stands in a list holds of each second
of_seconds : {A B : Type 0} (pair : A → B → Type 0) (holds : B → Type 0) (xs : List A) (ys : List B) → EachPair pair xs ys → ((x : A) (y : B) → Contains xs x → pair x y → holds y) →
    (y : B) → Contains ys y → holds y
of_seconds pair holds [] [] pairs each y named = absurd (none_in y named)
of_seconds pair holds [] (y ∷ ys) pairs each other named = absurd pairs
of_seconds pair holds (x ∷ xs) [] pairs each other named = absurd pairs
of_seconds pair holds (x ∷ xs) (y ∷ ys) (here, behind) each other (zero, within, is) = subst holds is (each x y (0, omega arith, refl) here)
of_seconds pair holds (x ∷ xs) (y ∷ ys) (here, behind) each other (suc place, within, is) =
    of_seconds pair holds xs ys behind (λ a b (k, inside, same) both. each a b (suc k, omega (arith, inside), same) both) other (place, omega (arith, within), is)

-- ---- what tries catch

value_row : (ids : Ids) (row : ℕ) → IsValueType ids row → IsTypeRow names_value ids row
unfolding type_name
value_row ids row type = record {
  there = option_and_then_some (slice_get ids.texts) (slice_get ids.types row) type.name type.named (λ text is named. slice_get_within ids.types row text is);
  sorted = ap (λ name. names_value (unwrap_or name [])) type.named ∙ type.value;
}

pair_fits : (file : List ℕ) (ids : Ids) (from : Cursor) (catch : RawCatch) (next : Cursor) → PairStands file ids from catch next → CatchFits ids catch
pair_fits file ids from catch next pair type is =
    let both : Some pair.type ≡ Some type = sym pair.row ∙ is in
    let same : pair.type ≡ type = cc in
    subst (IsTypeRow names_value ids) same (value_row ids pair.type pair.caught)

all_fits : (ids : Ids) (address : ℕ) (catch : RawCatch) → Contains (catch_all address ∷ []) catch → CatchFits ids catch
all_fits ids address catch (zero, within, is) = subst (CatchFits ids) is (λ type some. absurd cc)
all_fits ids address catch (suc place, within, is) = absurd (omega (arith, within))

-- all that a handler catches
abbrev HandlerFits : Ids → Handler → Type 0
HandlerFits ids handler = (catch : RawCatch) → Contains handler.catches catch → CatchFits ids catch

handler_fits : (file : List ℕ) (ids : Ids) (from : Cursor) (handler : Handler) (next : Cursor) → HandlerStands file ids from handler next → HandlerFits ids handler
handler_fits file ids from handler next stands = by_rest stands.rest
  where
    each : (catch : RawCatch) → Contains stands.pairs catch → CatchFits ids catch
    each = of_each (PairStands file ids) (CatchFits ids) (pair_fits file ids) stands.pairs _ stands.listed.end stands.listed.each

    by_rest : CatchAllStands file stands.size stands.pairs stands.rest_at handler.catches next.at → HandlerFits ids handler
    by_rest (inl (some, same, end)) = λ catch named. each catch (subst (λ catches. Contains catches catch) same named)
    by_rest (inr (none, address, number, same)) = of_both (CatchFits ids) handler.catches stands.pairs (catch_all address ∷ []) same each (all_fits ids address)

handler_at : (items : List Handler) (place : ℕ) (handler : Handler) → slice_get items place ≡ Some handler → Contains items handler
handler_at items place handler is = (place, slice_get_within items place handler is, get_or_from_slice_get items place handler handler is)

spelled_tries_fit : (file : List ℕ) (ids : Ids) (at : ℕ) (tries : List RawTry) → SpellsTries file ids at tries → TriesFit ids tries
spelled_tries_fit file ids at tries spelled try catch named caught =
    of_each (TryStands file (unit_count file at) (handlers_at file at) spelled.handlers) (λ (one : RawTry). (other : RawCatch) → Contains one.catches other → CatchFits ids other) of_try tries _ spelled.listed.end spelled.listed.each try named catch caught
  where
    of_handlers : (handler : Handler) → Contains spelled.handlers handler → HandlerFits ids handler
    of_handlers = of_each (HandlerStands file ids) (HandlerFits ids) (handler_fits file ids) spelled.handlers _ spelled.spelled.listed.end spelled.spelled.listed.each

    of_try : (from : Cursor) (one : RawTry) (next : Cursor) → TryStands file (unit_count file at) (handlers_at file at) spelled.handlers from one next → (other : RawCatch) → Contains one.catches other → CatchFits ids other
    of_try from one next stands other is =
        of_handlers stands.handler.handler (handler_at spelled.handlers stands.handler.place stands.handler.handler stands.handler.there) other
        (subst (λ catches. Contains catches other) (sym stands.handler.caught) is)

tries_fit : (file : List ℕ) (ids : Ids) (at : ℕ) (tries : List RawTry) → HasTries file ids at tries → TriesFit ids tries
tries_fit file ids at tries (inl (none, same)) try catch named caught = absurd (none_in try (subst (λ all. Contains all try) same named))
tries_fit file ids at tries (inr (some, spelled)) try catch named caught = spelled_tries_fit file ids at tries spelled try catch named caught

-- ---- members

code_there : (file : List ℕ) (ids : Ids) (stated : StatedMethod) (method : RawMethod) → SpellsSoundMethod file ids stated method →
    has_flag method.flags 256 ≡ false → has_flag method.flags 1024 ≡ false → is_some method.code ≡ true
code_there file ids stated method both not_native not_abstract = by_sound both.sound
  where
    has_code : has_no_code stated.flags ≡ false
    has_code = ap has_no_code (sym both.spelled.flags) ∙ ap (λ native. native || has_flag method.flags 1024) not_native ∙ not_abstract

    by_code : stated.code_at ≢ 0 → (code : Option RawCode) → HasCode file ids stated.code_at code → is_some code ≡ true
    by_code some None none = absurd (some none)
    by_code some (Some code) there = refl

    by_sound : HasSoundCode file ids stated → is_some method.code ≡ true
    by_sound (inl (none, flagged)) = let both : true ≡ false = sym flagged ∙ has_code in absurd cc
    by_sound (inr (some, flagged, fits)) = by_code some method.code both.spelled.code

member_fits : (file : List ℕ) (ids : Ids) (class : ℕ) (stated : StatedMethod) (method : RawMethod) → IsMethodOf ids class stated.row → SpellsSoundMethod file ids stated method → MemberFits ids class method
member_fits file ids class stated method owned both = record {
  owned = subst (IsMethodOf ids class) (sym both.spelled.row) owned;
  coded = code_there file ids stated method both;
  tries = λ code is. by_code code (subst (HasCode file ids stated.code_at) is both.spelled.code);
}
  where
    by_code : (code : RawCode) → HasCode file ids stated.code_at (Some code) → TriesFit ids code.tries
    by_code code (some, spelled) = tries_fit file ids stated.code_at code.tries spelled.tries

field_of : (file : List ℕ) (ids : Ids) (class : ℕ) (is_static : Bool) (from : Cursor) (field : RawField) (next : Cursor) → FieldStands file ids class is_static from field next → IsFieldOf ids class field.row
field_of file ids class is_static from field next stands = subst (IsFieldOf ids class) (sym stands.row) stands.owned

method_of : (file : List ℕ) (ids : Ids) (class : ℕ) (is_direct : Bool) (from : Cursor) (method : StatedMethod) (next : Cursor) → MethodStands file ids class is_direct from method next → IsMethodOf ids class method.row
method_of file ids class is_direct from method next stands = subst (IsMethodOf ids class) (sym stands.row) stands.owned

-- the members that class data states are of the class
abbrev AreMembersOf : Ids → ℕ → Members → Type 0
AreMembersOf ids class members =
    ((field : RawField) → Contains members.fields field → IsFieldOf ids class field.row) × ((method : StatedMethod) → Contains members.methods method → IsMethodOf ids class method.row)

members_of : (file : List ℕ) (ids : Ids) (stated : ClassRow) (members : Members) → SpellsMembers file ids stated members → AreMembersOf ids stated.class members
members_of file ids stated members (inl (none, same)) = (
  of_none (λ (field : RawField). IsFieldOf ids stated.class field.row) members.fields (ap (λ (all : Members). all.fields) same),
  of_none (λ (method : StatedMethod). IsMethodOf ids stated.class method.row) members.methods (ap (λ (all : Members). all.methods) same),
)
members_of file ids stated members (inr (some, listed)) = (
  of_both (λ (field : RawField). IsFieldOf ids stated.class field.row) members.fields listed.static_fields listed.instance_fields listed.fields
      (of_each (FieldStands file ids stated.class true) _ (field_of file ids stated.class true) listed.static_fields _ listed.static_list.end listed.static_list.each)
      (of_each (FieldStands file ids stated.class false) _ (field_of file ids stated.class false) listed.instance_fields _ listed.instance_list.end listed.instance_list.each),
  of_both (λ (method : StatedMethod). IsMethodOf ids stated.class method.row) members.methods listed.direct_methods listed.virtual_methods listed.methods
      (of_each (MethodStands file ids stated.class true) _ (method_of file ids stated.class true) listed.direct_methods _ listed.direct_list.end listed.direct_list.each)
      (of_each (MethodStands file ids stated.class false) _ (method_of file ids stated.class false) listed.virtual_methods _ listed.virtual_list.end listed.virtual_list.each),
)

-- ---- values

-- a text that is a value is there
abbrev ValueFits : Ids → StaticValue → Type 0
ValueFits ids value = (row : ℕ) → value ≡ static.Text row → row < length ids.texts

value_fits : (file : List ℕ) (ids : Ids) (kind : ValueKind) (at : ℕ) (value : StaticValue) (next : ℕ) → SpellsValue file (length ids.texts) kind at value next → ValueFits ids value
value_fits file ids Boolean at value next (flag, head, few, is, end) row same = absurd cc
value_fits file ids Byte at value next (argument, number, is) row same = absurd cc
value_fits file ids Short at value next (argument, number, is) row same = absurd cc
value_fits file ids Char at value next (argument, number, is) row same = absurd cc
value_fits file ids Int at value next (argument, number, is) row same = absurd cc
value_fits file ids Long at value next (argument, number, is) row same = absurd cc
value_fits file ids Text at value next (inl (head, is, end)) row same = absurd cc
value_fits file ids Text at value next (inr (argument, number, less, is)) row same =
    let both : static.Text _ ≡ static.Text row = sym is ∙ same in
    let e : _ ≡ row = cc in
    subst (λ text. text < length ids.texts) e less
value_fits file ids Reference at value next (head, is, end) row same = absurd cc

values_fit : (file : List ℕ) (ids : Ids) (fields : List RawField) (at : ℕ) (values : List StaticValue) → SpellsValues file ids fields at values → (value : StaticValue) → Contains values value → ValueFits ids value
values_fit file ids fields at values (inl (none, same)) = of_none (ValueFits ids) values same
values_fit file ids fields at values (inr (some, spelled)) =
    of_each (ValueStands file ids fields) (ValueFits ids) (λ from value next stands. value_fits file ids stands.kind from.at value next.at stands.spelled) values _ spelled.listed.end spelled.listed.each

-- ---- classes

members_fit : (file : List ℕ) (ids : Ids) (stated : ClassRow) (class : RawClass) → SpellsClass file ids stated class → MembersFit ids stated class
members_fit file ids stated class spelled =
    let (fields, methods) = members_of file ids stated spelled.members spelled.spelled in
    record {
      fields = λ field named. fields field (subst (λ all. Contains all field) spelled.fields named);
      methods = of_seconds (SpellsSoundMethod file ids) (MemberFits ids stated.class) spelled.members.methods class.methods spelled.methods
          (λ other method named both. member_fits file ids stated.class other method (methods other named) both);
      values = λ row named. values_fit file ids spelled.members.fields stated.values_at class.values spelled.values (static.Text row) named row refl;
    }

pub spelled_classes_fit : SpelledClassesFit
spelled_classes_fit file ids classes tables spelled = record {
  whole = as_many (SpellsClass file ids) ids.classes classes spelled;
  members = λ number stated class here there. members_fit file ids stated class (pair_at (SpellsClass file ids) ids.classes classes spelled number stated class here there);
}
