-- The methods that are made from plans are those of the program.
use Rattle.std.proofs.Common.{◌≡◌, ◌⊎◌, inl, inr, not, ℕ, ◌<◌, List, [], ◌∷◌, length, map, Option, Some, None, refl, sym, ap, subst, ◌∙◌, arith}
use Rattle.std.specs.Prelude.{slice_get, option_and_then}
use Rattle.std.proofs.lemmas.Option.{slice_get_within, get_or_from_slice_get}
use Rattle.cc_bodies.specs.Linkable.{SoundCodeIsLinkable}
use Rattle.cc_bodies.specs.ProgramLinks.{LinkInto}
use Rattle.cc_meaning.specs.declared.file.Ids.{Ids}
use Rattle.cc_meaning.specs.declared.file.MethodRow.{MethodRow}
use Rattle.cc_meaning.specs.declared.file.ProtoRow.{ProtoRow}
use Rattle.cc_meaning.specs.declared.file.RawClass.{RawClass}
use Rattle.cc_meaning.specs.declared.file.RawMethod.{RawMethod}
use Rattle.cc_meaning.specs.declared.program.DexType.{DexType}
use Rattle.cc_meaning.specs.declared.program.Method.{Method}
use Rattle.cc_meaning.specs.declared.program.Placed.{Placed}
use Rattle.cc_meaning.specs.declared.program.Program.{Program}
use Rattle.cc_meaning.specs.Names.{method_name}
use Rattle.cc_meaning_dex.specs.Descriptors.{IsDescriptor}
use Rattle.cc_meaning_program.specs.declared.reference.Reference.TheVariants as reference
use Rattle.cc_meaning_program.specs.BodyFaults.{HaveSoundBodies}
use Rattle.cc_meaning_program.specs.ClassNames.{AreClassNames}
use Rattle.cc_meaning_program.specs.Instructions.{StandToEnd}
use Rattle.cc_meaning_program.specs.Named.{text_of, type_name, method_member}
use Rattle.cc_meaning_program.specs.References.{MethodFloats}
use Rattle.cc_meaning_program.specs.TypeNames.{Spells, ListedTypesSpelled}
use Rattle.cc_meaning_program.specs.OwnMembers.{method_defined, method_listed, built_in_methods_of, built_in_by_kind, is_constructor}
use Rattle.cc_meaning_program.specs.Members.{Pairs, ResultSpelled, IsNamedBy, IsMethod, is_static_call, is_virtual_call}
use Rattle.cc_meaning_program.specs.Naming.{RowNamesMethod}
use Rattle.cc_meaning_program.specs.Resolved.{names_of, whole_name}
use Rattle.cc_meaning_program.specs.Searches.{First}
use Rattle.cc_meaning_program.specs.Outlines.{AreOutlines}
use Rattle.cc_meaning_program.specs.OwnerNumbers.{method_in, method_placed}
use Rattle.cc_meaning_program.specs.Plans.{name_at, raw_method_member, listed_member, source_member, method_plan_name, IsSource}
use Rattle.cc_meaning_program.specs.Rows.{FitTables, FitClasses}
use Rattle.cc_meaning_program.specs.declared.links.Links.{Links}
use Rattle.cc_meaning_program.specs.declared.outline.Outline.{Outline}
use Rattle.cc_meaning_program.specs.declared.plan.MethodPlan.{MethodPlan}
use Rattle.cc_meaning_program.specs.declared.plan.MethodSource.{MethodSource}
use Rattle.cc_meaning_program.specs.declared.uses.MethodUse.{MethodUse}
use Rattle.cc_built_in.specs.BuiltInMethods.{BuiltInMethod, built_in_member}
use Rattle.cc_names.specs.Types.{AreTypesOf}
use Rattle.cc_members.specs.Made.{EachMade}
use Rattle.cc_members.specs.MadeMethods.{MethodRowStands, IsSpelled, listed_at, DefinedStands, MethodCanBeMade, MethodOfRow, MethodMade}
use Rattle.cc_members.specs.MethodPremises.{PlanMethods, LinkFile, HaveMethodNames, IsPlannedMethod, ArePlannedMethods, BodyLeft, BodiesLeft}
use Rattle.cc_members.specs.Stated.{members_at}
use Rattle.cc_members.proofs.BodiesTaken.{method_stands, owner_there}
use Rattle.cc_members.proofs.ByNumber.{members_same}
use Rattle.cc_members.proofs.FirstUse.{first_method, first_is_among, first_is_so}
use Rattle.cc_members.proofs.ListedMethods.{listed_in_program}
use Rattle.cc_members.proofs.MadeOneByOne.{all_named}
use Rattle.cc_members.proofs.MethodNames.{method_text, method_named, row_member, listed_text}
use Rattle.cc_members.proofs.Sound.{method_is_plain, in_classes, named_is_plain}
use Rattle.cc_members.proofs.Spelling.{body_read, result_spelled}
use Rattle.cc_members.proofs.Typed.{item_there, row_typed}

-- the types of rows among links
pub types_of : (ids : Ids) (classes : List RawClass) (names : List (List ℕ)) (links : Links) → LinkFile ids classes names links → AreTypesOf names (length ids.types) (type_name ids) links.types
types_of ids classes names links file = record { all = file.are.all_types; each = file.are.each_type }

module _ (spelled : ListedTypesSpelled) (ends : StandToEnd) (linkable : SoundCodeIsLinkable) (ids : Ids) (classes : List RawClass) (names : List (List ℕ)) (outlines : List Outline) (links : Links) (tables : FitTables ids) (fit : FitClasses ids classes) (sound : HaveSoundBodies ids classes) (are_names : AreClassNames ids names) (are_outlines : AreOutlines ids names outlines) (file : LinkFile ids classes names links) where
  are : AreTypesOf names (length ids.types) (type_name ids) links.types
  are = types_of ids classes names links file

  -- ---- what is there

  -- a row of methods that isn't of floating point stands
  row_stands : (row : ℕ) (stated : MethodRow) → slice_get ids.methods row ≡ Some stated → ¬ MethodFloats ids row → MethodRowStands ids links.types row
  row_stands row stated there plain =
      let fits = tables.methods row stated there in
      let (prototype, typed) = item_there ids.protos stated.proto fits.proto in
      let proto_fits = tables.protos stated.proto prototype typed in
      record {
        stated = stated;
        there = there;
        name = fits.name;
        prototype = prototype;
        typed = typed;
        result = omega (arith, proto_fits.result, are.all);
        params = λ type among. row_typed spelled ids names links.types type tables are_names are (proto_fits.params type among) (λ floats. plain (MethodFloats.by_parameter there typed among floats));
      }

  -- the method of the file at a place, with its body
  defined_stands : (bodies : List (List (Option (List Placed)))) (owner place : ℕ) → BodyLeft classes outlines bodies owner place → DefinedStands ids classes outlines links bodies owner place
  defined_stands bodies owner place left =
      let at = method_stands classes outlines owner place left.raw left.there in
      let (stated, defined) = item_there ids.classes at.number (omega (arith, fit.whole, slice_get_within classes at.number at.class at.there)) in
      let members = fit.members at.number stated at.class defined at.there in
      let fits = members.methods left.raw (place, slice_get_within at.class.methods place left.raw at.stands, get_or_from_slice_get at.class.methods place left.raw left.raw at.stands) in
      let plain = method_is_plain ids classes at.number at.class place left.raw sound at.there at.stands in
      record {
        definition = left.definition;
        defined = left.defined;
        raw = left.raw;
        there = left.there;
        row = row_stands left.raw.row fits.owned.stated fits.owned.there plain;
        taken = left.taken;
        stands = left.stands;
        kind = record {
          read = left.read;
          coded = fits.coded;
          linked = λ code insns coded taken.
              linkable ids classes names file.texts file.methods file.fields file.method_uses file.field_uses links tables fit are_names sound file.uses file.are code insns
              (record { number = at.number; class = at.class; class_there = at.there; place = place; method = left.raw; method_there = at.stands; coded = coded })
              (body_read left.raw.code left.taken left.read code insns coded taken);
        };
      }

  -- ---- plans

  module _ (plans : List MethodPlan) (of : PlanMethods ids classes names plans) where
    here : (number : ℕ) (plan : MethodPlan) → slice_get plans number ≡ Some plan → slice_get names plan.owner ≡ Some (name_at names plan.owner)
    here number plan there = owner_there ids classes names outlines are_outlines plans of number plan there

    pub owner_known : (number : ℕ) (plan : MethodPlan) → slice_get plans number ≡ Some plan → plan.owner < length names
    owner_known number plan there = slice_get_within names plan.owner (name_at names plan.owner) (here number plan there)

    -- the built-in method that a plan is made from
    listed_is : (number : ℕ) (plan : MethodPlan) (place : ℕ) (listed : BuiltInMethod) → slice_get plans number ≡ Some plan → slice_get (built_in_methods_of ids (name_at names plan.owner)) place ≡ Some listed →
        listed_at names outlines plan.owner place ≡ Some listed
    unfolding built_in_methods_of
    listed_is number plan place listed there is =
        let class = name_at names plan.owner in
        let named = here number plan there in
        let (outline, at) = item_there outlines plan.owner (omega (arith, are_outlines.all, owner_known number plan there)) in
        let kind = (are_outlines.each plan.owner class outline named at).kind in
        ap (λ (o : Option Outline). option_and_then (λ (outline : Outline). slice_get (built_in_by_kind outline.kind class) place) o) at
        ∙ (ap (λ kind. slice_get (built_in_by_kind kind class) place) kind ∙ is)

    -- what a plan is made from is there
    pub can_be_made : (bodies : List (List (Option (List Placed)))) (number : ℕ) (plan : MethodPlan) → slice_get plans number ≡ Some plan → BodiesLeft classes outlines plans bodies number →
        MethodCanBeMade ids classes names outlines links bodies plan.owner plan.source
    unfolding built_in_methods_of
    can_be_made bodies number plan there left = made plan.source refl (of.planned.each number plan there)
      where
        made : (source : MethodSource) → plan.source ≡ source → IsSource ids classes of.methods (name_at names plan.owner) source → MethodCanBeMade ids classes names outlines links bodies plan.owner source
        made _ is (IsSource.file {place = place} placed defined) = defined_stands bodies plan.owner place (left number place plan (omega arith) there is)
        made _ is (IsSource.built_in {place = place} {listed = listed} at named none) = (listed, listed_is number plan place listed there at, listed_in_program ids names are_names _ (name_at names plan.owner) place listed at)
        made _ is (IsSource.outside {used = used} first none nor) =
            let named = first_method ids classes (name_at names plan.owner) (method_member ids used.row) of.uses.instructions used
            (subst (λ uses. First (λ (other : MethodUse). RowNamesMethod ids classes other.row (name_at names plan.owner) (method_member ids used.row)) uses used) of.uses.of_methods first) in
            let insn = in_classes ends ids classes of.uses.instructions named.placed sound of.uses.are (first_is_among of.uses.instructions named.placed named.first) in
            let names_it = first_is_so of.methods used first in
            row_stands used.row names_it.stated names_it.there (named_is_plain ids named.placed (reference.Method used.row) insn named.refers)

    -- ---- a program

    module _ (program : Program) (same : names_of program ≡ names) where
      -- the types that rows link to spell their descriptors
      params_spelled : (types : List DexType) (rows : List ℕ) → map (λ (ty : DexType). Some (Some ty)) types ≡ map (slice_get links.types) rows → Pairs (Spells names) types (map (type_name ids) rows)
      params_spelled [] [] is = Pairs.none
      params_spelled [] (row ∷ rows) is = absurd (cc)
      params_spelled (ty ∷ types) [] is = absurd (cc)
      params_spelled (ty ∷ types) (row ∷ rows) is =
          let first : slice_get links.types row ≡ Some (Some ty) = cc in
          let rest : map (λ (ty : DexType). Some (Some ty)) types ≡ map (slice_get links.types) rows = cc in
          Pairs.next (are.each row (Some ty) first) (params_spelled types rows rest)

      -- so does the result, unless it is V
      row_result : (row : ℕ) (stated : MethodRow) (prototype : ProtoRow) (result : Option DexType) → slice_get ids.methods row ≡ Some stated → slice_get ids.protos stated.proto ≡ Some prototype → ¬ MethodFloats ids row →
          slice_get links.types prototype.result ≡ Some result → ResultSpelled names result (type_name ids prototype.result)
      row_result row stated prototype result there typed plain linked = result_spelled names name result (are.each prototype.result result linked) (from (tables.types prototype.result within))
        where
          name : List ℕ
          name = type_name ids prototype.result

          within : prototype.result < length ids.types
          within = (tables.protos stated.proto prototype typed).result

          from : IsDescriptor (type_name ids prototype.result) → ResultSpelled names None (type_name ids prototype.result) ⊎ IsSpelled names (type_name ids prototype.result)
          from (inl void) = inl void
          from (inr value) = inr (spelled ids names are_names prototype.result within value (λ floats. plain (MethodFloats.by_result there typed floats)))

      -- a method of a row's name and types
      named_by_row : (owner row : ℕ) (method : Method) → ¬ MethodFloats ids row → MethodOfRow ids links.types owner row method → IsNamedBy ids program row method
      named_by_row owner row method plain made = record {
        stated = made.stated;
        there = made.there;
        prototype = made.prototype;
        typed = made.typed;
        name = made.name;
        params = subst (λ (ns : List (List ℕ)). Pairs (Spells ns) method.params (map (type_name ids) made.prototype.params)) (sym same) (params_spelled method.params made.prototype.params made.params);
        result = subst (λ (ns : List (List ℕ)). ResultSpelled ns method.result (type_name ids made.prototype.result)) (sym same) (row_result row made.stated made.prototype method.result made.there made.typed plain made.result);
      }

      row_named : (owner row : ℕ) (method : Method) → ¬ MethodFloats ids row → MethodOfRow ids links.types owner row method → method_name program method ≡ whole_name (name_at names owner) (method_member ids row)
      row_named owner row method plain made =
          method_named program names same method (text_of ids made.stated.name) (map (type_name ids) made.prototype.params) (type_name ids made.prototype.result) made.name (params_spelled method.params made.prototype.params made.params)
          (row_result row made.stated made.prototype method.result made.there made.typed plain made.result)
          ∙ (ap (λ (n : ℕ). whole_name (name_at names n) (method_text (text_of ids made.stated.name) (map (type_name ids) made.prototype.params) (type_name ids made.prototype.result))) made.class
          ∙ ap (whole_name (name_at names owner)) (row_member ids row made.stated made.prototype made.there made.typed))

      -- ---- what a method is made from

      raw_plain : (owner place : ℕ) (raw : RawMethod) → method_in place (members_at classes outlines owner) ≡ Some raw → ¬ MethodFloats ids raw.row
      raw_plain owner place raw is = let at = method_stands classes outlines owner place raw is in method_is_plain ids classes at.number at.class place raw sound at.there at.stands

      used_plain : (owner : List ℕ) (used : MethodUse) → First (λ (other : MethodUse). RowNamesMethod ids classes other.row owner (method_member ids used.row)) of.methods used → ¬ MethodFloats ids used.row
      used_plain owner used first =
          let named = first_method ids classes owner (method_member ids used.row) of.uses.instructions used
          (subst (λ uses. First (λ (other : MethodUse). RowNamesMethod ids classes other.row owner (method_member ids used.row)) uses used) of.uses.of_methods first) in
          let insn = in_classes ends ids classes of.uses.instructions named.placed sound of.uses.are (first_is_among of.uses.instructions named.placed named.first) in
          named_is_plain ids named.placed (reference.Method used.row) insn named.refers

      -- what a number and a name of a class give is one
      one_raw : (number : ℕ) (plan : MethodPlan) (place : ℕ) (raw found : RawMethod) → slice_get plans number ≡ Some plan → method_placed ids classes (name_at names plan.owner) place ≡ Some raw →
          method_in place (members_at classes outlines plan.owner) ≡ Some found → found ≡ raw
      unfolding method_placed
      one_raw number plan place raw found there placed at =
          let members = ap (method_in place) (members_same ids classes names outlines are_outlines plan.owner (name_at names plan.owner) (here number plan there)) in
          let e : Some found ≡ Some raw = sym at ∙ (members ∙ placed) in
          cc

      one_listed : (number : ℕ) (plan : MethodPlan) (place : ℕ) (listed found : BuiltInMethod) → slice_get plans number ≡ Some plan → slice_get (built_in_methods_of ids (name_at names plan.owner)) place ≡ Some listed →
          listed_at names outlines plan.owner place ≡ Some found → found ≡ listed
      one_listed number plan place listed found there at is = let e : Some found ≡ Some listed = sym is ∙ listed_is number plan place listed there at in cc

      -- ---- a method of a plan

      is_planned : LinkInto ids classes program links → (number : ℕ) (plan : MethodPlan) (method : Method) → slice_get plans number ≡ Some plan → MethodMade ids classes names outlines links plan.owner plan.source method →
          IsPlannedMethod ids classes names program plan method
      unfolding raw_method_member listed_member source_member
      is_planned into number plan method there made = let (owned, is) = from_source plan.source (of.planned.each number plan there) made in record { class = owned; is = is }
        where
          from_source : (source : MethodSource) → IsSource ids classes of.methods (name_at names plan.owner) source → MethodMade ids classes names outlines links plan.owner source method →
              (method.class ≡ plan.owner) × IsMethod ids classes program (name_at names plan.owner) (source_member ids classes (name_at names plan.owner) source) method
          from_source _ (IsSource.file {place = place} {raw = raw} placed defined) (found, at, row, is) =
              let class = name_at names plan.owner in
              let one = one_raw number plan place raw found there placed at in
              let member : raw_method_member ids (method_placed ids classes class place) ≡ method_member ids raw.row = ap (raw_method_member ids) placed in
              let named = named_by_row plan.owner found.row method (raw_plain plan.owner place found at) row in (
                row.class,
                subst (λ (r : RawMethod). IsMethod ids classes program class (raw_method_member ids (method_placed ids classes class place)) method) one
                    (IsMethod.defined {raw = found} (ap (method_defined ids classes class) member ∙ (defined ∙ ap Some (sym one))) named is.static is.virtual (is.kind program into)),
              )
          from_source _ (IsSource.built_in {place = place} {listed = listed} at named none) (found, is, made) =
              let class = name_at names plan.owner in
              let one = one_listed number plan place listed found there at is in
              let member : listed_member (slice_get (built_in_methods_of ids class) place) ≡ built_in_member found = ap listed_member at ∙ ap built_in_member (sym one) in (
                made.class,
                IsMethod.built_in {listed = found} (ap (method_defined ids classes class) (ap listed_member at) ∙ none) (ap (method_listed ids class) (ap listed_member at) ∙ (named ∙ ap Some (sym one))) made.name
                    (subst (λ (ns : List (List ℕ)). Pairs (Spells ns) method.params found.params) (sym same) made.params)
                    (subst (λ (ns : List (List ℕ)). ResultSpelled ns method.result found.result) (sym same) made.result)
                    made.is.static (subst (λ (m : List ℕ). method.is_virtual ≡ not (is_constructor m)) (sym member) made.is.virtual) made.is.kind,
              )
          from_source _ (IsSource.outside {used = used} first none nor) (row, is) =
              let class = name_at names plan.owner in
              let named = first_method ids classes class (method_member ids used.row) of.uses.instructions used
              (subst (λ uses. First (λ (other : MethodUse). RowNamesMethod ids classes other.row class (method_member ids used.row)) uses used) of.uses.of_methods first) in (
                row.class,
                IsMethod.outside none nor of.uses.are named.first named.refers (named_by_row plan.owner used.row method (used_plain class used first) row)
                    (is.static ∙ ap is_static_call (sym named.how)) (is.virtual ∙ ap is_virtual_call (sym named.how)) is.kind,
              )

      -- and it has its name
      planned_name : (number : ℕ) (plan : MethodPlan) (method : Method) → slice_get plans number ≡ Some plan → MethodMade ids classes names outlines links plan.owner plan.source method →
          method_name program method ≡ method_plan_name ids classes names plan
      unfolding raw_method_member listed_member source_member method_plan_name
      planned_name number plan method there made = from_source plan.source (of.planned.each number plan there) made
        where
          from_source : (source : MethodSource) → IsSource ids classes of.methods (name_at names plan.owner) source → MethodMade ids classes names outlines links plan.owner source method →
              method_name program method ≡ whole_name (name_at names plan.owner) (source_member ids classes (name_at names plan.owner) source)
          from_source _ (IsSource.file {place = place} {raw = raw} placed defined) (found, at, row, is) =
              row_named plan.owner found.row method (raw_plain plan.owner place found at) row
              ∙ ap (whole_name (name_at names plan.owner)) (ap (λ (r : RawMethod). method_member ids r.row) (one_raw number plan place raw found there placed at) ∙ ap (raw_method_member ids) (sym placed))
          from_source _ (IsSource.built_in {place = place} {listed = listed} at named none) (found, is, made) =
              method_named program names same method found.name found.params found.result made.name made.params made.result
              ∙ (ap (λ (n : ℕ). whole_name (name_at names n) (method_text found.name found.params found.result)) made.class
              ∙ ap (whole_name (name_at names plan.owner)) (listed_text found ∙ (ap built_in_member (one_listed number plan place listed found there at is) ∙ ap listed_member (sym at))))
          from_source _ (IsSource.outside {used = used} first none nor) (row, is) = row_named plan.owner used.row method (used_plain (name_at names plan.owner) used first) row

    abbrev IsMade : MethodPlan → Method → Type 0
    IsMade plan method = MethodMade ids classes names outlines links plan.owner plan.source method

    pub have_names : (methods : List Method) → EachMade IsMade plans methods (length plans) → HaveMethodNames ids classes names plans methods
    have_names methods made program same = all_named IsMade plans methods (method_plan_name ids classes names) (method_name program) made (planned_name program same)

    pub are_planned : (methods : List Method) → EachMade IsMade plans methods (length plans) → ArePlannedMethods ids classes names links plans methods
    are_planned methods made program same into number plan method planned there = is_planned program same into number plan method planned (made.each number plan method planned there)
