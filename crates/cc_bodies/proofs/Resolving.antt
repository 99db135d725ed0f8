-- What is linked into a program is resolved in it.
use Rattle.std.proofs.Common.{◌≡◌, ℕ, List, [], map, Option, Some, None, refl, sym, ap, ◌∙◌, subst}
use Rattle.std.specs.Prelude.{slice_get, option_map, unwrap_or}
use Rattle.std.proofs.lemmas.List.{map-id}
use Rattle.std.proofs.lemmas.Option.{slice_get-map}
use Rattle.cc_meaning.specs.declared.file.Ids.{Ids}
use Rattle.cc_meaning.specs.declared.file.RawCatch.{RawCatch}
use Rattle.cc_meaning.specs.declared.file.RawClass.{RawClass}
use Rattle.cc_meaning.specs.declared.file.RawCode.{RawCode}
use Rattle.cc_meaning.specs.declared.file.RawTry.{RawTry}
use Rattle.cc_meaning.specs.declared.instruction.How.{How}
use Rattle.cc_meaning.specs.declared.instruction.Insn.{Insn}
use Rattle.cc_meaning.specs.declared.instruction.Insn.TheVariants as insn
use Rattle.cc_meaning.specs.declared.instruction.MethodRef.{MethodRef}
use Rattle.cc_meaning.specs.declared.instruction.MethodRef.TheVariants as method
use Rattle.cc_meaning.specs.declared.instruction.TypeRef.{TypeRef}
use Rattle.cc_meaning.specs.declared.instruction.TypeRef.TheVariants as type
use Rattle.cc_meaning.specs.declared.program.Catch.{Catch}
use Rattle.cc_meaning.specs.declared.program.Class.{Class}
use Rattle.cc_meaning.specs.declared.program.Code.{Code}
use Rattle.cc_meaning.specs.declared.program.DexType.{DexType}
use Rattle.cc_meaning.specs.declared.program.Placed.{Placed}
use Rattle.cc_meaning.specs.declared.program.Program.{Program}
use Rattle.cc_meaning.specs.declared.program.Try.{Try}
use Rattle.cc_meaning.specs.Lookup.{class_named, text_numbered}
use Rattle.cc_meaning.specs.Names.{field_name, method_name}
use Rattle.cc_meaning_program.specs.Instructions.{AreInstructions}
use Rattle.cc_meaning_program.specs.Named.{text_of, type_name}
use Rattle.cc_meaning_program.specs.References.{named_type, named_method, reference_of}
use Rattle.cc_meaning_program.specs.TypeNames.{Spells}
use Rattle.cc_meaning_program.specs.Members.{Pairs, CatchKind, CatchResolved, TryResolved, CodeResolved}
use Rattle.cc_meaning_program.specs.Resolved.{names_of, whole_name, TypeResolved, MethodResolved, FieldResolved, InsnResolved, PlacedResolved}
use Rattle.cc_meaning_program.specs.declared.links.Links.{Links}
use Rattle.cc_meaning_program.specs.declared.links.MethodLink.{MethodLink}
use Rattle.cc_bodies.specs.Linked.{TypeLinked, MethodLinked, InsnLinked, PlacedLinked, CatchTyped, CatchLinked, TryLinked, CodeLinked}
use Rattle.cc_bodies.specs.ProgramLinks.{LinkInto}
use Rattle.cc_bodies.proofs.Numbers.{number_of_named}

some_mapped : {A B : Type 0} (f : A → B) (option : Option A) (y : B) → option_map f option ≡ Some y → (x : A) × (option ≡ Some x) × (f x ≡ y)
some_mapped f (Some x) y e = (x, refl, cc)
some_mapped f None y e = absurd cc

pairs_map : {A B : Type 0} (these those : A → B → Type 0) → ((x : A) (y : B) → these x y → those x y) → (xs : List A) (ys : List B) → Pairs these xs ys → Pairs those xs ys
pairs_map these those each _ _ Pairs.none = Pairs.none
pairs_map these those each _ _ (Pairs.next {x = x} {y = y} {xs = xs} {ys = ys} first rest) = Pairs.next (each x y first) (pairs_map these those each xs ys rest)

module _ (ids : Ids) (classes : List RawClass) (program : Program) (links : Links) (into : LinkInto ids classes program links) where
  -- ---- rows

  text_resolved : (row number : ℕ) → slice_get links.texts row ≡ Some number → text_numbered (text_of ids row) program ≡ Some number
  unfolding text_of
  text_resolved row number there =
      let left : slice_get (map (slice_get into.texts) links.texts) row ≡ Some (slice_get into.texts number) = slice_get-map (slice_get into.texts) links.texts row ∙ ap (option_map (slice_get into.texts)) there in
      let right : slice_get (map Some ids.texts) row ≡ option_map Some (slice_get ids.texts row) = slice_get-map Some ids.texts row in
      let both : option_map Some (slice_get ids.texts row) ≡ Some (slice_get into.texts number) = sym right ∙ sym (ap (λ (xs : List (Option (List ℕ))). slice_get xs row) into.are.text_numbers) ∙ left in
      let found = some_mapped Some (slice_get ids.texts row) (slice_get into.texts number) both in
      let spelled : text_of ids row ≡ found.0 = ap (λ (option : Option (List ℕ)). unwrap_or option []) found.1 in
      ap (λ (text : List ℕ). text_numbered text program) spelled ∙ number_of_named (λ (text : List ℕ). text) program.texts into.texts number found.0 (map-id program.texts ∙ into.named.of_texts) into.texts_rise (sym found.2)

  type_spelled : (row : ℕ) (known : DexType) → slice_get links.types row ≡ Some (Some known) → Spells (names_of program) known (type_name ids row)
  type_spelled row known there = subst (λ (names : List (List ℕ)). Spells names known (type_name ids row)) (sym into.named.of_classes) (into.are.each_type row (Some known) there)

  method_resolved : (row : ℕ) (link : MethodLink) → slice_get links.methods row ≡ Some (Some link) → MethodResolved ids classes program (method.Row row) (method.Known link.class link.number)
  unfolding names_of
  method_resolved row link there =
      let is = into.are.each_method row link there in
      let class : class_named (type_name ids is.stated.class) program ≡ Some link.class =
      number_of_named (λ (class : Class). class.name) program.classes into.names link.class (type_name ids is.stated.class) into.named.of_classes into.names_rise is.class in
      MethodResolved.named is.there class is.named (number_of_named (method_name program) program.methods into.methods link.number (whole_name is.owner is.member) into.named.of_methods into.methods_rise is.numbered)

  field_resolved : (row number : ℕ) → slice_get links.fields row ≡ Some (Some number) → FieldResolved ids classes program row number
  field_resolved row number there =
      let is = into.are.each_field row number there in
      record {
        owner = is.owner;
        member = is.member;
        names = is.named;
        numbered = number_of_named (field_name program) program.fields into.fields number (whole_name is.owner is.member) into.named.of_fields into.fields_rise is.numbered;
      }

  -- ---- instructions

  -- an instruction with a type in some place
  typed : (place : TypeRef → Insn) → ((known : DexType) → reference_of (place (type.Known known)) ≡ None) → ((named known : TypeRef) → TypeResolved ids program named known → InsnResolved ids classes program (place named) (place known)) →
      (named known : TypeRef) → TypeLinked links named known → InsnResolved ids classes program (place named) (place known)
  typed place none resolved _ _ (TypeLinked.of_row {row = row} {known = known} there) = resolved (type.Row row) (type.Known known) (TypeResolved.named (type_spelled row known there))
  typed place none resolved _ _ (TypeLinked.stays {known = known}) = InsnResolved.same (none known)

  called : (how : How) (args : List ℕ) (named known : MethodRef) → MethodLinked links named known → InsnResolved ids classes program (insn.Invoke how named args) (insn.Invoke how known args)
  unfolding reference_of named_method
  called how args _ _ (MethodLinked.of_row {row = row} {link = link} there) = InsnResolved.call (method_resolved row link there)
  called how args _ _ (MethodLinked.stays {class = class} {number = number}) = InsnResolved.same refl

  insn_resolved : (raw placed : Insn) → InsnLinked links raw placed → InsnResolved ids classes program raw placed
  unfolding reference_of named_type
  insn_resolved _ _ (InsnLinked.same none) = InsnResolved.same none
  insn_resolved _ _ (InsnLinked.text {row = row} {number = number} there) = InsnResolved.text (text_resolved row number there)
  insn_resolved _ _ (InsnLinked.class {to = to} {named = named} {known = known} linked) = typed (λ it. insn.ConstClass to it) (λ _. refl) (λ a b is. InsnResolved.class is) named known linked
  insn_resolved _ _ (InsnLinked.cast {object = object} {named = named} {known = known} linked) = typed (λ it. insn.CheckCast object it) (λ _. refl) (λ a b is. InsnResolved.cast is) named known linked
  insn_resolved _ _ (InsnLinked.instance {to = to} {object = object} {named = named} {known = known} linked) = typed (λ it. insn.InstanceOf to object it) (λ _. refl) (λ a b is. InsnResolved.instance is) named known linked
  insn_resolved _ _ (InsnLinked.object {to = to} {named = named} {known = known} linked) = typed (λ it. insn.NewInstance to it) (λ _. refl) (λ a b is. InsnResolved.object is) named known linked
  insn_resolved _ _ (InsnLinked.array {to = to} {length = length} {named = named} {known = known} linked) = typed (λ it. insn.NewArray to length it) (λ _. refl) (λ a b is. InsnResolved.array is) named known linked
  insn_resolved _ _ (InsnLinked.filled {args = args} {named = named} {known = known} linked) = typed (λ it. insn.FilledNewArray it args) (λ _. refl) (λ a b is. InsnResolved.filled is) named known linked
  insn_resolved _ _ (InsnLinked.field_read {row = row} {number = number} there) = InsnResolved.field_read (field_resolved row number there)
  insn_resolved _ _ (InsnLinked.field_written {row = row} {number = number} there) = InsnResolved.field_written (field_resolved row number there)
  insn_resolved _ _ (InsnLinked.static_read {row = row} {number = number} there) = InsnResolved.static_read (field_resolved row number there)
  insn_resolved _ _ (InsnLinked.static_written {row = row} {number = number} there) = InsnResolved.static_written (field_resolved row number there)
  insn_resolved _ _ (InsnLinked.call {how = how} {named = named} {known = known} {args = args} linked) = called how args named known linked

  placed_resolved : (raw placed : Placed) → PlacedLinked links raw placed → PlacedResolved ids classes program raw placed
  placed_resolved raw placed linked = record { at = linked.at; units = linked.units; insn = insn_resolved raw.insn placed.insn linked.insn }

  -- ---- handlers

  kind_resolved : (row : Option ℕ) (kind : Option DexType) → CatchTyped links row kind → CatchKind ids program row kind
  kind_resolved None None typed = tt
  kind_resolved None (Some kind) typed = absurd typed
  kind_resolved (Some row) None typed = absurd typed
  kind_resolved (Some row) (Some kind) typed = type_spelled row kind typed

  catch_resolved : (raw : RawCatch) (catch : Catch) → CatchLinked links raw catch → CatchResolved ids program raw catch
  catch_resolved raw catch linked = record { at = linked.at; kind = kind_resolved raw.row catch.kind linked.kind }

  try_resolved : (raw : RawTry) (try : Try) → TryLinked links raw try → TryResolved ids program raw try
  try_resolved raw try linked =
      record { start = linked.start; end = linked.end; catches = pairs_map (CatchLinked links) (CatchResolved ids program) catch_resolved raw.catches try.catches linked.catches }

  pub code_resolved : (raw : RawCode) (insns : List Placed) (code : Code) → CodeLinked links raw insns code → AreInstructions raw.units insns → CodeResolved ids classes program raw code
  code_resolved raw insns code linked stand =
      record {
        registers = linked.registers;
        ins = linked.ins;
        decoded = insns;
        instructions = stand;
        insns = pairs_map (PlacedLinked links) (PlacedResolved ids classes program) placed_resolved insns code.insns linked.insns;
        tries = pairs_map (TryLinked links) (TryResolved ids program) try_resolved raw.tries code.tries linked.tries;
      }
