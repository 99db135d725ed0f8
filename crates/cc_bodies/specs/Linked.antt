-- Code with what its rows link to in their place.
use Rattle.std.specs.Prelude.{◌≡◌, ℕ, List, slice_get, Option, Some, None}
use Rattle.cc_meaning.specs.declared.file.RawCatch.{RawCatch}
use Rattle.cc_meaning.specs.declared.file.RawCode.{RawCode}
use Rattle.cc_meaning.specs.declared.file.RawTry.{RawTry}
use Rattle.cc_meaning.specs.declared.instruction.How.{How}
use Rattle.cc_meaning.specs.declared.instruction.Insn.{Insn}
use Rattle.cc_meaning.specs.declared.instruction.Insn.TheVariants as insn
use Rattle.cc_meaning.specs.declared.instruction.Kind.{Kind}
use Rattle.cc_meaning.specs.declared.instruction.MethodRef.{MethodRef}
use Rattle.cc_meaning.specs.declared.instruction.MethodRef.TheVariants as method
use Rattle.cc_meaning.specs.declared.instruction.TypeRef.{TypeRef}
use Rattle.cc_meaning.specs.declared.instruction.TypeRef.TheVariants as type
use Rattle.cc_meaning.specs.declared.program.Catch.{Catch}
use Rattle.cc_meaning.specs.declared.program.Code.{Code}
use Rattle.cc_meaning.specs.declared.program.DexType.{DexType}
use Rattle.cc_meaning.specs.declared.program.Placed.{Placed}
use Rattle.cc_meaning.specs.declared.program.Try.{Try}
use Rattle.cc_meaning_program.specs.References.{reference_of}
use Rattle.cc_meaning_program.specs.Members.{Pairs}
use Rattle.cc_meaning_program.specs.declared.links.Links.{Links}
use Rattle.cc_meaning_program.specs.declared.links.MethodLink.{MethodLink}

-- ---- instructions

-- the type that a row links to; a type stays
pub data TypeLinked (links : Links) : TypeRef → TypeRef → Type 0 where
  of_row : {row : ℕ} {known : DexType} → slice_get links.types row ≡ Some (Some known) → TypeLinked links (type.Row row) (type.Known known)
  stays : {known : DexType} → TypeLinked links (type.Known known) (type.Known known)

-- the class and the method that a row links to; a method stays
pub data MethodLinked (links : Links) : MethodRef → MethodRef → Type 0 where
  of_row : {row : ℕ} {link : MethodLink} → slice_get links.methods row ≡ Some (Some link) → MethodLinked links (method.Row row) (method.Known link.class link.number)
  stays : {class number : ℕ} → MethodLinked links (method.Known class number) (method.Known class number)

-- only what names a row changes
pub data InsnLinked (links : Links) : Insn → Insn → Type 0 where
  same : {other : Insn} → reference_of other ≡ None → InsnLinked links other other
  text : {to row number : ℕ} → slice_get links.texts row ≡ Some number → InsnLinked links (insn.ConstText to row) (insn.ConstText to number)
  class : {to : ℕ} {named known : TypeRef} → TypeLinked links named known → InsnLinked links (insn.ConstClass to named) (insn.ConstClass to known)
  cast : {object : ℕ} {named known : TypeRef} → TypeLinked links named known → InsnLinked links (insn.CheckCast object named) (insn.CheckCast object known)
  instance : {to object : ℕ} {named known : TypeRef} → TypeLinked links named known → InsnLinked links (insn.InstanceOf to object named) (insn.InstanceOf to object known)
  object : {to : ℕ} {named known : TypeRef} → TypeLinked links named known → InsnLinked links (insn.NewInstance to named) (insn.NewInstance to known)
  array : {to length : ℕ} {named known : TypeRef} → TypeLinked links named known → InsnLinked links (insn.NewArray to length named) (insn.NewArray to length known)
  filled : {args : List ℕ} {named known : TypeRef} → TypeLinked links named known → InsnLinked links (insn.FilledNewArray named args) (insn.FilledNewArray known args)
  field_read : {kind : Kind} {to object row number : ℕ} → slice_get links.fields row ≡ Some (Some number) → InsnLinked links (insn.FieldGet kind to object row) (insn.FieldGet kind to object number)
  field_written : {kind : Kind} {from object row number : ℕ} → slice_get links.fields row ≡ Some (Some number) → InsnLinked links (insn.FieldPut kind from object row) (insn.FieldPut kind from object number)
  static_read : {kind : Kind} {to row number : ℕ} → slice_get links.fields row ≡ Some (Some number) → InsnLinked links (insn.StaticGet kind to row) (insn.StaticGet kind to number)
  static_written : {kind : Kind} {from row number : ℕ} → slice_get links.fields row ≡ Some (Some number) → InsnLinked links (insn.StaticPut kind from row) (insn.StaticPut kind from number)
  call : {how : How} {named known : MethodRef} {args : List ℕ} → MethodLinked links named known → InsnLinked links (insn.Invoke how named args) (insn.Invoke how known args)

pub record PlacedLinked (links : Links) (raw placed : Placed) : Type 0 where
  pub at : placed.at ≡ raw.at
  pub units : placed.units ≡ raw.units
  pub insn : InsnLinked links raw.insn placed.insn

-- ---- handlers

abbrev pub CatchTyped : Links → Option ℕ → Option DexType → Type 0
CatchTyped links None None = Unit {0}
CatchTyped links (Some row) (Some type) = slice_get links.types row ≡ Some (Some type)
CatchTyped links _ _ = ⊥

pub record CatchLinked (links : Links) (raw : RawCatch) (catch : Catch) : Type 0 where
  pub at : catch.at ≡ raw.at
  pub kind : CatchTyped links raw.row catch.kind

pub record TryLinked (links : Links) (raw : RawTry) (try : Try) : Type 0 where
  pub start : try.start ≡ raw.start
  pub end : try.end ≡ raw.end
  pub catches : Pairs (CatchLinked links) raw.catches try.catches

-- ---- code

pub record CodeLinked (links : Links) (raw : RawCode) (decoded : List Placed) (code : Code) : Type 0 where
  pub registers : code.registers ≡ raw.registers
  pub ins : code.ins ≡ raw.ins
  pub insns : Pairs (PlacedLinked links) decoded code.insns
  pub tries : Pairs (TryLinked links) raw.tries code.tries
