-- What it is for a program to be well typed.
use Rattle.std.specs.Prelude.{◌≡◌, ℕ, zero, suc, true, false, Bool, not, ◌&&◌, ◌||◌, All, Contains, Option, Some, None, slice_get}
use Rattle.std.specs.Str.{bytes_eq}
use Rattle.cc_meaning.specs.declared.instruction.How.{How}
use Rattle.cc_meaning.specs.declared.instruction.How.TheVariants as how
use Rattle.cc_meaning.specs.declared.instruction.Insn.{Insn}
use Rattle.cc_meaning.specs.declared.instruction.Insn.TheVariants as insn
use Rattle.cc_meaning.specs.declared.instruction.MethodRef.{MethodRef}
use Rattle.cc_meaning.specs.declared.instruction.MethodRef.TheVariants as ref
use Rattle.cc_meaning.specs.declared.instruction.TypeRef.{TypeRef}
use Rattle.cc_meaning.specs.declared.instruction.TypeRef.TheVariants as type
use Rattle.cc_meaning.specs.declared.program.Base.{Base}
use Rattle.cc_meaning.specs.declared.program.Base.TheVariants as base
use Rattle.cc_meaning.specs.declared.program.Catch.{Catch}
use Rattle.cc_meaning.specs.declared.program.Class.{Class}
use Rattle.cc_meaning.specs.declared.program.ClassKind.{ClassKind}
use Rattle.cc_meaning.specs.declared.program.ClassKind.TheVariants as origin
use Rattle.cc_meaning.specs.declared.program.Code.{Code}
use Rattle.cc_meaning.specs.declared.program.Field.{Field}
use Rattle.cc_meaning.specs.declared.program.Method.{Method}
use Rattle.cc_meaning.specs.declared.program.MethodKind.TheVariants as kinds
use Rattle.cc_meaning.specs.declared.program.Placed.{Placed}
use Rattle.cc_meaning.specs.declared.program.Program.{Program}
use Rattle.cc_meaning.specs.declared.program.Try.{Try}
use Rattle.cc_meaning.specs.BuiltIn.{string_name, system_name, print_stream_name}
use Rattle.cc_meaning.specs.Lookup.{system_out}
use Rattle.cc_meaning_typing.specs.Code.{Body, address, placed_at, insn_at, is_payload, case_targets, successors, handlers}
use Rattle.cc_meaning_typing.specs.Typing.{HasTyping}

-- ---- targets

-- an instruction that is no payload stands at the address
abbrev pub IsInsn : Option Insn → Type 0
IsInsn None = ⊥
IsInsn (Some insn) = is_payload insn ≡ false

abbrev pub IsTarget : Code → Option ℕ → Type 0
IsTarget code at = IsInsn (insn_at code at)

-- a payload of the kind of a switch
abbrev pub IsSwitchPayload : Bool → Option Insn → Type 0
IsSwitchPayload true (Some (insn.PackedPayload first targets)) = Unit {0}
IsSwitchPayload false (Some (insn.SparsePayload keys targets)) = Unit {0}
IsSwitchPayload _ _ = ⊥

abbrev pub IsArrayPayload : Option Insn → Type 0
IsArrayPayload (Some (insn.ArrayPayload width bytes)) = Unit {0}
IsArrayPayload _ = ⊥

-- the targets of an instruction at an address
abbrev pub HasTargets : Code → ℕ → Insn → Type 0
HasTargets code at (insn.Goto target) = IsTarget code (address at target)
HasTargets code at (insn.If test left right target) = IsTarget code (address at target)
HasTargets code at (insn.IfZero test value target) = IsTarget code (address at target)
HasTargets code at (insn.Switch packed value target) = IsSwitchPayload packed (insn_at code (address at target)) × All (IsTarget code) (case_targets code at packed target)
HasTargets code at (insn.FillArray array target) = IsArrayPayload (insn_at code (address at target))
HasTargets code at _ = Unit {0}

-- every target of an instruction, and every handler, is an instruction or a payload of the right kind
pub record TargetsStand (code : Code) : Type 0 where
  pub branches : All (λ (placed : Placed). HasTargets code placed.at placed.insn) code.insns
  pub catches : All (λ (try : Try). All (λ (catch : Catch). IsTarget code (Some catch.at)) try.catches) code.tries

-- ---- members

unfoldable pub is_of_file : ClassKind → Bool
is_of_file origin.File = true
is_of_file _ = false

unfoldable pub is_file_class : Option Class → Bool
is_file_class None = false
is_file_class (Some class) = is_of_file class.kind && not class.is_interface

unfoldable pub is_file_interface : Option Class → Bool
is_file_interface None = false
is_file_interface (Some class) = is_of_file class.kind && class.is_interface

-- a field of instances, which a class of the file declares that is no interface
abbrev pub KnowsInstance : Program → ℕ → Type 0
KnowsInstance program field = (found : Field) × (slice_get program.fields field ≡ Some found) × (found.is_static ≡ false) × (is_file_class (slice_get program.classes found.class) ≡ true)

abbrev pub KnowsStatic : Program → ℕ → Type 0
KnowsStatic program field = (found : Field) × (slice_get program.fields field ≡ Some found) × (found.is_static ≡ true)

abbrev pub IsInvokedBy : Body → How → Method → Type 0
IsInvokedBy body how.Static callee = callee.is_static ≡ true
IsInvokedBy body how.Direct callee = (callee.is_static ≡ false) × (callee.is_virtual ≡ false)
IsInvokedBy body how.Super callee = (callee.is_static ≡ false) × (is_file_interface (slice_get body.program.classes body.method.class) ≡ false)
IsInvokedBy body _ callee = callee.is_static ≡ false

abbrev pub KnowsMethod : Body → How → MethodRef → Type 0
KnowsMethod body how (ref.Row row) = ⊥
KnowsMethod body how (ref.Known class method) = (callee : Method) × (slice_get body.program.methods method ≡ Some callee) × IsInvokedBy body how callee

unfoldable pub is_abstract_in_file : Class → Bool
is_abstract_in_file class = is_of_file class.kind && (class.is_interface || class.is_abstract)

unfoldable pub is_never_made : Class → Bool
is_never_made class = bytes_eq class.name string_name || (bytes_eq class.name system_name || bytes_eq class.name print_stream_name)

unfoldable pub can_be_made : Option Class → Bool
can_be_made None = false
can_be_made (Some class) = not (is_abstract_in_file class) && not (is_never_made class)

-- no array, no interface or abstract class of the file, and neither String, System nor PrintStream. A number is no class, which the rule refuses.
abbrev pub IsMadeOf : Program → ℕ → Base → Type 0
IsMadeOf program (suc dims) base = ⊥
IsMadeOf program zero (base.Class class) = can_be_made (slice_get program.classes class) ≡ true
IsMadeOf program zero _ = Unit {0}

abbrev pub IsMade : Program → TypeRef → Type 0
IsMade program (type.Row row) = ⊥
IsMade program (type.Known type) = IsMadeOf program type.dims type.base

-- the member that an instruction names is known, and is one of those that this instruction is for
abbrev pub KnowsMember : Body → Insn → Type 0
KnowsMember body (insn.FieldGet kind to object field) = KnowsInstance body.program field
KnowsMember body (insn.FieldPut kind from object field) = KnowsInstance body.program field
KnowsMember body (insn.StaticGet kind to field) = KnowsStatic body.program field
KnowsMember body (insn.StaticPut kind from field) = KnowsStatic body.program field × (system_out body.program ≡ Some field → ⊥)
KnowsMember body (insn.Invoke how named args) = KnowsMethod body how named
KnowsMember body (insn.NewInstance to named) = IsMade body.program named
KnowsMember body _ = Unit {0}

-- ---- what is reached

-- control can reach an address from the first one, whatever the registers hold
pub data Reaches (code : Code) : ℕ → Type 0 where
  first : Reaches code 0
  on : {at to : ℕ} {placed : Placed} → Reaches code at → placed_at code at ≡ Some placed → Contains (successors code placed) (Some to) → Reaches code to
  caught : {at : ℕ} {placed : Placed} {catch : Catch} → Reaches code at → placed_at code at ≡ Some placed → Contains (handlers code placed) catch → Reaches code catch.at

-- ---- the program

-- a method with code is well typed
pub record IsSound (body : Body) : Type 0 where
  pub targets : TargetsStand body.code
  pub members : All (λ (placed : Placed). KnowsMember body placed.insn) body.code.insns
  pub reached : (at : ℕ) → Reaches body.code at → IsTarget body.code (Some at)
  pub typed : HasTyping body

-- every method with code is well typed
pub record WellTyped (program : Program) : Type 0 where
  pub sound : (m : ℕ) (method : Method) (code : Code) → slice_get program.methods m ≡ Some method → method.kind ≡ kinds.Code code → IsSound (record { program = program; method = method; code = code })
