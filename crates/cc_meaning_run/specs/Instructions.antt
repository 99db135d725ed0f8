-- What each instruction does.
use Rattle.std.specs.Prelude.{ℕ, ◌+◌, ℤ, List, [], ◌∷◌, ◌++◌, Option, Some, None, Bool, true, false, ◌&&◌, ◌==◌, nat_lt, if◌then◌else◌, slice_get, slice_set, find, codes}
use Rattle.std.specs.Str.{bytes_eq}
use Rattle.std.specs.Fmt.{signed_decimal}
use Rattle.std.specs.Int.{int_wrapping_add, w32}
use Rattle.cc_meaning.specs.declared.value.Value.{Value}
use Rattle.cc_meaning.specs.declared.value.Value.TheVariants as value
use Rattle.cc_meaning.specs.declared.value.Cell.{Cell}
use Rattle.cc_meaning.specs.declared.value.Cell.TheVariants as cell
use Rattle.cc_meaning.specs.declared.value.Object.{Object}
use Rattle.cc_meaning.specs.declared.value.Object.TheVariants as object
use Rattle.cc_meaning.specs.declared.instruction.Kind.TheVariants as kind
use Rattle.cc_meaning.specs.declared.instruction.How.TheVariants as how
use Rattle.cc_meaning.specs.declared.instruction.IntOp.TheVariants as op
use Rattle.cc_meaning.specs.declared.instruction.MethodRef.{MethodRef}
use Rattle.cc_meaning.specs.declared.instruction.MethodRef.TheVariants as ref
use Rattle.cc_meaning.specs.declared.instruction.Insn.{Insn}
use Rattle.cc_meaning.specs.declared.instruction.Insn.TheVariants as insn
use Rattle.cc_meaning.specs.declared.program.Placed.{Placed}
use Rattle.cc_meaning.specs.declared.program.Code.{Code}
use Rattle.cc_meaning.specs.declared.program.MethodKind.{MethodKind}
use Rattle.cc_meaning.specs.declared.program.MethodKind.TheVariants as kinds
use Rattle.cc_meaning.specs.declared.program.Method.{Method}
use Rattle.cc_meaning.specs.declared.program.Program.{Program}
use Rattle.cc_meaning.specs.BuiltIn.{print_stream_name}
use Rattle.cc_meaning.specs.Lookup.{class_named}
use Rattle.cc_meaning.specs.Names.{class_name, member_name}
use Rattle.cc_meaning_run.specs.World.{Locals}
use Rattle.cc_meaning_run.specs.Acts.{Next, Enter, Returns, Throws, Stuck, Act, Done, Make, Look, GetStatic, GetStatus, Tell}

-- ---- registers

-- goes on with the value of a register, with a number, or with the object of a reference
unfoldable pub on_cell : Option Cell → (Value → Act) → Act
on_cell None k = Done Stuck
on_cell (Some cell.Unset) k = Done Stuck
on_cell (Some (cell.Value v)) k = k v
on_cell (Some cell.High) k = Done Stuck

unfoldable pub on_value : Locals → ℕ → (Value → Act) → Act
on_value locals r k = on_cell (slice_get locals.cells r) k

unfoldable pub on_int : Value → (ℤ → Act) → Act
on_int (value.Int n) k = k n
on_int (value.Long n) k = Done Stuck
on_int (value.Obj o) k = Done Stuck

unfoldable pub on_object : Value → (ℕ → Act) → Act
on_object (value.Int n) k = Done Stuck
on_object (value.Long n) k = Done Stuck
on_object (value.Obj None) k = Done Stuck
on_object (value.Obj (Some a)) k = k a

-- the values of registers, in order
unfoldable pub on_values : Locals → List ℕ → (List Value → Act) → Act
on_values locals [] k = k []
on_values locals (r ∷ rs) k = on_value locals r (λ v. on_values locals rs (λ vs. k (v ∷ vs)))

-- goes on with what the instruction before left
unfoldable pub on_pending : Option Value → (Value → Act) → Act
on_pending None k = Done Stuck
on_pending (Some v) k = k v

-- a value is put into a register, and what was pending is dropped
unfoldable pub set_next : ℕ → Locals → ℕ → Value → Act
set_next next locals to v = Done (Next next (record { cells = slice_set locals.cells to (cell.Value v); pending = None }))

-- ---- exceptions

unfoldable pub throw_of : Option ℕ → Act
throw_of None = Done Stuck
throw_of (Some class) = Make (object.Instance class (value.Obj None ∷ [])) (λ a. Done (Throws a))

-- a new exception of the class of this name, without a message, is thrown
unfoldable pub throw_new : Program → List ℕ → Act
throw_new p name = throw_of (class_named name p)

-- ---- built-in methods

-- the built-in methods that are known so far
pub data BuiltIn : Type 0 where
  PrintlnInt : BuiltIn

unfoldable pub println_if : Bool → Option BuiltIn
println_if true = Some PrintlnInt
println_if false = None

-- the built-in method of a class and a name
unfoldable pub built_in : Program → Method → Option BuiltIn
built_in p m = println_if (bytes_eq (class_name p m.class) print_stream_name && bytes_eq (member_name p m) (codes "println(I)V"))

-- the number in decimal, and a line feed
unfoldable pub line_of : ℤ → List ℕ
line_of n = signed_decimal n ++ 10 ∷ []

unfoldable pub on_stream : Object → Act → Act
on_stream object.Out k = k
on_stream _ k = Done Stuck

unfoldable pub print_line : ℕ → ℕ → Locals → List Value → Act
print_line m next locals (receiver ∷ number ∷ []) =
    on_object receiver (λ a. Look a (λ o. on_stream o (on_int number (λ n. Tell m (line_of n) (Done (Next next (record locals { pending = None })))))))
print_line m next locals _ = Done Stuck

unfoldable pub call_built_in : Option BuiltIn → ℕ → ℕ → Locals → List Value → Act
call_built_in None m next locals args = Done Stuck
call_built_in (Some PrintlnInt) m next locals args = print_line m next locals args

unfoldable pub call_kind : Program → MethodKind → Method → ℕ → ℕ → Locals → List Value → Act
call_kind p kinds.BuiltIn method m next locals args = call_built_in (built_in p method) m next locals args
call_kind p (kinds.Code code) method m next locals args = Done (Enter m args next)
call_kind p _ method m next locals args = Done Stuck

unfoldable pub call : Program → Option Method → ℕ → ℕ → Locals → List Value → Act
call p None m next locals args = Done Stuck
call p (Some method) m next locals args = call_kind p method.kind method m next locals args

unfoldable pub call_named : Program → MethodRef → ℕ → Locals → List Value → Act
call_named p (ref.Row row) next locals args = Done Stuck
call_named p (ref.Known class m) next locals args = call p (slice_get p.methods m) m next locals args

-- A class that is started, or is being started, needs no start. The start of a class by an instruction comes with the files of several classes.
unfoldable pub if_started : ℕ → Act → Act
if_started status act = if nat_lt 0 status && nat_lt status 3 then act else Done Stuck

unfoldable pub enter_static : Method → MethodKind → ℕ → ℕ → List Value → Act
enter_static method (kinds.Code code) m next args = GetStatus method.class (λ status. if_started status (Done (Enter m args next)))
enter_static method _ m next args = Done Stuck

unfoldable pub call_static : Option Method → ℕ → ℕ → List Value → Act
call_static None m next args = Done Stuck
call_static (Some method) m next args = enter_static method method.kind m next args

unfoldable pub call_static_named : Program → MethodRef → ℕ → List Value → Act
call_static_named p (ref.Row row) next args = Done Stuck
call_static_named p (ref.Known class m) next args = call_static (slice_get p.methods m) m next args

-- ---- the instructions

-- What an instruction does whose successor stands at `next`. The instructions that aren't listed are stuck: they come with the files that have them.
unfoldable pub act_of : Program → ℕ → Locals → Insn → Act
act_of p next locals insn.ReturnVoid = Done (Returns None)
act_of p next locals (insn.Return kind.Plain from) = on_value locals from (λ v. on_int v (λ n. Done (Returns (Some (value.Int n)))))
act_of p next locals (insn.MoveResult kind.Plain to) = on_pending locals.pending (λ v. on_int v (λ n. set_next next locals to (value.Int n)))
act_of p next locals (insn.ConstInt to n) = set_next next locals to (value.Int n)
act_of p next locals (insn.IntOp op.Add to left right) = on_value locals left (λ a. on_int a (λ x. on_value locals right (λ b. on_int b (λ y. set_next next locals to (value.Int (int_wrapping_add w32 x y))))))
act_of p next locals (insn.IntLit op.Add reversed to left literal) = on_value locals left (λ a. on_int a (λ x. set_next next locals to (value.Int (int_wrapping_add w32 x literal))))
act_of p next locals (insn.StaticGet kind.Object to field) = GetStatic field (set_next next locals to)
act_of p next locals (insn.Invoke how.Virtual named args) = on_values locals args (call_named p named next locals)
act_of p next locals (insn.Invoke how.Static named args) = on_values locals args (call_static_named p named next)
act_of p next locals _ = Done Stuck

-- ---- the instruction at a place

unfoldable pub code_of_kind : MethodKind → Option Code
code_of_kind (kinds.Code code) = Some code
code_of_kind _ = None

unfoldable pub code_of_method : Option Method → Option Code
code_of_method None = None
code_of_method (Some method) = code_of_kind method.kind

unfoldable pub code_of : Program → ℕ → Option Code
code_of p m = code_of_method (slice_get p.methods m)

unfoldable pub placed_in : Option Code → ℕ → Option Placed
placed_in None pc = None
placed_in (Some code) pc = find (λ (placed : Placed). placed.at == pc) code.insns

unfoldable pub act_placed : Program → Locals → Option Placed → Act
act_placed p locals None = Done Stuck
act_placed p locals (Some placed) = act_of p (placed.at + placed.units) locals placed.insn

unfoldable pub act_at : Program → ℕ → ℕ → Locals → Act
act_at p m pc locals = act_placed p locals (placed_in (code_of p m) pc)
