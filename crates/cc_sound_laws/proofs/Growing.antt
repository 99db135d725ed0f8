-- What fits a heap fits each that has grown from it, and what a state says of a frame each state says that covers it.
use Rattle.std.proofs.Common.{ℕ, List, Option, Some, None}
use Rattle.cc_meaning.specs.declared.instruction.TypeRef.{TypeRef}
use Rattle.cc_meaning.specs.declared.program.Code.{Code}
use Rattle.cc_meaning.specs.declared.program.DexType.{DexType}
use Rattle.cc_meaning.specs.declared.program.Program.{Program}
use Rattle.cc_meaning.specs.declared.program.RegType.{RegType}
use Rattle.cc_meaning.specs.declared.value.Cell.{Cell}
use Rattle.cc_meaning.specs.declared.value.Object.{Object}
use Rattle.cc_meaning.specs.declared.value.Object.TheVariants as object
use Rattle.cc_meaning.specs.declared.value.Value.{Value}
use Rattle.cc_meaning_typing.specs.declared.state.Pending.{Pending}
use Rattle.cc_meaning_typing.specs.declared.state.State.{State}
use Rattle.cc_meaning_typing.specs.Hierarchy.{IsHierarchy}
use Rattle.cc_meaning_typing.specs.Types.{IsBelow}
use Rattle.cc_meaning_typing.specs.Registers.{Covers, unset as covers_unset, same as covers_same, zero_int as covers_zero_int, zero_reference as covers_zero_reference, references as covers_references}
use Rattle.cc_meaning_typing.specs.States.{PendingCovers, nothing as covers_nothing, same_pending, exceptions, AllCover, none as no_cover, each as each_cover, StateCovers}
use Rattle.cc_meaning_typing.specs.Code.{type_made_at}
use Rattle.cc_meaning_typing.proofs.Lattice.{below_trans}
use Rattle.cc_meaning_fits.specs.Fits.{Heap, Grows, RefFits, ValueFits, int as an_int, long as a_long, reference as a_reference, ObjectFits, CellFits, unset, int, zero_int, low, high, zero_null, reference, fresh, AllFit, none, each, PendingFits, nothing, result, exception, FrameFits, ResultFits, void, gives}
use Rattle.cc_meaning_world.specs.World.{Locals}

module _ (p : Program) (h h' : Heap) (g : Grows h h') where
  pub ref_grows : (type : DexType) (o : Option ℕ) → RefFits p h type o → RefFits p h' type o
  ref_grows type None f = f
  ref_grows type (Some a) f = (f.0, g a f.0 f.1, f.2, f.3)

  pub value_grows : {a : RegType} {v : Value} → ValueFits p h a v → ValueFits p h' a v
  value_grows an_int = an_int
  value_grows a_long = a_long
  value_grows (a_reference {type = type} {o = o} f) = a_reference (ref_grows type o f)

  pub object_grows : (o : Object) → ObjectFits p h o → ObjectFits p h' o
  object_grows (object.Instance class values) f = (f.0, λ i type e. let x = f.1 i type e in (x.0, x.1, value_grows x.2))
  object_grows (object.Array class values) f = (f.0, f.1, λ i v e. value_grows (f.2 i v e))
  object_grows object.Out f = f
  object_grows (object.Text units) f = f
  object_grows (object.Builder units) f = f
  object_grows (object.Constant class) f = f

  pub result_grows : {type : Option DexType} {v : Option Value} → ResultFits p h type v → ResultFits p h' type v
  result_grows void = void
  result_grows (gives f) = gives (value_grows f)

  pub pending_grows : {a : Pending} {v : Option Value} → PendingFits p h a v → PendingFits p h' a v
  pending_grows nothing = nothing
  pending_grows (result f) = result (value_grows f)
  pending_grows (exception {type = type} {a = a} f) = exception (ref_grows type (Some a) f)

  module _ (made : ℕ → Option TypeRef) where
    pub cell_grows : {a : RegType} {c : Cell} → CellFits p made h a c → CellFits p made h' a c
    cell_grows unset = unset
    cell_grows int = int
    cell_grows zero_int = zero_int
    cell_grows low = low
    cell_grows high = high
    cell_grows zero_null = zero_null
    cell_grows (reference {type = type} {o = o} f) = reference (ref_grows type o f)
    cell_grows (fresh {a = a} sort e fits made) = fresh sort (g a sort e) fits made

    pub all_grow : {rs : List RegType} {cs : List Cell} → AllFit p made h rs cs → AllFit p made h' rs cs
    all_grow none = none
    all_grow (each f fs) = each (cell_grows f) (all_grow fs)

  pub frame_grows : (code : Code) (s : State) (locals : Locals) → FrameFits p code h s locals → FrameFits p code h' s locals
  frame_grows code s locals f = record { registers = all_grow (type_made_at code) f.registers; pending = pending_grows f.pending }

module _ (p : Program) (hierarchy : IsHierarchy p) (h : Heap) where
  pub ref_below : (type above : DexType) (o : Option ℕ) → IsBelow p type above → RefFits p h type o → RefFits p h above o
  ref_below type above None b f = f
  ref_below type above (Some a) b f = (f.0, f.1, below_trans p hierarchy f.2 b, f.3)

  module _ (made : ℕ → Option TypeRef) where
    pub cell_covered : {b a : RegType} {c : Cell} → Covers p b a → CellFits p made h a c → CellFits p made h b c
    cell_covered covers_unset f = unset
    cell_covered covers_same f = f
    cell_covered covers_zero_int zero_int = int
    cell_covered covers_zero_reference zero_int = zero_null
    cell_covered (covers_references b) zero_null = zero_null
    cell_covered (covers_references {type = type} {above = above} b) (reference {o = o} f) = reference (ref_below type above o b f)

    pub all_covered : {bs as' : List RegType} {cs : List Cell} → AllCover p bs as' → AllFit p made h as' cs → AllFit p made h bs cs
    all_covered no_cover none = none
    all_covered (each_cover c cover) (each f fs) = each (cell_covered c f) (all_covered cover fs)

  pub pending_covered : {b a : Pending} {v : Option Value} → PendingCovers p b a → PendingFits p h a v → PendingFits p h b v
  pending_covered covers_nothing f = nothing
  pending_covered same_pending f = f
  pending_covered (exceptions {type = type} {above = above} b) (exception {a = a} f) = exception (ref_below type above (Some a) b f)

  pub frame_covered : (code : Code) (u s : State) (locals : Locals) → StateCovers p u s → FrameFits p code h s locals → FrameFits p code h u locals
  frame_covered code u s locals c f = record { registers = all_covered (type_made_at code) c.registers f.registers; pending = pending_covered c.pending f.pending }

pub grows_trans : (h1 h2 h3 : Heap) → Grows h1 h2 → Grows h2 h3 → Grows h1 h3
grows_trans h1 h2 h3 f g a sort e = g a sort (f a sort e)
