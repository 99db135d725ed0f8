-- Raising an exception is safe, and arguments that fit make an opening frame that fits.
use Rattle.std.proofs.Common.{◌≡◌, ℕ, zero, suc, ◌-◌, Bool, true, false, cond, List, [], ◌∷◌, ◌++◌, length, Option, Some, None, refl, ap, subst, slice_get}
use Rattle.std.specs.Prelude.{replicate, flat_map}
use Rattle.cc_meaning.specs.declared.instruction.Kind.{Kind}
use Rattle.cc_meaning.specs.declared.instruction.Kind.TheVariants as kind
use Rattle.cc_meaning.specs.declared.instruction.TypeRef.{TypeRef}
use Rattle.cc_meaning.specs.declared.program.Code.{Code}
use Rattle.cc_meaning.specs.declared.program.DexType.{DexType}
use Rattle.cc_meaning.specs.declared.program.Method.{Method}
use Rattle.cc_meaning.specs.declared.program.Program.{Program}
use Rattle.cc_meaning.specs.declared.program.RegType.{RegType}
use Rattle.cc_meaning.specs.declared.program.RegType.TheVariants.{Unset, LongLow, LongHigh, Reference, Int}
use Rattle.cc_meaning.specs.declared.value.Cell.{Cell}
use Rattle.cc_meaning.specs.declared.value.Cell.TheVariants as cell
use Rattle.cc_meaning.specs.declared.value.Value.{Value}
use Rattle.cc_meaning.specs.declared.value.Value.TheVariants as value
use Rattle.cc_meaning.specs.Kinds.{kind_of}
use Rattle.cc_meaning_typing.specs.Types.{class_type, held}
use Rattle.cc_meaning_typing.specs.Registers.{register_of, register_of_kind}
use Rattle.cc_meaning_typing.specs.States.{registers_of_kind, registers_of, argument_registers, opening}
use Rattle.cc_meaning_typing.specs.Code.{string_type, type_made_at}
use Rattle.cc_meaning_exec.specs.Frames.{cells_of, locals_for}
use Rattle.cc_meaning_fits.specs.Fits.{Heap, ValueFits, int as an_int, long as a_long, reference as a_reference, FitsType, ValuesFit, unset, int, low, high, reference, AllFit, none, each, nothing, FrameFits, ArgumentsFit, no_more, one, argument_types, ThrownFits}
use Rattle.cc_meaning_fits.specs.Premises.{Raisable}
use Rattle.cc_meaning_fits.specs.Soundness.{Safe}
use Rattle.cc_meaning_world.specs.Acts.{Outcome, Throws}
use Rattle.cc_meaning_world.specs.Layouts.{shape}
use Rattle.cc_meaning_world.specs.Sorts.{Instance, sort_of, type_of}
use Rattle.cc_meaning_world.specs.Throwing.{on_some, throw_of, throw_new}

-- ---- exceptions

null_text : (p : Program) (h : Heap) → FitsType p h (string_type p) (value.Obj None)
unfolding register_of register_of_kind string_type
null_text p h = a_reference tt

message_alone : (p : Program) (h : Heap) (types : List DexType) → types ≡ string_type p ∷ [] → ValuesFit p h types (value.Obj None ∷ [])
message_alone p h types e zero type d = (value.Obj None, refl, let f : string_type p ≡ type = let q : Some (string_type p) ≡ Some type = subst (λ z. slice_get z 0 ≡ Some type) e d in cc in subst (λ t. FitsType p h t (value.Obj None)) f (null_text p h))
message_alone p h types e (suc i) type d = absurd (let f = subst (λ z. slice_get z (suc i) ≡ Some type) e d in cc)

pub raise_safe : (p : Program) (Q : Heap → Outcome → Type 0) (h : Heap) (name : List ℕ) → Raisable p name → ((h' : Heap) (a : ℕ) → ThrownFits p h' a → Q h' (Throws a)) → Safe p Q h (throw_new p name)
unfolding throw_new throw_of on_some sort_of type_of
raise_safe p Q h name r throws = rw r.named ((r.made, message_alone p h (shape p r.class) r.shaped), λ h' a g e. throws h' a (Instance r.class 1, e, r.below, r.made))

-- ---- arguments

all_append : (p : Program) (made : ℕ → Option TypeRef) (h : Heap) {rs : List RegType} {cs : List Cell} (rs2 : List RegType) (cs2 : List Cell) → AllFit p made h rs cs → AllFit p made h rs2 cs2 → AllFit p made h (rs ++ rs2) (cs ++ cs2)
all_append p made h rs2 cs2 none g = g
all_append p made h rs2 cs2 (each f fs) g = each f (all_append p made h rs2 cs2 fs g)

all_unset : (p : Program) (made : ℕ → Option TypeRef) (h : Heap) (n : ℕ) → AllFit p made h (replicate n Unset) (replicate n cell.Unset)
all_unset p made h zero = none
all_unset p made h (suc n) = each unset (all_unset p made h n)

all_lengths : (p : Program) (made : ℕ → Option TypeRef) (h : Heap) {rs : List RegType} {cs : List Cell} → AllFit p made h rs cs → length rs ≡ length cs
all_lengths p made h none = refl
all_lengths p made h (each f fs) = ap suc (all_lengths p made h fs)

cells_more : (p : Program) (made : ℕ → Option TypeRef) (h : Heap) (type : DexType) (k : Kind) (v : Value) (vs : List Value) (rs : List RegType) → ValueFits p h (register_of_kind p type k) v → AllFit p made h rs (cells_of vs) →
    AllFit p made h (registers_of_kind (register_of_kind p type k) k ++ rs) (cells_of (v ∷ vs))
unfolding register_of_kind registers_of_kind cells_of
cells_more p made h type kind.Wide v vs rs f g = wide f
  where
    wide : {v : Value} → ValueFits p h LongLow v → AllFit p made h (LongLow ∷ LongHigh ∷ rs) (cells_of (v ∷ vs))
    wide a_long = each low (each high g)
cells_more p made h type kind.Object v vs rs f g = object_cell f
  where
    object_cell : {v : Value} → ValueFits p h (Reference (held p type)) v → AllFit p made h (Reference (held p type) ∷ rs) (cells_of (v ∷ vs))
    object_cell (a_reference f) = each (reference f) g
cells_more p made h type k v vs rs f g = int_cell f
  where
    int_cell : {v : Value} → ValueFits p h Int v → AllFit p made h (Int ∷ rs) (cells_of (v ∷ vs))
    int_cell an_int = each int g

cells_fit : (p : Program) (made : ℕ → Option TypeRef) (h : Heap) {types : List DexType} {vs : List Value} → ArgumentsFit p h types vs → AllFit p made h (flat_map (registers_of p) types) (cells_of vs)
unfolding registers_of register_of cells_of
cells_fit p made h no_more = none
cells_fit p made h (one {type = type} {v = v} {vs = vs} f fs) = cells_more p made h type (kind_of type) v vs _ f (cells_fit p made h fs)

padded : (p : Program) (made : ℕ → Option TypeRef) (h : Heap) (n : ℕ) (rs : List RegType) (cs : List Cell) → AllFit p made h rs cs → AllFit p made h (replicate (n - length rs) Unset ++ rs) (replicate (n - length cs) cell.Unset ++ cs)
padded p made h n rs cs f =
    let e = all_lengths p made h f in
    all_append p made h rs cs (subst (λ k. AllFit p made h (replicate (n - length rs) Unset) (replicate (n - k) cell.Unset)) e (all_unset p made h (n - length rs))) f

with_receiver : (p : Program) (made : ℕ → Option TypeRef) (h : Heap) (b : Bool) (class : ℕ) (params : List DexType) (args : List Value) → ArgumentsFit p h (cond b params (class_type class ∷ params)) args →
    AllFit p made h (cond b [] (register_of p (class_type class) ∷ []) ++ flat_map (registers_of p) params) (cells_of args)
unfolding registers_of register_of register_of_kind registers_of_kind
with_receiver p made h true class params args f = cells_fit p made h f
with_receiver p made h false class params args f = cells_fit p made h f

pub opening_fits : (p : Program) (h : Heap) (method : Method) (code : Code) (args : List Value) → ArgumentsFit p h (argument_types method) args → FrameFits p code h (opening p method code) (locals_for code.registers args)
unfolding opening argument_registers locals_for argument_types
opening_fits p h method code args f = record {
  registers = padded p (type_made_at code) h code.registers _ _ (with_receiver p (type_made_at code) h method.is_static method.class method.params args f);
  pending = nothing;
}
