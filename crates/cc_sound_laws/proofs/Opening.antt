-- A new world fits, and an entered method stands.
use Rattle.std.proofs.Common.{◌≡◌, ℕ, zero, suc, Bool, true, false, cond, [], ◌∷◌, Some, refl, sym, ap, ◌∙◌, subst, slice_get}
use Rattle.std.specs.Prelude.{option_map}
use Rattle.std.specs.Str.{bytes_eq}
use Rattle.std.proofs.lemmas.Option.{slice_get-map}
use Rattle.cc_meaning.specs.declared.program.Field.{Field}
use Rattle.cc_meaning.specs.declared.program.Program.{Program}
use Rattle.cc_meaning.specs.declared.value.Object.{Object}
use Rattle.cc_meaning.specs.declared.value.Object.TheVariants as object
use Rattle.cc_meaning.specs.declared.value.Value.TheVariants as value
use Rattle.cc_meaning.specs.BuiltIn.{print_stream_name, system_out_name}
use Rattle.cc_meaning.specs.Kinds.{kind_of, zero_of}
use Rattle.cc_meaning.specs.Names.{field_name}
use Rattle.cc_meaning_typing.specs.Types.{class_type, same}
use Rattle.cc_meaning_typing.specs.Registers.{register_of, register_of_kind}
use Rattle.cc_meaning_typing.specs.States.{opening}
use Rattle.cc_meaning.specs.declared.program.Code.{Code}
use Rattle.cc_meaning.specs.declared.program.Method.{Method}
use Rattle.cc_meaning.specs.declared.program.MethodKind.TheVariants as kinds
use Rattle.cc_sound_laws.proofs.Places.{code_is}
use Rattle.cc_sound_laws.proofs.Growing.{frame_covered}
use Rattle.cc_sound_laws.proofs.Raising.{opening_fits}
use Rattle.cc_sound_laws.proofs.Made.{zero_fits}
use Rattle.cc_meaning_exec.specs.Frames.{locals_for, registers_of, frame_for, registers_in}
use Rattle.cc_meaning_fits.specs.Fits.{Heap, heap_of, reference, FitsType, ObjectFits, FrameFits}
use Rattle.cc_meaning_fits.specs.Soundness.{OpeningFits, EntryStands}
use Rattle.cc_meaning_world.specs.Opening.{opening_static, opening_world}
use Rattle.cc_meaning_world.specs.Sorts.{Out, sort_of, number_of, type_of}

out_fits : (p : Program) (h : Heap) → h 0 ≡ Some Out → FitsType p h (class_type (number_of p print_stream_name)) (value.Obj (Some 0))
unfolding register_of register_of_kind type_of
out_fits p h e = reference {o = Some 0} (Out, e, same, tt)

static_fits : (p : Program) (h : Heap) (field : Field) (b : Bool) → bytes_eq (field_name p field) system_out_name ≡ b → h 0 ≡ Some Out → (bytes_eq (field_name p field) system_out_name ≡ true → field.ty ≡ class_type (number_of p print_stream_name)) →
    FitsType p h field.ty (cond b (value.Obj (Some 0)) (zero_of (kind_of field.ty)))
unfolding register_of
static_fits p h field true e o out = subst (λ t. FitsType p h t (value.Obj (Some 0))) (sym (out e)) (out_fits p h o)
static_fits p h field false e o out = zero_fits p h field.ty (kind_of field.ty)

first_only : (p : Program) (h : Heap) (a : ℕ) (o : Object) → slice_get (object.Out ∷ []) a ≡ Some o → ObjectFits p h o
first_only p h zero o e = subst (ObjectFits p h) (let q : object.Out ≡ o = cc in q) tt
first_only p h (suc a) o e = absurd (cc)

pub opening_world_fits : OpeningFits
unfolding opening_world opening_static sort_of
opening_world_fits p limits linked out = record {
  objects = λ a o e. first_only p (heap_of (opening_world p limits)) a o e;
  statics = λ f field e s.
      (opening_static p field, slice_get-map (opening_static p) p.fields f ∙ ap (option_map (opening_static p)) e, static_fits p (heap_of (opening_world p limits)) field (bytes_eq (field_name p field) system_out_name) refl refl (out f field e));
  literals = λ i m e. absurd (cc);
  constants = λ i m e. absurd (cc);
}

pub registers_are : (p : Program) (m : ℕ) (method : Method) (code : Code) → slice_get p.methods m ≡ Some method → method.kind ≡ kinds.Code code → code.registers ≡ registers_of p m
unfolding registers_of registers_in
registers_are p m method code e k = sym (ap registers_in (code_is p m method code e k))

unfoldable pub entry_stands : EntryStands
unfolding frame_for
entry_stands p h m args stack linked typed call =
    let x = (typed.sound m call.callee call.code call.named call.kind).typed in
    let o = x.1.opens in
    record {
      method = call.callee;
      code = call.code;
      named = call.named;
      kind = call.kind;
      typing = x.0;
      typed = x.1;
      state = o.0;
      here = o.1;
      fits = frame_covered p linked.hierarchy h call.code o.0 (opening p call.callee call.code) (locals_for (registers_of p m) args) o.2
          (subst (λ z. FrameFits p call.code h (opening p call.callee call.code) (locals_for z args)) (registers_are p m call.callee call.code call.named call.kind) (opening_fits p h call.callee call.code args call.arguments));
    }
