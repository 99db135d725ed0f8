-- What a rule accepts it accepts of each state that this one covers, and what it gives then covers likewise.
use Rattle.std.proofs.Common.{◌≡◌, ◌⊎◌, inl, inr, ℕ, zero, suc, true, List, [], ◌∷◌, Option, Some, None, refl, sym, ap, ◌∙◌, subst, slice_get}
use Rattle.cc_meaning.specs.declared.instruction.Conversion.{Conversion}
use Rattle.cc_meaning.specs.declared.instruction.Conversion.TheVariants as conversion
use Rattle.cc_meaning.specs.declared.instruction.How.{How}
use Rattle.cc_meaning.specs.declared.instruction.How.TheVariants as how
use Rattle.cc_meaning.specs.declared.instruction.Insn.{Insn}
use Rattle.cc_meaning.specs.declared.instruction.Insn.TheVariants as insn
use Rattle.cc_meaning.specs.declared.instruction.IntOp.{IntOp}
use Rattle.cc_meaning.specs.declared.instruction.IntOp.TheVariants as op
use Rattle.cc_meaning.specs.declared.instruction.Kind.{Kind}
use Rattle.cc_meaning.specs.declared.instruction.Kind.TheVariants as kind
use Rattle.cc_meaning.specs.declared.instruction.MethodRef.{MethodRef}
use Rattle.cc_meaning.specs.declared.instruction.MethodRef.TheVariants as ref
use Rattle.cc_meaning.specs.declared.instruction.Test.{Test}
use Rattle.cc_meaning.specs.declared.instruction.Test.TheVariants as test
use Rattle.cc_meaning.specs.declared.instruction.TypeRef.{TypeRef}
use Rattle.cc_meaning.specs.declared.instruction.TypeRef.TheVariants as type
use Rattle.cc_meaning.specs.declared.program.Base.{Base}
use Rattle.cc_meaning.specs.declared.program.Base.TheVariants as base
use Rattle.cc_meaning.specs.declared.program.Catch.{Catch}
use Rattle.cc_meaning.specs.declared.program.DexType.{DexType}
use Rattle.cc_meaning.specs.declared.program.Field.{Field}
use Rattle.cc_meaning.specs.declared.program.Method.{Method}
use Rattle.cc_meaning.specs.declared.program.Program.{Program}
use Rattle.cc_meaning.specs.declared.program.RegType.{RegType}
use Rattle.cc_meaning.specs.declared.program.RegType.TheVariants.{Unset, Int, Zero, LongLow, LongHigh, Reference, Fresh}
use Rattle.cc_meaning.specs.Kinds.{kind_of}
use Rattle.cc_meaning_typing.specs.declared.state.Pending.{Pending}
use Rattle.cc_meaning_typing.specs.declared.state.Pending.TheVariants.{Nothing, Result, Exception}
use Rattle.cc_meaning_typing.specs.declared.state.State.{State}
use Rattle.cc_meaning_typing.specs.Hierarchy.{IsHierarchy}
use Rattle.cc_meaning_typing.specs.Types.{typed, class_type, object_type, array_of, is_class, is_reference_in, is_reference, IsBelow, same as itself, object, classes, elements, fewer, held}
use Rattle.cc_meaning_typing.specs.Registers.{Covers, unset, same, zero_int, zero_reference, references, register_of}
use Rattle.cc_meaning_typing.specs.States.{PendingCovers, nothing, same_pending, exceptions, AllCover, StateCovers, register_at}
use Rattle.cc_meaning_typing.specs.Code.{Body, element_of, address, insn_at}
use Rattle.cc_meaning_typing.specs.Rules.{Holds, HoldsPair, HoldsReference, HoldsFresh, HoldsKind, HoldsSecond, HoldsDeclared, HoldsArray, AllHold, FillsFrom, FillsNew, number_width, Compares, ComparesZero, HoldsCount, Converts, Follows, Arguments, HoldsClass, Receives, TakesArguments, Calls, IsOfKind, Accepts, write_kind, write_declared, write_pending, write_named, element_known, element_for, write_field, construct_known, registers_called, registers_converted, registers_after, after, handler_state}
use Rattle.cc_meaning_typing.specs.Laws.{RulesAreMonotone, MonotoneRules}
use Rattle.cc_meaning_typing.proofs.Tree.{test_eq}
use Rattle.cc_meaning_typing.proofs.Lattice.{covers_trans}
use Rattle.cc_meaning_typing.proofs.Registers.{cover_at, write_covers, write_long_covers, forget_covers, construct_covers}

-- ---- kinds of references

kind_reference_in : (dims : ℕ) (b : Base) → is_reference_in dims b ≡ true → kind_of (typed dims b) ≡ kind.Object
unfolding is_reference_in is_class
kind_reference_in zero (base.Class class) e = refl
kind_reference_in zero base.Boolean e = cc
kind_reference_in zero base.Byte e = cc
kind_reference_in zero base.Short e = cc
kind_reference_in zero base.Char e = cc
kind_reference_in zero base.Int e = cc
kind_reference_in zero base.Long e = cc
kind_reference_in (suc dims) b e = elim (test_eq (suc dims) 0) [ inl t ↦ absurd (let f = t.1 in cc) | inr t ↦ rw t.0 refl ]

kind_reference : (t : DexType) → is_reference t ≡ true → kind_of t ≡ kind.Object
unfolding is_reference
kind_reference t e = kind_reference_in t.dims t.base e

module _ (program : Program) where
  -- ---- arrays

  -- what is below an array of v is one of w, where w is v or both are references and w is below v
  pub record Element (s v : DexType) : Type 0 where
    pub w : DexType
    pub is : s ≡ array_of w
    pub below : IsBelow program w v
    pub alike : kind_of w ≡ kind_of v

  pub array_parts : (a b : DexType) → array_of a ≡ array_of b → a ≡ b
  array_parts a b e =
      let d : suc a.dims ≡ suc b.dims = ap (λ (z : DexType). z.dims) e in
      let c : a.base ≡ b.base = ap (λ (z : DexType). z.base) e in
      let n : a.dims ≡ b.dims = cc in
      ap (λ k. typed k a.base) n ∙ ap (λ z. typed b.dims z) c

  no_array : (class : ℕ) (v : DexType) → class_type class ≡ array_of v → ⊥
  no_array class v e = let d : zero ≡ suc v.dims = ap (λ (z : DexType). z.dims) e in cc

  below_array : {s t : DexType} → IsBelow program s t → (v : DexType) → t ≡ array_of v → Element s v
  below_array itself v e = record { w = v; is = e; below = itself; alike = refl }
  below_array (object f) v e = absurd (no_array _ v (sym f ∙ e))
  below_array (classes h held) v e = absurd (no_array _ v e)
  below_array (elements {type = x} {above = y} r1 r2 h) v e =
      let f = array_parts y v e in
      record {
        w = x;
        is = refl;
        below = subst (λ z. IsBelow program x z) f h;
        alike = kind_reference x r1 ∙ sym (kind_reference v (subst (λ z. is_reference z ≡ true) f r2));
      }

  only_fresh : {b a : RegType} (at : ℕ) → Covers program b a → b ≡ Fresh at → a ≡ Fresh at
  only_fresh at unset e = cc
  only_fresh at same e = e
  only_fresh at zero_int e = cc
  only_fresh at zero_reference e = cc
  only_fresh at (references h) e = cc

  abbrev IsArray : RegType → (DexType → Type 0) → Type 0
  IsArray a Elements = (a ≡ Zero) ⊎ ((type : DexType) × (a ≡ Reference (array_of type)) × Elements type)

  -- what holds of elements that are references alike, and of numbers
  abbrev Respects : (DexType → Type 0) → Type 0
  Respects Elements = (w v : DexType) → kind_of w ≡ kind_of v → Elements v → Elements w

  array_less : (Elements : DexType → Type 0) → Respects Elements → {b a : RegType} → Covers program b a → IsArray b Elements → IsArray a Elements
  array_less Elements r unset x = elim x [ inl e ↦ absurd (cc) | inr y ↦ let e = y.1 in absurd (cc) ]
  array_less Elements r same x = x
  array_less Elements r zero_int x = elim x [ inl e ↦ absurd (cc) | inr y ↦ let e = y.1 in absurd (cc) ]
  array_less Elements r zero_reference x = inl refl
  array_less Elements r (references {type = s} {above = t} h) x = elim x [
    | inl e ↦ absurd (cc)
    | inr y ↦ let e = y.1 in let f : t ≡ array_of y.0 = cc in let z = below_array h y.0 f in inr (z.w, ap Reference z.is, r z.w y.0 z.alike y.2)
  ]

  element_less : (Elements : DexType → Type 0) → {b a : RegType} → Covers program b a → IsArray b Elements → Covers program (element_known b) (element_known a)
  unfolding element_known element_of fewer
  element_less Elements unset x = unset
  element_less Elements same x = same
  element_less Elements zero_int x = zero_int
  element_less Elements zero_reference x = zero_reference
  element_less Elements (references {type = s} {above = t} h) x = elim x [
    | inl e ↦ absurd (cc)
    | inr y ↦ let e = y.1 in let f : t ≡ array_of y.0 = cc in let z = below_array h y.0 f in rw (f, z.is) (references z.below)
  ]

module _ (body : Body) (hierarchy : IsHierarchy body.program) where
  abbrev p : Program
  p = body.program

  module _ (u s : State) (c : StateCovers p u s) where
    holds : (a : RegType) (r : ℕ) → Holds p u r a → Holds p s r a
    holds a r h = covers_trans p hierarchy h (cover_at p r c.registers)

    pair : (r : ℕ) → HoldsPair p u r → HoldsPair p s r
    pair r h = (holds LongLow r h.0, holds LongHigh (suc r) h.1)

    reference : (r : ℕ) → HoldsReference p u r → HoldsReference p s r
    reference r h = holds (Reference (object_type p)) r h

    fresh : (r : ℕ) → HoldsFresh u r → HoldsFresh s r
    fresh r h = (h.0, only_fresh p h.0 (cover_at p r c.registers) h.1)

    of_kind : (r : ℕ) (k : Kind) → HoldsKind p u r k → HoldsKind p s r k
    of_kind r kind.Wide h = pair r h
    of_kind r kind.Object h = reference r h
    of_kind r kind.Plain h = holds Int r h
    of_kind r kind.Boolean h = holds Int r h
    of_kind r kind.Byte h = holds Int r h
    of_kind r kind.Char h = holds Int r h
    of_kind r kind.Short h = holds Int r h

    second : (r : ℕ) (k : Kind) → HoldsSecond p u r k → HoldsSecond p s r k
    second r kind.Wide h = holds LongHigh (suc r) h
    second r kind.Object h = h
    second r kind.Plain h = h
    second r kind.Boolean h = h
    second r kind.Byte h = h
    second r kind.Char h = h
    second r kind.Short h = h

    declared : (r : ℕ) (type : DexType) → HoldsDeclared p u r type → HoldsDeclared p s r type
    declared r type h = (holds (register_of p type) r h.0, second r (kind_of type) h.1)

    array : (Elements : DexType → Type 0) (r : ℕ) → Respects p Elements → HoldsArray u r Elements → HoldsArray s r Elements
    array Elements r q h = array_less p Elements q (cover_at p r c.registers) h

    all_hold : (rs : List ℕ) (a : RegType) → AllHold p u rs a → AllHold p s rs a
    all_hold [] a h = h
    all_hold (r ∷ rs) a h = (holds a r h.0, all_hold rs a h.1)

    fills_from : (r : ℕ) (payload : Option Insn) → FillsFrom u r payload → FillsFrom s r payload
    fills_from r (Some (insn.ArrayPayload width bytes)) h = array (λ type. number_width (kind_of type) ≡ Some width) r (λ w v e q. ap number_width e ∙ q) h
    fills_from r other h = absurd h

    fills_new : (named : TypeRef) (args : List ℕ) → FillsNew p u named args → FillsNew p s named args
    fills_new (type.Row row) args h = h
    fills_new (type.Known type) args h = (h.0, h.1, all_hold args (register_of p (element_of type)) h.2)

    abbrev Two : State → ℕ → ℕ → Type 0
    Two z left right = (Holds p z left Int × Holds p z right Int) ⊎ (HoldsReference p z left × HoldsReference p z right)

    two : (left right : ℕ) → Two u left right → Two s left right
    two left right (inl h) = inl (holds Int left h.0, holds Int right h.1)
    two left right (inr h) = inr (reference left h.0, reference right h.1)

    compares : (t : Test) (left right : ℕ) → Compares p u t left right → Compares p s t left right
    compares test.Eq left right h = two left right h
    compares test.Ne left right h = two left right h
    compares test.Lt left right h = (holds Int left h.0, holds Int right h.1)
    compares test.Ge left right h = (holds Int left h.0, holds Int right h.1)
    compares test.Gt left right h = (holds Int left h.0, holds Int right h.1)
    compares test.Le left right h = (holds Int left h.0, holds Int right h.1)

    one : (value : ℕ) → (Holds p u value Int ⊎ HoldsReference p u value) → (Holds p s value Int ⊎ HoldsReference p s value)
    one value (inl h) = inl (holds Int value h)
    one value (inr h) = inr (reference value h)

    compares_zero : (t : Test) (value : ℕ) → ComparesZero p u t value → ComparesZero p s t value
    compares_zero test.Eq value h = one value h
    compares_zero test.Ne value h = one value h
    compares_zero test.Lt value h = holds Int value h
    compares_zero test.Ge value h = holds Int value h
    compares_zero test.Gt value h = holds Int value h
    compares_zero test.Le value h = holds Int value h

    count : (o : IntOp) (right : ℕ) → HoldsCount p u o right → HoldsCount p s o right
    count op.Shl right h = holds Int right h
    count op.Shr right h = holds Int right h
    count op.Ushr right h = holds Int right h
    count op.Add right h = pair right h
    count op.Sub right h = pair right h
    count op.Mul right h = pair right h
    count op.Div right h = pair right h
    count op.Rem right h = pair right h
    count op.And right h = pair right h
    count op.Or right h = pair right h
    count op.Xor right h = pair right h

    converts : (o : Conversion) (to from : ℕ) → Converts body u o to from → Converts body s o to from
    converts conversion.IntToLong to from h = (h.0, holds Int from h.1)
    converts conversion.LongToInt to from h = (h.0, pair from h.1)
    converts conversion.IntToByte to from h = (h.0, holds Int from h.1)
    converts conversion.IntToChar to from h = (h.0, holds Int from h.1)
    converts conversion.IntToShort to from h = (h.0, holds Int from h.1)

    -- ---- calls

    follows : (k : Kind) (r : ℕ) (rs : List ℕ) (Rest Less : List ℕ → Type 0) → ((rest : List ℕ) → Rest rest → Less rest) → Follows p u k r rs Rest → Follows p s k r rs Less
    follows kind.Wide r [] Rest Less go h = h
    follows kind.Wide r (second ∷ rest) Rest Less go h = (h.0, holds LongHigh second h.1, go rest h.2)
    follows kind.Object r rs Rest Less go h = go rs h
    follows kind.Plain r rs Rest Less go h = go rs h
    follows kind.Boolean r rs Rest Less go h = go rs h
    follows kind.Byte r rs Rest Less go h = go rs h
    follows kind.Char r rs Rest Less go h = go rs h
    follows kind.Short r rs Rest Less go h = go rs h

    arguments : (types : List DexType) (rs : List ℕ) → Arguments p u types rs → Arguments p s types rs
    arguments [] rs h = h
    arguments (type ∷ types) [] h = h
    arguments (type ∷ types) (r ∷ rs) h = (holds (register_of p type) r h.0, follows (kind_of type) r rs (Arguments p u types) (Arguments p s types) (arguments types) h.1)

    of_class : (r class : ℕ) → HoldsClass p u r class → HoldsClass p s r class
    of_class r class h = holds _ r h

    receives : (h : How) (class : ℕ) (callee : Method) (r : ℕ) → Receives body u h class callee r → Receives body s h class callee r
    receives how.Static class callee r h = h
    receives how.Super class callee r h = (of_class r class h.0, of_class r body.method.class h.1)
    receives how.Direct class callee r (inl h) = inl (of_class r class h.0, of_class r callee.class h.1)
    receives how.Direct class callee r (inr h) = inr (h.0, (h.1.0, only_fresh p h.1.0 (cover_at p r c.registers) h.1.1, h.1.2))
    receives how.Virtual class callee r h = of_class r class h
    receives how.Interface class callee r h = of_class r class h

    takes : (h : How) (class : ℕ) (callee : Method) (args : List ℕ) → TakesArguments body u h class callee args → TakesArguments body s h class callee args
    takes how.Static class callee args h = arguments callee.params args h
    takes how.Super class callee [] h = h
    takes how.Direct class callee [] h = h
    takes how.Virtual class callee [] h = h
    takes how.Interface class callee [] h = h
    takes how.Super class callee (r ∷ args) h = (receives how.Super class callee r h.0, arguments callee.params args h.1)
    takes how.Direct class callee (r ∷ args) h = (receives how.Direct class callee r h.0, arguments callee.params args h.1)
    takes how.Virtual class callee (r ∷ args) h = (receives how.Virtual class callee r h.0, arguments callee.params args h.1)
    takes how.Interface class callee (r ∷ args) h = (receives how.Interface class callee r h.0, arguments callee.params args h.1)

    calls : (h : How) (named : MethodRef) (args : List ℕ) → Calls body u h named args → Calls body s h named args
    calls h (ref.Row row) args x = x
    calls h (ref.Known class method) args x = (x.0, x.1, takes h class x.0 args x.2)

    field : (number : ℕ) (k : Kind) (Needs Less : Field → Type 0) → ((found : Field) → Needs found → Less found) → IsOfKind p number k Needs → IsOfKind p number k Less
    field number k Needs Less go h = (h.0, h.1, h.2, go h.0 h.3)

    result_less : {a b : Pending} (type : DexType) → PendingCovers p a b → a ≡ Result type → b ≡ Result type
    result_less type nothing e = cc
    result_less type same_pending e = e
    result_less type (exceptions h) e = cc

    abbrev HasException : Pending → Type 0
    HasException a = (type : DexType) × (a ≡ Exception type)

    exception_less : {a b : Pending} → PendingCovers p a b → HasException a → HasException b
    exception_less nothing h = let e = h.1 in absurd (cc)
    exception_less same_pending h = h
    exception_less (exceptions {type = t} g) h = (t, refl)

    alike : (k : Kind) → Respects p (λ type. kind_of type ≡ k)
    alike k w v e q = e ∙ q

    -- ---- each instruction

    pub accepts_less : (at : ℕ) (i : Insn) → Accepts body at u i → Accepts body at s i
    accepts_less at insn.Nop h = h
    accepts_less at (insn.Move kind.Plain to from) h = (h.0, holds Int from h.1)
    accepts_less at (insn.Move kind.Wide to from) h = (h.0, pair from h.1)
    accepts_less at (insn.Move kind.Object to from) h = (h.0, elim h.1 [ inl x ↦ inl (reference from x) | inr x ↦ inr (fresh from x) ])
    accepts_less at (insn.Move k to from) h = absurd h
    accepts_less at (insn.MoveResult k to) h = (h.0, (h.1.0, result_less h.1.0 c.pending h.1.1, h.1.2))
    accepts_less at (insn.MoveException to) h = (h.0, exception_less c.pending h.1)
    accepts_less at insn.ReturnVoid h = h
    accepts_less at (insn.Return k from) h = (h.0, h.1, h.2, declared from h.0 h.3)
    accepts_less at (insn.ConstInt to value) h = h
    accepts_less at (insn.ConstLong to value) h = h
    accepts_less at (insn.ConstText to text) h = h
    accepts_less at (insn.ConstClass to named) h = h
    accepts_less at (insn.Monitor enter r) h = reference r h
    accepts_less at (insn.CheckCast r named) h = (h.0, reference r h.1)
    accepts_less at (insn.InstanceOf to r named) h = (h.0, h.1, reference r h.2)
    accepts_less at (insn.ArrayLength to r) h = (h.0, array (λ type. Unit {0}) r (λ w v e q. q) h.1)
    accepts_less at (insn.NewInstance to named) h = h
    accepts_less at (insn.NewArray to size named) h = (h.0, h.1, holds Int size h.2)
    accepts_less at (insn.FilledNewArray named args) h = fills_new named args h
    accepts_less at (insn.FillArray r target) h = fills_from r (insn_at body.code (address at target)) h
    accepts_less at (insn.Throw r) h = holds _ r h
    accepts_less at (insn.Goto target) h = h
    accepts_less at (insn.Switch packed value target) h = holds Int value h
    accepts_less at (insn.CompareLong to left right) h = (h.0, pair left h.1, pair right h.2)
    accepts_less at (insn.If t left right target) h = compares t left right h
    accepts_less at (insn.IfZero t value target) h = compares_zero t value h
    accepts_less at (insn.ArrayGet k to r index) h = (h.0, holds Int index h.1, array (λ type. kind_of type ≡ k) r (alike k) h.2)
    accepts_less at (insn.ArrayPut k from r index) h = (holds Int index h.0, array (λ type. kind_of type ≡ k) r (alike k) h.1, of_kind from k h.2)
    accepts_less at (insn.FieldGet k to r number) h = (h.0, field number k _ _ (λ found x. of_class r found.class x) h.1)
    accepts_less at (insn.FieldPut k from r number) h = field number k _ _ (λ found x. (of_class r found.class x.0, declared from found.ty x.1)) h
    accepts_less at (insn.StaticGet k to number) h = h
    accepts_less at (insn.StaticPut k from number) h = field number k _ _ (λ found x. declared from found.ty x) h
    accepts_less at (insn.Invoke by named args) h = calls by named args h
    accepts_less at (insn.IntUnary o to from) h = (h.0, holds Int from h.1)
    accepts_less at (insn.LongUnary o to from) h = (h.0, pair from h.1)
    accepts_less at (insn.Convert o to from) h = converts o to from h
    accepts_less at (insn.IntOp o to left right) h = (h.0, holds Int left h.1, holds Int right h.2)
    accepts_less at (insn.LongOp o to left right) h = (h.0, pair left h.1, count o right h.2)
    accepts_less at (insn.IntLit o reversed to left literal) h = (h.0, holds Int left h.1)
    accepts_less at (insn.PackedPayload first targets) h = absurd h
    accepts_less at (insn.SparsePayload keys targets) h = absurd h
    accepts_less at (insn.ArrayPayload width bytes) h = absurd h

    -- ---- what is given

    abbrev Cover : List RegType → List RegType → Type 0
    Cover = AllCover p

    write_kind_covers : (to : ℕ) (k : Kind) {b a : RegType} {us ss : List RegType} → Cover us ss → Covers p b a → Cover (write_kind us to b k) (write_kind ss to a k)
    unfolding write_kind
    write_kind_covers to kind.Wide g h = write_long_covers p to g
    write_kind_covers to kind.Object g h = write_covers p to g h
    write_kind_covers to kind.Plain g h = write_covers p to g h
    write_kind_covers to kind.Boolean g h = write_covers p to g h
    write_kind_covers to kind.Byte g h = write_covers p to g h
    write_kind_covers to kind.Char g h = write_covers p to g h
    write_kind_covers to kind.Short g h = write_covers p to g h

    write_declared_covers : (to : ℕ) (type : DexType) {us ss : List RegType} → Cover us ss → Cover (write_declared p us to type) (write_declared p ss to type)
    unfolding write_declared
    write_declared_covers to type g = write_kind_covers to (kind_of type) g same

    write_pending_covers : (to : ℕ) {a b : Pending} {us ss : List RegType} → Cover us ss → PendingCovers p a b → (a ≡ Nothing → ⊥) → Cover (write_pending p us to a) (write_pending p ss to b)
    unfolding write_pending
    write_pending_covers to g nothing not = absurd (not refl)
    write_pending_covers to g (same_pending {a = Nothing}) not = g
    write_pending_covers to g (same_pending {a = Result type}) not = write_declared_covers to type g
    write_pending_covers to g (same_pending {a = Exception type}) not = write_covers p to g same
    write_pending_covers to g (exceptions h) not = write_covers p to g (references h)

    write_named_covers : (to : ℕ) (named : TypeRef) {us ss : List RegType} → Cover us ss → Cover (write_named p us to named) (write_named p ss to named)
    unfolding write_named
    write_named_covers to (type.Row row) g = g
    write_named_covers to (type.Known type) g = write_covers p to g same

    write_field_covers : (to : ℕ) (found : Option Field) {us ss : List RegType} → Cover us ss → Cover (write_field p us to found) (write_field p ss to found)
    unfolding write_field
    write_field_covers to None g = g
    write_field_covers to (Some found) g = write_declared_covers to found.ty g

    element_for_covers : (k : Kind) (r : ℕ) → HoldsArray u r (λ type. kind_of type ≡ k) → Covers p (element_for k (register_at u.registers r)) (element_for k (register_at s.registers r))
    unfolding element_for
    element_for_covers kind.Object r h = element_less p (λ type. kind_of type ≡ kind.Object) (cover_at p r c.registers) h
    element_for_covers kind.Wide r h = same
    element_for_covers kind.Plain r h = same
    element_for_covers kind.Boolean r h = same
    element_for_covers kind.Byte r h = same
    element_for_covers kind.Char r h = same
    element_for_covers kind.Short r h = same

    abbrev Receiver : RegType → Type 0
    Receiver b = ((type : DexType) × Covers p (Reference type) b) ⊎ ((at : ℕ) × (b ≡ Fresh at))

    construct_same : (class : ℕ) (a : RegType) {us ss : List RegType} → Cover us ss → Cover (construct_known p us class a) (construct_known p ss class a)
    unfolding construct_known
    construct_same class (Fresh at) g = construct_covers p at (held p (class_type class)) g
    construct_same class Unset g = g
    construct_same class Int g = g
    construct_same class Zero g = g
    construct_same class LongLow g = g
    construct_same class LongHigh g = g
    construct_same class (Reference type) g = g

    construct_known_covers : (class : ℕ) {b a : RegType} {us ss : List RegType} → Cover us ss → Receiver b → Covers p b a → Cover (construct_known p us class b) (construct_known p ss class a)
    unfolding construct_known
    construct_known_covers class g (inl x) unset = elim x.1 [ ]
    construct_known_covers class g (inr x) unset = let e = x.1 in absurd (cc)
    construct_known_covers class g x (same {a = a}) = construct_same class a g
    construct_known_covers class g x zero_int = g
    construct_known_covers class g x zero_reference = g
    construct_known_covers class g x (references h) = g

    receiver_of : (class : ℕ) (callee : Method) (r : ℕ) → Receives body u how.Direct class callee r → Receiver (register_at u.registers r)
    receiver_of class callee r (inl h) = inl (_, h.0)
    receiver_of class callee r (inr h) = inr (h.1.0, h.1.1)

    called_covers : (h : How) (named : MethodRef) (args : List ℕ) → Calls body u h named args → Cover (registers_called p u.registers h named args) (registers_called p s.registers h named args)
    unfolding registers_called
    called_covers how.Direct (ref.Known class method) (r ∷ args) x = construct_known_covers class c.registers (receiver_of class x.0 r x.2.0) (cover_at p r c.registers)
    called_covers how.Direct (ref.Known class method) [] x = c.registers
    called_covers how.Direct (ref.Row row) args x = c.registers
    called_covers how.Static named args x = c.registers
    called_covers how.Super named args x = c.registers
    called_covers how.Virtual named args x = c.registers
    called_covers how.Interface named args x = c.registers

    converted_covers : (o : Conversion) (to : ℕ) → Cover (registers_converted u.registers o to) (registers_converted s.registers o to)
    unfolding registers_converted
    converted_covers conversion.IntToLong to = write_long_covers p to c.registers
    converted_covers conversion.LongToInt to = write_covers p to c.registers same
    converted_covers conversion.IntToByte to = write_covers p to c.registers same
    converted_covers conversion.IntToChar to = write_covers p to c.registers same
    converted_covers conversion.IntToShort to = write_covers p to c.registers same

    registers_less : (at : ℕ) (i : Insn) → Accepts body at u i → Cover (registers_after p at u.registers u.pending i) (registers_after p at s.registers s.pending i)
    unfolding registers_after
    registers_less at (insn.Move k to from) h = write_kind_covers to k c.registers (cover_at p from c.registers)
    registers_less at (insn.MoveResult k to) h = write_pending_covers to c.registers c.pending (λ e. let f = h.1.1 in cc)
    registers_less at (insn.MoveException to) h = write_pending_covers to c.registers c.pending (λ e. let f = h.1.1 in cc)
    registers_less at (insn.ConstInt to value) h = write_covers p to c.registers same
    registers_less at (insn.ConstLong to value) h = write_long_covers p to c.registers
    registers_less at (insn.ConstText to text) h = write_covers p to c.registers same
    registers_less at (insn.ConstClass to named) h = write_covers p to c.registers same
    registers_less at (insn.CheckCast r named) h = write_named_covers r named c.registers
    registers_less at (insn.InstanceOf to r named) h = write_covers p to c.registers same
    registers_less at (insn.ArrayLength to r) h = write_covers p to c.registers same
    registers_less at (insn.NewInstance to named) h = write_covers p to (forget_covers p at c.registers) same
    registers_less at (insn.NewArray to size named) h = write_named_covers to named c.registers
    registers_less at (insn.CompareLong to left right) h = write_covers p to c.registers same
    registers_less at (insn.ArrayGet k to r index) h = write_kind_covers to k c.registers (element_for_covers k r h.2)
    registers_less at (insn.FieldGet k to r number) h = write_field_covers to (slice_get p.fields number) c.registers
    registers_less at (insn.StaticGet k to number) h = write_field_covers to (slice_get p.fields number) c.registers
    registers_less at (insn.Invoke by named args) h = called_covers by named args h
    registers_less at (insn.IntUnary o to from) h = write_covers p to c.registers same
    registers_less at (insn.LongUnary o to from) h = write_long_covers p to c.registers
    registers_less at (insn.Convert o to from) h = converted_covers o to
    registers_less at (insn.IntOp o to left right) h = write_covers p to c.registers same
    registers_less at (insn.LongOp o to left right) h = write_long_covers p to c.registers
    registers_less at (insn.IntLit o reversed to left literal) h = write_covers p to c.registers same
    registers_less at i h = c.registers

    pub after_less : (at : ℕ) (i : Insn) → Accepts body at u i → StateCovers p (after p at u i) (after p at s i)
    unfolding after
    after_less at i h = record { registers = registers_less at i h; pending = same_pending }

    pub handled_less : (catch : Catch) → StateCovers p (handler_state p u catch) (handler_state p s catch)
    unfolding handler_state
    handled_less catch = record { registers = c.registers; pending = same_pending }

  monotone : RulesAreMonotone body
  monotone = record {
    accepts = λ at i u s c. accepts_less u s c at i;
    gives = λ at i u s c. after_less u s c at i;
    handled = λ catch u s c. handled_less u s c catch;
  }

pub monotone_rules : MonotoneRules
monotone_rules body hierarchy = monotone body hierarchy
