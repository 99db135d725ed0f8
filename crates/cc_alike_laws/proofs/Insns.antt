-- Each instruction's act is alike itself, from alike registers.
use Rattle.std.proofs.Common.{◌≡◌, ℕ, suc, ℤ, true, List, [], ◌∷◌, length, Option, Some, None, refl, ap, ◌∙◌, slice_get}
use Rattle.std.specs.Prelude.{nat_le, map}
use Rattle.std.specs.Int.{w32, w64}
use Rattle.cc_meaning.specs.declared.instruction.How.{How}
use Rattle.cc_meaning.specs.declared.instruction.How.TheVariants as how
use Rattle.cc_meaning.specs.declared.instruction.Insn.{Insn}
use Rattle.cc_meaning.specs.declared.instruction.Insn.TheVariants as insn
use Rattle.cc_meaning.specs.declared.instruction.Kind.{Kind}
use Rattle.cc_meaning.specs.declared.instruction.Kind.TheVariants as kind
use Rattle.cc_meaning.specs.declared.instruction.MethodRef.TheVariants as ref
use Rattle.cc_meaning.specs.declared.instruction.TypeRef.TheVariants as type
use Rattle.cc_meaning.specs.declared.program.Base.{Base}
use Rattle.cc_meaning.specs.declared.program.Base.TheVariants as base
use Rattle.cc_meaning.specs.declared.program.Code.{Code}
use Rattle.cc_meaning.specs.declared.program.DexType.{DexType}
use Rattle.cc_meaning.specs.declared.program.Method.{Method}
use Rattle.cc_meaning.specs.declared.program.MethodKind.{MethodKind}
use Rattle.cc_meaning.specs.declared.program.MethodKind.TheVariants as kinds
use Rattle.cc_meaning.specs.declared.program.Placed.{Placed}
use Rattle.cc_meaning.specs.declared.program.Program.{Program}
use Rattle.cc_meaning.specs.declared.value.Value.{Value}
use Rattle.cc_meaning.specs.declared.value.Value.TheVariants as value
use Rattle.cc_meaning.specs.BuiltIn.{abstract_method_error_name, incompatible_class_change_error_name, class_cast_exception_name, arithmetic_exception_name, negative_array_size_exception_name, array_index_out_of_bounds_exception_name}
use Rattle.cc_meaning.specs.Kinds.{kind_of}
use Rattle.cc_meaning_typing.specs.Code.{insn_at, address, element_of, placed_at}
use Rattle.cc_meaning_world.specs.World.{Locals}
use Rattle.cc_meaning_world.specs.Casts.{passes}
use Rattle.cc_meaning_world.specs.Scripts.{is_scripted_kind, is_scripted_in, is_scripted}
use Rattle.cc_meaning_world.specs.Acts.{Act}
use Rattle.cc_meaning_rows.specs.Rows.{built_in}
use Rattle.cc_meaning_exec.specs.Registers.{cell_at}
use Rattle.cc_meaning_exec.specs.Numbers.{operated, operated_as, or_divided_by_zero}
use Rattle.cc_meaning_exec.specs.Arrays.{or_out_of_bounds, zero_elements, element_value, fill, fill_with, chosen, switch_to}
use Rattle.cc_meaning_exec.specs.Dispatch.{dispatch, dispatch_above, enter_kind, enter, enter_found, answers_to, if_answers, call_on, invoke_how, invoke}
use Rattle.cc_meaning_exec.specs.Instructions.{make_of, cast_to, is_instance, make_array, move_int, move_reference, data_for, act_of, code_of, act_placed, act_in, act_at}
use Rattle.cc_meaning_alike.specs.Maps.{Map, In, Extends, OneToOne}
use Rattle.cc_meaning_alike.specs.Worlds.{Each, nil, each, Both, neither, both, AlikeReference, nulls, linked, AlikeValue, ints, longs, refs, arrays, AlikeLocals}
use Rattle.cc_meaning_alike.specs.Acts.{enters, returns, throws, stuck, AlikeAct, done, make, look, class_of, puts, get_static, put_static, literal, class_constant, ask}
use Rattle.cc_alike_laws.proofs.Maps.{each_get, each_same, same_length, grow_locals}
use Rattle.cc_alike_laws.proofs.Runs.{zero_alike, new_alike}
use Rattle.cc_alike_laws.proofs.Pieces.{converted_alike, second_same, kept_alike, values_alike, elements_from_alike, some_alike, some_same, some_found, cond_alike, go_alike, set_alike, back_alike, throw_alike, or_throw_alike, or_throw_same, int_alike, long_alike, value_of_alike, null_or_alike, reference_alike, move_alike, compares_same, zero_same, branch_alike, element_alike, place_same, stored_alike, element_type_same, array_alike, value_at_alike}
use Rattle.cc_alike_laws.proofs.Rows.{truth_alike, row_call_alike}

-- ---- calls

module _ {f : Map} {l1 l2 : Locals} (p : Program) (u : OneToOne f) (l : AlikeLocals f l1 l2) where
  scripted : (m : ℕ) (callee : Method) (k : MethodKind) → slice_get p.methods m ≡ Some callee → callee.kind ≡ k → is_scripted_kind k ≡ true → is_scripted p m ≡ true
  unfolding is_scripted is_scripted_in
  scripted m callee k e e' h = ap is_scripted_in e ∙ ap is_scripted_kind e' ∙ h

  enter_kind_alike : {vs1 vs2 : List Value} (k : MethodKind) (callee : Method) (m next : ℕ) → slice_get p.methods m ≡ Some callee → callee.kind ≡ k → Each (AlikeValue f) vs1 vs2 → AlikeAct p f (enter_kind p k callee m next l1 vs1) (enter_kind p k callee m next l2 vs2)
  unfolding enter_kind is_scripted_kind
  enter_kind_alike (kinds.Code code) callee m next e e' vs = done (enters vs)
  enter_kind_alike kinds.BuiltIn callee m next e e' vs = row_call_alike p u _ _ (λ g v1 v2 h v. back_alike next (grow_locals h l) v) (built_in p callee) m vs
  enter_kind_alike kinds.Abstract callee m next e e' vs = throw_alike p abstract_method_error_name
  enter_kind_alike kinds.Native callee m next e e' vs = ask (scripted m callee kinds.Native e e' refl) vs (λ g v1 v2 h v. back_alike next (grow_locals h l) v)
  enter_kind_alike kinds.Outside callee m next e e' vs = ask (scripted m callee kinds.Outside e e' refl) vs (λ g v1 v2 h v. back_alike next (grow_locals h l) v)

  enter_alike : {vs1 vs2 : List Value} (m next : ℕ) → Each (AlikeValue f) vs1 vs2 → AlikeAct p f (enter p m next l1 vs1) (enter p m next l2 vs2)
  unfolding enter
  enter_alike m next vs = some_found _ _ (λ callee e. enter_kind_alike callee.kind callee m next e refl vs)

  enter_found_alike : {vs1 vs2 : List Value} (x : Option ℕ) (next : ℕ) → Each (AlikeValue f) vs1 vs2 → AlikeAct p f (enter_found p x next l1 vs1) (enter_found p x next l2 vs2)
  unfolding enter_found
  enter_found_alike x next vs = or_throw_same p abstract_method_error_name _ _ refl (λ m. enter_alike m next vs)

  -- a method that a search from the receiver's class finds
  searched_alike : {a b : ℕ} {vs1 vs2 : List Value} (class : ℕ) (next : ℕ) (search : DexType → Option ℕ) → In f a b → Each (AlikeValue f) vs1 vs2 → (t : DexType) →
      AlikeAct p f (if_answers p class t (enter_found p (search t) next l1 (value.Obj (Some a) ∷ vs1))) (if_answers p class t (enter_found p (search t) next l2 (value.Obj (Some b) ∷ vs2)))
  unfolding if_answers
  searched_alike class next search i vs t = cond_alike (answers_to p class t) (enter_found_alike (search t) next (each (refs (linked i)) vs)) (throw_alike p incompatible_class_change_error_name)

  call_alike : {vs1 vs2 : List Value} (own class : ℕ) (h : How) (m next receiver : ℕ) (callee : Method) → Each (AlikeValue f) vs1 vs2 → AlikeAct p f (call_on p own class h m callee next l1 receiver vs1) (call_on p own class h m callee next l2 receiver vs2)
  unfolding call_on
  call_alike own class how.Direct m next receiver callee vs = reference_alike p receiver _ _ l (λ a b i. enter_alike m next (each (refs (linked i)) vs))
  call_alike own class how.Super m next receiver callee vs = reference_alike p receiver _ _ l (λ a b i. class_of i (λ t. searched_alike class next (λ t'. dispatch_above p own m callee) i vs t))
  call_alike own class how.Virtual m next receiver callee vs = reference_alike p receiver _ _ l (λ a b i. class_of i (λ t. searched_alike class next (λ t'. dispatch p t' m callee) i vs t))
  call_alike own class how.Interface m next receiver callee vs = reference_alike p receiver _ _ l (λ a b i. class_of i (λ t. searched_alike class next (λ t'. dispatch p t' m callee) i vs t))
  call_alike own class how.Static m next receiver callee vs = reference_alike p receiver _ _ l (λ a b i. class_of i (λ t. searched_alike class next (λ t'. dispatch p t' m callee) i vs t))

  invoke_how_alike : (own class : ℕ) (h : How) (m next : ℕ) (rs : List ℕ) (callee : Method) → AlikeAct p f (invoke_how p own class h m next l1 rs callee) (invoke_how p own class h m next l2 rs callee)
  unfolding invoke_how
  invoke_how_alike own class how.Static m next rs callee = some_alike _ _ (values_alike callee.params rs l.cells) (λ vs1 vs2 vs. enter_alike m next vs)
  invoke_how_alike own class how.Direct m next [] callee = done stuck
  invoke_how_alike own class how.Super m next [] callee = done stuck
  invoke_how_alike own class how.Virtual m next [] callee = done stuck
  invoke_how_alike own class how.Interface m next [] callee = done stuck
  invoke_how_alike own class how.Direct m next (r ∷ rs) callee = some_alike _ _ (values_alike callee.params rs l.cells) (λ vs1 vs2 vs. call_alike own class how.Direct m next r callee vs)
  invoke_how_alike own class how.Super m next (r ∷ rs) callee = some_alike _ _ (values_alike callee.params rs l.cells) (λ vs1 vs2 vs. call_alike own class how.Super m next r callee vs)
  invoke_how_alike own class how.Virtual m next (r ∷ rs) callee = some_alike _ _ (values_alike callee.params rs l.cells) (λ vs1 vs2 vs. call_alike own class how.Virtual m next r callee vs)
  invoke_how_alike own class how.Interface m next (r ∷ rs) callee = some_alike _ _ (values_alike callee.params rs l.cells) (λ vs1 vs2 vs. call_alike own class how.Interface m next r callee vs)

  invoke_alike : (own class : ℕ) (h : How) (m next : ℕ) (rs : List ℕ) → AlikeAct p f (invoke p own class h m next l1 rs) (invoke p own class h m next l2 rs)
  unfolding invoke
  invoke_alike own class h m next rs = some_same _ _ refl (λ callee. invoke_how_alike own class h m next rs callee)

  -- ---- other pieces

  made_alike : (b : Base) (next to : ℕ) → AlikeAct p f (make_of p b next l1 to) (make_of p b next l2 to)
  unfolding make_of
  made_alike (base.Class class) next to = make (new_alike p class) (λ g a b e i. set_alike next to (grow_locals e l) (refs (linked i)))
  made_alike b next to = done stuck

  cast_alike : {o1 o2 : Option ℕ} {a1 a2 : Act} (named : DexType) → AlikeReference f o1 o2 → AlikeAct p f a1 a2 → AlikeAct p f (cast_to p named o1 a1) (cast_to p named o2 a2)
  unfolding cast_to
  cast_alike named nulls a = a
  cast_alike named (linked i) a = class_of i (λ t. cond_alike (passes p true t named) a (throw_alike p class_cast_exception_name))

  instance_alike : {o1 o2 : Option ℕ} (named : DexType) (k1 k2 : Value → Act) → AlikeReference f o1 o2 → ((v1 v2 : Value) → AlikeValue f v1 v2 → AlikeAct p f (k1 v1) (k2 v2)) → AlikeAct p f (is_instance p named o1 k1) (is_instance p named o2 k2)
  unfolding is_instance
  instance_alike named k1 k2 nulls k = k _ _ (truth_alike refl)
  instance_alike named k1 k2 (linked i) k = class_of i (λ t. k _ _ (truth_alike refl))

  divided_alike : (x : Option ℤ) (k1 k2 : ℤ → Act) → ((n : ℤ) → AlikeAct p f (k1 n) (k2 n)) → AlikeAct p f (or_divided_by_zero p x k1) (or_divided_by_zero p x k2)
  unfolding or_divided_by_zero
  divided_alike x k1 k2 k = or_throw_same p arithmetic_exception_name _ _ refl k

  bounds_alike : {A : Type 0} {R : A → A → Type 0} {x1 x2 : Option A} (k1 k2 : A → Act) → Both R x1 x2 → ((a b : A) → R a b → AlikeAct p f (k1 a) (k2 b)) → AlikeAct p f (or_out_of_bounds p x1 k1) (or_out_of_bounds p x2 k2)
  unfolding or_out_of_bounds
  bounds_alike k1 k2 r k = or_throw_alike p array_index_out_of_bounds_exception_name k1 k2 r k

  bounds_same : {A : Type 0} {x1 x2 : Option A} (k1 k2 : A → Act) → x1 ≡ x2 → ((a : A) → AlikeAct p f (k1 a) (k2 a)) → AlikeAct p f (or_out_of_bounds p x1 k1) (or_out_of_bounds p x2 k2)
  unfolding or_out_of_bounds
  bounds_same k1 k2 e k = or_throw_same p array_index_out_of_bounds_exception_name k1 k2 e k

  new_array_alike : {vs1 vs2 : List Value} (named : DexType) (k1 k2 : ℕ → Act) → Each (AlikeValue f) vs1 vs2 → ((g : Map) (a b : ℕ) → Extends f g → In g a b → AlikeAct p g (k1 a) (k2 b)) → AlikeAct p f (make_array p named vs1 k1) (make_array p named vs2 k2)
  unfolding make_array
  new_array_alike named k1 k2 vs k = make (arrays vs) k

  zero_elements_alike : (named : DexType) (count : ℕ) → Each (AlikeValue f) (zero_elements named count) (zero_elements named count)
  unfolding zero_elements
  zero_elements_alike named count = each_same count _ (zero_alike (kind_of (element_of named)))

  element_alike_itself : (k : Kind) (n : ℕ) → AlikeValue f (element_value k n) (element_value k n)
  unfolding element_value
  element_alike_itself kind.Wide n = longs
  element_alike_itself kind.Plain n = ints
  element_alike_itself kind.Object n = ints
  element_alike_itself kind.Boolean n = ints
  element_alike_itself kind.Byte n = ints
  element_alike_itself kind.Char n = ints
  element_alike_itself kind.Short n = ints

  elements_alike_themselves : (k : Kind) (ns : List ℕ) → Each (AlikeValue f) (map (element_value k) ns) (map (element_value k) ns)
  elements_alike_themselves k [] = nil
  elements_alike_themselves k (n ∷ ns) = each (element_alike_itself k n) (elements_alike_themselves k ns)

  data_alike : (element : DexType) (x : Option Insn) → Each (AlikeValue f) (data_for element x) (data_for element x)
  unfolding data_for
  data_alike element x = elements_alike_themselves (kind_of element) _

  fill_alike : {a b : ℕ} {vs1 vs2 : List Value} {k1 k2 : Act} (from : ℕ) → In f a b → Each (AlikeValue f) vs1 vs2 → AlikeAct p f k1 k2 → AlikeAct p f (fill a from vs1 k1) (fill b from vs2 k2)
  unfolding fill
  fill_alike from i nil k = k
  fill_alike from i (each v vs) k = puts i v (fill_alike (suc from) i vs k)

  fill_with_alike : {a b : ℕ} {k1 k2 : Act} (size1 size2 : ℕ) (vs : List Value) → In f a b → size1 ≡ size2 → Each (AlikeValue f) vs vs → AlikeAct p f k1 k2 → AlikeAct p f (fill_with p a size1 vs k1) (fill_with p b size2 vs k2)
  unfolding fill_with
  fill_with_alike size1 size2 vs i e v k = rw e (cond_alike (nat_le (length vs) size2) (fill_alike 0 i v k) (throw_alike p array_index_out_of_bounds_exception_name))

  switch_alike : (x : Option ℤ) (at next : ℕ) → AlikeAct p f (switch_to x at next l1) (switch_to x at next l2)
  unfolding switch_to
  switch_alike None at next = go_alike next l.cells
  switch_alike (Some target) at next = some_same _ _ refl (λ to. go_alike to l.cells)

  move_int_alike : (next to from : ℕ) → AlikeAct p f (move_int next l1 to from) (move_int next l2 to from)
  unfolding move_int
  move_int_alike next to from = int_alike from _ _ l (λ n. move_alike next to from l)

  move_reference_alike : (next to from : ℕ) → AlikeAct p f (move_reference next l1 to from) (move_reference next l2 to from)
  unfolding move_reference
  move_reference_alike next to from = null_or_alike from _ _ l (λ o1 o2 o. move_alike next to from l)

  -- ---- the instructions

  pub act_alike : (own : ℕ) (code : Code) (at next : ℕ) (i : Insn) → AlikeAct p f (act_of p own code at next l1 i) (act_of p own code at next l2 i)
  unfolding act_of cell_at
  act_alike own code at next insn.Nop = go_alike next l.cells
  act_alike own code at next (insn.Move kind.Plain to from) = move_int_alike next to from
  act_alike own code at next (insn.Move kind.Wide to from) = long_alike from _ _ l (λ n. set_alike next to l longs)
  act_alike own code at next (insn.Move kind.Object to from) = move_reference_alike next to from
  act_alike own code at next (insn.MoveResult k to) = some_alike _ _ l.pending (λ v1 v2 v. set_alike next to l v)
  act_alike own code at next (insn.MoveException to) = some_alike _ _ l.pending (λ v1 v2 v. set_alike next to l v)
  act_alike own code at next insn.ReturnVoid = done (returns neither)
  act_alike own code at next (insn.Return k from) = value_of_alike k from _ _ l (λ v1 v2 v. done (returns (both v)))
  act_alike own code at next (insn.ConstInt to n) = set_alike next to l ints
  act_alike own code at next (insn.ConstLong to n) = set_alike next to l longs
  act_alike own code at next (insn.ConstText to text) = literal (λ g a b e i. set_alike next to (grow_locals e l) (refs (linked i)))
  act_alike own code at next (insn.ConstClass to (type.Known named)) = class_constant (λ g a b e i. set_alike next to (grow_locals e l) (refs (linked i)))
  act_alike own code at next (insn.Monitor enter object) = reference_alike p object _ _ l (λ a b i. go_alike next l.cells)
  act_alike own code at next (insn.CheckCast object (type.Known named)) = null_or_alike object _ _ l (λ o1 o2 o. cast_alike named o (go_alike next l.cells))
  act_alike own code at next (insn.InstanceOf to object (type.Known named)) = null_or_alike object _ _ l (λ o1 o2 o. instance_alike named _ _ o (λ v1 v2 v. set_alike next to l v))
  act_alike own code at next (insn.ArrayLength to array) = array_alike p array _ _ l (λ a b o1 o2 vs1 vs2 i o vs. rw (same_length vs) (set_alike next to l ints))
  act_alike own code at next (insn.NewInstance to (type.Known named)) = made_alike named.base next to
  act_alike own code at next (insn.NewArray to size (type.Known named)) =
      int_alike size _ _ l (λ n. or_throw_same p negative_array_size_exception_name _ _ refl (λ count.
      new_array_alike named _ _ (zero_elements_alike named count) (λ g a b e i. set_alike next to (grow_locals e l) (refs (linked i)))))
  act_alike own code at next (insn.FilledNewArray (type.Known named) args) =
      some_alike _ _ (elements_from_alike (kind_of (element_of named)) args l.cells) (λ vs1 vs2 vs.
      new_array_alike named _ _ vs (λ g a b e i. back_alike next (grow_locals e l) (both (refs (linked i)))))
  act_alike own code at next (insn.FillArray array target) =
      array_alike p array _ _ l (λ a b o1 o2 vs1 vs2 i o vs. some_same _ _ (element_type_same p o) (λ element.
      fill_with_alike (length vs1) (length vs2) _ i (same_length vs) (data_alike element (insn_at code (address at target))) (go_alike next l.cells)))
  act_alike own code at next (insn.Throw object) = reference_alike p object _ _ l (λ a b i. done (throws i))
  act_alike own code at next (insn.Goto target) = some_same _ _ refl (λ to. go_alike to l.cells)
  act_alike own code at next (insn.Switch packed value target) = int_alike value _ _ l (λ n. switch_alike (chosen packed (insn_at code (address at target)) n) at next)
  act_alike own code at next (insn.CompareLong to left right) = long_alike left _ _ l (λ x. long_alike right _ _ l (λ y. set_alike next to l ints))
  act_alike own code at next (insn.If t left right target) = some_same _ _ (compares_same t u (each_get left l.cells) (each_get right l.cells)) (λ yes. branch_alike yes next (address at target) l)
  act_alike own code at next (insn.IfZero t value target) = some_same _ _ (zero_same t u (each_get value l.cells)) (λ yes. branch_alike yes next (address at target) l)
  act_alike own code at next (insn.ArrayGet k to array index) =
      array_alike p array _ _ l (λ a b o1 o2 vs1 vs2 i o vs. int_alike index _ _ l (λ n. bounds_alike _ _ (element_alike n vs) (λ v1 v2 v. set_alike next to l v)))
  act_alike own code at next (insn.ArrayPut k from array index) =
      array_alike p array _ _ l (λ a b o1 o2 vs1 vs2 i o vs. int_alike index _ _ l (λ n. bounds_same _ _ (place_same n vs) (λ j.
      value_of_alike k from _ _ l (λ v1 v2 v. some_same _ _ (element_type_same p o) (λ element. stored_alike p element v (puts i (kept_alike k v) (go_alike next l.cells)))))))
  act_alike own code at next (insn.FieldGet k to object field) = reference_alike p object _ _ l (λ a b i. look i (λ o1 o2 o. some_alike _ _ (value_at_alike p field o) (λ v1 v2 v. set_alike next to l v)))
  act_alike own code at next (insn.FieldPut k from object field) =
      value_of_alike k from _ _ l (λ v1 v2 v. reference_alike p object _ _ l (λ a b i. class_of i (λ t. some_same _ _ refl (λ j. puts i (kept_alike k v) (go_alike next l.cells)))))
  act_alike own code at next (insn.StaticGet k to field) = get_static (λ v1 v2 v. set_alike next to l v)
  act_alike own code at next (insn.StaticPut k from field) = value_of_alike k from _ _ l (λ v1 v2 v. put_static (kept_alike k v) (go_alike next l.cells))
  act_alike own code at next (insn.Invoke h (ref.Known class m) rs) = invoke_alike own class h m next rs
  act_alike own code at next (insn.IntUnary o to from) = int_alike from _ _ l (λ n. set_alike next to l ints)
  act_alike own code at next (insn.LongUnary o to from) = long_alike from _ _ l (λ n. set_alike next to l longs)
  act_alike own code at next (insn.Convert o to from) = some_alike _ _ (converted_alike o (each_get from l.cells)) (λ v1 v2 v. set_alike next to l v)
  act_alike own code at next (insn.IntOp o to left right) =
      int_alike left _ _ l (λ x. int_alike right _ _ l (λ y. divided_alike (operated w32 o x y) _ _ (λ n. set_alike next to l ints)))
  act_alike own code at next (insn.LongOp o to left right) =
      long_alike left _ _ l (λ x. some_same _ _ (second_same o (each_get right l.cells)) (λ y. divided_alike (operated w64 o x y) _ _ (λ n. set_alike next to l longs)))
  act_alike own code at next (insn.IntLit o reversed to left lit) = int_alike left _ _ l (λ x. divided_alike (operated_as reversed w32 o x lit) _ _ (λ n. set_alike next to l ints))
  act_alike own code at next i = done stuck

  placed_alike : (own : ℕ) (code : Code) (x : Option Placed) → AlikeAct p f (act_placed p own code l1 x) (act_placed p own code l2 x)
  unfolding act_placed
  placed_alike own code None = done stuck
  placed_alike own code (Some placed) = act_alike own code placed.at _ placed.insn

  in_alike : (own : ℕ) (code : Option Code) (pc : ℕ) → AlikeAct p f (act_in p own code pc l1) (act_in p own code pc l2)
  unfolding act_in
  in_alike own None pc = done stuck
  in_alike own (Some code) pc = placed_alike own code (placed_at code pc)

  pub act_at_alike : (m pc : ℕ) → AlikeAct p f (act_at p m pc l1) (act_at p m pc l2)
  unfolding act_at
  act_at_alike m pc = in_alike _ (code_of p m) pc
