-- What a file's code and types are resolved to in two programs of one file.
use Rattle.std.proofs.Common.{◌≡◌, ℕ, zero, suc, true, false, eqb, get_or, List, [], ◌∷◌, ◌++◌, Option, Some, None, refl, sym, ap, ◌∙◌, subst}
use Rattle.std.specs.Prelude.{slice_index_or, replicate, codes}
use Rattle.cc_meaning.specs.declared.program.Base.{Base}
use Rattle.cc_meaning.specs.declared.program.Base.TheVariants as base
use Rattle.cc_meaning_dex.specs.Descriptors.{names_class}
use Rattle.cc_meaning.specs.declared.file.Ids.{Ids}
use Rattle.cc_meaning.specs.declared.file.RawCatch.{RawCatch}
use Rattle.cc_meaning.specs.declared.file.RawClass.{RawClass}
use Rattle.cc_meaning.specs.declared.file.RawCode.{RawCode}
use Rattle.cc_meaning.specs.declared.file.RawMethod.{RawMethod}
use Rattle.cc_meaning.specs.declared.file.RawTry.{RawTry}
use Rattle.cc_meaning.specs.declared.instruction.Insn.{Insn}
use Rattle.cc_meaning.specs.declared.instruction.Insn.TheVariants as insn
use Rattle.cc_meaning.specs.declared.instruction.MethodRef.{MethodRef}
use Rattle.cc_meaning.specs.declared.instruction.MethodRef.TheVariants as method
use Rattle.cc_meaning.specs.declared.instruction.TypeRef.{TypeRef}
use Rattle.cc_meaning.specs.declared.instruction.TypeRef.TheVariants as type
use Rattle.cc_meaning.specs.declared.program.Catch.{Catch}
use Rattle.cc_meaning.specs.declared.program.Code.{Code}
use Rattle.cc_meaning.specs.declared.program.DexType.{DexType}
use Rattle.cc_meaning.specs.declared.program.MethodKind.{MethodKind}
use Rattle.cc_meaning.specs.declared.program.MethodKind.TheVariants as kinds
use Rattle.std.specs.Prelude.{position}
use Rattle.std.specs.Str.{bytes_eq}
use Rattle.cc_meaning.specs.declared.program.Placed.{Placed}
use Rattle.cc_meaning.specs.declared.program.Program.{Program}
use Rattle.cc_meaning.specs.declared.program.Try.{Try}
use Rattle.cc_meaning.specs.Lookup.{class_named, method_named, field_named, text_numbered}
use Rattle.cc_meaning.specs.Order.{IsRising}
use Rattle.cc_meaning_program.specs.Instructions.{OneReading}
use Rattle.cc_meaning_program.specs.Named.{text_of, type_name}
use Rattle.cc_meaning_program.specs.References.{reference_of, named_type, named_method}
use Rattle.cc_meaning_program.specs.TypeNames.{base_spelled, type_spelled, IsBase, Spells, SpelledOnce}
use Rattle.cc_meaning_program.specs.Members.{Pairs, CatchKind, CatchResolved, TryResolved, CodeResolved, KindResolved, ResultSpelled}
use Rattle.cc_meaning_program.specs.Naming.{RowNamesMethod, RowNamesField}
use Rattle.cc_meaning_program.specs.Owners.{MethodOwner, FieldOwner}
use Rattle.cc_meaning_program.specs.Resolved.{names_of, whole_name, TypeResolved, MethodResolved, FieldResolved, InsnResolved, PlacedResolved}
use Rattle.cc_meaning_program.proofs.Once.{one_method_owner, one_field_owner}

-- ---- parts

two_parts : {A B C : Type 0} (f : A → B → C) {a b : A} {c d : B} → a ≡ b → c ≡ d → f a c ≡ f b d
two_parts f {a = a} {b = b} {c = c} {d = d} p q = ap (λ x. f x c) p ∙ ap (λ y. f b y) q

pub three_parts : {A B C D : Type 0} (f : A → B → C → D) {a b : A} {c d : B} {e g : C} → a ≡ b → c ≡ d → e ≡ g → f a c e ≡ f b d g
three_parts f {a = a} {b = b} {c = c} {d = d} {e = e} {g = g} p q r = ap (λ x. f x c e) p ∙ (ap (λ y. f b y e) q ∙ ap (λ z. f b d z) r)

abbrev placed_of : ℕ → ℕ → Insn → Placed
placed_of at units insn = record { at = at; units = units; insn = insn }

abbrev catch_of : ℕ → Option DexType → Catch
catch_of at kind = record { at = at; kind = kind }

abbrev try_of : ℕ → ℕ → List Catch → Try
try_of start end catches = record { start = start; end = end; catches = catches }

abbrev code_of : ℕ → ℕ → List Placed → List Try → Code
code_of registers ins insns tries = record { registers = registers; ins = ins; insns = insns; tries = tries }

-- ---- pairs

pub others_once : {A B : Type 0} {holds also : A → B → Type 0} → ((x : A) (y z : B) → holds x y → also x z → y ≡ z) → (xs : List A) (ys zs : List B) → Pairs holds xs ys → Pairs also xs zs → ys ≡ zs
others_once once _ _ _ Pairs.none Pairs.none = refl
others_once once _ _ _ (Pairs.next {x = x} {y = y} {xs = xs} {ys = ys} h hs) (Pairs.next {y = z} {ys = zs} k ks) =
    ap (λ a. a ∷ ys) (once x y z h k) ∙ ap (λ rest. z ∷ rest) (others_once once xs ys zs hs ks)

pub ones_once : {A B : Type 0} {holds also : A → B → Type 0} → ((x y : A) (z : B) → holds x z → also y z → x ≡ y) → (xs ys : List A) (zs : List B) → Pairs holds xs zs → Pairs also ys zs → xs ≡ ys
ones_once once _ _ _ Pairs.none Pairs.none = refl
ones_once once _ _ _ (Pairs.next {x = x} {y = z} {xs = xs} {ys = zs} h hs) (Pairs.next {x = y} {xs = ys} k ks) =
    ap (λ a. a ∷ xs) (once x y z h k) ∙ ap (λ rest. y ∷ rest) (ones_once once xs ys zs hs ks)

some_is : {A : Type 0} (x y : A) → Some x ≡ Some y → x ≡ y
some_is x y e = cc

other_letter : (text : List ℕ) → text ≡ codes "V" → eqb (get_or text 0 0) 86 ≡ false → ⊥
other_letter text e other = let void : eqb (get_or text 0 0) 86 ≡ true = ap (λ t. eqb (get_or t 0 0) 86) e in absurd (cc)

-- no type spells V
void_spelled : (names : List (List ℕ)) (dims : ℕ) (b : Base) → IsBase names b → replicate dims 91 ++ base_spelled names b ≡ codes "V" → ⊥
unfolding base_spelled
void_spelled names (suc n) b is e = other_letter (91 ∷ replicate n 91 ++ base_spelled names b) e refl
void_spelled names zero base.Boolean is e = other_letter (codes "Z") e refl
void_spelled names zero base.Byte is e = other_letter (codes "B") e refl
void_spelled names zero base.Short is e = other_letter (codes "S") e refl
void_spelled names zero base.Char is e = other_letter (codes "C") e refl
void_spelled names zero base.Int is e = other_letter (codes "I") e refl
void_spelled names zero base.Long is e = other_letter (codes "J") e refl
void_spelled names zero (base.Class class) is e = absurd (let no : names_class (slice_index_or names class []) ≡ false = ap names_class e in cc)

no_type_is_void : (names : List (List ℕ)) (type : DexType) (text : List ℕ) → Spells names type text → text ≡ codes "V" → ⊥
unfolding type_spelled
no_type_is_void names type text spells void = void_spelled names type.dims type.base spells.based (spells.spelled ∙ void)

-- ---- in two programs, in which names have the same numbers

-- two programs of one file with the same names
pub record Agree (ids : Ids) (classes : List RawClass) (this that : Program) : Type 0 where
  pub names : names_of this ≡ names_of that
  pub rise : IsRising (names_of that)
  pub texts : this.texts ≡ that.texts
  pub class : (name : List ℕ) → class_named name this ≡ class_named name that
  pub method : (name : List ℕ) → method_named name this ≡ method_named name that
  pub field : (name : List ℕ) → field_named name this ≡ field_named name that

module _ (once : SpelledOnce) (reading : OneReading) (ids : Ids) (classes : List RawClass) (this that : Program) (agree : Agree ids classes this that) where
  pub type_once : (a b : DexType) (text : List ℕ) → Spells (names_of this) a text → Spells (names_of that) b text → a ≡ b
  type_once a b text one two = once (names_of that) agree.rise a b text (subst (λ names. Spells names a text) agree.names one) two

  pub types_once : (these those : List DexType) (texts : List (List ℕ)) → Pairs (Spells (names_of this)) these texts → Pairs (Spells (names_of that)) those texts → these ≡ those
  types_once these those texts one two = ones_once type_once these those texts one two

  pub result_once : (a b : Option DexType) (text : List ℕ) → ResultSpelled (names_of this) a text → ResultSpelled (names_of that) b text → a ≡ b
  result_once None None text one two = refl
  result_once None (Some b) text one two = absurd (no_type_is_void (names_of that) b text two one)
  result_once (Some a) None text one two = absurd (no_type_is_void (names_of this) a text one two)
  result_once (Some a) (Some b) text one two = ap Some (type_once a b text one two)

  named_type_once : (raw a b : TypeRef) → TypeResolved ids this raw a → TypeResolved ids that raw b → a ≡ b
  named_type_once _ _ _ (TypeResolved.named {row = row} {known = a} one) (TypeResolved.named {known = b} two) = ap type.Known (type_once a b (type_name ids row) one two)

  row_names_once : (row : ℕ) (owner member other within : List ℕ) → RowNamesMethod ids classes row owner member → RowNamesMethod ids classes row other within → whole_name owner member ≡ whole_name other within
  row_names_once row owner member other within one two =
      let members : member ≡ within = sym one.within ∙ two.within in
      let stated : one.stated ≡ two.stated = some_is one.stated two.stated (sym one.there ∙ two.there) in
      let owners : owner ≡ other = one_method_owner ids classes (type_name ids two.stated.class) within owner other (subst (λ s. MethodOwner ids classes (type_name ids s.class) within owner) stated (subst (λ m. MethodOwner ids classes (type_name ids one.stated.class) m owner) members one.owned)) two.owned in
      ap (λ o. whole_name o member) owners ∙ ap (λ m. whole_name other m) members

  row_names_field_once : (row : ℕ) (owner member other within : List ℕ) → RowNamesField ids classes row owner member → RowNamesField ids classes row other within → whole_name owner member ≡ whole_name other within
  row_names_field_once row owner member other within one two =
      let members : member ≡ within = sym one.within ∙ two.within in
      let stated : one.stated ≡ two.stated = some_is one.stated two.stated (sym one.there ∙ two.there) in
      let owners : owner ≡ other = one_field_owner ids classes (type_name ids two.stated.class) within owner other (subst (λ s. FieldOwner ids classes (type_name ids s.class) within owner) stated (subst (λ m. FieldOwner ids classes (type_name ids one.stated.class) m owner) members one.owned)) two.owned in
      ap (λ o. whole_name o member) owners ∙ ap (λ m. whole_name other m) members

  named_method_once : (raw a b : MethodRef) → MethodResolved ids classes this raw a → MethodResolved ids classes that raw b → a ≡ b
  named_method_once _ _ _ (MethodResolved.named {row = row} {class = c} {number = n} {stated = s} {owner = o} {member = m} there classed names numbered) (MethodResolved.named {class = d} {number = k} {stated = t} {owner = p} {member = w} also classed_there names_there numbered_there) =
      let stated : s ≡ t = some_is s t (sym there ∙ also) in
      let class : c ≡ d = some_is c d (sym classed ∙ (agree.class (type_name ids s.class) ∙ (ap (λ r. class_named (type_name ids r.class) that) stated ∙ classed_there))) in
      let number : n ≡ k = some_is n k (sym numbered ∙ (agree.method (whole_name o m) ∙ (ap (λ name. method_named name that) (row_names_once row o m p w names names_there) ∙ numbered_there))) in
      ap (λ x. method.Known x n) class ∙ ap (λ x. method.Known d x) number

  named_field_once : (row n k : ℕ) → FieldResolved ids classes this row n → FieldResolved ids classes that row k → n ≡ k
  named_field_once row n k one two =
      some_is n k (sym one.numbered ∙ (agree.field (whole_name one.owner one.member) ∙ (ap (λ name. field_named name that) (row_names_field_once row one.owner one.member two.owner two.member one.names two.names) ∙ two.numbered)))

  none_is_some : {A : Type 0} (x : A) → None ≡ Some x → ⊥
  none_is_some x e = absurd (cc)

  -- what names no row is as it was
  unresolved : (raw b : Insn) → reference_of raw ≡ None → InsnResolved ids classes that raw b → raw ≡ b
  unfolding reference_of named_type named_method
  unresolved raw b none (InsnResolved.same also) = refl
  unresolved _ _ none (InsnResolved.text numbered) = absurd (cc)
  unresolved _ _ none (InsnResolved.class (TypeResolved.named spelled)) = absurd (cc)
  unresolved _ _ none (InsnResolved.cast (TypeResolved.named spelled)) = absurd (cc)
  unresolved _ _ none (InsnResolved.instance (TypeResolved.named spelled)) = absurd (cc)
  unresolved _ _ none (InsnResolved.object (TypeResolved.named spelled)) = absurd (cc)
  unresolved _ _ none (InsnResolved.array (TypeResolved.named spelled)) = absurd (cc)
  unresolved _ _ none (InsnResolved.filled (TypeResolved.named spelled)) = absurd (cc)
  unresolved _ _ none (InsnResolved.field_read found) = absurd (cc)
  unresolved _ _ none (InsnResolved.field_written found) = absurd (cc)
  unresolved _ _ none (InsnResolved.static_read found) = absurd (cc)
  unresolved _ _ none (InsnResolved.static_written found) = absurd (cc)
  unresolved _ _ none (InsnResolved.call (MethodResolved.named there classed names numbered)) = absurd (cc)

  text_once : (text : List ℕ) (n k : ℕ) → text_numbered text this ≡ Some n → text_numbered text that ≡ Some k → n ≡ k
  text_once text n k one two = some_is n k (sym one ∙ (ap (λ texts. position (λ (t : List ℕ). bytes_eq t text) texts) agree.texts ∙ two))

  insn_once : (raw a b : Insn) → InsnResolved ids classes this raw a → InsnResolved ids classes that raw b → a ≡ b
  unfolding reference_of named_type named_method
  insn_once raw a b (InsnResolved.same none) two = unresolved raw b none two
  insn_once _ _ _ (InsnResolved.text {to = to} {row = row} {number = n} one) (InsnResolved.text {number = k} two) = ap (λ x. insn.ConstText to x) (text_once (text_of ids row) n k one two)
  insn_once _ _ _ (InsnResolved.text one) (InsnResolved.same none) = absurd (cc)
  insn_once _ _ _ (InsnResolved.class {to = to} {named = raw} {known = a} one) (InsnResolved.class {known = b} two) = ap (λ x. insn.ConstClass to x) (named_type_once raw a b one two)
  insn_once _ _ _ (InsnResolved.class (TypeResolved.named one)) (InsnResolved.same none) = absurd (cc)
  insn_once _ _ _ (InsnResolved.cast {object = o} {named = raw} {known = a} one) (InsnResolved.cast {known = b} two) = ap (λ x. insn.CheckCast o x) (named_type_once raw a b one two)
  insn_once _ _ _ (InsnResolved.cast (TypeResolved.named one)) (InsnResolved.same none) = absurd (cc)
  insn_once _ _ _ (InsnResolved.instance {to = to} {object = o} {named = raw} {known = a} one) (InsnResolved.instance {known = b} two) = ap (λ x. insn.InstanceOf to o x) (named_type_once raw a b one two)
  insn_once _ _ _ (InsnResolved.instance (TypeResolved.named one)) (InsnResolved.same none) = absurd (cc)
  insn_once _ _ _ (InsnResolved.object {to = to} {named = raw} {known = a} one) (InsnResolved.object {known = b} two) = ap (λ x. insn.NewInstance to x) (named_type_once raw a b one two)
  insn_once _ _ _ (InsnResolved.object (TypeResolved.named one)) (InsnResolved.same none) = absurd (cc)
  insn_once _ _ _ (InsnResolved.array {to = to} {length = l} {named = raw} {known = a} one) (InsnResolved.array {known = b} two) = ap (λ x. insn.NewArray to l x) (named_type_once raw a b one two)
  insn_once _ _ _ (InsnResolved.array (TypeResolved.named one)) (InsnResolved.same none) = absurd (cc)
  insn_once _ _ _ (InsnResolved.filled {args = args} {named = raw} {known = a} one) (InsnResolved.filled {known = b} two) = ap (λ x. insn.FilledNewArray x args) (named_type_once raw a b one two)
  insn_once _ _ _ (InsnResolved.filled (TypeResolved.named one)) (InsnResolved.same none) = absurd (cc)
  insn_once _ _ _ (InsnResolved.field_read {kind = kind} {to = to} {object = o} {row = row} {number = n} one) (InsnResolved.field_read {number = k} two) = ap (λ x. insn.FieldGet kind to o x) (named_field_once row n k one two)
  insn_once _ _ _ (InsnResolved.field_read one) (InsnResolved.same none) = absurd (cc)
  insn_once _ _ _ (InsnResolved.field_written {kind = kind} {from = from} {object = o} {row = row} {number = n} one) (InsnResolved.field_written {number = k} two) = ap (λ x. insn.FieldPut kind from o x) (named_field_once row n k one two)
  insn_once _ _ _ (InsnResolved.field_written one) (InsnResolved.same none) = absurd (cc)
  insn_once _ _ _ (InsnResolved.static_read {kind = kind} {to = to} {row = row} {number = n} one) (InsnResolved.static_read {number = k} two) = ap (λ x. insn.StaticGet kind to x) (named_field_once row n k one two)
  insn_once _ _ _ (InsnResolved.static_read one) (InsnResolved.same none) = absurd (cc)
  insn_once _ _ _ (InsnResolved.static_written {kind = kind} {from = from} {row = row} {number = n} one) (InsnResolved.static_written {number = k} two) = ap (λ x. insn.StaticPut kind from x) (named_field_once row n k one two)
  insn_once _ _ _ (InsnResolved.static_written one) (InsnResolved.same none) = absurd (cc)
  insn_once _ _ _ (InsnResolved.call {how = how} {named = raw} {known = a} {args = args} one) (InsnResolved.call {known = b} two) = ap (λ x. insn.Invoke how x args) (named_method_once raw a b one two)
  insn_once _ _ _ (InsnResolved.call (MethodResolved.named there classed names numbered)) (InsnResolved.same none) = absurd (cc)

  placed_once : (raw a b : Placed) → PlacedResolved ids classes this raw a → PlacedResolved ids classes that raw b → a ≡ b
  placed_once raw a b one two =
      let at : a.at ≡ b.at = one.at ∙ sym two.at in
      let units : a.units ≡ b.units = one.units ∙ sym two.units in
      let insn : a.insn ≡ b.insn = insn_once raw.insn a.insn b.insn one.insn two.insn in
      three_parts placed_of at units insn

  catch_kind_once : (raw : Option ℕ) (a b : Option DexType) → CatchKind ids this raw a → CatchKind ids that raw b → a ≡ b
  catch_kind_once None None None one two = refl
  catch_kind_once None None (Some b) one two = absurd (two)
  catch_kind_once None (Some a) b one two = absurd (one)
  catch_kind_once (Some row) None b one two = absurd (one)
  catch_kind_once (Some row) (Some a) None one two = absurd (two)
  catch_kind_once (Some row) (Some a) (Some b) one two = ap Some (type_once a b (type_name ids row) one two)

  catch_once : (raw : RawCatch) (a b : Catch) → CatchResolved ids this raw a → CatchResolved ids that raw b → a ≡ b
  catch_once raw a b one two =
      let at : a.at ≡ b.at = one.at ∙ sym two.at in
      let kind : a.kind ≡ b.kind = catch_kind_once raw.row a.kind b.kind one.kind two.kind in
      two_parts catch_of at kind

  try_once : (raw : RawTry) (a b : Try) → TryResolved ids this raw a → TryResolved ids that raw b → a ≡ b
  try_once raw a b one two =
      let start : a.start ≡ b.start = one.start ∙ sym two.start in
      let end : a.end ≡ b.end = one.end ∙ sym two.end in
      let catches : a.catches ≡ b.catches = others_once catch_once raw.catches a.catches b.catches one.catches two.catches in
      three_parts try_of start end catches

  code_once : (raw : RawCode) (a b : Code) → CodeResolved ids classes this raw a → CodeResolved ids classes that raw b → a ≡ b
  code_once raw a b one two =
      let registers : a.registers ≡ b.registers = one.registers ∙ sym two.registers in
      let ins : a.ins ≡ b.ins = one.ins ∙ sym two.ins in
      let decoded : one.decoded ≡ two.decoded = reading raw.units one.decoded two.decoded one.instructions two.instructions in
      let insns : a.insns ≡ b.insns = others_once placed_once two.decoded a.insns b.insns (subst (λ d. Pairs (PlacedResolved ids classes this) d a.insns) decoded one.insns) two.insns in
      let tries : a.tries ≡ b.tries = others_once try_once raw.tries a.tries b.tries one.tries two.tries in
      ap (λ r. code_of r a.ins a.insns a.tries) registers ∙ three_parts (code_of b.registers) ins insns tries

  pub kind_once : (raw : RawMethod) (a b : MethodKind) → KindResolved ids classes this raw a → KindResolved ids classes that raw b → a ≡ b
  kind_once raw _ _ (KindResolved.native one) (KindResolved.native two) = refl
  kind_once raw _ _ (KindResolved.native one) (KindResolved.abstract two flag) = absurd (cc)
  kind_once raw _ _ (KindResolved.native one) (KindResolved.code two flag there resolved) = absurd (cc)
  kind_once raw _ _ (KindResolved.abstract one flag) (KindResolved.native two) = absurd (cc)
  kind_once raw _ _ (KindResolved.abstract one flag) (KindResolved.abstract two also) = refl
  kind_once raw _ _ (KindResolved.abstract one flag) (KindResolved.code two also there resolved) = absurd (cc)
  kind_once raw _ _ (KindResolved.code one flag there resolved) (KindResolved.native two) = absurd (cc)
  kind_once raw _ _ (KindResolved.code one flag there resolved) (KindResolved.abstract two also) = absurd (cc)
  kind_once raw _ _ (KindResolved.code {units = x} {code = a} one flag there resolved) (KindResolved.code {units = y} {code = b} two also here decoded) =
      ap kinds.Code (code_once y a b (subst (λ u. CodeResolved ids classes this u a) (some_is x y (sym there ∙ here)) resolved) decoded)
