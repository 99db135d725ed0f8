-- Reading and writing of registers whose cells fit.
use Rattle.std.proofs.Common.{◌≡◌, inl, inr, ℕ, zero, suc, ℤ, Bool, true, false, List, [], ◌∷◌, Option, Some, None, refl, ap, ◌∙◌, subst, slice_get, slice_set}
use Rattle.std.specs.Prelude.{cond, ◌==◌, option_map}
use Rattle.cc_meaning.specs.declared.instruction.Kind.{Kind}
use Rattle.cc_meaning.specs.declared.instruction.Kind.TheVariants as kind
use Rattle.cc_meaning.specs.declared.instruction.TypeRef.{TypeRef}
use Rattle.cc_meaning.specs.declared.instruction.TypeRef.TheVariants as type
use Rattle.cc_meaning.specs.declared.program.DexType.{DexType}
use Rattle.cc_meaning.specs.declared.program.Program.{Program}
use Rattle.cc_meaning.specs.declared.program.RegType.{RegType}
use Rattle.cc_meaning.specs.declared.program.RegType.TheVariants.{Unset, Int, LongLow, LongHigh, Reference, Fresh}
use Rattle.cc_meaning.specs.declared.value.Cell.{Cell}
use Rattle.cc_meaning.specs.declared.value.Cell.TheVariants as cell
use Rattle.cc_meaning.specs.declared.value.Value.{Value}
use Rattle.cc_meaning.specs.declared.value.Value.TheVariants as value
use Rattle.cc_meaning.specs.Kinds.{kind_of}
use Rattle.cc_meaning_typing.specs.Hierarchy.{IsHierarchy}
use Rattle.cc_meaning_typing.specs.Types.{held, IsBelow, same as below_same, class_type}
use Rattle.cc_meaning_typing.specs.Registers.{Covers, unset as covers_unset, same as covers_same, zero_int as covers_zero_int, zero_reference as covers_zero_reference, references as covers_references, register_of, register_of_kind}
use Rattle.cc_meaning_typing.specs.States.{AllCover, none as no_cover, each as each_cover, register_at, without_low, without_high, clear_behind, clear_before, write, write_long, without_fresh, forget_fresh, constructed, construct}
use Rattle.cc_meaning_typing.specs.Rules.{write_kind, write_declared}
use Rattle.cc_meaning_typing.proofs.Registers.{cover_refl}
use Rattle.cc_meaning_typing.proofs.Tree.{test_eq}
use Rattle.cc_sound_laws.proofs.Growing.{cell_covered, all_covered}
use Rattle.cc_meaning_exec.specs.Registers.{int_in, long_in, null_of, reference_in, value_in, cells_with}
use Rattle.cc_meaning_fits.specs.Fits.{Heap, RefFits, ValueFits, int as an_int, long as a_long, reference as a_reference, FitsType, CellFits, unset, int, zero_int, low, high, zero_null, reference, fresh, AllFit, none, each}
use Rattle.cc_meaning_world.specs.Sorts.{type_of}

-- ---- what a value in a cell is

pub cell_of_value : (p : Program) (made : ℕ → Option TypeRef) (h : Heap) {a : RegType} {v : Value} → ValueFits p h a v → CellFits p made h a (cell.Value v)
cell_of_value p made h an_int = int
cell_of_value p made h a_long = low
cell_of_value p made h (a_reference f) = reference f

module _ (p : Program) (hierarchy : IsHierarchy p) (made : ℕ → Option TypeRef) (h : Heap) where
  abbrev Fit : List RegType → List Cell → Type 0
  Fit = AllFit p made h

  abbrev CellFit : RegType → Cell → Type 0
  CellFit = CellFits p made h

  -- ---- reading

  no_unset : (a : RegType) → Covers p a Unset → a ≡ Unset
  no_unset a c = go c refl
    where
      go : {x y : RegType} → Covers p x y → y ≡ Unset → x ≡ Unset
      go covers_unset e = refl
      go covers_same e = e
      go covers_zero_int e = absurd (cc)
      go covers_zero_reference e = absurd (cc)
      go (covers_references b) e = absurd (cc)

  pub read : (a : RegType) {rs : List RegType} {cs : List Cell} (r : ℕ) → (a ≡ Unset → ⊥) → Fit rs cs → Covers p a (register_at rs r) → (c : Cell) × (slice_get cs r ≡ Some c) × CellFit a c
  read a r u none c = absurd (u (no_unset a c))
  read a zero u (each {c = x} f fs) c = (x, refl, cell_covered p hierarchy h made c f)
  read a (suc r) u (each f fs) c = read a r u fs c

  int_of_cell : {c : Cell} → CellFit Int c → (n : ℤ) × (int_in (Some c) ≡ Some n)
  unfolding int_in
  int_of_cell (int {n = n}) = (n, refl)

  long_of_cell : {c : Cell} → CellFit LongLow c → (n : ℤ) × (long_in (Some c) ≡ Some n)
  unfolding long_in
  long_of_cell (low {n = n}) = (n, refl)

  ref_of_cell : {type : DexType} {c : Cell} → CellFit (Reference type) c → (o : Option ℕ) × (reference_in (Some c) ≡ Some o) × RefFits p h type o
  unfolding reference_in null_of
  ref_of_cell zero_null = (None, refl, tt)
  ref_of_cell (reference {o = o} f) = (o, refl, f)

  pub int_read : {rs : List RegType} {cs : List Cell} (r : ℕ) → Fit rs cs → Covers p Int (register_at rs r) → (n : ℤ) × (int_in (slice_get cs r) ≡ Some n)
  int_read r fs c = let x = read Int r (λ e. cc) fs c in let y = int_of_cell x.2 in (y.0, ap int_in x.1 ∙ y.1)

  pub long_read : {rs : List RegType} {cs : List Cell} (r : ℕ) → Fit rs cs → Covers p LongLow (register_at rs r) → (n : ℤ) × (long_in (slice_get cs r) ≡ Some n)
  long_read r fs c = let x = read LongLow r (λ e. cc) fs c in let y = long_of_cell x.2 in (y.0, ap long_in x.1 ∙ y.1)

  pub ref_read : (type : DexType) {rs : List RegType} {cs : List Cell} (r : ℕ) → Fit rs cs → Covers p (Reference type) (register_at rs r) → (o : Option ℕ) × (reference_in (slice_get cs r) ≡ Some o) × RefFits p h type o
  ref_read type r fs c = let x = read (Reference type) r (λ e. cc) fs c in let y = ref_of_cell x.2 in (y.0, ap reference_in x.1 ∙ y.1, y.2)

  -- a value of a kind, as it is read
  kind_read : (type : DexType) (k : Kind) {rs : List RegType} {cs : List Cell} (r : ℕ) → Fit rs cs → Covers p (register_of_kind p type k) (register_at rs r) → (v : Value) × (value_in k (slice_get cs r) ≡ Some v) × ValueFits p h (register_of_kind p type k) v
  unfolding register_of_kind value_in
  kind_read type kind.Wide r fs c = let x = long_read r fs c in (value.Long x.0, ap (option_map value.Long) x.1, a_long)
  kind_read type kind.Object r fs c = let x = ref_read (held p type) r fs c in (value.Obj x.0, ap (option_map value.Obj) x.1, a_reference x.2)
  kind_read type k r fs c = let x = int_read r fs c in (value.Int x.0, ap (option_map value.Int) x.1, an_int)

  pub declared_read : (type : DexType) {rs : List RegType} {cs : List Cell} (r : ℕ) → Fit rs cs → Covers p (register_of p type) (register_at rs r) → (v : Value) × (value_in (kind_of type) (slice_get cs r) ≡ Some v) × FitsType p h type v
  unfolding register_of
  declared_read type r fs c = kind_read type (kind_of type) r fs c

  -- ---- writing

  pub fit_set : {rs : List RegType} {cs : List Cell} {a : RegType} {c : Cell} (r : ℕ) → Fit rs cs → CellFit a c → Fit (slice_set rs r a) (slice_set cs r c)
  fit_set r none f = none
  fit_set zero (each g gs) f = each f gs
  fit_set (suc r) (each g gs) f = each g (fit_set r gs f)

  -- a cell that fits may be known otherwise
  pub fit_keep : {rs : List RegType} {cs : List Cell} {a : RegType} (c : Cell) (r : ℕ) → Fit rs cs → slice_get cs r ≡ Some c → CellFit a c → Fit (slice_set rs r a) cs
  fit_keep c r none e f = none
  fit_keep {a = a} c zero (each {c = x} g gs) e f = each (let q : c ≡ x = cc in subst (λ z. CellFit a z) q f) gs
  fit_keep c (suc r) (each g gs) e f = each g (fit_keep c r gs e f)

  cover_self : (rs : List RegType) (r : ℕ) (a : RegType) → Covers p a (register_at rs r) → AllCover p (slice_set rs r a) rs
  cover_self [] r a c = no_cover
  cover_self (x ∷ rs) zero a c = each_cover c (cover_refl p rs)
  cover_self (x ∷ rs) (suc r) a c = each_cover covers_same (cover_self rs r a c)

  low_less : (a : RegType) → Covers p (without_low a) a
  unfolding without_low
  low_less LongLow = covers_unset
  low_less a = covers_same

  high_less : (a : RegType) → Covers p (without_high a) a
  unfolding without_high
  high_less LongHigh = covers_unset
  high_less a = covers_same

  fit_behind : {rs : List RegType} {cs : List Cell} (r : ℕ) → Fit rs cs → Fit (clear_behind rs r) cs
  unfolding clear_behind
  fit_behind {rs = rs} r f = all_covered p hierarchy h made (cover_self rs (suc r) _ (high_less (register_at rs (suc r)))) f

  fit_before : {rs : List RegType} {cs : List Cell} (r : ℕ) → Fit rs cs → Fit (clear_before rs r) cs
  unfolding clear_before
  fit_before zero f = f
  fit_before {rs = rs} (suc r) f = all_covered p hierarchy h made (cover_self rs r _ (low_less (register_at rs r))) f

  pub write_fit : {rs : List RegType} {cs : List Cell} {a : RegType} {c : Cell} (r : ℕ) → Fit rs cs → CellFit a c → Fit (write rs r a) (slice_set cs r c)
  unfolding write
  write_fit r fs f = fit_set r (fit_before r (fit_behind r fs)) f

  pub write_keep : {rs : List RegType} {cs : List Cell} {a : RegType} (c : Cell) (r : ℕ) → Fit rs cs → slice_get cs r ≡ Some c → CellFit a c → Fit (write rs r a) cs
  unfolding write
  write_keep c r fs e f = fit_keep c r (fit_before r (fit_behind r fs)) e f

  pub write_long_fit : {rs : List RegType} {cs : List Cell} (r : ℕ) (n : ℤ) → Fit rs cs → Fit (write_long rs r) (cells_with cs r (value.Long n))
  unfolding write_long cells_with
  write_long_fit r n fs = fit_set (suc r) (fit_set r (fit_before r (fit_behind (suc r) fs)) low) high

  pub kind_fit : (type : DexType) (k : Kind) {rs : List RegType} {cs : List Cell} {v : Value} (r : ℕ) → Fit rs cs → ValueFits p h (register_of_kind p type k) v → Fit (write_kind rs r (register_of_kind p type k) k) (cells_with cs r v)
  unfolding register_of_kind write_kind cells_with
  kind_fit type kind.Wide {rs = rs} {cs = cs} r fs f = long_case f
    where
      long_case : {v : Value} → ValueFits p h LongLow v → Fit (write_long rs r) (cells_with cs r v)
      long_case (a_long {n = n}) = write_long_fit r n fs
  kind_fit type kind.Object {rs = rs} {cs = cs} r fs f = object_case f
    where
      object_case : {v : Value} → ValueFits p h (Reference (held p type)) v → Fit (write rs r (Reference (held p type))) (cells_with cs r v)
      object_case (a_reference g) = write_fit r fs (reference g)
  kind_fit type k {rs = rs} {cs = cs} r fs f = int_case f
    where
      int_case : {v : Value} → ValueFits p h Int v → Fit (write rs r Int) (cells_with cs r v)
      int_case an_int = write_fit r fs int

  pub declared_fit : (type : DexType) {rs : List RegType} {cs : List Cell} {v : Value} (r : ℕ) → Fit rs cs → FitsType p h type v → Fit (write_declared p rs r type) (cells_with cs r v)
  unfolding write_declared register_of
  declared_fit type r fs f = kind_fit type (kind_of type) r fs f

  -- ---- fresh objects

  fresh_less : (at : ℕ) (a : RegType) → Covers p (without_fresh at a) a
  unfolding without_fresh
  fresh_less at (Fresh a) = by (a == at)
    where
      by : (b : Bool) → Covers p (cond b Unset (Fresh a)) (Fresh a)
      by true = covers_unset
      by false = covers_same
  fresh_less at a = covers_same

  pub forget_fit : {rs : List RegType} {cs : List Cell} (at : ℕ) → Fit rs cs → Fit (forget_fresh rs at) cs
  unfolding forget_fresh
  forget_fit at none = none
  forget_fit at (each {a = a} f fs) = each (cell_covered p hierarchy h made (fresh_less at a) f) (forget_fit at fs)

  constructed_fit : (at class : ℕ) → made at ≡ Some (type.Known (class_type class)) → {a : RegType} {c : Cell} → CellFit a c → CellFit (constructed at (held p (class_type class)) a) c
  unfolding constructed
  constructed_fit at class e unset = unset
  constructed_fit at class e int = int
  constructed_fit at class e zero_int = zero_int
  constructed_fit at class e low = low
  constructed_fit at class e high = high
  constructed_fit at class e zero_null = zero_null
  constructed_fit at class e (reference f) = reference f
  constructed_fit at class e (fresh {at = b} {a = n} sort g sf m) = by (b == at) refl
    where
      by : (t : Bool) → (b == at) ≡ t → CellFit (cond t (Reference (held p (class_type class))) (Fresh b)) (cell.Value (value.Obj (Some n)))
      by true q =
          let be : b ≡ at = elim (test_eq b at) [ inl x ↦ x.1 | inr x ↦ absurd (let f = x.0 in cc) ] in
          let m2 : made at ≡ Some (type.Known (type_of p sort)) = subst (λ z. made z ≡ Some (type.Known (type_of p sort))) be m in
          let same_type : type_of p sort ≡ class_type class = cc in
          reference (sort, g, subst (λ z. IsBelow p (held p (type_of p sort)) (held p z)) same_type below_same, sf)
      by false q = fresh sort g sf m

  pub construct_fit : (at class : ℕ) → made at ≡ Some (type.Known (class_type class)) → {rs : List RegType} {cs : List Cell} → Fit rs cs → Fit (construct rs at (held p (class_type class))) cs
  unfolding construct
  construct_fit at class e none = none
  construct_fit at class e (each f fs) = each (constructed_fit at class e f) (construct_fit at class e fs)
