-- Walks up the tree of types.
use Rattle.std.proofs.Common.{length, true, false, ◌≡◌, ◌⊎◌, inl, inr, ℕ, zero, suc, ◌+◌, ◌<◌, ◌≤◌, Option, Some, None, refl, sym, ap, ◌∙◌, subst, arith}
use Rattle.std.proofs.lemmas.Option.{slice_get_past}
use Rattle.cc_meaning.specs.declared.program.DexType.{DexType}
use Rattle.cc_meaning.specs.declared.program.Program.{Program}
use Rattle.cc_meaning_typing.specs.Hierarchy.{superclass_in, on_value, superclass_of, object_class, climb, IsHierarchy}
use Rattle.cc_meaning_typing.specs.Types.{is_loose, first_held, class_above, IsBelow, same, next_above, least_above}
use Rattle.cc_meaning_typing.specs.Heights.{rank}
use Rattle.cc_meaning_typing.specs.Laws.{TypesAreATree, BelowOrders, LeastIsLeast}

equal_or_less : (m n : ℕ) → m ≤ n → (m ≡ n) ⊎ (m < n)
equal_or_less m n h = grind arith

-- ---- classes

pub climb_next : (program : Program) → IsHierarchy program → (n class above : ℕ) → superclass_of program class ≡ Some above → climb program n class ≡ object_class program → (m : ℕ) × (climb program m above ≡ object_class program)
unfolding climb on_value
climb_next program hierarchy zero class above e h = let t = hierarchy.top in let f : superclass_of program class ≡ None = rw h t in absurd (cc)
climb_next program hierarchy (suc n) class above e h = (n, rw e at h)

pub climb_end : (program : Program) (n class : ℕ) → superclass_of program class ≡ None → climb program n class ≡ object_class program → class ≡ object_class program
unfolding climb on_value
climb_end program zero class e h = h
climb_end program (suc n) class e h = rw e at h

-- what is kept while the first superclass that registers hold is looked for
pub record Seeks (program : Program) (class above : ℕ) : Type 0 where
  pub n : ℕ
  pub rest : on_value (superclass_of program above) (object_class program) (λ next. first_held program n next) ≡ class_above program class
  pub near : (next : ℕ) → superclass_of program above ≡ Some next → (k : ℕ) × (k ≤ n) × (climb program k above ≡ object_class program)

has_above : (program : Program) (class above : ℕ) → superclass_of program class ≡ Some above → ((class < length program.classes) ⊎ (length program.classes ≤ class)) → class < length program.classes
unfolding superclass_of superclass_in
has_above program class above e (inl l) = l
has_above program class above e (inr l) = let f = slice_get_past program.classes class l in let g = rw f at e in cc

side : (a b : ℕ) → (a < b) ⊎ (b ≤ a)
side a b = grind arith

pub seeks_start : (program : Program) → IsHierarchy program → (class : ℕ) → Seeks program class class
unfolding class_above
seeks_start program hierarchy class = record {
  n = length program.classes;
  rest = refl;
  near = λ next e. (length program.classes, omega arith, hierarchy.leads class (has_above program class next e (side class (length program.classes))));
}

-- what stands behind the next superclass
abbrev Behind : Program → ℕ → ℕ → Type 0
Behind program class next = (m : ℕ) × (first_held program (suc m) next ≡ class_above program class) × ((k : ℕ) × (k ≤ m) × (climb program k next ≡ object_class program))

behind : (program : Program) → IsHierarchy program → (class above next n k : ℕ) → superclass_of program above ≡ Some next → first_held program n next ≡ class_above program class → k ≤ n → climb program k above ≡ object_class program → Behind program class next
unfolding climb on_value
behind program hierarchy class above next n zero e f l c = let t = hierarchy.top in let g : superclass_of program above ≡ None = rw c t in absurd (cc)
behind program hierarchy class above next zero (suc k) e f l c = absurd (omega arith)
behind program hierarchy class above next (suc n) (suc k) e f l c = (n, f, (k, omega arith, rw e at c))

seeks_behind : (program : Program) → IsHierarchy program → (class above next : ℕ) → Seeks program class above → superclass_of program above ≡ Some next → Behind program class next
unfolding on_value
seeks_behind program hierarchy class above next s e = let x = s.near next e in behind program hierarchy class above next s.n x.0 e (rw e at s.rest) x.1 x.2

pub seeks_step : (program : Program) → IsHierarchy program → (class above next : ℕ) → Seeks program class above → superclass_of program above ≡ Some next → is_loose program next ≡ true → Seeks program class next
unfolding first_held
seeks_step program hierarchy class above next s e loose =
    let x = seeks_behind program hierarchy class above next s e in
    record { n = x.0; rest = rw loose at x.1; near = λ _ _. x.2 }

pub seeks_found : (program : Program) → IsHierarchy program → (class above next : ℕ) → Seeks program class above → superclass_of program above ≡ Some next → is_loose program next ≡ false → next ≡ class_above program class
unfolding first_held
seeks_found program hierarchy class above next s e loose =
    let x = seeks_behind program hierarchy class above next s e in
    rw loose at x.1

pub seeks_end : (program : Program) (class above : ℕ) → Seeks program class above → superclass_of program above ≡ None → object_class program ≡ class_above program class
unfolding on_value
seeks_end program class above s e = rw e at s.rest

-- what is kept while a type is lifted
pub record Lifted (program : Program) (low ahead lifted left : DexType) : Type 0 where
  pub rises : IsBelow program low lifted
  pub steps : rank program lifted + rank program ahead ≡ rank program low + rank program left

-- what is kept while two types go up to where they meet
pub record Meets (program : Program) (a b first second : DexType) : Type 0 where
  pub left : IsBelow program a first
  pub right : IsBelow program b second
  pub level : rank program first ≡ rank program second
  pub shared : (c : DexType) → IsBelow program a c → IsBelow program b c → rank program c ≤ rank program first

module _ (program : Program) (tree : TypesAreATree program) where
  pub at_top : (a : DexType) → next_above program a ≡ None → rank program a ≡ 0
  at_top a e = ap (rank program) (tree.top a e) ∙ tree.object_rank

  next_below : (a s : DexType) → next_above program a ≡ Some s → IsBelow program a s
  next_below a s e = (tree.steps a s).1 (inr (s, e, same))

  pub no_higher : (a b : DexType) → IsBelow program a b → rank program b ≤ rank program a
  no_higher a b h = elim (tree.falls a b h) [ inl e ↦ (let f = ap (rank program) e in omega arith) | inr l ↦ omega arith ]

  -- of two types above one, those equally far from Object are one
  same_height : (a b c : DexType) → IsBelow program a b → IsBelow program a c → rank program b ≡ rank program c → b ≡ c
  same_height a b c h g e = elim (tree.falls b c (tree.chain a b c h g (omega arith))) [ inl f ↦ f | inr l ↦ absurd (omega arith) ]

  -- both at Object
  both_top : (a b : DexType) → rank program a ≡ rank program b → next_above program a ≡ None → a ≡ b
  both_top a b e n = by_next (next_above program b) refl
    where
      by_next : (o : Option DexType) → next_above program b ≡ o → a ≡ b
      by_next None f = tree.top a n ∙ sym (tree.top b f)
      by_next (Some s) f = let r = tree.next_rank b s f in let z = at_top a n in absurd (omega arith)

  module _ (orders : BelowOrders program) where
    pub lifted_start : (low ahead : DexType) → Lifted program low ahead low ahead
    lifted_start low ahead = record { rises = same; steps = refl }

    pub lifted_step : (low ahead lifted left above next : DexType) → Lifted program low ahead lifted left → next_above program left ≡ Some next → next_above program lifted ≡ Some above → Lifted program low ahead above next
    lifted_step low ahead lifted left above next k e f =
        let r = tree.next_rank left next e in
        let s = tree.next_rank lifted above f in
        let t = k.steps in
        record { rises = orders.transitive low lifted above k.rises (next_below lifted above f); steps = omega arith }

    pub lifted_more : (low ahead lifted left next : DexType) → rank program ahead ≤ rank program low → Lifted program low ahead lifted left → next_above program left ≡ Some next → next_above program lifted ≡ None → ⊥
    lifted_more low ahead lifted left next l k e f =
        let r = tree.next_rank left next e in
        let s = at_top lifted f in
        let t = k.steps in
        omega arith

    pub meets_start : (a b : DexType) → rank program a ≡ rank program b → Meets program a b a b
    meets_start a b e = record { left = same; right = same; level = e; shared = λ c h g. no_higher a c h }

    pub meets_step : (a b first second x y : DexType) → Meets program a b first second → (first ≡ second → ⊥) → next_above program first ≡ Some x → next_above program second ≡ Some y → Meets program a b x y
    meets_step a b first second x y k not e f =
        let r = tree.next_rank first x e in
        let s = tree.next_rank second y f in
        let l = k.level in
        record {
          left = orders.transitive a first x k.left (next_below first x e);
          right = orders.transitive b second y k.right (next_below second y f);
          level = omega arith;
          shared = λ c h g. below_both c h g (k.shared c h g) r;
        }
      where
        below_both : (c : DexType) → IsBelow program a c → IsBelow program b c → rank program c ≤ rank program first → rank program first ≡ suc (rank program x) → rank program c ≤ rank program x
        below_both c h g m r = elim (equal_or_less (rank program c) (rank program first) m) [
          | inl e2 ↦ let l = k.level in absurd (not (same_height a first c k.left h (sym e2) ∙ sym (same_height b second c k.right g (omega arith))))
          | inr l ↦ omega arith
        ]

    pub meets_go : (a b first second : DexType) → Meets program a b first second → (first ≡ second → ⊥) → (next_above program first ≡ None → ⊥) × (next_above program second ≡ None → ⊥)
    meets_go a b first second k not = (λ e. not (both_top first second k.level e), λ e. not (sym (both_top second first (sym k.level) e)))

    module _ (leasts : LeastIsLeast program) where
      pub meets_end : (a b first second : DexType) → Meets program a b first second → first ≡ second → first ≡ least_above program a b
      meets_end a b first second k e =
          let m = least_above program a b in
          let h = leasts.left a b in
          let g = leasts.right a b in
          orders.antisymmetric first m
          (tree.chain a first m k.left h (k.shared m h g))
          (leasts.least a b first k.left (subst (λ z. IsBelow program b z) (sym e) k.right))

      pub record Raised (a b left right first second : DexType) : Type 0 where
        pub rises_left : IsBelow program a left
        pub rises_right : IsBelow program b right
        pub steps_left : rank program left + rank program first ≡ rank program a
        pub steps_right : rank program right + rank program second ≡ rank program b
        pub in_step : rank program a + rank program second ≡ rank program b + rank program first
        pub at_end : (rank program first ≡ 0) ⊎ (rank program second ≡ 0)

      pub raised_level : (a b left right first second : DexType) → Raised a b left right first second → rank program left ≡ rank program right
      raised_level a b left right first second k = let x = k.steps_left in let y = k.steps_right in let z = k.in_step in omega arith

      pub raised_least : (a b left right first second : DexType) → Raised a b left right first second → least_above program left right ≡ least_above program a b
      raised_least a b left right first second k =
          let m = least_above program left right in
          let v = least_above program a b in
          let level = raised_level a b left right first second k in
          let low = no_higher a v (leasts.left a b) in
          let high = no_higher b v (leasts.right a b) in
          let x = k.steps_left in
          let y = k.steps_right in
          let bound : rank program v ≤ rank program left = elim k.at_end [ inl e ↦ omega arith | inr e ↦ omega arith ] in
          orders.antisymmetric m v
          (leasts.least left right v (tree.chain a left v k.rises_left (leasts.left a b) bound) (tree.chain b right v k.rises_right (leasts.right a b) (omega arith)))
          (leasts.least a b m (orders.transitive a left m k.rises_left (leasts.left left right)) (orders.transitive b right m k.rises_right (leasts.right left right)))
