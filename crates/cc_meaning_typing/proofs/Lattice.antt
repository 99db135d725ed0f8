-- The laws of types and of registers.
use Rattle.std.proofs.Common.{◌≡◌, inl, inr, ℕ, cond, ◌==◌, refl, sym, ap, subst}
use Rattle.cc_meaning.specs.declared.program.DexType.{DexType}
use Rattle.cc_meaning.specs.declared.program.Program.{Program}
use Rattle.cc_meaning.specs.declared.program.RegType.{RegType}
use Rattle.cc_meaning.specs.declared.program.RegType.TheVariants.{Unset, Int, Zero, LongLow, LongHigh, Reference, Fresh}
use Rattle.cc_meaning_typing.specs.Hierarchy.{IsHierarchy}
use Rattle.cc_meaning_typing.specs.Types.{IsBelow, same as itself}
use Rattle.cc_meaning_typing.specs.Registers.{Covers, unset, same, zero_int, zero_reference, references, join}
use Rattle.cc_meaning_typing.specs.Laws.{IsBelowByStep, TypesAreATree, TypeTrees, BelowOrders, LeastIsLeast, CoveringOrders, JoinIsLeast, TypesAreOrdered, LeastTypes, RegistersAreOrdered, Joins}
use Rattle.cc_meaning_typing.proofs.Tree.{test_eq, on, class_height, next_rank, next_none, object_rank, rises_rank, rises_trans, rises_anti, ups, rises_chain}
use Rattle.cc_meaning_typing.proofs.Below.{rises_of, below_of}
use Rattle.cc_meaning_typing.proofs.Least.{rank_bound, least}

module _ (program : Program) (hierarchy : IsHierarchy program) where
  pub below_trans : {a b c : DexType} → IsBelow program a b → IsBelow program b c → IsBelow program a c
  below_trans h g = below_of program hierarchy (rises_trans program hierarchy (rises_of program hierarchy h) (rises_of program hierarchy g))

  pub below_anti : {a b : DexType} → IsBelow program a b → IsBelow program b a → a ≡ b
  below_anti h g = rises_anti program hierarchy (rises_of program hierarchy h) (rises_of program hierarchy g)

  below_orders : BelowOrders program
  below_orders = record { reflexive = λ a. itself; transitive = λ a b c. below_trans; antisymmetric = λ a b. below_anti }

  by_step : (a b : DexType) → IsBelow program a b → IsBelowByStep program a b
  by_step a b h = elim (ups program hierarchy (rises_of program hierarchy h)) [
    | inl e ↦ inl e
    | inr x ↦ inr (x.0, x.1, below_of program hierarchy x.2)
  ]

  from_step : (a b : DexType) → IsBelowByStep program a b → IsBelow program a b
  from_step a b (inl e) = subst (λ z. IsBelow program a z) e itself
  from_step a b (inr x) = below_of program hierarchy (on x.1 (rises_of program hierarchy x.2))

  a_tree : TypesAreATree program
  a_tree = record {
    class_height = class_height program hierarchy;
    next_rank = next_rank program hierarchy;
    top = next_none program hierarchy;
    object_rank = object_rank program hierarchy;
    steps = λ a b. (by_step a b, from_step a b);
    falls = λ a b h. rises_rank program hierarchy (rises_of program hierarchy h);
    chain = λ a b c h g l. below_of program hierarchy (rises_chain program hierarchy (rises_of program hierarchy h) (rises_of program hierarchy g) l);
    bound = rank_bound program hierarchy;
  }

  pub least_is_least : LeastIsLeast program
  least_is_least = record {
    left = λ a b. below_of program hierarchy (least program hierarchy a b).left;
    right = λ a b. below_of program hierarchy (least program hierarchy a b).right;
    least = λ a b c h g. below_of program hierarchy ((least program hierarchy a b).least c (rises_of program hierarchy h) (rises_of program hierarchy g));
  }

  pub covers_trans : {a b c : RegType} → Covers program a b → Covers program b c → Covers program a c
  covers_trans unset g = unset
  covers_trans same g = g
  covers_trans zero_int same = zero_int
  covers_trans zero_reference same = zero_reference
  covers_trans (references h) same = references h
  covers_trans (references h) zero_reference = zero_reference
  covers_trans (references h) (references g) = references (below_trans g h)

  pub covers_anti : {a b : RegType} → Covers program a b → Covers program b a → a ≡ b
  covers_anti unset unset = refl
  covers_anti unset same = refl
  covers_anti same g = refl
  covers_anti zero_int g = elim g [ ]
  covers_anti zero_reference g = elim g [ ]
  covers_anti (references h) same = refl
  covers_anti (references h) (references g) = ap Reference (below_anti g h)

  covering_orders : CoveringOrders program
  covering_orders = record { reflexive = λ a. same; transitive = λ a b c. covers_trans; antisymmetric = λ a b. covers_anti }

  -- ---- the join

  abbrev CoversBoth : RegType → RegType → RegType → Type 0
  CoversBoth c a b = Covers program c a × Covers program c b

  fresh_covers : (a b : ℕ) → CoversBoth (cond (a == b) (Fresh a) Unset) (Fresh a) (Fresh b)
  fresh_covers a b = elim (test_eq a b) [
    | inl t ↦ rw t.0 (same, subst (λ z. Covers program (Fresh a) (Fresh z)) t.1 same)
    | inr t ↦ rw t.0 (unset, unset)
  ]

  pub join_covers : (a b : RegType) → CoversBoth (join program a b) a b
  unfolding join
  join_covers Int Int = (same, same)
  join_covers Int Zero = (same, zero_int)
  join_covers Zero Int = (zero_int, same)
  join_covers Zero Zero = (same, same)
  join_covers Zero (Reference type) = (zero_reference, same)
  join_covers (Reference type) Zero = (same, zero_reference)
  join_covers (Reference a) (Reference b) = let x = least_is_least in (references (x.left a b), references (x.right a b))
  join_covers LongLow LongLow = (same, same)
  join_covers LongHigh LongHigh = (same, same)
  join_covers (Fresh a) (Fresh b) = fresh_covers a b
  join_covers a b = (unset, unset)

  join_self : (a : RegType) → join program a a ≡ a
  unfolding join
  join_self Unset = refl
  join_self Int = refl
  join_self Zero = refl
  join_self LongLow = refl
  join_self LongHigh = refl
  join_self (Reference type) = let x = least_is_least in ap Reference (below_anti (x.least type type type itself itself) (x.left type type))
  join_self (Fresh a) = elim (test_eq a a) [ inl t ↦ rw t.0 refl | inr t ↦ absurd (t.1 refl) ]

  -- the join of one that the other covers
  absorbs : {a b : RegType} → Covers program a b → Covers program a (join program a b)
  unfolding join
  absorbs unset = unset
  absorbs (same {a = a}) = subst (λ z. Covers program a z) (sym (join_self a)) same
  absorbs zero_int = same
  absorbs zero_reference = same
  absorbs (references {type = s} {above = t} h) = let x = least_is_least in references (x.least t s t itself h)

  absorbs_left : {a b : RegType} → Covers program a b → Covers program a (join program b a)
  unfolding join
  absorbs_left unset = unset
  absorbs_left (same {a = a}) = subst (λ z. Covers program a z) (sym (join_self a)) same
  absorbs_left zero_int = same
  absorbs_left zero_reference = same
  absorbs_left (references {type = s} {above = t} h) = let x = least_is_least in references (x.least s t t h itself)

  pub join_least : {a b c : RegType} → Covers program c a → Covers program c b → Covers program c (join program a b)
  unfolding join
  join_least unset g = unset
  join_least same g = absorbs g
  join_least zero_int same = same
  join_least zero_int zero_int = zero_int
  join_least zero_reference same = same
  join_least zero_reference zero_reference = zero_reference
  join_least zero_reference (references g) = references g
  join_least (references h) same = absorbs_left (references h)
  join_least (references h) zero_reference = references h
  join_least (references {type = s} {above = t} h) (references {type = u} g) = let x = least_is_least in references (x.least s u t h g)

  join_swap : (a b : RegType) → join program a b ≡ join program b a
  join_swap a b = let x = join_covers a b in let y = join_covers b a in covers_anti (join_least x.1 x.0) (join_least y.1 y.0)

  join_is : (a b : RegType) → Covers program a b → join program a b ≡ a
  join_is a b h = covers_anti (join_covers a b).0 (absorbs h)

  is_join : (a b : RegType) → join program a b ≡ a → Covers program a b
  is_join a b e = subst (λ z. Covers program z b) e (join_covers a b).1

  join_is_least : JoinIsLeast program
  join_is_least = record {
    idempotent = join_self;
    commutative = join_swap;
    left = λ a b. (join_covers a b).0;
    right = λ a b. (join_covers a b).1;
    least = λ a b c. join_least;
    covering = λ a b. (join_is a b, is_join a b);
  }

pub type_trees : TypeTrees
type_trees program hierarchy = a_tree program hierarchy

pub types_are_ordered : TypesAreOrdered
types_are_ordered program hierarchy = below_orders program hierarchy

pub least_types : LeastTypes
least_types program hierarchy = least_is_least program hierarchy

pub registers_are_ordered : RegistersAreOrdered
registers_are_ordered program hierarchy = covering_orders program hierarchy

pub joins : Joins
joins program hierarchy = join_is_least program hierarchy
