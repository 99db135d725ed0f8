use Rattle.std.proofs.Common.{rules, ◌≡◌, ◌≢◌, ◌<◌, List, ℕ, length, subst, sym, arith}
use Rattle.std.specs.List.{All, HoldsAt}
use Rattle.std.specs.List.Sorted.{IsPartitionPoint}
use Rattle.std.specs.Cmp.Lexicographic.{slice_cmp}
use Rattle.std.specs.Ordering.{nat_cmp}
use Rattle.std.specs.declared.cmp.Ordering.{Ordering}
use Rattle.std.specs.declared.cmp.Ordering.TheVariants.{Less, Equal, Greater}
use Rattle.std.proofs.lemmas.Fn.{always_returns_same}
use Rattle.cc_meaning.specs.declared.program.Class.{Class}
use Rattle.cc_program_names.proofs.ByName.{rises_by_index, found_is_position, absent_is_position}
use Rattle.cc_program_names.proofs.lookup.class_named.Goals as goal

none_equal : {X : Type 0} (ord : X → Ordering) (xs : List X) (i : ℕ) → IsPartitionPoint (λ y. ord y ≡ Less) (λ y. ord y ≡ Greater) xs i → All (λ y. ord y ≢ Equal) xs
none_equal ord xs i h k d below same = grind (arith, h.0 k d, h.1 k d)

pub returns-in-Ok : goal.returns-in-Ok
returns-in-Ok c =
    let ord : Class → Ordering = λ y. slice_cmp nat_cmp y.name c.args.name.now in
    let equal : HoldsAt (λ y. ord y ≡ Equal) c.args.program.now.classes c.in-Ok.at = rw (← c.as_slice.ensures) (c.in-Ok.ensures.position ord (always_returns_same _ _ _ (λ a r g h. search rules))) in
    let below : c.in-Ok.at < length c.args.program.now.classes = rw (← c.as_slice.ensures) c.in-Ok.ensures.bound in
    sym (found_is_position c.args.program.now.classes c.args.name.now c.in-Ok.at c.requires.rising below equal)

pub returns-in-Err : goal.returns-in-Err
returns-in-Err c =
    let ord : Class → Ordering = λ y. slice_cmp nat_cmp y.name c.args.name.now in
    let place : List Class → Type 0 = λ xs. IsPartitionPoint (λ y. ord y ≡ Less) (λ y. ord y ≡ Greater) xs c.in-Err.field-0 in
    let rises = rises_by_index c.args.program.now.classes c.args.name.now c.requires.rising in
    let parted : place c.as_slice.result.now = c.in-Err.ensures.position ord (always_returns_same _ _ _ (λ a r g h. search rules)) (rw c.as_slice.ensures rises) in
    sym (absent_is_position c.args.program.now.classes c.args.name.now (none_equal ord _ c.in-Err.field-0 (subst place c.as_slice.ensures parted)))
