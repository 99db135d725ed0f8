use Rattle.std.proofs.Common.{◌≡◌, ◌<◌, ℕ, List, length, rules}
use Rattle.std.specs.List.{HoldsAt}
use Rattle.std.specs.Cmp.Lexicographic.{slice_cmp}
use Rattle.std.specs.Ordering.{nat_cmp}
use Rattle.std.specs.declared.cmp.Ordering.{Ordering}
use Rattle.std.specs.declared.cmp.Ordering.TheVariants.{Equal}
use Rattle.std.proofs.lemmas.Fn.{always_returns_same}
use Rattle.cc_names.proofs.Found.{found_there, found_nowhere}
use Rattle.cc_names.proofs.place.find.Goals as goal

pub returns-in-Ok : goal.returns-in-Ok
returns-in-Ok c =
    let to_name : List ℕ → Ordering = λ n. slice_cmp nat_cmp n c.args.name.now in
    let equal : HoldsAt (λ n. to_name n ≡ Equal) c.args.names.now c.in-Ok.place = rw (← c.as_slice.ensures) (c.in-Ok.ensures.position to_name (always_returns_same _ _ _ (λ a r g h. search rules))) in
    let within : c.in-Ok.place < length c.args.names.now = rw (← c.as_slice.ensures) c.in-Ok.ensures.bound in
    found_there c.args.names.now c.args.name.now c.in-Ok.place within equal

pub returns-in-Err : goal.returns-in-Err
returns-in-Err c =
    let to_name : List ℕ → Ordering = λ n. slice_cmp nat_cmp n c.args.name.now in
    let told = rw c.as_slice.ensures at (c.in-Err.ensures.position to_name (always_returns_same _ _ _ (λ a r g h. search rules))) in
    found_nowhere c.args.names.now c.args.name.now c.in-Err.field-0 c.requires.rise told
