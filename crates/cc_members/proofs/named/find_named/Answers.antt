use Rattle.std.proofs.Common.{◌≡◌, ◌<◌, ℕ, List, length, rules}
use Rattle.std.specs.List.{HoldsAt}
use Rattle.std.specs.Cmp.Lexicographic.{slice_cmp}
use Rattle.std.specs.Ordering.{nat_cmp}
use Rattle.std.specs.declared.cmp.Ordering.{Ordering}
use Rattle.std.specs.declared.cmp.Ordering.TheVariants.{Equal}
use Rattle.std.proofs.lemmas.Fn.{always_returns_same}
use Rattle.cc_members.specs.declared.named.Named.{Named}
use Rattle.cc_members.specs.Named.{named_text}
use Rattle.cc_members.proofs.NamedFound.{found_there, found_nowhere}
use Rattle.cc_members.proofs.named.find_named.Goals as goal

pub returns-in-Ok : goal.returns-in-Ok
returns-in-Ok c =
    let text : Named → List ℕ = named_text c.args.names.now.ids.now c.args.names.now.classes.now c.args.names.now.listings.now.members in
    let to_name : Named → Ordering = λ n. slice_cmp nat_cmp (text n) (text c.args.wanted) in
    let equal : HoldsAt (λ n. to_name n ≡ Equal) c.args.among.now c.in-Ok.place = rw (← c.as_slice.ensures) (c.in-Ok.ensures.position to_name (always_returns_same _ _ _ (λ a r g h. search rules))) in
    let within : c.in-Ok.place < length c.args.among.now = rw (← c.as_slice.ensures) c.in-Ok.ensures.bound in
    found_there text c.args.among.now (text c.args.wanted) c.args.wanted c.in-Ok.place within equal

pub returns-in-Err : goal.returns-in-Err
returns-in-Err c =
    let text : Named → List ℕ = named_text c.args.names.now.ids.now c.args.names.now.classes.now c.args.names.now.listings.now.members in
    let to_name : Named → Ordering = λ n. slice_cmp nat_cmp (text n) (text c.args.wanted) in
    let told = rw c.as_slice.ensures at (c.in-Err.ensures.position to_name (always_returns_same _ _ _ (λ a r g h. search rules))) in
    found_nowhere text c.args.among.now (text c.args.wanted) c.args.wanted c.in-Err.field-0 c.requires.rise told
