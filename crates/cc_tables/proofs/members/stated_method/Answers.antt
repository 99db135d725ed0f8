use Rattle.std.proofs.Common.{◌≡◌, ◌<◌, length, refl, rules}
use Rattle.std.specs.List.{HoldsAt}
use Rattle.std.specs.Cmp.Lexicographic.{slice_cmp}
use Rattle.std.specs.Ordering.{nat_cmp}
use Rattle.std.specs.declared.cmp.Ordering.{Ordering}
use Rattle.std.specs.declared.cmp.Ordering.TheVariants.{Equal}
use Rattle.std.proofs.lemmas.Fn.{always_returns_same}
use Rattle.cc_meaning.specs.declared.file.MethodRow.{MethodRow}
use Rattle.cc_meaning_builder.specs.Tables.{method_key}
use Rattle.cc_tables.proofs.MemberRows.{method_of_key}
use Rattle.cc_tables.proofs.Searched.{found_one, not_found}
use Rattle.cc_tables.proofs.members.stated_method.Goals as goal

pub returns-in-Ok : goal.returns-in-Ok
returns-in-Ok c =
    let to_key : MethodRow → Ordering = λ x. slice_cmp nat_cmp (method_key x) (method_key c.args.wanted) in
    let equal : HoldsAt (λ x. to_key x ≡ Equal) c.args.ids.now.methods c.in-Ok.place = rw (← c.as_slice.ensures) (c.in-Ok.ensures.position to_key (always_returns_same _ _ _ (λ a r g h. search rules))) in
    let within : c.in-Ok.place < length c.args.ids.now.methods = rw (← c.as_slice.ensures) c.in-Ok.ensures.bound in
    found_one method_key c.args.ids.now.methods c.args.wanted method_of_key c.in-Ok.place within equal

pub returns-in-Err : goal.returns-in-Err
returns-in-Err c =
    let to_key : MethodRow → Ordering = λ x. slice_cmp nat_cmp (method_key x) (method_key c.args.wanted) in
    let told = rw c.as_slice.ensures at (c.in-Err.ensures.position to_key (always_returns_same _ _ _ (λ a r g h. search rules))) in
    λ number there. not_found method_key c.args.ids.now.methods (method_key c.args.wanted) c.in-Err.field-0 c.requires.rise told number c.args.wanted there refl
