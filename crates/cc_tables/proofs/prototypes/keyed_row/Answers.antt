use Rattle.std.proofs.Common.{◌≡◌, ◌<◌, length, ◌∷◌, rules}
use Rattle.std.specs.List.{HoldsAt}
use Rattle.std.specs.Cmp.Lexicographic.{slice_cmp}
use Rattle.std.specs.Ordering.{nat_cmp}
use Rattle.std.specs.declared.cmp.Ordering.{Ordering}
use Rattle.std.specs.declared.cmp.Ordering.TheVariants.{Equal}
use Rattle.std.proofs.lemmas.Fn.{always_returns_same}
use Rattle.cc_meaning.specs.declared.file.ProtoRow.{ProtoRow}
use Rattle.cc_meaning_builder.specs.Tables.{prototype_key}
use Rattle.cc_tables.proofs.Searched.{found, not_found}
use Rattle.cc_tables.proofs.prototypes.keyed_row.Goals as goal

pub returns-in-Ok-clause-keyed : goal.returns-in-Ok-clause-keyed
returns-in-Ok-clause-keyed c types after are =
    let to_key : ProtoRow → Ordering = λ x. slice_cmp nat_cmp (prototype_key x) (c.args.gives ∷ types) in
    let equal : HoldsAt (λ x. to_key x ≡ Equal) c.args.ids.now.protos c.in-Ok.place = rw (← c.as_slice.ensures) (c.in-Ok.ensures.position to_key (always_returns_same _ _ _ (λ a r g h. search (rules, are)))) in
    let within : c.in-Ok.place < length c.args.ids.now.protos = rw (← c.as_slice.ensures) c.in-Ok.ensures.bound in
    found prototype_key c.args.ids.now.protos (c.args.gives ∷ types) c.in-Ok.place within equal

pub returns-in-Err-clause-keyed : goal.returns-in-Err-clause-keyed
returns-in-Err-clause-keyed c types after are =
    let to_key : ProtoRow → Ordering = λ x. slice_cmp nat_cmp (prototype_key x) (c.args.gives ∷ types) in
    let told = rw c.as_slice.ensures at (c.in-Err.ensures.position to_key (always_returns_same _ _ _ (λ a r g h. search (rules, are)))) in
    λ number keyed. not_found prototype_key c.args.ids.now.protos (c.args.gives ∷ types) c.in-Err.field-0 c.requires.rise told number keyed.0 keyed.1 keyed.2
