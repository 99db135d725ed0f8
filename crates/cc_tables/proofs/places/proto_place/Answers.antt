use Rattle.std.proofs.Common.{◌≡◌, ◌<◌, ℕ, List, length, sym, ◌∙◌, rules}
use Rattle.std.specs.List.{HoldsAt}
use Rattle.std.specs.Cmp.Lexicographic.{slice_cmp}
use Rattle.std.specs.Ordering.{nat_cmp}
use Rattle.std.specs.declared.cmp.Ordering.{Ordering}
use Rattle.std.specs.declared.cmp.Ordering.TheVariants.{Equal}
use Rattle.std.proofs.lemmas.Fn.{always_returns_same}
use Rattle.cc_meaning.specs.declared.file.ProtoRow.{ProtoRow}
use Rattle.cc_meaning_builder.specs.Tables.{prototype_key}
use Rattle.cc_tables.proofs.Placing.{found, not_found}
use Rattle.cc_tables.proofs.places.proto_place.Goals as goal

pub returns-in-Ok : goal.returns-in-Ok
returns-in-Ok c =
    let items = c.args.ids.now.protos in
    let wanted : List ℕ = prototype_key c.args.prototype.now in
    let order : ProtoRow → Ordering = λ n. slice_cmp nat_cmp (prototype_key n) wanted in
    let equal : HoldsAt (λ n. order n ≡ Equal) items c.in-Ok.place = rw (← c.as_slice.ensures) (c.in-Ok.ensures.position order (always_returns_same _ _ _ (λ a r g h. search rules))) in
    let within : c.in-Ok.place < length items = rw (← c.as_slice.ensures) c.in-Ok.ensures.bound in
    sym (found prototype_key items c.requires.rise wanted c.args.prototype.now c.in-Ok.place within equal)

pub returns-in-Err : goal.returns-in-Err
returns-in-Err c =
    let items = c.args.ids.now.protos in
    let wanted : List ℕ = prototype_key c.args.prototype.now in
    let order : ProtoRow → Ordering = λ n. slice_cmp nat_cmp (prototype_key n) wanted in
    let told = rw c.as_slice.ensures at (c.in-Err.ensures.position order (always_returns_same _ _ _ (λ a r g h. search rules))) in
    c.len.ensures.value ∙ sym (not_found prototype_key items c.requires.rise wanted c.args.prototype.now c.in-Err.field-0 told)
