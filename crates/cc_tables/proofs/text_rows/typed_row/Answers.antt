use Rattle.std.proofs.Common.{◌≡◌, ◌<◌, ℕ, length, refl, rules}
use Rattle.std.specs.List.{HoldsAt}
use Rattle.std.specs.Cmp.Lexicographic.{slice_cmp}
use Rattle.std.specs.Ordering.{nat_cmp}
use Rattle.std.specs.declared.cmp.Ordering.{Ordering}
use Rattle.std.specs.declared.cmp.Ordering.TheVariants.{Equal}
use Rattle.std.proofs.lemmas.Fn.{always_returns_same}
use Rattle.cc_tables.proofs.Searched.{found_one, not_found}
use Rattle.cc_tables.proofs.Typed.{alone, alone_rise, alone_same}
use Rattle.cc_tables.proofs.text_rows.typed_row.Goals as goal

pub returns-in-Ok : goal.returns-in-Ok
returns-in-Ok c =
    let to_text : ℕ → Ordering = λ n. slice_cmp nat_cmp (alone n) (alone c.args.text) in
    let equal : HoldsAt (λ n. to_text n ≡ Equal) c.args.ids.now.types c.in-Ok.place = rw (← c.as_slice.ensures) (c.in-Ok.ensures.position to_text (always_returns_same _ _ _ (λ a r g h. search rules))) in
    let within : c.in-Ok.place < length c.args.ids.now.types = rw (← c.as_slice.ensures) c.in-Ok.ensures.bound in
    found_one alone c.args.ids.now.types c.args.text alone_same c.in-Ok.place within equal

pub returns-in-Err : goal.returns-in-Err
returns-in-Err c =
    let to_text : ℕ → Ordering = λ n. slice_cmp nat_cmp (alone n) (alone c.args.text) in
    let told = rw c.as_slice.ensures at (c.in-Err.ensures.position to_text (always_returns_same _ _ _ (λ a r g h. search rules))) in
    λ number there. not_found alone c.args.ids.now.types (alone c.args.text) c.in-Err.field-0 (alone_rise c.args.ids.now.types c.requires.rise) told number c.args.text there refl
