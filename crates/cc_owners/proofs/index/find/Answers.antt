use Rattle.std.proofs.Common.{◌≡◌, ◌∷◌, ◌<◌, length, rules}
use Rattle.std.specs.List.{HoldsAt}
use Rattle.std.specs.Cmp.Lexicographic.{slice_cmp}
use Rattle.std.specs.Ordering.{nat_cmp}
use Rattle.std.specs.declared.cmp.Ordering.{Ordering}
use Rattle.std.specs.declared.cmp.Ordering.TheVariants.{Equal}
use Rattle.std.proofs.lemmas.Fn.{always_returns_same}
use Rattle.cc_owners.specs.declared.index.Entry.{Entry}
use Rattle.cc_owners.specs.Index.{entry_name}
use Rattle.cc_owners.specs.Members.{member_of}
use Rattle.cc_owners.proofs.Indexing.{found_place, nothing_found}
use Rattle.cc_owners.proofs.index.find.Goals as goal

pub returns-in-Ok : goal.returns-in-Ok
returns-in-Ok c = λ classes sound are.
    let to_order : Entry → Ordering = λ e. slice_cmp nat_cmp (entry_name c.args.ids.now c.args.table e) (c.args.definition ∷ member_of c.args.ids.now c.args.table c.args.row) in
    let equal : HoldsAt (λ e. to_order e ≡ Equal) c.args.entries.now c.in-Ok.at = rw (← c.as_slice-entries.ensures) (c.in-Ok.ensures.position to_order (always_returns_same _ _ _ (λ a r g h. search rules))) in
    let within : c.in-Ok.at < length c.args.entries.now = rw (← c.as_slice-entries.ensures) c.in-Ok.ensures.bound in
    rw c.as_slice-entries.ensures (found_place c.args.ids.now classes c.args.table c.args.entries.now sound are c.args.definition c.args.row c.in-Ok.at (record { definition = 0; place = 0; row = 0 }) within equal)

pub returns-in-Err : goal.returns-in-Err
returns-in-Err c = λ classes sound are.
    let to_order : Entry → Ordering = λ e. slice_cmp nat_cmp (entry_name c.args.ids.now c.args.table e) (c.args.definition ∷ member_of c.args.ids.now c.args.table c.args.row) in
    let told = rw c.as_slice-entries.ensures at (c.in-Err.ensures.position to_order (always_returns_same _ _ _ (λ a r g h. search rules))) in
    nothing_found c.args.ids.now classes c.args.table c.args.entries.now sound are c.args.definition c.args.row c.in-Err.field-0 told
