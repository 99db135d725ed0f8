use Rattle.std.proofs.Common.{ℕ, List, rules}
use Rattle.std.specs.Cmp.Lexicographic.{slice_cmp}
use Rattle.std.specs.Ordering.{nat_cmp}
use Rattle.std.specs.declared.cmp.Ordering.{Ordering}
use Rattle.std.proofs.lemmas.Fn.{always_returns_same}
use Rattle.cc_owners.specs.Members.{member_of}
use Rattle.cc_owners.proofs.Indexing.{not_held}
use Rattle.cc_owners.proofs.index.is_defined.Goals as goal

pub returns-in-Err : goal.returns-in-Err
returns-in-Err c =
    let name_of : ℕ → List ℕ = member_of c.args.ids.now c.args.table in
    let to_order : ℕ → Ordering = λ r. slice_cmp nat_cmp (name_of r) (name_of c.args.row) in
    let told = rw c.as_slice.ensures at (c.in-Err.ensures.position to_order (always_returns_same _ _ _ (λ a r g h. search rules))) in
    not_held name_of c.args.rows.now c.requires (name_of c.args.row) c.in-Err.field-0 told
