-- The registers of parameters.
use Rattle.std.proofs.Common.{◌≡◌, ℕ, List, [], Option, Some, None, unwrap_or, refl}
use Rattle.std.specs.Prelude.{if◌then◌else◌}
use Rattle.cc_meaning.specs.declared.file.Ids.{Ids}
use Rattle.cc_meaning_dex.specs.CodeItems.{is_wide, type_width, width_of}
use Rattle.cc_meaning_dex.specs.Rows.{descriptor_of}
use Rattle.cc_meaning_program.specs.Named.{type_name}

-- a parameter takes as many registers as its type's name says
pub width_by_name : (ids : Ids) (row : ℕ) → type_width ids row ≡ (if is_wide (type_name ids row) then 2 else 1)
unfolding type_name
width_by_name ids row = by (descriptor_of ids row)
  where
    by : (name : Option (List ℕ)) → width_of name ≡ (if is_wide (unwrap_or name []) then 2 else 1)
    by None = refl
    by (Some units) = refl
