-- The names within their classes of the members that built-in classes and arrays list, and of `System.out`.
use Rattle.std.specs.Prelude.{◌≡◌, ℕ, List, [], ◌∷◌, ◌++◌, map, Option, Some, None, slice_get, unwrap_or}
use Rattle.cc_built_in.specs.BuiltInMethods.{BuiltInMethods, built_in_tables, array_methods, built_in_member}
use Rattle.cc_meaning.specs.BuiltIn.{system_name}
use Rattle.cc_meaning_program.specs.Members.{out_member}
use Rattle.cc_members.specs.declared.planned_built_in.Listings.{Listings}

-- those that each built-in class lists, in the order of the classes, those of arrays, and the field
unfoldable pub listed_members : List (List (List ℕ))
listed_members = map (λ (table : BuiltInMethods). map built_in_member table.methods) built_in_tables ++ map built_in_member (array_methods []) ∷ (out_member ∷ []) ∷ []

pub record AreListings (listings : Listings) : Type 0 where
  pub classes : listings.classes ≡ map (λ (table : BuiltInMethods). table.class) built_in_tables
  pub members : listings.members ≡ listed_members
  pub system : listings.system ≡ system_name

-- the members at a place
unfoldable pub listed_at : List (List (List ℕ)) → Option ℕ → List (List ℕ)
listed_at members None = []
listed_at members (Some table) = unwrap_or (slice_get members table) []

-- one of them
unfoldable pub listed_text : List (List (List ℕ)) → ℕ → ℕ → List ℕ
listed_text members table place = unwrap_or (slice_get (listed_at members (Some table)) place) []
