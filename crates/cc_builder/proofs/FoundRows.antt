-- Rows that are found in tables that are in order and fit.
use Rattle.std.proofs.Common.{ℕ, [], ◌∷◌, Option, Some, None, unwrap_or, refl, arith}
use Rattle.cc_meaning.specs.declared.file.Ids.{Ids}
use Rattle.cc_meaning.specs.declared.listing.RowName.{RowName}
use Rattle.cc_meaning_program.specs.Rows.{FitTables}
use Rattle.cc_meaning_builder.specs.Named.{Means}
use Rattle.cc_meaning_builder.specs.Tables.{AreOrdered}
use Rattle.cc_tables.specs.Rows.{FewRows, FieldsFit, FieldsRise, IsRowOf, MethodsFit, MethodsRise, ProtosRise, TextsRise, TypesRise}
use Rattle.cc_builder.specs.Known.{AreKnown}

-- a name that is known is found
pub found : (ids : Ids) (name : RowName) (result : Option ℕ) → IsRowOf ids name result → AreKnown ids (name ∷ []) → Means ids name (unwrap_or result 0)
found ids name None none known = let is = known.each name (0, omega arith, refl) in absurd (none is.number is.meant)
found ids name (Some number) means known = means

pub texts_rise : (ids : Ids) → FewRows ids → AreOrdered ids → TextsRise ids
texts_rise ids few ordered = record { few = few.texts; rise = ordered.texts }

pub types_rise : (ids : Ids) → FewRows ids → AreOrdered ids → TypesRise ids
types_rise ids few ordered = record { texts = texts_rise ids few ordered; few = few.types; rise = ordered.types }

pub protos_rise : (ids : Ids) → FewRows ids → AreOrdered ids → ProtosRise ids
protos_rise ids few ordered = record { types = types_rise ids few ordered; few = few.protos; rise = ordered.protos }

pub fields_rise : (ids : Ids) → FewRows ids → AreOrdered ids → FieldsRise ids
fields_rise ids few ordered = record { types = types_rise ids few ordered; few = few.fields; rise = ordered.fields }

pub methods_rise : (ids : Ids) → FewRows ids → AreOrdered ids → MethodsRise ids
methods_rise ids few ordered = record { protos = protos_rise ids few ordered; few = few.methods; rise = ordered.methods }

pub fields_fit : (ids : Ids) → FitTables ids → FieldsFit ids
fields_fit ids fit = record { types = fit.types; each = fit.fields }

pub methods_fit : (ids : Ids) → FitTables ids → MethodsFit ids
methods_fit ids fit = record { protos = record { types = fit.types; each = fit.protos }; each = fit.methods }
