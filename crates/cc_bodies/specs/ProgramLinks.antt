-- Links into a program.
use Rattle.std.specs.Prelude.{ℕ, List}
use Rattle.cc_meaning.specs.declared.file.Ids.{Ids}
use Rattle.cc_meaning.specs.declared.file.RawClass.{RawClass}
use Rattle.cc_meaning.specs.declared.program.Program.{Program}
use Rattle.cc_meaning.specs.Order.{IsRising}
use Rattle.cc_meaning_program.specs.Links.{AreLinks, HasNames}
use Rattle.cc_meaning_program.specs.declared.links.Links.{Links}
use Rattle.cc_meaning_program.specs.declared.uses.MethodUse.{MethodUse}

-- links by the names of a program, each list of which rises
pub record LinkInto (ids : Ids) (classes : List RawClass) (program : Program) (links : Links) : Type 0 where
  pub names : List (List ℕ)
  pub texts : List (List ℕ)
  pub methods : List (List ℕ)
  pub fields : List (List ℕ)
  pub method_uses : List MethodUse
  pub field_uses : List ℕ
  pub are : AreLinks ids classes names texts methods fields method_uses field_uses links
  pub named : HasNames program names texts methods fields
  pub names_rise : IsRising names
  pub texts_rise : IsRising texts
  pub methods_rise : IsRising methods
  pub fields_rise : IsRising fields
