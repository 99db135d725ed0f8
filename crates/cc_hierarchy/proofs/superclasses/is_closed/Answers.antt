use Rattle.std.proofs.Common.{◌≡◌, true, false, refl, sym, ◌∙◌}
use Rattle.cc_meaning_program.specs.ClassFaults.{interface, array, string, builder}
use Rattle.cc_hierarchy.proofs.superclasses.is_closed.Goals as goal

pub returns-then-is_array : goal.returns-then-is_array
returns-then-is_array c = (λ e. array (sym c.is_array.ensures ∙ c.if-is_array.true), λ t. refl)

pub returns-then-is_string : goal.returns-then-is_string
returns-then-is_string c = (λ e. string (c.is_string.ensures.0 c.if-is_string.true), λ t. refl)

pub returns-then-is_string_builder : goal.returns-then-is_string_builder
returns-then-is_string_builder c = (λ e. builder (c.is_string_builder.ensures.0 c.if-is_string_builder.true), λ t. refl)

pub returns : goal.returns
returns c = (
  λ e. interface (c.names_interface.ensures.0 e),
  λ t. elim t [
    | interface i ↦ c.names_interface.ensures.1 i
    | array a ↦ absurd (let both : false ≡ true = sym c.if-is_array.false ∙ c.is_array.ensures ∙ a in cc)
    | string s ↦ absurd (let both : false ≡ true = sym c.if-is_string.false ∙ c.is_string.ensures.1 s in cc)
    | builder s ↦ absurd (let both : false ≡ true = sym c.if-is_string_builder.false ∙ c.is_string_builder.ensures.1 s in cc)
  ],
)
