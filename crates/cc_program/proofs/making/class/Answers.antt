use Rattle.std.proofs.Common.{◌<◌, ℕ, List, length, subst, sym}
use Rattle.std.specs.Prelude.{Contains}
use Rattle.cc_meaning.specs.declared.program.StaticValue.{StaticValue}
use Rattle.cc_meaning.specs.declared.program.StaticValue.TheVariants.{Text}
use Rattle.cc_program.proofs.making.class.Goals as goal

pub values-requires : goal.values-requires
values-requires c = λ row held.
    subst (λ (xs : List ℕ). row < length xs) (sym c.as_slice-3.ensures) (c.requires.texts row (subst (λ (xs : List StaticValue). Contains xs (Text row)) c.values_at.ensures held))
