use Rattle.std.proofs.Common.{◌≡◌, ℕ, List, Option, Some, None, sym, ◌∙◌, subst, refl}
use Rattle.std.specs.Prelude.{MatchOption}
use Rattle.std.specs.Option.{option_copied}
use Rattle.cc_meaning_program.specs.Named.{type_name}
use Rattle.cc_program.specs.Mains.{IsMainAt, IsMainOf, IsWanted}
use Rattle.cc_program.proofs.Mains.{main_there, none_there}
use Rattle.cc_program.proofs.main_class.main_of_definition.Goals as goal

pub returns-then-is_wanted : goal.returns-then-is_wanted
returns-then-is_wanted c = from c.main_of.result c.main_of.ensures
  where
    from : (r : Option ℕ) → MatchOption r ((place : ℕ) → ¬ IsMainAt c.args.ids.now c.in_ok-class.class.now place) (IsMainAt c.args.ids.now c.in_ok-class.class.now) →
        MatchOption r ((place : ℕ) → ¬ IsMainOf c.args.ids.now c.args.classes.now (option_copied c.args.asked) c.args.number place) (IsMainOf c.args.ids.now c.args.classes.now (option_copied c.args.asked) c.args.number)
    from None none = none_there c.args.ids.now c.args.classes.now (option_copied c.args.asked) c.args.number c.in_ok-class.class.now (sym c.in_ok-class.ensures.value) none
    from (Some place) has =
        main_there c.args.ids.now c.args.classes.now (option_copied c.args.asked) c.args.number c.in_ok-stated.stated.now c.in_ok-class.class.now (sym c.in_ok-stated.ensures.value) (sym c.in_ok-class.ensures.value)
        (subst (λ (name : List ℕ). IsWanted (option_copied c.args.asked) name) c.type_name.ensures (c.if-is_wanted.ensures.0 refl)) place has
