use Rattle.std.proofs.Common.{◌≡◌, true, false, inl, inr, refl, sym, ◌∙◌}
use Rattle.std.proofs.lemmas.Result.{IfOk-weaker}
use Rattle.cc_hierarchy.specs.Judging.{IsTakenName}
use Rattle.cc_hierarchy.proofs.duplicates.is_duplicate.Goals as goal

pub returns-then-is_taken_name : goal.returns-then-is_taken_name
returns-then-is_taken_name c = (λ e. inl (c.is_taken_name.ensures.0 c.if-is_taken_name.true), λ t. refl)

pub returns : goal.returns
returns c =
    let free : ¬ IsTakenName c.args.ids.now c.args.number = λ taken. (let both : false ≡ true = sym c.if-is_taken_name.false ∙ c.is_taken_name.ensures.1 taken in cc) in
    IfOk-weaker c.repeats_member.result _ _ (λ found h. (λ e. inr (h.0 e), λ t. elim t [ inl a ↦ absurd (free a) | inr b ↦ h.1 b ])) c.repeats_member.ensures
