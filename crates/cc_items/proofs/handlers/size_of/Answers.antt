use Rattle.std.proofs.Common.{ℕ, Bool, nat_lt, length, ap, ◌∙◌}
use Rattle.cc_meaning_builder.specs.Forms.{sleb_form, typed_count}
use Rattle.cc_items.proofs.Lists.{some_take_all}
use Rattle.cc_items.proofs.handlers.size_of.Goals as goal

pub returns : goal.returns
returns c =
    let catches = c.args.catches.now in
    c.sleb.ensures ∙ ap (sleb_form (nat_lt c.typed_count-typed.result (length catches))) (c.in_ok-size.ensures ∙ c.typed_count-typed.ensures)
    ∙ ap (λ (n : ℕ). sleb_form (nat_lt n (length catches)) (typed_count catches)) c.typed_count-typed.ensures
    ∙ ap (λ (b : Bool). sleb_form b (typed_count catches)) (some_take_all catches)
