use Rattle.std.proofs.Common.{sym, ap, ◌∙◌, subst, ℕ, List, length, ◌≤◌, take}
use Rattle.cc_framing.proofs.Parts.{prelude_is}
use Rattle.cc_framing.proofs.held.Held.prelude.Goals as goal

pub returns : goal.returns
returns c =
    let parts = c.self.inside in
    let many = subst (λ (x : List ℕ). 25 ≤ length x) (sym c.self.view_is) c.requires in
    c.as_slice.ensures.value ∙ sym (prelude_is parts.prelude.items parts.payload.items c.self.invariant.1 c.self.invariant.0 many) ∙ ap (take 25) c.self.view_is
