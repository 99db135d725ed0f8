use Rattle.std.proofs.Common.{sym, ap, ◌∙◌, subst, ℕ, List, length, ◌≤◌, drop}
use Rattle.cc_framing.proofs.Parts.{payload_is}
use Rattle.cc_framing.proofs.held.Held.payload.Goals as goal

pub returns : goal.returns
returns c =
    let parts = c.self.inside in
    let many = subst (λ (x : List ℕ). 25 ≤ length x) (sym c.self.view_is) c.requires in
    c.as_slice.ensures.value ∙ sym (payload_is parts.prelude.items parts.payload.items c.self.invariant.1 c.self.invariant.0 many) ∙ ap (drop 25) c.self.view_is
