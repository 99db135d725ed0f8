use Rattle.std.proofs.Common.{sym, ap, ◌∙◌, subst, ℕ, List, length, ◌≤◌, drop}
use Rattle.cc_framing.proofs.Parts.{payload_is}
use Rattle.cc_framing.proofs.held.Held.take_payload.Goals as goal

pub returns-clause-payload : goal.returns-clause-payload
returns-clause-payload c =
    let parts = c.self.inside in
    let many = subst (λ (x : List ℕ). 25 ≤ length x) (sym c.self.view_is) c.requires in
    ap (λ v. v.items) c.replace.ensures.value ∙ sym (payload_is parts.prelude.items parts.payload.items c.self.invariant.1 c.self.invariant.0 many) ∙ ap (drop 25) c.self.view_is
