use Rattle.std.proofs.Common.{◌≡◌, ◌+◌, ◌<◌, ◌≤◌, ◌∙◌, sym, ap, subst, ℕ, List, length, false}
use Rattle.std.specs.Prelude.{is_some}
use Rattle.cc_framing.specs.Reader.{wanted_in}
use Rattle.cc_framing.proofs.Wanted.{partial_wants, wanted_short}
use Rattle.cc_framing.proofs.Taking.{open_is, open_within, held_is, wanted_whole}
use Rattle.cc_framing.proofs.reader.FrameReader.wanted.Goals as goal

pub returns-clause-whole : goal.returns-clause-whole
returns-clause-whole c some =
    let x = c.self.inside.held in
    let none : is_some c.self.inside.fault ≡ false = sym c.is_some.ensures ∙ c.if-is_some.false in
    let is = open_is c.self.inside.fault x c.args.self.now none c.self.view_is in
    c.wanted.ensures ∙ wanted_whole x c.args.self.now is (open_within c.self.inside.fault x none c.self.invariant) some

pub returns-clause-part : goal.returns-clause-part
returns-clause-part c held e p =
    let x = c.self.inside.held in
    let none : is_some c.self.inside.fault ≡ false = sym c.is_some.ensures ∙ c.if-is_some.false in
    let same = held_is x held c.args.self.now (open_is c.self.inside.fault x c.args.self.now none c.self.view_is) e in
    subst (λ (k : ℕ). 0 < k) (sym (c.wanted.ensures ∙ ap wanted_in same)) (partial_wants held p)

pub returns-clause-fits : goal.returns-clause-fits
returns-clause-fits c held e =
    let x = c.self.inside.held in
    let none : is_some c.self.inside.fault ≡ false = sym c.is_some.ensures ∙ c.if-is_some.false in
    let same = held_is x held c.args.self.now (open_is c.self.inside.fault x c.args.self.now none c.self.view_is) e in
    let fits = wanted_short x (open_within c.self.inside.fault x none c.self.invariant) in
    let here : length x + c.wanted.result ≤ 67108889 = subst (λ (k : ℕ). length x + k ≤ 67108889) (sym c.wanted.ensures) fits in
    subst (λ (y : List ℕ). length y + c.wanted.result ≤ 67108889) same here
