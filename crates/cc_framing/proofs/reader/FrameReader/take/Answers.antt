use Rattle.std.proofs.Common.{◌≡◌, ◌∙◌, sym, rules, length, false}
use Rattle.std.specs.Prelude.{is_some}
use Rattle.cc_meaning_nodes.specs.Frames.{front_of, frame_of, Whole}
use Rattle.cc_meaning_nodes.proofs.Fronts.{whole_bytes}
use Rattle.cc_framing.proofs.Taking.{open_is, held_is, taken_is, stood_is}
use Rattle.cc_framing.proofs.reader.FrameReader.take.Goals as goal

pub take_payload-requires : goal.take_payload-requires
take_payload-requires c =
    let x = c.self.inside.held in
    let whole : front_of x ≡ Whole (frame_of x) (length x) = search rules in
    (whole_bytes x (frame_of x) whole).long

pub returns-clause-taken : goal.returns-clause-taken
returns-clause-taken c =
    let x = c.self.inside.held in
    let whole : front_of x ≡ Whole (frame_of x) (length x) = search rules in
    let none : is_some c.self.inside.fault ≡ false = sym c.is_some.ensures ∙ c.if-is_some.false in
    let is = open_is c.self.inside.fault x c.args.self.now none c.self.view_is in
    taken_is x c.args.self.now c.byte-kind.result c.from_vec-payload.result is whole c.byte-kind.ensures (c.from_vec-payload.ensures ∙ c.take_payload.ensures.payload)

pub returns-clause-stood : goal.returns-clause-stood
returns-clause-stood c held e =
    let x = c.self.inside.held in
    let whole : front_of x ≡ Whole (frame_of x) (length x) = search rules in
    let none : is_some c.self.inside.fault ≡ false = sym c.is_some.ensures ∙ c.if-is_some.false in
    let is = open_is c.self.inside.fault x c.args.self.now none c.self.view_is in
    stood_is x held c.byte-kind.result c.from_vec-payload.result (held_is x held c.args.self.now is e) whole c.byte-kind.ensures (c.from_vec-payload.ensures ∙ c.take_payload.ensures.payload)
