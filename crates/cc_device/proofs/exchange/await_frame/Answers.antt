use Rattle.std.proofs.Common.{◌∙◌, ◌++◌, sym, ap, List, ℕ}
use Rattle.std.proofs.lemmas.Result.{err_from_is_err_and}
use Rattle.cc_link.specs.Links.{known_got}
use Rattle.cc_device.specs.Exchanging.{held_of}
use Rattle.cc_device.proofs.Exchanges.{fails_by, got_next}
use Rattle.cc_device.proofs.exchange.await_frame.Goals as goal

pub returns-in_err-frame-in-Bytes-clause-awaits : goal.returns-in_err-frame-in-Bytes-clause-awaits
returns-in_err-frame-in-Bytes-clause-awaits g c =
    let held = held_of c.awaiting.reader in
    let piece = c.as_slice.result.now in
    let known = g.L.Link.known in
    let r = err_from_is_err_and c.from_residual.result c.from_residual.ensures.1 in
    let now = got_next held piece (known c.args.link.now) (known c.awaiting.link) (known c.receive.new.self) c.awaiting.invariant.got (c.in-Bytes.ensures.gets.0 ∙ ap (λ (xs : List ℕ). known_got xs (known c.awaiting.link)) (sym c.as_slice.ensures)) in
    record {
      bytes = held ++ piece;
      known = now;
      awaited = rw (r.1, r.2) (fails_by (held ++ piece) c.args.patience c.in_err-frame-in-Bytes.field-0.0 c.take_in.new.reader (g.L.Link.counts c.args.link.now) (g.L.Link.counts c.receive.new.self) c.in_err-frame-in-Bytes.ensures);
    }

pub returns-in-Some-clause-awaits : goal.returns-in-Some-clause-awaits
returns-in-Some-clause-awaits g c =
    let held = held_of c.awaiting.reader in
    let piece = c.as_slice.result.now in
    let known = g.L.Link.known in
    let now = got_next held piece (known c.args.link.now) (known c.awaiting.link) (known c.receive.new.self) c.awaiting.invariant.got (c.in-Bytes.ensures.gets.0 ∙ ap (λ (xs : List ℕ). known_got xs (known c.awaiting.link)) (sym c.as_slice.ensures)) in
    record { bytes = held ++ piece; known = now; awaited = rw c.in-Some.is at c.in_ok-frame-in-Bytes.ensures }
