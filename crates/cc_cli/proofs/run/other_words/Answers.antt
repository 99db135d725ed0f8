use Rattle.std.proofs.Common.{◌≡◌, string_bytes, map, refl}
use Rattle.cc_cli.specs.Offloading.{tells_of}
use Rattle.cc_cli.specs.Runs.{Outside}
use Rattle.cc_cli.proofs.Statuses.{statuses, no_plan, transparent}
use Rattle.cc_cli.proofs.run.other_words.Goals as goal

pub returns-in-Some-clause-statuses : goal.returns-in-Some-clause-statuses
returns-in-Some-clause-statuses g c =
    let old : Outside = record { known = g.S.Shelf.known c.args.shelf.now; counts = g.S.Shelf.counts c.args.shelf.now; link = g.L.Link.known c.args.link.now; calls = g.L.Link.counts c.args.link.now; out = g.O.Sink.pipe c.args.out.now; notes = g.N.Sink.pipe c.args.notes.now } in
    let new : Outside = record { known = g.S.Shelf.known c.plan.new.shelf; counts = g.S.Shelf.counts c.plan.new.shelf; link = g.L.Link.known c.plan.new.link; calls = g.L.Link.counts c.plan.new.link; out = g.O.Sink.pipe c.carry_out.new.out; notes = g.N.Sink.pipe c.carry_out.new.notes } in
    let t = tells_of g.L.Link.known g.L.Link.honest g.L.Link.prompt g.L.Link.going g.L.Link.last c.args.link.now c.plan.new.link in
    statuses c.law_plain_once.ensures (map string_bytes c.args.words.now) old new c.carry_out.result t (c.carry_out.new.out ≡ c.args.out.now) (c.in-Some.plan, c.in-Some.ensures.plan, c.carry_out.ensures.ends, c.carry_out.ensures.alone)

pub returns-in-None-clause-runs : goal.returns-in-None-clause-runs
returns-in-None-clause-runs g c =
    let old : Outside = record { known = g.S.Shelf.known c.args.shelf.now; counts = g.S.Shelf.counts c.args.shelf.now; link = g.L.Link.known c.args.link.now; calls = g.L.Link.counts c.args.link.now; out = g.O.Sink.pipe c.args.out.now; notes = g.N.Sink.pipe c.args.notes.now } in
    let new : Outside = record { known = g.S.Shelf.known c.plan.new.shelf; counts = g.S.Shelf.counts c.plan.new.shelf; link = g.L.Link.known c.plan.new.link; calls = g.L.Link.counts c.plan.new.link; out = g.O.Sink.pipe c.args.out.now; notes = g.N.Sink.pipe c.args.notes.now } in
    let t = tells_of g.L.Link.known g.L.Link.honest g.L.Link.prompt g.L.Link.going g.L.Link.last c.args.link.now c.plan.new.link in
    no_plan (map string_bytes c.args.words.now) old new t (c.args.out.now ≡ c.args.out.now) refl refl refl

pub returns-in-None-clause-statuses : goal.returns-in-None-clause-statuses
returns-in-None-clause-statuses g c =
    let old : Outside = record { known = g.S.Shelf.known c.args.shelf.now; counts = g.S.Shelf.counts c.args.shelf.now; link = g.L.Link.known c.args.link.now; calls = g.L.Link.counts c.args.link.now; out = g.O.Sink.pipe c.args.out.now; notes = g.N.Sink.pipe c.args.notes.now } in
    let new : Outside = record { known = g.S.Shelf.known c.plan.new.shelf; counts = g.S.Shelf.counts c.plan.new.shelf; link = g.L.Link.known c.plan.new.link; calls = g.L.Link.counts c.plan.new.link; out = g.O.Sink.pipe c.args.out.now; notes = g.N.Sink.pipe c.args.notes.now } in
    let t = tells_of g.L.Link.known g.L.Link.honest g.L.Link.prompt g.L.Link.going g.L.Link.last c.args.link.now c.plan.new.link in
    statuses c.law_plain_once.ensures (map string_bytes c.args.words.now) old new 70 t (c.args.out.now ≡ c.args.out.now) (no_plan (map string_bytes c.args.words.now) old new t (c.args.out.now ≡ c.args.out.now) refl refl refl)

pub returns-in-Some-clause-transparent : goal.returns-in-Some-clause-transparent
returns-in-Some-clause-transparent g c names e honest fresh =
    let old : Outside = record { known = g.S.Shelf.known c.args.shelf.now; counts = g.S.Shelf.counts c.args.shelf.now; link = g.L.Link.known c.args.link.now; calls = g.L.Link.counts c.args.link.now; out = g.O.Sink.pipe c.args.out.now; notes = g.N.Sink.pipe c.args.notes.now } in
    let new : Outside = record { known = g.S.Shelf.known c.plan.new.shelf; counts = g.S.Shelf.counts c.plan.new.shelf; link = g.L.Link.known c.plan.new.link; calls = g.L.Link.counts c.plan.new.link; out = g.O.Sink.pipe c.carry_out.new.out; notes = g.N.Sink.pipe c.carry_out.new.notes } in
    let t = tells_of g.L.Link.known g.L.Link.honest g.L.Link.prompt g.L.Link.going g.L.Link.last c.args.link.now c.plan.new.link in
    transparent c.law_plain_once.ensures (map string_bytes c.args.words.now) old new c.carry_out.result t (c.carry_out.new.out ≡ c.args.out.now) (c.in-Some.plan, c.in-Some.ensures.plan, c.carry_out.ensures.ends, c.carry_out.ensures.alone) names e (honest, fresh)

pub returns-in-None-clause-transparent : goal.returns-in-None-clause-transparent
returns-in-None-clause-transparent g c names e honest fresh =
    let old : Outside = record { known = g.S.Shelf.known c.args.shelf.now; counts = g.S.Shelf.counts c.args.shelf.now; link = g.L.Link.known c.args.link.now; calls = g.L.Link.counts c.args.link.now; out = g.O.Sink.pipe c.args.out.now; notes = g.N.Sink.pipe c.args.notes.now } in
    let new : Outside = record { known = g.S.Shelf.known c.plan.new.shelf; counts = g.S.Shelf.counts c.plan.new.shelf; link = g.L.Link.known c.plan.new.link; calls = g.L.Link.counts c.plan.new.link; out = g.O.Sink.pipe c.args.out.now; notes = g.N.Sink.pipe c.args.notes.now } in
    let t = tells_of g.L.Link.known g.L.Link.honest g.L.Link.prompt g.L.Link.going g.L.Link.last c.args.link.now c.plan.new.link in
    transparent c.law_plain_once.ensures (map string_bytes c.args.words.now) old new 70 t (c.args.out.now ≡ c.args.out.now) (no_plan (map string_bytes c.args.words.now) old new t (c.args.out.now ≡ c.args.out.now) refl refl refl) names e (honest, fresh)
