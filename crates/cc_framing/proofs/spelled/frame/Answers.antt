use Rattle.std.proofs.Common.{◌≡◌, ◌∙◌, ap}
use Rattle.cc_meaning_nodes.specs.Frames.{frames_of, spelling}
use Rattle.cc_framing.proofs.spelled.frame.Goals as goal

pub returns-clause-read : goal.returns-clause-read
returns-clause-read c =
    let bytes : c.from_vec.result ≡ spelling (record { kind = c.args.kind; payload = c.args.payload.now }) = c.from_vec.ensures ∙ c.in_ok-bytes.ensures in
    ap frames_of bytes ∙ c.is_read_alone.ensures (record { kind = c.args.kind; payload = c.args.payload.now }) (record { low = c.requires.low; high = c.requires.high; short = c.requires.short })
