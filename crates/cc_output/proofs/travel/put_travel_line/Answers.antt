use Rattle.std.specs.Prelude.{codes}
use Rattle.std.specs.Fmt.{decimal}
use Rattle.cc_output.specs.Travel.{fallback_words}
use Rattle.cc_output.proofs.Putting.{in_pieces}
use Rattle.cc_output.proofs.travel.put_travel_line.Goals as goal

pub returns : goal.returns
returns c =
    in_pieces c.args.text.now.items (codes "link migrated ") (decimal c.args.travel.migrations) (codes ", fallback ") (fallback_words c.args.travel.fallback)
    c.put_number.new.line.items c.extend_from_slice.new.self.items c.put_fallback.new.line.items c.push.new.self.items
    c.in_ok-put_number.ensures c.in_ok-extend_from_slice.ensures.items c.in_ok-put_fallback.ensures c.in_ok-push.ensures.items
