use Rattle.std.proofs.Common.{◌≡◌, sym, ap, ◌∙◌}
use Rattle.std.specs.Prelude.{option_map, slice_get}
use Rattle.std.specs.Option.{option_copied}
use Rattle.std.proofs.lemmas.Option.{slice_get-map}
use Rattle.cc_built_in.specs.Listed.{method_of}
use Rattle.cc_members.proofs.ListedTables.{looked_up}
use Rattle.cc_members.proofs.made_built_in.method_listed.Goals as goal

pub returns : goal.returns
returns c =
    let class = c.args.class.now in
    let methods = c.methods_listed.result.now in
    let looked : option_copied c.get.result ≡ slice_get methods c.args.place = looked_up c.get.result methods c.args.place c.get.ensures.lookup.0 c.get.ensures.lookup.1 in
    ap (option_map (method_of class)) looked ∙ sym (slice_get-map (method_of class) methods c.args.place) ∙ ap (λ methods. slice_get methods c.args.place) c.methods_listed.ensures.methods
