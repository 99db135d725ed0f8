use Rattle.std.proofs.Common.{◌≡◌, [], ◌∷◌, ◌++◌, rules, string_bytes}
use Rattle.std.specs.Fmt.{signed_decimal}
use Rattle.cc_machine.proofs.Steps.{push_line}
use Rattle.cc_machine.proofs.progress.put_line.Goals as goal

pub returns : goal.returns
returns c =
    let digits : string_bytes c.in_ok-digits.digits ≡ signed_decimal c.args.number = search rules in
    let more : c.extend_from_slice.new.self.items ≡ c.args.text.now.items ++ signed_decimal c.args.number = search rules in
    let end : c.push.new.self.items ≡ c.extend_from_slice.new.self.items ++ 10 ∷ [] = search rules in
    push_line c.args.text.now.items c.extend_from_slice.new.self.items c.push.new.self.items c.args.number more end
