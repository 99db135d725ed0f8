use Rattle.std.proofs.Common.{◌≡◌, ℕ, List, subst, string_bytes, rules}
use Rattle.std.specs.Prelude.{true, if◌then◌else◌}
use Rattle.std.specs.Str.{bytes_eq}
use Rattle.std.specs.HashSet.{contains_text}
use Rattle.std.proofs.lemmas.Map.Text.{hash_set_updates_text}
use Rattle.cc_script.proofs.repeats.add.Goals as goal

pub returns-clause-grown : goal.returns-clause-grown
returns-clause-grown c = λ other.
    let same : string_bytes c.in_ok-key.key ≡ c.args.text.now = search rules in
    subst (λ (bs : List ℕ). contains_text c.insert.new.self other ≡ (if bytes_eq bs other then true else contains_text c.args.seen.now other)) same
    (hash_set_updates_text (string_bytes c.in_ok-key.key) c.args.seen.now c.insert.new.self true c.in_ok-insert.ensures.updates other)
