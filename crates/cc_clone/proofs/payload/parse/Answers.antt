use Rattle.std.proofs.Common.{rules, ◌≡◌, List, ℕ, [], ◌∷◌, None}
use Rattle.std.specs.Str.{IsUtf8}
use Rattle.cc_meaning_clone.specs.Hello.{BeginsWith}
use Rattle.cc_clone.proofs.Payloads.{none_gives, no_file, no_script, no_end, no_text}
use Rattle.cc_clone.proofs.payload.parse.Goals as goal
use Rattle.cc_clone.proofs.payload.parse.Goals.{then-not-is_empty-via-then-not-is_empty, then-not-is_empty-via-else-not-is_empty+then-is_err}

pub returns-in_err-file : goal.returns-in_err-file
returns-in_err-file c =
    let is : c.args.payload.now ≡ 1 ∷ c.in_ok-version.rest.now = search rules in
    let one : BeginsWith c.in_ok-version.rest.now c.in_ok-main.main.now c.in_ok-main.rest.now = search rules in
    let none : (front rest : List ℕ) → BeginsWith c.in_ok-main.rest.now front rest → ⊥ = search rules in
    let nothing : c.from_residual-in_err-file.result ≡ None = search rules in
    none_gives c.from_residual-in_err-file.result _ _ nothing (no_file c.judged_once.ensures.text c.args.payload.now c.in_ok-version.rest.now is c.in_ok-main.main.now c.in_ok-main.rest.now one none)

pub returns-in_err-script : goal.returns-in_err-script
returns-in_err-script c =
    let is : c.args.payload.now ≡ 1 ∷ c.in_ok-version.rest.now = search rules in
    let one : BeginsWith c.in_ok-version.rest.now c.in_ok-main.main.now c.in_ok-main.rest.now = search rules in
    let two : BeginsWith c.in_ok-main.rest.now c.in_ok-file.file.now c.in_ok-file.rest.now = search rules in
    let none : (front rest : List ℕ) → BeginsWith c.in_ok-file.rest.now front rest → ⊥ = search rules in
    let nothing : c.from_residual-in_err-script.result ≡ None = search rules in
    none_gives c.from_residual-in_err-script.result _ _ nothing (no_script c.judged_once.ensures.text c.args.payload.now c.in_ok-version.rest.now is c.in_ok-main.main.now c.in_ok-main.rest.now one c.in_ok-file.file.now c.in_ok-file.rest.now two none)

pub returns-then-not-is_empty : goal.returns-then-not-is_empty
returns-then-not-is_empty c =
    let is : c.args.payload.now ≡ 1 ∷ c.in_ok-version.rest.now = search rules in
    let one : BeginsWith c.in_ok-version.rest.now c.in_ok-main.main.now c.in_ok-main.rest.now = search rules in
    let two : BeginsWith c.in_ok-main.rest.now c.in_ok-file.file.now c.in_ok-file.rest.now = search rules in
    let three : BeginsWith c.in_ok-file.rest.now c.in_ok-script.script.now c.in_ok-script.rest.now = search rules in
    elim c.then-not-is_empty.branch [
      | then-not-is_empty-via-then-not-is_empty w ↦
          let more : c.in_ok-script.rest.now ≡ [] → ⊥ = search rules in
          no_end c.judged_once.ensures.text c.args.payload.now c.in_ok-version.rest.now is c.in_ok-main.main.now c.in_ok-main.rest.now one c.in_ok-file.file.now c.in_ok-file.rest.now two c.in_ok-script.script.now c.in_ok-script.rest.now three more
      | then-not-is_empty-via-else-not-is_empty+then-is_err w ↦
          let text : IsUtf8 c.in_ok-main.main.now → ⊥ = search rules in
          no_text c.judged_once.ensures.text c.args.payload.now c.in_ok-version.rest.now is c.in_ok-main.main.now c.in_ok-main.rest.now one text
    ]
