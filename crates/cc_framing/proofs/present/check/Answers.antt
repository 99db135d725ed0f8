use Rattle.std.proofs.Common.{◌≡◌, ◌≤◌, ◌∙◌, sym, ap, ◌++◌, length, take, drop, List, ℕ, arith}
use Rattle.std.proofs.lemmas.List.{length-take, length-drop, take-take, drop-take}
use Rattle.sha1.specs.Sha1.{sha1}
use Rattle.cc_meaning_nodes.proofs.Fronts.{front-right, front-wrong}
use Rattle.cc_framing.proofs.present.check.Goals as goal

pub copy_from_slice-requires : goal.copy_from_slice-requires
copy_from_slice-requires c =
    let x = c.args.held.now in
    let long : 25 ≤ length x = c.requires.long in
    let e : c.split_at.result.1.now ≡ drop 5 (take 25 x) = c.split_at.ensures.back ∙ ap (λ (ys : List ℕ). drop 5 ys) c.prelude.ensures in
    omega (arith, ap length e, length-drop 5 (take 25 x), length-take 25 x)

pub returns-then-eq : goal.returns-then-eq
returns-then-eq c =
    let x = c.args.held.now in
    let stated : c.copy_from_slice.new.self ≡ take 20 (drop 5 x) = c.copy_from_slice.ensures.after ∙ c.split_at.ensures.back ∙ ap (λ (ys : List ℕ). drop 5 ys) c.prelude.ensures ∙ drop-take 5 20 x in
    let front : c.split_at.result.0.now ≡ take 5 x = c.split_at.ensures.front ∙ ap (λ (ys : List ℕ). take 5 ys) c.prelude.ensures ∙ take-take 5 25 x (omega arith) in
    let found : c.digest_of-found.result ≡ sha1 (take 5 x ++ drop 25 x) = c.digest_of-found.ensures ∙ ap (λ (ys : List ℕ). sha1 (ys ++ c.payload.result.now)) front ∙ ap (λ (ys : List ℕ). sha1 (take 5 x ++ ys)) c.payload.ensures in
    front-right x c.copy_from_slice.new.self c.digest_of-found.result c.requires.all stated found (sym c.eq.ensures ∙ c.if-eq.true)

pub returns-else-eq : goal.returns-else-eq
returns-else-eq c =
    let x = c.args.held.now in
    let stated : c.copy_from_slice.new.self ≡ take 20 (drop 5 x) = c.copy_from_slice.ensures.after ∙ c.split_at.ensures.back ∙ ap (λ (ys : List ℕ). drop 5 ys) c.prelude.ensures ∙ drop-take 5 20 x in
    let front : c.split_at.result.0.now ≡ take 5 x = c.split_at.ensures.front ∙ ap (λ (ys : List ℕ). take 5 ys) c.prelude.ensures ∙ take-take 5 25 x (omega arith) in
    let found : c.digest_of-found.result ≡ sha1 (take 5 x ++ drop 25 x) = c.digest_of-found.ensures ∙ ap (λ (ys : List ℕ). sha1 (ys ++ c.payload.result.now)) front ∙ ap (λ (ys : List ℕ). sha1 (take 5 x ++ ys)) c.payload.ensures in
    front-wrong x c.copy_from_slice.new.self c.digest_of-found.result c.requires.all stated found (sym c.eq.ensures ∙ c.if-eq.false)
