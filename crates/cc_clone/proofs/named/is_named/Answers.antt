use Rattle.std.proofs.Common.{rules, encode_utf8, ◌++◌, ◌≡◌, ◌<◌, ◌∙◌, sym, ap, length, drop, [], arith, List, ℕ}
use Rattle.std.proofs.lemmas.List.{nil_from_length}
use Rattle.cc_meaning_run.specs.Local.{utf8_of}
use Rattle.cc_clone.proofs.Names.{no_units, both_go_on}
use Rattle.cc_clone.proofs.named.is_named.Goals as goal

pub returns-in-None : goal.returns-in-None
returns-in-None c =
    let units = c.loop-rest.rest.now in
    ((λ no. absurd cc), (λ e. absurd (c.in-None.ensures (utf8_of (drop c.first_char-c.result.1 units)) (c.loop-rest.invariant.same.1 e ∙ c.first_char-c.ensures.first))))

pub loop-rest-smaller : goal.loop-rest-smaller
loop-rest-smaller c =
    let some : 0 < length c.loop-rest.rest.now = search rules in
    omega (arith, c.split_at.ensures.back_len, c.first_char-c.ensures.low, c.first_char-c.ensures.high)

pub loop-rest-preserved : goal.loop-rest-preserved
loop-rest-preserved c =
    let front = encode_utf8 c.first_char-c.result.0 in
    let units = c.loop-rest.rest.now in
    let after = c.split_at.result.1.now in
    let same = c.loop-rest.invariant.same in
    let first : utf8_of units ≡ front ++ utf8_of after = c.first_char-c.ensures.first ∙ ap (λ (us : List ℕ). front ++ utf8_of us) (sym c.split_at.ensures.back) in
    let on = both_go_on c.loop-rest.left.now c.in-Some.after.now units after front c.in-Some.ensures first in
    record { same = ((λ e. same.0 (on.0 e)), (λ e. on.1 (same.1 e))) }

pub returns : goal.returns
returns c =
    let same = c.loop-rest.invariant.same in
    let text = c.loop-rest.left.now in
    let empty : c.loop-rest.rest.now ≡ [] = nil_from_length c.loop-rest.rest.now (search rules) in
    let nothing : utf8_of c.loop-rest.rest.now ≡ [] = ap utf8_of empty ∙ no_units in (
      (λ t. let none : text ≡ [] = nil_from_length text (search rules) in same.0 (none ∙ sym nothing)),
      (λ e. let none : text ≡ [] = same.1 e ∙ nothing in let long : length text ≡ 0 = ap length none in search rules),
    )
