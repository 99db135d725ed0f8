use Rattle.std.proofs.Common.{◌≡◌, ◌++◌, List, length, map, take, sym, ap, subst, ◌∙◌, arith}
use Rattle.std.specs.List.{flat_map}
use Rattle.std.proofs.lemmas.List.{take_all, length-map}
use Rattle.cc_meaning_program.specs.ClassNames.{AreClassNames}
use Rattle.cc_names.specs.declared.classes.Candidate.{Candidate}
use Rattle.cc_names.specs.Candidates.{candidate_name, candidates_of}
use Rattle.cc_names.proofs.Candidacy.{few_candidates, names_are_classes}
use Rattle.cc_names.proofs.classes.class_names.Goals as goal

pub overflow_cast-len : goal.overflow_cast-len
overflow_cast-len c = omega (arith, c.in_ok-known.ensures.few, c.len.ensures.value)

pub returns-clause-names : goal.returns-clause-names
returns-clause-names c =
    let ids = c.args.ids.now in
    let known = c.in_ok-known.known in
    let rows = c.in_ok-rows.rows in
    let all = c.add_known.new.all in
    let sorted = c.in_ok-sorted.sorted in
    let added = c.in_ok-add_known.ensures ids known c.len.ensures.value in
    let listed : c.in_ok-all.all ≡ flat_map (candidates_of ids) rows = c.in_ok-all.ensures ∙ ap (flat_map (candidates_of ids)) c.as_slice.ensures in
    let whole : map (candidate_name ids known) all ≡ map (candidate_name ids known) (flat_map (candidates_of ids) rows) ++ known = added ∙ ap (λ (l : List Candidate). map (candidate_name ids known) l ++ known) listed in
    let items : c.as_slice-candidate-items.result.now ≡ sorted = c.as_slice-candidate-items.ensures in
    let taken : take c.loop-candidate.candidate-index c.as_slice-candidate-items.result.now ≡ c.as_slice-candidate-items.result.now = take_all c.loop-candidate.candidate-index c.as_slice-candidate-items.result.now (omega (arith, c.loop-candidate-test.false)) in
    let names : c.loop-candidate.names ≡ map (candidate_name ids known) sorted = c.loop-candidate.invariant ∙ ap (map (candidate_name ids known)) (taken ∙ items) in
    subst (AreClassNames ids) (sym names) (names_are_classes ids known rows all sorted c.in_ok-known.ensures c.in_ok-rows.ensures.are whole c.in_ok-sorted.ensures)

pub returns-clause-few : goal.returns-clause-few
returns-clause-few c =
    let ids = c.args.ids.now in
    let known = c.in_ok-known.known in
    let rows = c.in_ok-rows.rows in
    let all = c.add_known.new.all in
    let sorted = c.in_ok-sorted.sorted in
    let listed : c.in_ok-all.all ≡ flat_map (candidates_of ids) rows = c.in_ok-all.ensures ∙ ap (flat_map (candidates_of ids)) c.as_slice.ensures in
    let items = c.as_slice-candidate-items.result.now in
    let taken : take c.loop-candidate.candidate-index items ≡ items = take_all c.loop-candidate.candidate-index items (omega (arith, c.loop-candidate-test.false)) in
    let names : c.loop-candidate.names ≡ map (candidate_name ids known) sorted = c.loop-candidate.invariant ∙ ap (map (candidate_name ids known)) (taken ∙ c.as_slice-candidate-items.ensures) in
    let whole = few_candidates ids known rows c.in_ok-all.all all listed (c.in_ok-add_known.ensures ids known c.len.ensures.value) in
    omega (arith, ap length names, length-map sorted (candidate_name ids known), c.in_ok-sorted.ensures.few, whole, c.in_ok-known.ensures.few, c.in_ok-rows.ensures.few)
