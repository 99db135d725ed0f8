use Rattle.std.proofs.Common.{ℕ, Some, None, slice_get, sym, ◌∙◌}
use Rattle.std.proofs.lemmas.List.{append-nil}
use Rattle.cc_members.specs.Candidates.{beyond_field, beyond_fields}
use Rattle.cc_members.proofs.Adding.{made_more}
use Rattle.cc_members.proofs.planned_fields.add_beyond.Goals.{in-Some+in_ok-push, in_default}
use Rattle.cc_members.proofs.planned_fields.add_beyond.Goals as goal

pub loop-row-init : goal.loop-row-init
unfolding beyond_fields
loop-row-init c = sym (append-nil c.args.all.now)

pub loop-row-preserved : goal.loop-row-preserved
unfolding beyond_fields
loop-row-preserved c =
    let owners = c.args.owners.now in
    let f = λ (row : ℕ). beyond_field (slice_get owners row) row in
    let all = c.loop-row.all in
    elim c.match-beyond_field.branch [
      | in-Some+in_ok-push w ↦
          w.all-is ∙ (w.in_ok-push.ensures.ok ∙ made_more f c.args.all.now all c.args.rows.now c.loop-row.row-index _ (Some w.in-Some.plan) c.loop-row.invariant c.loop-row-test.true (sym w.in-Some.is ∙ c.beyond_field.ensures))
      | in_default w ↦
          w.all-is ∙ (sym (append-nil all) ∙ made_more f c.args.all.now all c.args.rows.now c.loop-row.row-index _ None c.loop-row.invariant c.loop-row-test.true (sym w.in_default.is ∙ c.beyond_field.ensures))
    ]
