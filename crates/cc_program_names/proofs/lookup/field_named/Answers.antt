use Rattle.std.proofs.Common.{ℕ, ◌+◌, ◌<◌, length, ◌≡◌, inl, inr, Bool, true, false, slice_index_or, sym, ◌∙◌, ap, subst, arith}
use Rattle.std.specs.Str.{bytes_eq}
use Rattle.std.proofs.lemmas.List.{get_or_default}
use Rattle.cc_meaning.specs.declared.program.Field.{Field}
use Rattle.cc_meaning.specs.Names.{field_name}
use Rattle.cc_program_names.proofs.ByName.{first_is_position, none_is_position, below_or_same}
use Rattle.cc_program_names.proofs.lookup.field_named.Goals as goal

pub returns-then-branch : goal.returns-then-branch
returns-then-branch c =
    let fields = c.args.program.now.fields in
    let at = c.loop-at.at in
    let field = c.index-fields-at.result in
    let named : Field → Bool = λ x. bytes_eq (field_name c.args.program.now x) c.args.name.now in
    let below : at < length fields = rw (← c.as_slice-fields.ensures) c.loop-at-test.true in
    let is : field ≡ slice_index_or fields at field = rw (← c.as_slice-fields.ensures) c.index-fields-at.is in
    let found : named field ≡ true = sym c.in_ok-is_named.ensures ∙ c.if-branch.true in
    sym (first_is_position named fields at field below (λ k h. c.loop-at.invariant k field h) (ap named (sym is) ∙ found))

pub loop-at-preserved : goal.loop-at-preserved
loop-at-preserved c k d h =
    let fields = c.args.program.now.fields in
    let at = c.loop-at.at in
    let field = c.index-fields-at.result in
    let named : Field → Bool = λ x. bytes_eq (field_name c.args.program.now x) c.args.name.now in
    let below : at < length fields = rw (← c.as_slice-fields.ensures) c.loop-at-test.true in
    let is : field ≡ slice_index_or fields at field = rw (← c.as_slice-fields.ensures) c.index-fields-at.is in
    let other : named field ≡ false = sym c.in_ok-is_named.ensures ∙ c.if-branch.false in
    elim (below_or_same k at (omega arith)) [
      | inl less ↦ c.loop-at.invariant k d less
      | inr same ↦ subst (λ i. named (slice_index_or fields i d) ≡ false) (sym same) (ap named (get_or_default fields at d field below ∙ sym is) ∙ other)
    ]

pub returns : goal.returns
returns c =
    let fields = c.args.program.now.fields in
    let named : Field → Bool = λ x. bytes_eq (field_name c.args.program.now x) c.args.name.now in
    sym (none_is_position named fields (λ k d h. c.loop-at.invariant k d (let all : length fields < c.loop-at.at + 1 = rw (← c.as_slice-fields.ensures) (omega arith) in omega arith)))
