use Rattle.cc_plain.proofs.NumberLemmas.{count_at, zero_at, data_at}
use Rattle.cc_plain.proofs.members.direct_methods.Goals as goal

pub returns-in_err-count : goal.returns-in_err-count
returns-in_err-count c =
    rw c.from_residual-in_err-count.ensures (λ members h.
    c.in_err-count.ensures _ _ (count_at c.one_uleb.ensures c.args.file.now c.args.at c.in_ok-fields.fields c.in_ok-instance_fields.instance_fields members c.in_ok-fields.ensures c.in_ok-instance_fields.ensures h))

pub returns-in_err-all : goal.returns-in_err-all
returns-in_err-all c =
    rw c.from_residual-in_err-all.ensures (λ members h.
    c.in_err-all.ensures _ (zero_at c.one_uleb.ensures c.args.file.now c.args.at c.in_ok-fields.fields c.in_ok-instance_fields.instance_fields c.in_ok-count.count c.in_ok-count.direct members
    c.in_ok-fields.ensures c.in_ok-instance_fields.ensures c.in_ok-count.ensures h).1)

pub returns : goal.returns
returns c =
    data_at c.one_uleb.ensures c.args.file.now c.args.at c.in_ok-fields.fields c.in_ok-instance_fields.instance_fields c.in_ok-count.count c.in_ok-count.direct c.in_ok-all.all
    c.in_ok-fields.ensures c.in_ok-instance_fields.ensures c.in_ok-count.ensures c.in_ok-all.ensures
