use Rattle.cc_meaning.specs.declared.listing.RowName.TheVariants as row
use Rattle.cc_tables.specs.Needs.{IsMethodNamed}
use Rattle.cc_tables.proofs.Pairs.{each_push}
use Rattle.cc_tables.proofs.needs.add_method.Goals as goal

pub returns-in_ok-push : goal.returns-in_ok-push
returns-in_ok-push c = λ names pairs.
    rw (c.in-Method.is, c.in_ok-push.ensures.ok) (each_push IsMethodNamed names c.args.all.now (row.Method c.in-Method.class c.in-Method.name c.in-Method.proto) _ pairs (c.in_ok-copy.ensures, c.in_ok-copy-2.ensures, rw c.as_slice.ensures at c.in_ok-params.ensures))
