use Rattle.cc_plain.proofs.ReaderLemmas.{no_plain_class, no_plain_functions, no_plain_code, plain_is}
use Rattle.cc_plain.proofs.reader.read_plain.Goals as goal

pub returns-in_default : goal.returns-in_default
returns-in_default c = no_plain_class c.args.file.now (rw c.in_default.is at c.in_ok-class.ensures)

pub returns-in_default-2 : goal.returns-in_default-2
returns-in_default-2 c =
    let class = rw c.in-Some.is at c.in_ok-class.ensures in
    no_plain_functions c.law_type_once.ensures c.law_methods_agree.ensures c.args.file.now c.in-Some.class class (rw c.in_default-2.is at c.in_ok-main.ensures)

pub returns-in_default-3 : goal.returns-in_default-3
returns-in_default-3 c =
    let class = rw c.in-Some.is at c.in_ok-class.ensures in
    let told = rw c.in-Some-2.is at c.in_ok-main.ensures in
    no_plain_code c.law_type_once.ensures c.law_data_once.ensures c.law_methods_once.ensures c.law_methods_agree.ensures c.law_order_once.ensures c.args.file.now c.in-Some.class
    c.in-Some-2.main c.in-Some-2.known class told.0 told.1 (rw c.in_default-3.is at c.in_ok-main-2.ensures)

pub returns : goal.returns
returns c =
    let class = rw c.in-Some.is at c.in_ok-class.ensures in
    let told = rw c.in-Some-2.is at c.in_ok-main.ensures in
    let code = rw c.in-Some-3.is at c.in_ok-main-2.ensures in
    plain_is c.law_methods_agree.ensures c.args.file.now c.in-Some.class c.in-Some-2.main c.in-Some-2.known c.in-Some-3.main (c.has_one_class.ensures.0 c.if-not-has_one_class.false)
    class told.0 told.1 code.0 code.1
