use Rattle.cc_meaning_plain.specs.Plain.{IsOrdinaryName}
use Rattle.cc_plain.proofs.DescriptorLemmas.{false_is_not}
use Rattle.cc_plain.proofs.MethodLemmas.{no_ordinary}
use Rattle.cc_plain.proofs.methods.read_function.Goals as goal

pub returns-in_default : goal.returns-in_default
returns-in_default c =
    let none = rw (c.in_default.is, c.as_slice.ensures) at c.in_ok-name.ensures in
    λ f h. none f.name h.named

pub returns-then-not-is_ordinary : goal.returns-then-not-is_ordinary
returns-then-not-is_ordinary c =
    let named = rw (c.in-Some.is, c.as_slice.ensures) at c.in_ok-name.ensures in
    let is = rw c.as_slice-2.ensures at c.is_ordinary.ensures in
    λ f h. no_ordinary c.law_name_once.ensures c.args.file.now c.args.known.now.class c.args.member c.in-Some.name f named
    (false_is_not c.is_ordinary.result (IsOrdinaryName c.in-Some.name) is c.if-not-is_ordinary.true) h
