use Rattle.std.proofs.Common.{◌≡◌, ◌<◌, true, false, ℕ, List, length, ap, sym, ◌∙◌, arith, subst, refl, slice_index_or}
use Rattle.std.specs.Str.{bytes_eq}
use Rattle.cc_meaning.specs.declared.file.RawMethod.{RawMethod}
use Rattle.cc_meaning_program.specs.Named.{method_member}
use Rattle.cc_meaning_program.specs.Programs.{main_member}
use Rattle.cc_program.specs.Mains.{IsRunnable}
use Rattle.cc_program.proofs.Mains.{IsFirstNamed, NoneNamedBefore, is_main, no_main, no_named, one_more}
use Rattle.cc_program.proofs.main_class.main_of.Goals as goal

pub returns-then-is_runnable : goal.returns-then-is_runnable
unfolding main_member
returns-then-is_runnable c =
    let first : IsFirstNamed c.args.ids.now c.args.class.now.methods c.loop-place.place c.index-methods-place.result = record {
      within = subst (λ (xs : List RawMethod). c.loop-place.place < length xs) c.as_slice-methods.ensures c.loop-place-test.true;
      none = c.loop-place.invariant;
      is = subst (λ (xs : List RawMethod). c.index-methods-place.result ≡ slice_index_or xs c.loop-place.place c.index-methods-place.result) c.as_slice-methods.ensures c.index-methods-place.is;
      named = sym c.is_member.ensures ∙ c.if-is_member.true;
    } in
    is_main c.args.ids.now c.args.class.now c.loop-place.place c.index-methods-place.result first (c.if-is_runnable.ensures.0 refl)

pub returns-else-is_runnable : goal.returns-else-is_runnable
unfolding main_member
returns-else-is_runnable c =
    let first : IsFirstNamed c.args.ids.now c.args.class.now.methods c.loop-place.place c.index-methods-place.result = record {
      within = subst (λ (xs : List RawMethod). c.loop-place.place < length xs) c.as_slice-methods.ensures c.loop-place-test.true;
      none = c.loop-place.invariant;
      is = subst (λ (xs : List RawMethod). c.index-methods-place.result ≡ slice_index_or xs c.loop-place.place c.index-methods-place.result) c.as_slice-methods.ensures c.index-methods-place.is;
      named = sym c.is_member.ensures ∙ c.if-is_member.true;
    } in
    no_main c.args.ids.now c.args.class.now c.loop-place.place c.index-methods-place.result first (λ (runs : IsRunnable c.index-methods-place.result). let e : false ≡ true = c.if-is_runnable.ensures.1 runs in absurd cc)

pub loop-place-preserved : goal.loop-place-preserved
unfolding main_member
loop-place-preserved c =
    one_more c.args.ids.now c.args.class.now.methods c.loop-place.place c.index-methods-place.result
    (subst (λ (xs : List RawMethod). c.loop-place.place < length xs) c.as_slice-methods.ensures c.loop-place-test.true) c.loop-place.invariant
    (subst (λ (xs : List RawMethod). c.index-methods-place.result ≡ slice_index_or xs c.loop-place.place c.index-methods-place.result) c.as_slice-methods.ensures c.index-methods-place.is)
    (sym c.is_member.ensures ∙ c.if-is_member.false)

pub returns : goal.returns
returns c =
    let long = ap length c.as_slice-methods.ensures in
    let past = c.loop-place-test.false in
    let end = c.loop-place.auto.place-end in
    let all : c.loop-place.place ≡ length c.args.class.now.methods = omega (arith, long, past, end) in
    no_named c.args.ids.now c.args.class.now (subst (NoneNamedBefore c.args.ids.now c.args.class.now.methods) all c.loop-place.invariant)
