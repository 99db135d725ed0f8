use Rattle.std.proofs.Common.{ℕ, List, [], ◌++◌, length, subst, sym, arith, rules}
use Rattle.std.specs.Str.{chars}
use Rattle.std.specs.Char.Escape.{encode_utf16}
use Rattle.std.proofs.lemmas.Iterator.{YieldsList-from_chars}
use Rattle.std.proofs.lemmas.Iterator.Consumers.{YieldsList-turn, YieldsList-end}
use Rattle.std.proofs.lemmas.List.{length_push}
use Rattle.cc_meaning_program.specs.Asked.{units_of}
use Rattle.cc_program.proofs.Showing.{Shows, shows_more, shows_all}
use Rattle.cc_program.proofs.asked.units_of.Goals as goal

pub loop-c-preserved : goal.loop-c-preserved
loop-c-preserved c =
    let t = YieldsList-turn (YieldsList-from_chars c.args.text.now c.utf8.text cc) c.loop-c.yielded _ c.loop-c.yielded_by _ _ c.in-Some.c c.in-Some.is c.next.ensures.steps in
    let more = shows_more encode_utf16 c.loop-c.units c.add_char.new.units (chars c.args.text.now) (units_of c.args.text.now) (length c.loop-c.yielded) c.in-Some.c t (search rules) c.loop-c.invariant in
    let P : ℕ → Type 0 = λ i. Shows encode_utf16 c.add_char.new.units (chars c.args.text.now) i (units_of c.args.text.now) in
    subst P (sym (length_push c.loop-c.yielded c.in-Some.c)) more

pub returns : goal.returns
returns c =
    let t = YieldsList-end (YieldsList-from_chars c.args.text.now c.utf8.text cc) c.loop-c.yielded _ c.loop-c.yielded_by _ _ c.in-None.is c.next.ensures.steps in
    shows_all encode_utf16 c.loop-c.units (chars c.args.text.now) (units_of c.args.text.now) (length c.loop-c.yielded) (omega (arith, t.1)) c.loop-c.invariant
