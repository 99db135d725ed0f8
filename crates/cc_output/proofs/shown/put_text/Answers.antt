use Rattle.std.proofs.Common.{ℕ, ◌++◌, length, subst, sym, arith, List, rules}
use Rattle.std.specs.Str.{chars}
use Rattle.std.specs.Char.Escape.{encode_utf16}
use Rattle.std.proofs.lemmas.Iterator.{YieldsList-from_chars}
use Rattle.std.proofs.lemmas.Iterator.Consumers.{YieldsList-turn, YieldsList-end}
use Rattle.std.proofs.lemmas.List.{length_push}
use Rattle.cc_output.specs.Shown.{shown_units, shown_text}
use Rattle.cc_output.proofs.Showing.{Shows, shows_more, shows_all}
use Rattle.cc_output.proofs.shown.put_text.Goals as goal

abbrev f : ℕ → List ℕ
f = λ c. shown_units (encode_utf16 c)

pub loop-c-preserved : goal.loop-c-preserved
loop-c-preserved c =
    let t = YieldsList-turn (YieldsList-from_chars c.args.text.now c.utf8.text cc) c.loop-c.yielded _ c.loop-c.yielded_by _ _ c.in-Some.c c.in-Some.is c.next.ensures.steps in
    let more = shows_more f c.loop-c.line.items c.put_char.new.line.items (chars c.args.text.now) (c.args.line.now.items ++ shown_text c.args.text.now) (length c.loop-c.yielded) c.in-Some.c t (search rules) c.loop-c.invariant in
    let P : ℕ → Type 0 = λ i. Shows f c.put_char.new.line.items (chars c.args.text.now) i (c.args.line.now.items ++ shown_text c.args.text.now) in
    subst P (sym (length_push c.loop-c.yielded c.in-Some.c)) more

pub returns : goal.returns
returns c =
    let t = YieldsList-end (YieldsList-from_chars c.args.text.now c.utf8.text cc) c.loop-c.yielded _ c.loop-c.yielded_by _ _ c.in-None.is c.next.ensures.steps in
    shows_all f c.loop-c.line.items (chars c.args.text.now) (c.args.line.now.items ++ shown_text c.args.text.now) (length c.loop-c.yielded) (omega (arith, t.1)) c.loop-c.invariant
