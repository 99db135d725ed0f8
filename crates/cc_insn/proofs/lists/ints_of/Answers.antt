use Rattle.std.proofs.Common.{◌≡◌, ◌+◌, ◌*◌, ◌∷◌, [], ◌++◌, drop, ap, ◌∙◌, FitsSigned, to_z, of_z, get_or, rules, arith}
use Rattle.std.specs.Int.{w32}
use Rattle.std.proofs.lemmas.Int.{to_z-of_z}
use Rattle.cc_meaning_insn.specs.Forms.{int_of}
use Rattle.cc_meaning_insn.specs.Payloads.{ints_of}
use Rattle.cc_insn.proofs.Going.{ints-step, ints-all}
use Rattle.cc_insn.proofs.lists.ints_of.Goals as goal

pub loop-i-preserved : goal.loop-i-preserved
loop-i-preserved c =
    let fits : FitsSigned w32 c.int_of.result = search rules in
    let number = int_of (get_or c.args.units.now (2 * c.loop-i.i) 0) (get_or c.args.units.now (2 * c.loop-i.i + 1) 0) in
    let same : to_z w32 (of_z w32 c.int_of.result) ≡ number = to_z-of_z w32 c.int_of.result fits ∙ c.int_of.ensures in
    let pushed : c.push.new.self.items ≡ c.loop-i.ints.items ++ number ∷ [] = c.in_ok-push.ensures.items ∙ ap (λ n. c.loop-i.ints.items ++ n ∷ []) same in
    ap (λ items. items ++ ints_of (drop (2 * (c.loop-i.i + 1)) c.args.units.now)) pushed
    ∙ ints-step c.loop-i.ints.items (ints_of c.args.units.now) c.args.units.now c.loop-i.i (omega arith) c.loop-i.invariant

pub returns : goal.returns
returns c =
    c.from_vec.ensures
    ∙ ints-all c.loop-i.ints.items (ints_of c.args.units.now) c.args.units.now c.loop-i.i (omega arith) c.loop-i.invariant
