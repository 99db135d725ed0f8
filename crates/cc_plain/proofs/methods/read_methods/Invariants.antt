use Rattle.std.proofs.Common.{take}
use Rattle.cc_meaning_plain.specs.Methods.{AreMethods}
use Rattle.cc_plain.proofs.methods.read_methods.Given as goal

-- the methods so far
abbrev pub invariant-loop-member : goal.invariant-loop-member
invariant-loop-member l = AreMethods l.file l.known.class (take l.member-index l.members) l.main l.functions
