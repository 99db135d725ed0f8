use Rattle.cc_bodies.specs.Linked.{InsnLinked}
use Rattle.cc_bodies.proofs.Rows.{insn_stays}
use Rattle.cc_bodies.proofs.insns.link_insn.Goals as goal

pub returns-in-ConstText : goal.returns-in-ConstText
returns-in-ConstText c = rw c.in-ConstText.is (InsnLinked.text c.text_number.ensures)

pub returns-in-ConstClass : goal.returns-in-ConstClass
returns-in-ConstClass c = rw c.in-ConstClass.is (InsnLinked.class c.link_type.ensures)

pub returns-in-CheckCast : goal.returns-in-CheckCast
returns-in-CheckCast c = rw c.in-CheckCast.is (InsnLinked.cast c.link_type-in-CheckCast.ensures)

pub returns-in-InstanceOf : goal.returns-in-InstanceOf
returns-in-InstanceOf c = rw c.in-InstanceOf.is (InsnLinked.instance c.link_type-in-InstanceOf.ensures)

pub returns-in-NewInstance : goal.returns-in-NewInstance
returns-in-NewInstance c = rw c.in-NewInstance.is (InsnLinked.object c.link_type-in-NewInstance.ensures)

pub returns-in-NewArray : goal.returns-in-NewArray
returns-in-NewArray c = rw c.in-NewArray.is (InsnLinked.array c.link_type-in-NewArray.ensures)

pub returns-in-FilledNewArray : goal.returns-in-FilledNewArray
returns-in-FilledNewArray c = rw c.in-FilledNewArray.is (InsnLinked.filled c.link_type-in-FilledNewArray.ensures)

pub returns-in-FieldGet : goal.returns-in-FieldGet
returns-in-FieldGet c = rw c.in-FieldGet.is (InsnLinked.field_read c.field_number.ensures)

pub returns-in-FieldPut : goal.returns-in-FieldPut
returns-in-FieldPut c = rw c.in-FieldPut.is (InsnLinked.field_written c.field_number-in-FieldPut.ensures)

pub returns-in-StaticGet : goal.returns-in-StaticGet
returns-in-StaticGet c = rw c.in-StaticGet.is (InsnLinked.static_read c.field_number-in-StaticGet.ensures)

pub returns-in-StaticPut : goal.returns-in-StaticPut
returns-in-StaticPut c = rw c.in-StaticPut.is (InsnLinked.static_written c.field_number-in-StaticPut.ensures)

pub returns-in-Invoke : goal.returns-in-Invoke
returns-in-Invoke c = rw c.in-Invoke.is (InsnLinked.call c.link_method.ensures)

pub returns-in_default : goal.returns-in_default
returns-in_default c =
    let other = c.in_default in
    insn_stays c.args.links.now c.args.insn.now other.not-ConstText other.not-ConstClass other.not-CheckCast other.not-InstanceOf other.not-NewInstance other.not-NewArray other.not-FilledNewArray other.not-FieldGet other.not-FieldPut other.not-StaticGet other.not-StaticPut other.not-Invoke
