mod Signed
mod FormLaws
mod OpcodeLaws
mod PayloadLaws
mod InsnLaws
mod FaultLaws
mod TableLaws
mod ArithmeticLaws
