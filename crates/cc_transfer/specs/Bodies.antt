-- What a method's body is in the definitions of typings.
use Rattle.cc_meaning_typing.specs.Code.{Body}
use Rattle.cc_transfer.specs.declared.body.MethodBody.{MethodBody}

abbrev pub body_of : MethodBody → Body
body_of it = record { program = it.program.now; method = it.method.now; code = it.code.now }
