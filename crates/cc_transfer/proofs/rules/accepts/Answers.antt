use Rattle.cc_transfer.proofs.rules.accepts.Goals as goal

pub returns-in-Move : goal.returns-in-Move
returns-in-Move c = rw c.in-Move.is (c.accepts_move.ensures c.args.at)

pub returns-in-MoveResult : goal.returns-in-MoveResult
returns-in-MoveResult c = rw c.in-MoveResult.is (c.accepts_move_result.ensures c.args.at)

pub returns-in-MoveException : goal.returns-in-MoveException
returns-in-MoveException c = rw c.in-MoveException.is (c.accepts_move_exception.ensures c.args.at)

pub returns-in-Return : goal.returns-in-Return
returns-in-Return c = rw c.in-Return.is (c.accepts_return.ensures c.args.at)

pub returns-in-Throw : goal.returns-in-Throw
returns-in-Throw c = rw c.in-Throw.is (c.accepts_throw.ensures c.args.at)

pub returns-in-ArrayGet : goal.returns-in-ArrayGet
returns-in-ArrayGet c = rw c.in-ArrayGet.is (c.accepts_array_get.ensures c.args.at)

pub returns-in-ArrayPut : goal.returns-in-ArrayPut
returns-in-ArrayPut c = rw c.in-ArrayPut.is (c.accepts_array_put.ensures c.args.at)

pub returns-in-FieldGet : goal.returns-in-FieldGet
returns-in-FieldGet c = rw c.in-FieldGet.is (c.accepts_field_get.ensures c.args.at)

pub returns-in-FieldPut : goal.returns-in-FieldPut
returns-in-FieldPut c = rw c.in-FieldPut.is (c.accepts_field_put.ensures c.args.at)

pub returns-in-StaticGet : goal.returns-in-StaticGet
returns-in-StaticGet c = rw c.in-StaticGet.is (c.accepts_static_get.ensures c.args.at c.args.state.now)

pub returns-in-StaticPut : goal.returns-in-StaticPut
returns-in-StaticPut c = rw c.in-StaticPut.is (c.accepts_static_put.ensures c.args.at)
