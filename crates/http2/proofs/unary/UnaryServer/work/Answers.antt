use Rattle.http2.specs.Unary.{unary_view}
use Rattle.http2.proofs.Calls.{none_of}
use Rattle.http2.proofs.Unaries.{continued}
use Rattle.http2.proofs.unary.UnaryServer.work.Goals as goal

pub returns-in-Some-clause-continues : goal.returns-in-Some-clause-continues
returns-in-Some-clause-continues c =
    continued (unary_view c.args.self.now) (unary_view c.look_at_all.new.self) _ c.look_at_all.ensures.continues c.tell.ensures.continues

pub returns-in-None-clause-continues : goal.returns-in-None-clause-continues
returns-in-None-clause-continues c =
    continued (unary_view c.args.self.now) (unary_view c.look_at_all.new.self) _ c.look_at_all.ensures.continues c.give_back.ensures.continues

pub returns-in-Some-clause-over : goal.returns-in-Some-clause-over
returns-in-Some-clause-over c = λ some. absurd (some (none_of c.args.self.now.over c.if-is_some.ensures))

pub returns-in-None-clause-over : goal.returns-in-None-clause-over
returns-in-None-clause-over c = λ some. absurd (some (none_of c.args.self.now.over c.if-is_some.ensures))
