use Rattle.std.proofs.Common.{◌≡◌, false, rules}
use Rattle.std.proofs.lemmas.Result.{err_from_is_err_and}
use Rattle.grpc_server.proofs.Replying.{after_waits, after_gone, after_fault, after_written}
use Rattle.grpc_server.proofs.reply.Reply.write.Goals as goal

pub returns-in_err-begin : goal.returns-in_err-begin
returns-in_err-begin c =
    let fault = err_from_is_err_and c.from_residual.result c.from_residual.ensures.1 in
    after_fault c.args.self.now c.begin.new.self c.args.server.now c.begin.new.server _ fault.0 c.from_residual.result fault.1 c.in_err-begin.ensures

pub returns-in-Written : goal.returns-in-Written
returns-in-Written c =
    let unbegun : c.args.self.now.begun ≡ false = search rules in
    after_written c.args.self.now c.begin.new.self c.go_on-in-Written.new.self c.args.server.now c.begin.new.server c.go_on-in-Written.new.server
    c.go_on-in-Written.result unbegun (rw c.in-Written.is at c.in_ok-begin.ensures) c.go_on-in-Written.ensures

pub returns-in-Waits : goal.returns-in-Waits
returns-in-Waits c =
    after_waits c.args.self.now c.begin.new.self c.args.server.now c.begin.new.server (rw c.in-Waits.is at c.in_ok-begin.ensures)

pub returns-in-Gone : goal.returns-in-Gone
returns-in-Gone c =
    let unbegun : c.args.self.now.begun ≡ false = search rules in
    after_gone c.args.self.now c.begin.new.self c.args.server.now c.begin.new.server unbegun (rw c.in-Gone.is at c.in_ok-begin.ensures)
