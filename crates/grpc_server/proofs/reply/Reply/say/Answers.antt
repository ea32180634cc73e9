use Rattle.std.proofs.Common.{◌≡◌, ◌≤◌, ◌<◌, ◌-◌, ℕ, List, Ok, ap, inl, inr, refl, length, take, drop, arith, rules}
use Rattle.grpc_server.proofs.Replying.{wrote_nothing, wrote_same, sends_still, sends_more, octets_are, stuck}
use Rattle.grpc_server.proofs.reply.Reply.say.Goals as goal

pub returns-in_err-count-clause-sends : goal.returns-in_err-count-clause-sends
returns-in_err-count-clause-sends c =
    sends_still c.args.self.now c.frames.self _ c.args.server.now c.frames.server c.say.new.self c.frames.invariant (refl, refl, refl) refl refl
    c.in_err-count.ensures.fault

pub returns-then-count-eq0-clause-sends : goal.returns-then-count-eq0-clause-sends
returns-then-count-eq0-clause-sends c =
    sends_still c.args.self.now c.frames.self _ c.args.server.now c.frames.server c.say.new.self c.frames.invariant (refl, refl, refl) refl refl
    (wrote_same c.frames.server c.say.new.self (c.in_ok-count.ensures.none (ap (λ n. Ok n) c.if-count-eq0.true)))

pub returns-then-count-eq0-clause-all : goal.returns-then-count-eq0-clause-all
returns-then-count-eq0-clause-all c =
    let less : c.frames.self.at < length c.frames.self.content.items = search rules in
    inr (stuck c.args.self.now.stream c.frames.self.stream c.in_ok-count.count c.frames.self.at c.deref.result.now c.frames.self.content.items
    c.frames.server c.say.new.self (c.in_ok-count.ensures.none (ap (λ n. Ok n) c.if-count-eq0.true)) c.frames.invariant.same.0
    c.if-count-eq0.true c.deref.ensures.value less c.in_ok-count.ensures.most)

pub returns-clause-sends : goal.returns-clause-sends
returns-clause-sends c =
    sends_still c.args.self.now c.frames.self _ c.args.server.now c.frames.server c.frames.server c.frames.invariant (refl, refl, refl) refl refl
    (wrote_nothing c.frames.server)

pub returns-clause-all : goal.returns-clause-all
returns-clause-all c =
    let end : length c.frames.self.content.items ≤ c.frames.self.at = search rules in
    let long : length c.frames.self.content.items ≡ length c.args.self.now.content.items =
    ap (λ (l : List ℕ). length l) c.frames.invariant.same.1 in
    inl (omega (arith, end, long))

pub frames-preserved : goal.frames-preserved
frames-preserved c =
    let n : ℕ = c.in_ok-count.count in
    let said : List ℕ = c.deref.result.now in
    let some : 0 < n = search rules in
    let wrote = c.in_ok-count.ensures.written some in
    sends_more c.args.self.now c.frames.self _ c.args.server.now c.frames.server c.say.new.self n wrote.0
    (take n (take (length said - c.frames.self.at) (drop c.frames.self.at said))) c.frames.invariant wrote.1
    (octets_are n c.frames.self.at said c.frames.self.content.items c.deref.ensures.value) (refl, refl, refl) refl refl wrote.2
