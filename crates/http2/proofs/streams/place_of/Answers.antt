use Rattle.std.proofs.Common.{◌≡◌, ◌==◌, true, false, length, rules}
use Rattle.http2.proofs.Finding.{front_more, front_found, front_none}
use Rattle.http2.proofs.streams.place_of.Goals as goal

pub returns-then-stream-number-clause-found : goal.returns-then-stream-number-clause-found
returns-then-stream-number-clause-found c =
    let this : (c.in-Some.stream.now.number == c.args.number) ≡ true = search rules in
    front_found c.args.number _ _ c.in-Some.others.now c.in-Some.stream.now c.streams.at c.streams.invariant.0 c.in-Some.ensures.cases.0 this

pub streams-preserved : goal.streams-preserved
streams-preserved c =
    let not : (c.in-Some.stream.now.number == c.args.number) ≡ false = search rules in
    front_more c.args.number _ _ c.in-Some.others.now c.in-Some.stream.now c.streams.at c.streams.invariant c.in-Some.ensures.cases.0 not

pub returns-clause-none : goal.returns-clause-none
returns-clause-none c =
    let none : length c.streams.rest.now ≡ 0 = search rules in
    front_none c.args.number _ _ c.streams.at c.streams.invariant.0 none
