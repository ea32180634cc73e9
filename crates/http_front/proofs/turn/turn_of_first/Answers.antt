use Rattle.std.proofs.lemmas.Result.{IfOk-weaker}
use Rattle.http_front.proofs.turn.turn_of_first.Goals as goal

pub turn_of_parsed-requires : goal.turn_of_parsed-requires
turn_of_parsed-requires c = (c.args.bytes.now, c.requires.0, c.requires.1, c.in-Some.ensures.parsed)

pub returns-in-Some : goal.returns-in-Some
returns-in-Some c =
    IfOk-weaker c.turn_of_parsed.result _ _ (λ turn is. is c.args.bytes.now c.requires.0 c.in-Some.ensures.parsed)
    c.turn_of_parsed.ensures.found

pub turn_of_parsed-requires-2 : goal.turn_of_parsed-requires-2
turn_of_parsed-requires-2 c = (c.args.bytes.now, c.requires.0, c.requires.1, c.parse.ensures)

pub returns : goal.returns
returns c =
    IfOk-weaker c.turn_of_parsed-2.result _ _ (λ turn is. is c.args.bytes.now c.requires.0 c.parse.ensures)
    c.turn_of_parsed-2.ensures.found
