-- A word spells what its parts make.
use Rattle.std.proofs.Common.{rules, arith}
use Rattle.machine_code.proofs.Growing.{parts_of_word}
use Rattle.machine_code.proofs.pools.Pools.word.Goals as goal

pub returns-clause-spells : goal.returns-clause-spells
returns-clause-spells c =
    let made = c.in_ok-kind.ensures.makes in
    let is = parts_of_word _ _ _ c.word_of.result (omega arith) (omega arith) c.word_of.ensures in
    rw (is.0, is.1, is.2) made
