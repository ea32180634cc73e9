-- Words spell the same beside pools that have grown, and one more is put behind them.
use Rattle.std.proofs.Common.{◌<◌, ◌∷◌, [], length, length-append, rules, arith, ◌∙◌}
use Rattle.machine_code.specs.Instructions.{instr_view}
use Rattle.machine_code.specs.Pools.{parts}
use Rattle.machine_code.proofs.Growing.{instrs_again, pushed}
use Rattle.machine_code.proofs.code.Code.push.Goals as goal

pub invariant_of-self : goal.invariant_of-self
invariant_of-self c =
    let again = instrs_again (parts c.self.inside.pools) (parts c.word.new.self) c.self.inside.words.items c.word.ensures.grows c.self.invariant.0 in
    (again.0, c.self.invariant.1)

pub returns-in_default-clause-kept : goal.returns-in_default-clause-kept
returns-in_default-clause-kept c =
    let again = instrs_again (parts c.self.inside.pools) (parts c.word.new.self) c.self.inside.words.items c.word.ensures.grows c.self.invariant.0 in
    again.1 ∙ c.self.view_is

pub invariant_of-self-in_default-put : goal.invariant_of-self-in_default-put
invariant_of-self-in_default-put c =
    let again = instrs_again (parts c.self.inside.pools) (parts c.word.new.self) c.self.inside.words.items c.word.ensures.grows c.self.invariant.0 in
    rw c.in_default-put.ensures.kept (again.0, c.self.invariant.1)

pub returns-in_default-put-clause-kept : goal.returns-in_default-put-clause-kept
returns-in_default-put-clause-kept c =
    let again = instrs_again (parts c.self.inside.pools) (parts c.word.new.self) c.self.inside.words.items c.word.ensures.grows c.self.invariant.0 in
    rw c.in_default-put.ensures.kept (again.1 ∙ c.self.view_is)

pub invariant_of-self-2 : goal.invariant_of-self-2
invariant_of-self-2 c =
    let put = c.in-Ok-put.ensures.put in
    let whole = pushed (parts c.self.inside.pools) (parts c.word.new.self) c.self.inside.words.items c.put.new.words.items c.in-Ok.word c.args.self.now (instr_view c.args.instr) c.word.ensures.grows c.self.invariant.0 c.self.view_is put c.in-Ok.ensures.spells in
    let few : length c.self.inside.words.items < 65535 = search rules in
    (whole.0, rw (put, length-append c.self.inside.words.items (c.in-Ok.word ∷ [])) (omega arith))

pub returns-clause-grown : goal.returns-clause-grown
returns-clause-grown c =
    (pushed (parts c.self.inside.pools) (parts c.word.new.self) c.self.inside.words.items c.put.new.words.items c.in-Ok.word c.args.self.now (instr_view c.args.instr) c.word.ensures.grows c.self.invariant.0 c.self.view_is c.in-Ok-put.ensures.put c.in-Ok.ensures.spells).1
