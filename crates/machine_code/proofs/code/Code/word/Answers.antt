-- The instruction at a position is that of the word there.
use Rattle.std.proofs.Common.{◌<◌, length, ap, arith, refl}
use Rattle.std.proofs.lemmas.List.{length-map}
use Rattle.std.proofs.lemmas.Option.{slice_get-map, slice_get_read}
use Rattle.machine_code.specs.Packing.{instr_at, spelled}
use Rattle.machine_code.specs.Pools.{parts}
use Rattle.machine_code.proofs.Growing.{instr_there, some_spelled}
use Rattle.machine_code.proofs.code.Code.word.Goals as goal

pub returns-clause-at : goal.returns-clause-at
returns-clause-at c =
    let words = c.self.inside.words.items in
    let inside = c.requires in
    let same = ap length c.self.view_is in
    let under : c.args.position < length words =
    omega (arith, same, inside, length-map words (instr_at (parts c.self.inside.pools))) in
    let at = slice_get_read words _ c.args.position c.index.result.now refl under c.index.ensures in
    let there = instr_there (parts c.self.inside.pools) words c.args.position c.index.result.now c.self.invariant.0 at in
    let seen = there.1 in
    rw (← c.self.view_is, slice_get-map, seen) refl

pub returns-clause-known : goal.returns-clause-known
returns-clause-known c =
    let words = c.self.inside.words.items in
    let inside = c.requires in
    let same = ap length c.self.view_is in
    let under : c.args.position < length words =
    omega (arith, same, inside, length-map words (instr_at (parts c.self.inside.pools))) in
    let at = slice_get_read words _ c.args.position c.index.result.now refl under c.index.ensures in
    some_spelled (parts c.self.inside.pools) c.index.result.now
    (instr_there (parts c.self.inside.pools) words c.args.position c.index.result.now c.self.invariant.0 at).0
