-- What a known kind makes stands in its pool.
use Rattle.std.proofs.Common.{rules, refl}
use Rattle.std.specs.Prelude.{slice_get, option_map}
use Rattle.std.proofs.lemmas.Option.{slice_get_read}
use Rattle.cel_value.specs.declared.cel_type.KeyType.{KeyType}
use Rattle.machine_code.specs.declared.instr.Instr.TheVariants as instrs
use Rattle.machine_code.specs.Packing.{operation_table, key_table}
use Rattle.machine_code.proofs.Growing.{map_within, and_of, test_made, loop_test_made, loop_next2_made}
use Rattle.machine_code.specs.Pools.{parts}
use Rattle.machine_code.proofs.pools.Pools.made.Goals as goal

pub operation_of-requires : goal.operation_of-requires
operation_of-requires c = let h = rw c.in-4.is at c.requires.1 in
    map_within operation_table instrs.Operate c.args.small c.requires.0 h

pub get-requires-in-5 : goal.get-requires-in-5
get-requires-in-5 c = let h = rw c.in-5.is at c.requires.1 in map_within _ _ _ _ h

pub get-requires-in-6 : goal.get-requires-in-6
get-requires-in-6 c = let h = rw c.in-6.is at c.requires.1 in map_within _ _ _ _ h

pub get-requires-in-8 : goal.get-requires-in-8
get-requires-in-8 c = let h = rw c.in-8.is at c.requires.1 in map_within _ _ _ _ h

pub get-requires-in-10 : goal.get-requires-in-10
get-requires-in-10 c =
    let h = rw c.in-10.is at c.requires.1 in
    let key = and_of (slice_get key_table c.args.small) (λ (key : KeyType). option_map (instrs.EmptyMap key) (slice_get c.args.self.now.types c.args.wide)) c.requires.0 h in
    map_within c.args.self.now.types (instrs.EmptyMap key.0) c.args.wide c.requires.0 key.2

pub index-requires : goal.index-requires
index-requires c =
    let h = rw c.in-14.is at c.requires.1 in let under = map_within c.args.self.now.pairs.items _ c.args.wide _ h in search rules

pub index-requires-in-17 : goal.index-requires-in-17
index-requires-in-17 c =
    let h = rw c.in-17.is at c.requires.1 in let under = map_within c.args.self.now.pairs.items _ c.args.wide _ h in search rules

pub index-requires-in-18 : goal.index-requires-in-18
index-requires-in-18 c =
    let h = rw c.in-18.is at c.requires.1 in let under = map_within c.args.self.now.pairs.items _ c.args.wide _ h in search rules

pub returns-in-14 : goal.returns-in-14
returns-in-14 c =
    let h = rw c.in-14.is at c.requires.1 in
    let at = slice_get_read c.args.self.now.pairs.items _ c.args.wide c.index.result.now refl (map_within _ _ _ _ h) c.index.ensures in
    rw c.in-14.is (test_made (parts c.args.self.now) c.args.small c.args.wide _ at)

pub returns-in-17 : goal.returns-in-17
returns-in-17 c =
    let h = rw c.in-17.is at c.requires.1 in
    let at = slice_get_read c.args.self.now.pairs.items _ c.args.wide c.index-in-17.result.now refl (map_within _ _ _ _ h) c.index-in-17.ensures in
    rw c.in-17.is (loop_test_made (parts c.args.self.now) c.args.small c.args.wide _ at)

pub returns-in-18 : goal.returns-in-18
returns-in-18 c =
    let h = rw c.in-18.is at c.requires.1 in
    let at = slice_get_read c.args.self.now.pairs.items _ c.args.wide c.index-in-18.result.now refl (map_within _ _ _ _ h) c.index-in-18.ensures in
    rw c.in-18.is (loop_next2_made (parts c.args.self.now) c.args.small c.args.wide _ at)
