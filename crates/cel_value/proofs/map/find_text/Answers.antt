use Rattle.std.proofs.Common.{sym}
use Rattle.cel_value.proofs.MapSearching.{pairs_no_bool, pairs_no_int, pairs_no_uint}
use Rattle.cel_value.proofs.map.find_text.Goals as goal

pub returns-in-Bool : goal.returns-in-Bool
returns-in-Bool c = rw c.in-Bool.is (sym (pairs_no_bool c.args.pairs.now c.in-Bool.field-0))

pub returns-in-Int : goal.returns-in-Int
returns-in-Int c = rw c.in-Int.is (sym (pairs_no_int c.args.pairs.now c.in-Int.field-0))

pub returns-in-Uint : goal.returns-in-Uint
returns-in-Uint c = rw c.in-Uint.is (sym (pairs_no_uint c.args.pairs.now c.in-Uint.field-0))
