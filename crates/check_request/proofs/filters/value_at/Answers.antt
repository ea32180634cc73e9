use Rattle.std.proofs.Common.{◌≡◌, true, false, get_or, sym}
use Rattle.std.specs.Str.{bytes_eq}
use Rattle.proto_wire.specs.Merge.{parts_view}
use Rattle.check_request.proofs.Lookups.{lookup_at, lookup_more}
use Rattle.check_request.proofs.filters.value_at.Goals as goal

pub returns-then-eq : goal.returns-then-eq
returns-then-eq c =
    let entries = c.args.entries.now in
    let i = c.loop-entry.entry-index in
    let here : bytes_eq (get_or entries i c.entry-item.result).0.now c.args.key.now ≡ true =
    rw (← c.entry-item.is) (sym c.if-eq.ensures) in
    rw c.entry-item.is
    (lookup_at (λ other. bytes_eq other c.args.key.now) (λ e. (e.0.now, parts_view e.1.items)) entries i
    c.entry-item.result c.loop-entry-test.true c.loop-entry.invariant here)

pub loop-entry-preserved : goal.loop-entry-preserved
loop-entry-preserved c =
    let entries = c.args.entries.now in
    let i = c.loop-entry.entry-index in
    let other : bytes_eq (get_or entries i c.entry-item.result).0.now c.args.key.now ≡ false =
    rw (← c.entry-item.is) (sym c.if-eq.ensures) in
    lookup_more (λ other. bytes_eq other c.args.key.now) (λ e. (e.0.now, parts_view e.1.items)) entries i
    c.entry-item.result c.loop-entry-test.true c.loop-entry.invariant other
