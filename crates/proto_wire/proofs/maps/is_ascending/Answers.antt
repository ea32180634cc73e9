use Rattle.std.proofs.Common.{◌≡◌, true, T, sym, subst, ◌∙◌, arith}
use Rattle.std.proofs.lemmas.List.{take_all}
use Rattle.std.specs.Ordering.{is_lt}
use Rattle.proto_wire.specs.Maps.{key_cmp}
use Rattle.proto_wire.specs.Merge.{parts_view}
use Rattle.proto_wire.proofs.MapLemmas.{key_cmp_total}
use Rattle.proto_wire.proofs.MapOrder.{lt_is_less, sorted_first, sorted_more}
use Rattle.proto_wire.proofs.maps.is_ascending.Goals as goal

pub loop-index-init : goal.loop-index-init
loop-index-init g c =
    let kind = g.K.KeyOrder.kind in
    let key_view = g.K.KeyOrder.key_view in (
      omega arith,
      sorted_first (key_cmp kind) (key_cmp_total kind) (λ e. (key_view e.0, parts_view e.1.items)) c.args.entries.now,
    )

pub loop-index-preserved : goal.loop-index-preserved
loop-index-preserved g c =
    let kind = g.K.KeyOrder.kind in
    let key_view = g.K.KeyOrder.key_view in
    let xs = c.args.entries.now in
    let i = c.loop-index.index in
    let before = c.index-entries-index.result in
    let here = c.index-entries-index-in-loop-index.result in
    let is : is_lt c.cmp.result ≡ true = sym c.is_lt.ensures ∙ c.if-not-is_lt.false in
    let less = sym (g.met.K.KeyOrder.in_order _ _) ∙ sym c.cmp.ensures ∙ lt_is_less _ (subst T (sym is) tt) in (
      omega arith,
      sorted_more (key_cmp kind) (key_cmp_total kind) (λ e. (key_view e.0, parts_view e.1.items)) xs i before here
          c.loop-index.invariant.0 c.loop-index-test.true c.loop-index.invariant.1 less,
    )

pub returns : goal.returns
returns g c =
    rw (take_all c.loop-index.index c.args.entries.now c.loop-index-test.false) at c.loop-index.invariant.1
