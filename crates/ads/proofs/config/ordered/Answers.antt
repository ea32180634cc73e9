use Rattle.std.proofs.Common.{◌++◌, ◌∷◌, [], append_assoc, sym, ◌∙◌, ap}
use Rattle.ads.proofs.ConfigLemmas.{ordered_more}
use Rattle.ads.proofs.config.ordered.Goals as goal

pub loop-filter-preserved : goal.loop-filter-preserved
loop-filter-preserved c =
    let l = c.loop-filter in let f = c.in-Some.filter in
    let next = c.in-Some.ensures.steps.0 in (
      ordered_more l.map.entries c.insert.new.self.entries l.yielded l.filter-iterator.rest.items
          c.next.new.self.rest.items c.args.filters.items f c.requires l.invariant.0 l.invariant.1 next
          c.in_ok-insert.ensures.entries,
      append_assoc l.yielded (f ∷ []) c.next.new.self.rest.items
          ∙ ap (λ xs. l.yielded ++ xs) (sym next) ∙ l.invariant.1,
    )
