-- The first bytes of those that wait were sent.
use Rattle.std.proofs.Common.{◌≡◌, ℕ, List, ◌∷◌, length, take, sym, ap, ◌∙◌}
use Rattle.std.proofs.Math.Logic.{∥∥₁_elim, ∥∥₁_map}
use Rattle.std.specs.Coded.{coded_list, coded_ℕ}
use base.Stored.{Coded-set}
use Rattle.serve_loop.specs.History.{gave, waiting_at}
use Rattle.rbac_serve.specs.Workers.{worker_view}
use Rattle.serve_core.specs.Turns.{ServerTurn, waits_for}
use Rattle.serve_core.proofs.Driving.{driven_more, places_of, room_means, waits_more}
use Rattle.serve_core.proofs.worker_service.WorkerService.give.Goals as goal

pub sent_of-requires : goal.sent_of-requires
sent_of-requires c =
    let here : waiting_at c.args.stream c.args.self.now.trace.turns ≡ waits_for c.args.stream (worker_view c.args.self.now.worker) =
    ∥∥₁_elim c.args.self.now.waits (Coded-set (coded_list coded_ℕ) _ _) (λ waits. waits c.args.stream) in
    rw here at c.requires

pub invariant_of-self : goal.invariant_of-self
invariant_of-self c =
    let old = c.args.self.now in
    let new = worker_view c.sent_of.new.worker in
    let turn : ServerTurn = gave c.args.stream (take c.args.count (waits_for c.args.stream (worker_view old.worker))) in
    record {
      driven = ∥∥₁_map old.driven (λ driven. rw (c.then-self.ensures, c.unsent_of.ensures)
          (driven_more turn old.trace.turns (worker_view old.worker) new c.sent_of.ensures driven));
      waits = ∥∥₁_map old.waits (λ waits. rw (c.then-self.ensures, c.unsent_of.ensures)
          (waits_more old.trace.turns (worker_view old.worker) new waits (places_of old.worker) turn c.sent_of.ensures));
      first_is = ∥∥₁_map old.first_is (λ first. rw c.then-self.ensures first);
      shows = ∥∥₁_map old.shows (λ shows. rw c.then-self.ensures shows);
      roomy = ∣ room_means new.requests c.room_of-self.result c.room_of-self.ensures.waits ∣₁;
    }

pub returns : goal.returns
returns c =
    let old = c.args.self.now in
    let here : waits_for c.args.stream (worker_view old.worker) ≡ waiting_at c.args.stream old.trace.turns =
    ∥∥₁_elim old.waits (Coded-set (coded_list coded_ℕ) _ _) (λ waits. sym (waits c.args.stream)) in (
      c.then-self.ensures
          ∙ ap (λ (l : List ℕ). gave c.args.stream (take c.args.count l) ∷ old.trace.turns) (c.unsent_of.ensures ∙ here),
      rw here at c.sent_of.ensures,
    )
