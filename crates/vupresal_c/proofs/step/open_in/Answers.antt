use Rattle.std.proofs.Common.{◌≡◌, Some, inl, subst, arith, to_z, of_z, to_z-of_z, w32}
use Rattle.attributes.specs.Conn.{Facts}
use Rattle.proxy_core.specs.Events.{http_open}
use Rattle.vupresal_c.specs.Steps.{StepsTo}
use Rattle.vupresal_c.proofs.step.open_in.Goals as goal

pub returns-in-Ok : goal.returns-in-Ok
returns-in-Ok c =
    let same : to_z w32 (of_z w32 c.step_core.result) ≡ c.step_core.result = grind (arith, to_z-of_z) in
    rw same (inl (
      c.in-Ok.ensures.accepted,
      subst (λ (f : Facts). StepsTo (Some c.args.core.now) (http_open c.args.number f)
          c.step_core.result c.step_core.new.given (Some c.step_core.new.core)) c.in-Ok.ensures.found c.step_core.ensures,
    ))
