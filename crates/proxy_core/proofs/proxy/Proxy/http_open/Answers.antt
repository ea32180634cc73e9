use Rattle.std.proofs.Common.{◌≡◌, [], inl, inr, length, sym, true≢false, arith, rules}
use Rattle.std.specs.Prelude.{is_none}
use Rattle.proxy_core.specs.Events.{http_output, output_view}
use Rattle.proxy_core.specs.Step.{in_place}
use Rattle.proxy_core.proofs.proxy.Proxy.http_open.Goals as goal

pub returns-in_err-front-clause-sure : goal.returns-in_err-front-clause-sure
returns-in_err-front-clause-sure c =
    let n : length c.args.self.now.conns ≡ 8 = search rules in λ nothing. elim nothing [
      | inl past ↦ absurd (omega (arith, n, past, c.if-k-ge-PLACES.false))
      | inr not ↦ absurd (true≢false (sym (c.in_err-front.ensures.unfit not)))
    ]

pub returns-clause-found : goal.returns-clause-found
returns-clause-found c =
    let n : length c.args.self.now.conns ≡ 8 = search rules in
    let reported : output_view c.on_http.result ≡ http_output [] (is_none c.in_ok-front.front) = search rules in
    in_place c.in_ok-front.front (omega (arith, n, c.if-k-ge-PLACES.false)) c.in_ok-front.ensures.found
    reported c.put.ensures.put
