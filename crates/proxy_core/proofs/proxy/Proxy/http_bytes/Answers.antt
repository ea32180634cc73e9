use Rattle.std.proofs.Common.{◌≡◌, Some, sym, true≢false, rules}
use Rattle.std.specs.Prelude.{is_none}
use Rattle.proxy_core.specs.Events.{http_output, output_view}
use Rattle.proxy_core.specs.Step.{front_at}
use Rattle.proxy_core.specs.Proxies.{proxy_view}
use Rattle.proxy_core.proofs.Parts.{answered_http, keeps_answered, not_none}
use Rattle.proxy_core.proofs.proxy.Proxy.http_bytes.Goals as goal

pub returns-in_err-keeps-clause-sure : goal.returns-in_err-keeps-clause-sure
returns-in_err-keeps-clause-sure c = λ none. absurd (true≢false (sym (c.in_err-keeps.ensures.sure none)))

pub returns-in_err-front-clause-sure : goal.returns-in_err-front-clause-sure
returns-in_err-front-clause-sure c = λ none.
    let there : front_at (proxy_view c.keeps.new.self) c.args.k ≡ Some c.in-Some.front.now = search rules in
    absurd (not_none (proxy_view c.args.self.now) (proxy_view c.keeps.new.self) c.args.k c.in-Some.front.now
    (rw c.if-branch.false at c.in_ok-keeps.ensures.kept) there none)

pub returns-in_err-http-clause-sure : goal.returns-in_err-http-clause-sure
returns-in_err-http-clause-sure c = λ none.
    let there : front_at (proxy_view c.keeps.new.self) c.args.k ≡ Some c.in_ok-front.front = search rules in
    absurd (not_none (proxy_view c.args.self.now) (proxy_view c.keeps.new.self) c.args.k c.in_ok-front.front
    (rw c.if-branch.false at c.in_ok-keeps.ensures.kept) there none)

pub returns-then-branch-clause-found : goal.returns-then-branch-clause-found
returns-then-branch-clause-found c =
    keeps_answered (proxy_view c.args.self.now) (proxy_view c.keeps.new.self) c.args.k c.args.bytes.now
    (output_view c.none.result) (rw c.if-branch.true at c.in_ok-keeps.ensures.kept) c.none.ensures

pub returns-clause-found : goal.returns-clause-found
returns-clause-found c =
    let there : front_at (proxy_view c.keeps.new.self) c.args.k ≡ Some c.in_ok-front.front = search rules in
    let reported : output_view c.on_http.result ≡ http_output c.in_ok-http.http.items (is_none c.in_ok-http.front) =
    search rules in
    answered_http (proxy_view c.args.self.now) (proxy_view c.keeps.new.self) (proxy_view c.put.new.self) c.args.k
    c.args.bytes.now c.in_ok-http.http.items c.in_ok-front.front c.in_ok-http.front c.in_ok-http.field-0-2.items
    (output_view c.on_http.result) (rw c.if-branch.false at c.in_ok-keeps.ensures.kept) there
    c.in_ok-http.ensures.found reported c.put.ensures.put
