use Rattle.std.proofs.Common.{◌≡◌, ◌∙◌, refl, string_bytes}
use Rattle.std.proofs.lemmas.Result.{IfOk-weaker}
use Rattle.proxy_replay.specs.Lines.{bytes_word}
use Rattle.proxy_replay.proofs.lines.line_text.Goals as goal

pub returns : goal.returns
returns c =
    let ads : string_bytes c.in_ok-ads.ads ≡ bytes_word c.args.output.now.ads.items =
    rw c.deref.ensures.value at c.in_ok-ads.ensures in
    let http : string_bytes c.in_ok-http.http ≡ bytes_word c.args.output.now.http.items =
    rw c.deref-2.ensures.value at c.in_ok-http.ensures in
    IfOk-weaker c.format.result _ _
    (λ text is. is ∙ rw (ads, http, c.end_text-ads_end.ensures, c.end_text-http_end.ensures) refl) c.format.ensures.ok
