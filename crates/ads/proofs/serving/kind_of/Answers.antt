use Rattle.std.proofs.Common.{◌≡◌, rules, tests, length}
use Rattle.ads.specs.Answer.{extension_type}
use Rattle.ads.proofs.ServingLemmas.{no_bytes}
use Rattle.ads.proofs.serving.kind_of.Goals as goal

pub returns-then-is_empty : goal.returns-then-is_empty
returns-then-is_empty c =
    let none : length c.args.request.now.response_nonce.now ≡ 0 = search (rules, tests) in
    let type_url : c.args.request.now.type_url.now ≡ extension_type = search (rules, tests) in
    record { type_url = type_url; nonce = no_bytes c.args.request.now.response_nonce.now none; last = c.in_default.is }
