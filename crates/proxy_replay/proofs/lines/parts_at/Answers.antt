-- Where a member is not given, no event of the kind is.
use Rattle.std.proofs.Common.{◌≡◌, ◌∙◌, ℕ, List}
use Rattle.std.proofs.lemmas.Result.{err_from_is_err_and}
use Rattle.attributes.specs.Conn.{Facts}
use Rattle.proxy_core.specs.Events.{EventValue, ads_up, ads_bytes, ads_lost, http_open, http_bytes, http_closed}
use Rattle.serde_json.specs.Data.{Data}
use Rattle.serde_json.specs.View.{view}
use Rattle.proxy_replay.specs.Lines.{HasFacts, HasHex, HasParts, kind_of}
use Rattle.proxy_replay.specs.declared.lines.EventKind.{EventKind}
use Rattle.proxy_replay.proofs.lines.parts_at.Goals as goal

module _ (d : Data) where
  -- bytes for the update stream are given in `hex`
  of_stream : (e : EventValue) → kind_of e ≡ EventKind.AdsBytes → HasParts d e → (bytes : List ℕ) × HasHex d bytes
  of_stream ads_up same parts = absurd (let clash = same in cc)
  of_stream (ads_bytes bytes) same parts = (bytes, parts)
  of_stream ads_lost same parts = absurd (let clash = same in cc)
  of_stream (http_open k facts) same parts = absurd (let clash = same in cc)
  of_stream (http_bytes k bytes) same parts = absurd (let clash = same in cc)
  of_stream (http_closed k) same parts = absurd (let clash = same in cc)

  -- and so are those for a connection
  of_connection : (e : EventValue) → kind_of e ≡ EventKind.HttpBytes → HasParts d e → (bytes : List ℕ) × HasHex d bytes
  of_connection ads_up same parts = absurd (let clash = same in cc)
  of_connection (ads_bytes bytes) same parts = absurd (let clash = same in cc)
  of_connection ads_lost same parts = absurd (let clash = same in cc)
  of_connection (http_open k facts) same parts = absurd (let clash = same in cc)
  of_connection (http_bytes k bytes) same parts = (bytes, parts.1)
  of_connection (http_closed k) same parts = absurd (let clash = same in cc)

  -- what opens has its facts in `facts`
  of_opened : (e : EventValue) → kind_of e ≡ EventKind.HttpOpen → HasParts d e → (facts : Facts) × HasFacts d facts
  of_opened ads_up same parts = absurd (let clash = same in cc)
  of_opened (ads_bytes bytes) same parts = absurd (let clash = same in cc)
  of_opened ads_lost same parts = absurd (let clash = same in cc)
  of_opened (http_open k facts) same parts = (facts, parts.1)
  of_opened (http_bytes k bytes) same parts = absurd (let clash = same in cc)
  of_opened (http_closed k) same parts = absurd (let clash = same in cc)

pub returns-in_err-hex_at-in-AdsBytes-clause-fault : goal.returns-in_err-hex_at-in-AdsBytes-clause-fault
returns-in_err-hex_at-in-AdsBytes-clause-fault c =
    let p = err_from_is_err_and c.from_residual.result c.from_residual.ensures.1 in
    rw (p.1, p.2) (λ bad event same parts.
    let reported = of_stream (view c.args.value.now) event (same ∙ c.in-AdsBytes.is) parts in
    c.in_err-hex_at-in-AdsBytes.ensures.fault bad reported.0 reported.1)

pub returns-in_err-conn-in-HttpOpen-clause-fault : goal.returns-in_err-conn-in-HttpOpen-clause-fault
returns-in_err-conn-in-HttpOpen-clause-fault c =
    let p = err_from_is_err_and c.from_residual-in_err-conn-in-HttpOpen.result c.from_residual-in_err-conn-in-HttpOpen.ensures.1 in
    rw (p.1, p.2) (λ bad event same parts.
    let reported = of_opened (view c.args.value.now) event (same ∙ c.in-HttpOpen.is) parts in
    c.in_err-conn-in-HttpOpen.ensures.fault bad reported.0 reported.1)

pub returns-in_err-bytes-in-HttpBytes-clause-fault : goal.returns-in_err-bytes-in-HttpBytes-clause-fault
returns-in_err-bytes-in-HttpBytes-clause-fault c =
    let p = err_from_is_err_and c.from_residual-in_err-bytes-in-HttpBytes.result c.from_residual-in_err-bytes-in-HttpBytes.ensures.1 in
    rw (p.1, p.2) (λ bad event same parts.
    let reported = of_connection (view c.args.value.now) event (same ∙ c.in-HttpBytes.is) parts in
    c.in_err-bytes-in-HttpBytes.ensures.fault bad reported.0 reported.1)
