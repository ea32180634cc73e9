-- What the log of updates says of a response (this project's own; docs/OPERATING.md, "The logs of a server").
use Rattle.std.specs.Prelude.{◌≡◌, ◌/◌, option_copied, option_map, string_bytes}
use Rattle.ads.specs.Ends.{client_view}
use Rattle.serve_log.specs.declared.update.Update.{Update}
use Rattle.serve_log.specs.declared.update.Update.TheVariants as updates
use Rattle.serve_observe.specs.declared.gaps.Gaps.{Gaps}
use Rattle.serve_observe.specs.declared.responses.JudgedResponse.{JudgedResponse}
use Rattle.serve_observe.specs.declared.responses.RefusalCause.{RefusalCause}

-- the line of a response that was accepted: its version, its nonce, the client's generation and the whole milliseconds
abbrev pub SaysAccepted : JudgedResponse → Update → Type 0
SaysAccepted judged (updates.Accepted said) =
    (said.version.now ≡ string_bytes judged.judgement.now.version)
    × (said.nonce.now ≡ string_bytes judged.judgement.now.nonce)
    × (said.generation ≡ (client_view judged.client.now).accepted.generation)
    × (said.milliseconds ≡ judged.micros / 1000)
SaysAccepted judged said = ⊥

-- the line of a response that was refused: the same, and the part that has the fault
abbrev pub SaysRefused : JudgedResponse → RefusalCause → Update → Type 0
SaysRefused judged cause (updates.Refused said) =
    (said.version.now ≡ string_bytes judged.judgement.now.version)
    × (said.nonce.now ≡ string_bytes judged.judgement.now.nonce)
    × (said.generation ≡ (client_view judged.client.now).accepted.generation)
    × (said.milliseconds ≡ judged.micros / 1000)
    × (said.cause.now ≡ string_bytes cause.cause)
    × (said.filter ≡ cause.fault.filter)
    × (option_copied said.place ≡ option_map string_bytes cause.fault.part.place)
SaysRefused judged cause said = ⊥

-- the line of what an accepted response leaves open: its version, its nonce, the client's generation and the names
abbrev pub SaysIncomplete : JudgedResponse → Gaps → Update → Type 0
SaysIncomplete judged gaps (updates.Incomplete said) =
    (said.version.now ≡ string_bytes judged.judgement.now.version)
    × (said.nonce.now ≡ string_bytes judged.judgement.now.nonce)
    × (said.generation ≡ (client_view judged.client.now).accepted.generation)
    × (said.without_policies.now ≡ gaps.without_policies.items)
    × (said.unasked.now ≡ gaps.unasked.items)
SaysIncomplete judged gaps said = ⊥
