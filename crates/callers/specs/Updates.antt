-- What a client of an update stream makes of further bytes: xDS REST and gRPC protocol, "ACK and NACK".
use Rattle.std.specs.Prelude.{ℕ, List, Option, is_some}
use Rattle.ads.specs.Client.{ClientValue, Feeds}
use Rattle.ads.specs.Judgements.{ReportsJudgementsBy}
use Rattle.ads.specs.declared.ended.Ended.{Ended}
use Rattle.ads.specs.declared.judgement.Judgement.{Judgement}

-- bytes arrive: the replies to the responses, why no stream is up afterwards (none if one is up), and the client then
abbrev pub IsFed : ClientValue → List ℕ → List ℕ → Option Ended → ClientValue → Type 0
IsFed old bytes replies ended new = (versions : List (List ℕ)) × (judgements : List Judgement)
    × Feeds old bytes replies (is_some ended) versions new
    × ReportsJudgementsBy old.stream old bytes replies judgements ended new
