-- How much of an input is read, and what is found in it.
use Rattle.std.specs.Prelude.{◌≡◌, ◌≢◌, ◌≤◌, ◌++◌, ℕ, List, [], Option, IfNone, length}
use Rattle.std.specs.Io.KnownBytes.{Consumes, IsAtEnd}
use Rattle.attributes.specs.Conn.{Facts}
use Rattle.attributes.specs.Limits.{LimitsValue}
use Rattle.http_front.specs.Asks.{HasFault, HeadAsks, IfFault, IfJudge, IsUnfinished}
use Rattle.http_front.specs.Front.{FrontValue, fed_front}
use Rattle.http_front.specs.declared.ask.Ask.{Ask}
use Rattle.http_front.specs.declared.ask.Ask.TheVariants as asks
use Rattle.http_front.specs.declared.read.HeadAsk.{HeadAsk}
use Rattle.http_front.specs.declared.read.HeadAsk.TheVariants.{Judge, Fault}

-- the found ask is that of the head that the bytes begin with; if there is none, the bytes end before the head does
pub record IsFound (limits : LimitsValue) (facts : Facts) (bytes : List ℕ) (found : Option HeadAsk)
    : Type 0 where
  pub judged : IfJudge found (HeadAsks bytes limits facts)
  pub fault : IfFault found (HasFault bytes limits facts)
  pub none : IfNone found (IsUnfinished bytes)

-- the last read took at most 4,096 bytes. If it took any, the bytes before it left their head unfinished
pub record IsJustEnough (bytes : List ℕ) : Type 0 where
  pub before : List ℕ
  pub last : List ℕ
  pub whole : bytes ≡ before ++ last
  pub few : length last ≤ 4096
  pub needed : last ≢ [] → IsUnfinished before

-- the ask without whether its connection closes
abbrev pub head_ask : Ask → HeadAsk
head_ask (asks.Judge request close) = Judge request
head_ask (asks.Fault fault) = Fault fault

-- `n` bytes of the input were fed to the front; `n` is 0 only at the end of the input
pub record Feeds (old new : FrontValue) (input input_new : Option (List ℕ)) (n : ℕ) : Type 0 where
  pub chunk : List ℕ
  pub front : new ≡ fed_front old chunk
  pub count : n ≡ length chunk
  pub few : n ≤ 4096
  pub taken : Consumes input input_new chunk
  pub end : n ≡ 0 → IsAtEnd input_new
