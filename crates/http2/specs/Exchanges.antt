-- An exchange of the code, as the definitions see it.
use Rattle.std.specs.Prelude.{Bool, true, false}
use Rattle.http2.specs.Servings.{block_view}
use Rattle.http2.specs.StreamViews.{call_view}
use Rattle.http2.specs.Exchange.{ExchangeValue, Turn, on, over, quiet, resets, asks}
use Rattle.http2.specs.declared.exchange.Exchange.{Exchange}
use Rattle.http2.specs.declared.news.News.{News}
use Rattle.http2.specs.declared.news.News.TheVariants as news

-- the exchange that one of the code means
abbrev pub exchange_view : Exchange → ExchangeValue
exchange_view e = record {
  settled = e.settled;
  unfinished = e.unfinished;
  ends = e.ends;
  block = block_view e.block;
  last = e.last;
  streams = e.streams;
  resets = e.resets;
  window = e.window;
  raised = e.raised;
  used = e.used;
  credit = e.credit;
  most = e.most;
}

-- the turn that news of the code mean, with the exchange after it
abbrev pub turn_of : News → ExchangeValue → Turn
turn_of news.Quiet c = on c quiet
turn_of (news.Resets r) c = on c (resets r.stream r.code)
turn_of (news.Asks call) c = on c (asks (call_view call))
turn_of (news.Over fault) c = over fault

-- whether the connection is over
abbrev pub is_over : News → Bool
is_over news.Quiet = false
is_over (news.Resets r) = false
is_over (news.Asks call) = false
is_over (news.Over fault) = true
