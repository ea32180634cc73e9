-- What a pipe keeps, as a line, and what of it is unread.
use Rattle.std.specs.Prelude.{◌-◌}
use Rattle.http2.specs.declared.pipe.Pipe.{Pipe}
use Rattle.http2.specs.Trail.{Line, Unread}

-- what a pipe keeps
abbrev pub line : Pipe → Line
line p = record {
  number = p.number;
  rest = p.rest;
  data_in = p.data_in;
  out = p.out;
  window = p.window;
  stream = p.stream;
  connection = p.connection;
  used = p.used;
  stream_credit = p.credit;
  connection_credit = p.credit - p.others;
  finished = p.finished;
  waits = p.waits;
}

-- what of it is unread, and the windows
abbrev pub unread : Pipe → Unread
unread p = record {
  number = p.number;
  rest = p.rest;
  window = p.window;
  stream = p.stream;
  connection = p.connection;
  used = p.used;
  credit = p.credit - p.others;
}
