use Rattle.std.proofs.Common.{◌≡◌, ◌++◌, arith, rules}
use Rattle.http2.specs.Trail.{preface, settings_frame, window_frame}
use Rattle.http2.proofs.Keeping.{law_connected}
use Rattle.http2.proofs.pipe.Pipe.new.Goals as goal

pub returns-clause-law : goal.returns-clause-law
returns-clause-law c =
    let e = c.in_ok-pipe.ensures in
    let out : c.in_ok-pipe.pipe.out ≡ preface ++ settings_frame ++ window_frame = search rules in
    law_connected _ e.begins.0 e.empty.0 e.empty.1 out e.windows.0 e.windows.1 e.windows.2 e.windows.3 e.credits.0
    (omega (arith, e.credits.0, e.credits.1)) e.begins.1 e.begins.2
