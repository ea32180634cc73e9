-- By the stream.
use Rattle.serve_core.proofs.events.got.Goals as goal

pub update-requires-clause-none : goal.update-requires-clause-none
update-requires-clause-none c = c.requires.none c.in-Updates.is

pub returns-in-Place-clause-turn : goal.returns-in-Place-clause-turn
returns-in-Place-clause-turn c = rw c.in-Place.is c.receive.ensures.turn

pub returns-in-Place-clause-tells : goal.returns-in-Place-clause-tells
returns-in-Place-clause-tells c = rw c.in-Place.is c.receive.ensures.tells

pub returns-in-Updates-clause-turn : goal.returns-in-Updates-clause-turn
returns-in-Updates-clause-turn c = rw c.in-Updates.is c.update.ensures.turn

pub returns-in-Updates-clause-tells : goal.returns-in-Updates-clause-tells
returns-in-Updates-clause-tells c = rw c.in-Updates.is c.update.ensures.tells
