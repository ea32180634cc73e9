use Rattle.http_front.proofs.head.Head.lines.Goals as goal

pub lower_lines-requires-clause-texts : goal.lower_lines-requires-clause-texts
lower_lines-requires-clause-texts c = rw (← c.self.view_is) at c.requires.fields
