-- The test of the code is that of the definition.
use Rattle.sessions.proofs.Same.{equal}
use Rattle.sessions.proofs.entry.Entry.is_of.Goals as goal

pub returns : goal.returns
returns c = rw (equal c.args.self.now.key c.args.key.now) at c.eq.ensures
