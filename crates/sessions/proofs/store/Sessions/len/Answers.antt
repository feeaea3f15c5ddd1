-- The number kept is that of the entries.
use Rattle.sessions.specs.Model.{entries_of}
use Rattle.sessions.proofs.store.Sessions.len.Goals as goal

pub returns : goal.returns
unfolding entries_of
returns c = c.args.self.now.number.0
