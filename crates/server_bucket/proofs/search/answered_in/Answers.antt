-- None is there.
use Rattle.std.proofs.Common.{rules}
use Rattle.server_bucket.proofs.Settled.{answered_none}
use Rattle.server_bucket.proofs.search.answered_in.Goals as goal

pub returns-in_default-clause-items : goal.returns-in_default-clause-items
returns-in_default-clause-items g c = answered_none c.args.place c.args.after c.args.by c.args.farewells.now.items (search rules)
