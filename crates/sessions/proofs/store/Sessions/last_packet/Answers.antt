-- A look-up in the key's slot is one among all entries.
use Rattle.std.proofs.Common.{ap, ◌∙◌, arith}
use Rattle.sessions.specs.Entries.{seen_in}
use Rattle.sessions.specs.Model.{entries_of}
use Rattle.sessions.proofs.Same.{slot_below}
use Rattle.sessions.proofs.Stores.{long, seen_at}
use Rattle.sessions.proofs.store.Sessions.last_packet.Goals as goal

pub index-requires : goal.index-requires
index-requires c = omega (arith, c.slot.ensures, slot_below c.args.key.now, (long c.args.self.now.slots c.args.self.now.filing.0).0)

pub returns : goal.returns
unfolding entries_of
returns c =
    c.find.ensures ∙ (ap (seen_in c.args.key.now) c.as_slice.ensures.value
    ∙ seen_at c.args.self.now.slots c.args.key.now c.slot.result c.index.result.now c.args.self.now.filing c.slot.ensures c.index.ensures)
