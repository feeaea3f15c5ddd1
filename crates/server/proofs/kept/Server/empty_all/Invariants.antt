-- What is done, and what the rule makes of the rest, is the whole; and there is room for the rest.
use Rattle.std.proofs.Common.{◌≡◌, ◌-◌, ◌*◌, ◌≤◌, ◌++◌, length, drop}
use Rattle.machine.specs.Outboxes.{sent_of, room_of}
use Rattle.server.specs.Kept.{keeping, sessions_of}
use Rattle.server.specs.Rules.{emptied_all}
use Rattle.server.proofs.kept.Server.empty_all.Given as goal

abbrev pub invariant-loop-name : goal.invariant-loop-name
invariant-loop-name l =
    (sent_of l.out ++ (emptied_all (drop l.name-index l.names) (sessions_of l.initial.self) (keeping l.self)).0
    ≡ sent_of l.initial.out ++ (emptied_all l.names (sessions_of l.initial.self) (keeping l.initial.self)).0)
    × ((emptied_all (drop l.name-index l.names) (sessions_of l.initial.self) (keeping l.self)).1 ≡ (emptied_all l.names (sessions_of l.initial.self) (keeping l.initial.self)).1)
    × (sessions_of l.self ≡ sessions_of l.initial.self)
    × (2 * (length l.names - l.name-index) ≤ room_of l.out)
