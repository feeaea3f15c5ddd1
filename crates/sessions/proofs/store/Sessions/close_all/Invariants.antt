-- The names so far are taken out.
use Rattle.std.proofs.Common.{◌≡◌, take, fold}
use Rattle.sessions.specs.Entries.{without}
use Rattle.sessions.specs.Model.{entries_of}
use Rattle.sessions.proofs.store.Sessions.close_all.Given as goal

abbrev pub invariant-loop-key : goal.invariant-loop-key
invariant-loop-key l = entries_of l.self ≡ fold (λ es k. without k es) (entries_of l.initial.self) (take l.key-index l.names)
