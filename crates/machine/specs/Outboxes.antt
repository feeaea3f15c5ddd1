-- What a step sends, and the room that is left for more. Assumes nothing.
use Rattle.std.specs.Prelude.{ℕ, ◌-◌, List, vec_items, vec_len, vec_capacity}
use Rattle.machine.specs.declared.outbox.Outbox.{Outbox}
use Rattle.machine.specs.declared.sent.Sent.{Sent}

abbrev pub sent_of : Outbox → List Sent
sent_of o = vec_items o.sent

abbrev pub room_of : Outbox → ℕ
room_of o = vec_capacity o.sent - vec_len o.sent
