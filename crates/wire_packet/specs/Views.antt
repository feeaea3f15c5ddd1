-- What a reader's parts have read, as the values of fields. Assumes nothing.
use Rattle.std.specs.Prelude.{ℕ, Bool, cond, List, [], ◌∷◌, length, Some, None, Ok, Err, Option, Result, ◌==◌}
use Rattle.std.specs.Borrow.{Bor}
use Rattle.fault.specs.declared.Fault.{Fault}
use Rattle.fault.specs.declared.Fault.TheVariants.{Malformed}
use Rattle.chain.specs.declared.way.Link.{Link}
use Rattle.chain.specs.declared.way.Way.{Way}
use Rattle.chain.specs.Ways.{way_number}
use Rattle.wire.specs.declared.message.At.{At}
use Rattle.wire.specs.declared.message.Unread.{Unread}
use Rattle.wire_packet.specs.declared.Course.{Course}
use Rattle.wire_packet.specs.declared.Course.TheVariants.{Up, Down, Asked}
use Rattle.wire.specs.Formats.{asker_of, opens_byte}

-- a number, and the bytes behind it
abbrev pub shown : {N : Type 0} → (N → ℕ) → Result (N × Bor (List ℕ)) Fault → Result (ℕ × List ℕ) Fault
shown number (Ok p) = Ok (number p.0, p.1.now)
shown number (Err f) = Err f

-- a bucket and a place, and the bytes behind them
abbrev pub shown_at : Result (At × Bor (List ℕ)) Fault → Result (List ℕ × List ℕ) Unread
shown_at (Ok p) = Ok (p.0.bucket ∷ p.0.place ∷ [], p.1.now)
shown_at (Err f) = Err (record { fault = f; at = None })

-- who began to ask, behind a bucket, a place and a way, and the bytes behind it
abbrev pub shown_asker : At → ℕ → Result (Link × Bor (List ℕ)) Fault → Result (List ℕ × List ℕ) Unread
shown_asker at way (Ok p) = Ok (at.bucket ∷ at.place ∷ way ∷ p.0.place ∷ p.0.server ∷ [], p.1.now)
shown_asker at way (Err f) = Err (record { fault = f; at = Some at })

abbrev pub shown_way : At → Result (Way × Bor (List ℕ)) Fault → Result (List ℕ × List ℕ) Unread
shown_way at (Ok p) = Ok (at.bucket ∷ at.place ∷ way_number p.0 ∷ (asker_of p.0).place ∷ (asker_of p.0).server ∷ [], p.1.now)
shown_way at (Err f) = Err (record { fault = f; at = Some at })

abbrev pub shown_opens : Result (Bool × Bor (List ℕ)) Fault → Result (ℕ × List ℕ) Fault
shown_opens (Ok p) = Ok (opens_byte p.0, p.1.now)
shown_opens (Err f) = Err f

-- the number of a way
abbrev pub course_number : Course → ℕ
course_number Up = 1
course_number Down = 2
course_number Asked = 3

abbrev pub course_numbered : ℕ → Option Course
course_numbered n = cond (n == 1) (Some Up) (cond (n == 2) (Some Down) (cond (n == 3) (Some Asked) None))

-- bytes lent on
abbrev pub shown_bytes : Result (Bor (List ℕ)) Fault → Result (List ℕ) Fault
shown_bytes (Ok p) = Ok p.now
shown_bytes (Err f) = Err f

-- bytes behind their length
abbrev pub sized : Result (ℕ × List ℕ) Fault → Result (List ℕ) Fault
sized (Ok p) = cond (length p.1 == p.0) (Ok p.1) (Err Malformed)
sized (Err f) = Err f
