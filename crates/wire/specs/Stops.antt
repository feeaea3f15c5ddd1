-- A fault, and how far a reader had come when it met it. Assumes nothing.
use Rattle.std.specs.Prelude.{None, Ok, Err, Option, Result}
use Rattle.fault.specs.declared.Fault.{Fault}
use Rattle.wire.specs.declared.message.At.{At}
use Rattle.wire.specs.declared.message.Unread.{Unread}

abbrev pub located : {A : Type 0} → Option At → Result A Fault → Result A Unread
located at (Ok x) = Ok x
located at (Err f) = Err (record { fault = f; at = at })

-- before bucket and place are read
abbrev pub unplaced : Fault → Unread
unplaced f = record { fault = f; at = None }
