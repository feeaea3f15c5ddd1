-- What a writer leaves. Assumes nothing.
use Rattle.std.specs.Prelude.{◌≡◌, ℕ, ◌<◌, ◌≤◌, cond, List, [], ◌∷◌, ◌++◌, length, is_ok, Ok, Err, Result, nat_lt}
use Rattle.std.specs.Borrow.{Bor}
use Rattle.fault.specs.declared.Fault.{Fault}
use Rattle.fault.specs.declared.Fault.TheVariants.{Malformed}
use Rattle.fault.specs.declared.Error.{Error}
use Rattle.fault.specs.declared.Error.TheVariants.{Of, Memory}
use Rattle.wire.specs.declared.message.Control.{Control}
use Rattle.wire.specs.Format.{Field, two, digits}
use Rattle.wire.specs.Messages.{formats, format_in, fields_of, control_kind}

-- the fields of a message about places
abbrev pub control_fields : Control → List Field
control_fields c = fields_of (format_in (control_kind c) formats)

-- bytes written behind what was there, or, where that failed, nothing
abbrev pub Appended : {T E : Type 0} → Result T E → List ℕ → List ℕ → List ℕ → Type 0
Appended r bytes was after = after ≡ cond (is_ok r) (was ++ bytes) was

-- the same of bytes with a packet inside, which are refused if the packet is too long for its length field
abbrev pub Written : List ℕ → List ℕ → Result (Unit {0}) Error → List ℕ → List ℕ → Type 0
Written inside bytes (Ok u) was after = (length inside < 65536) × (after ≡ was ++ bytes)
Written inside bytes (Err Memory) was after = after ≡ was
Written inside bytes (Err (Of f)) was after = (65536 ≤ length inside) × (f ≡ Malformed) × (after ≡ was)

-- parts one behind the other
abbrev pub together : List (Bor (List ℕ)) → List ℕ
together [] = []
together (part ∷ parts) = part.now ++ together parts

-- the length field of a packet
abbrev pub length_bytes : List ℕ → Result (List ℕ) Fault
length_bytes inside = cond (nat_lt (length inside) 65536) (Ok (digits two (length inside))) (Err Malformed)
