-- What a reader's parts have read behind a place. Assumes nothing.
use Rattle.std.specs.Prelude.{ℕ, cond, List, [], ◌∷◌, length, Ok, Err, Option, Result, ◌==◌, slice_index}
use Rattle.fault.specs.declared.Fault.{Fault}
use Rattle.fault.specs.declared.Fault.TheVariants.{Malformed}
use Rattle.chain.specs.declared.way.Link.{Link}
use Rattle.wire.specs.declared.message.At.{At}
use Rattle.wire.specs.declared.message.Unread.{Unread}
use Rattle.wire.specs.Format.{Field, read_fields, ended}
use Rattle.wire.specs.Formats.{fixed, reached, link_of, link_or_none}

-- a number, and nothing behind it
abbrev pub alone : Result (ℕ × List ℕ) Fault → Result ℕ Fault
alone (Ok p) = cond (length p.1 == 0) (Ok p.0) (Err Malformed)
alone (Err f) = Err f

-- the fields behind a bucket and a place, and nothing behind them
abbrev pub read_rest : {A : Type 0} → (List ℕ → A) → List Field → At → List ℕ → Result A Unread
read_rest means fs at bs = ended (fixed reached fs means) 0 (read_fields reached 0 fs (at.bucket ∷ at.place ∷ []) bs)

-- the neighbour behind them, and one that may be missing
abbrev pub link_behind : List ℕ → Link
link_behind vs = link_of (slice_index vs 2) (slice_index vs 3)

abbrev pub link_before : List ℕ → Option Link
link_before vs = link_or_none (slice_index vs 2) (slice_index vs 3)
