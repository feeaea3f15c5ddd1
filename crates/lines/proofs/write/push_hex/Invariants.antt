-- What is written so far: the digits of the bytes before, in the room that was made.
use Rattle.std.proofs.Common.{◌≡◌, ◌+◌, ◌*◌, ◌≤◌, ◌++◌, take, vec_items, vec_len, vec_capacity}
use Rattle.lines.specs.Lines.{hex_text}
use Rattle.lines.proofs.write.push_hex.Given as goal

abbrev pub invariant-loop-byte : goal.invariant-loop-byte
invariant-loop-byte l =
    (vec_items l.out ≡ vec_items l.initial.out ++ hex_text (take l.byte-index l.bytes)) × (vec_len l.out ≡ vec_len l.initial.out + 2 * l.byte-index)
    × (vec_capacity l.initial.out ≤ vec_capacity l.out)
