-- What is written, with what is still to be written, is the whole; and what was there is in front.
use Rattle.std.proofs.Common.{◌≡◌, ◌++◌, length, take, drop}
use Rattle.wire_write.specs.Writes.{together}
use Rattle.wire_write.proofs.append.Given as goal

abbrev pub invariant-loop-part : goal.invariant-loop-part
invariant-loop-part l =
    (l.start ≡ length l.fn.out.items) × (take l.start l.out.items ≡ l.fn.out.items)
    × (l.out.items ++ together (drop l.part-index l.fn.parts) ≡ l.fn.out.items ++ together l.fn.parts)
