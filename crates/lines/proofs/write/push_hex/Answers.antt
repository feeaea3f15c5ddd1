-- One byte after the other, in the room that was made.
use Rattle.std.proofs.Common.{vec_items, arith}
use Rattle.lines.proofs.Texts.{byte_turn}
use Rattle.lines.proofs.write.push_hex.Goals as goal

pub loop-byte-preserved : goal.loop-byte-preserved
loop-byte-preserved c =
    let inv = c.loop-byte.invariant in
    let more = c.in_ok-extend_from_slice.ensures in (
      byte_turn (vec_items c.reserve.new.self) (vec_items c.loop-byte.out) (vec_items c.extend_from_slice.new.self) c.args.bytes.now c.loop-byte.byte-index (omega arith) inv.0
          (rw (← c.hex_digit.ensures, ← c.hex_digit-in-loop-byte.ensures) more.items),
      omega (arith, inv.1, more.len),
      omega (arith, inv.2, more.capacity),
    )

pub returns-clause-room : goal.returns-clause-room
returns-clause-room c =
    let inv = c.loop-byte.invariant in
    omega (arith, inv.1, inv.2, c.in_ok-reserve.ensures.ok, c.loop-byte-test.false)
