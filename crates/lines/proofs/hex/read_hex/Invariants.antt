-- The digits that are left give the bytes.
use Rattle.std.proofs.Common.{◌≡◌, [], vec_items}
use Rattle.std.specs.Slice.Iter.{chunks_size, chunks_rest}
use Rattle.lines.specs.Lines.{bytes_from}
use Rattle.lines.proofs.hex.read_hex.Given as goal

abbrev pub invariant-loop-pair : goal.invariant-loop-pair
invariant-loop-pair l = (chunks_size l.pair-iterator ≡ 2) × (bytes_from (vec_items l.bytes) (chunks_rest l.pair-iterator) ≡ bytes_from [] l.digits)
