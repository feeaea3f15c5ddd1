-- The masks are remainders, and the tests those of the definition.
use Rattle.std.proofs.Common.{length, get_or, inl, inr, arith}
use Rattle.std.proofs.lemmas.Nat.{and_mask}
use Rattle.std.proofs.lemmas.Bool.{cases_Bool}
use Rattle.flow.proofs.Heads.{whole, is_whole, not_whole}
use Rattle.flow.specs.Ipv4.{version, head_length, total_length, fragment_offset}
use Rattle.flow.proofs.ipv4.head_length.Goals as goal

pub returns-then-packet-ne4 : goal.returns-then-packet-ne4
returns-then-packet-ne4 c =
    let bs = c.args.packet.now in
    let m = and_mask (get_or bs 0 0) 4 in
    let o = and_mask c.from_be_bytes-offset.result 13 in
    elim (cases_Bool (whole (length bs) (version bs) (head_length bs) (total_length bs) (fragment_offset bs))) [
      | inl t ↦ let w = not_whole (length bs) (version bs) (head_length bs) (total_length bs) (fragment_offset bs) t in absurd (grind arith)
      | inr f ↦ rw f
    ]

pub returns : goal.returns
returns c =
    let bs = c.args.packet.now in
    let m = and_mask (get_or bs 0 0) 4 in
    let o = and_mask c.from_be_bytes-offset.result 13 in
    let t = is_whole (length bs) (version bs) (head_length bs) (total_length bs) (fragment_offset bs) (omega arith) (omega arith) (omega arith) (omega arith) (omega arith) (omega arith) in
    rw (m, t)
