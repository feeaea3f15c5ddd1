-- One pair of digits after the other, and none left alone.
use Rattle.std.proofs.Common.{rules, ◌≡◌, ◌∷◌, [], ◌++◌, vec_items, sym, ap, ◌∙◌, Ok, Err, refl}
use Rattle.std.specs.Slice.Iter.{chunks_rest}
use Rattle.lines.specs.Lines.{onward, byte_in, bytes_from}
use Rattle.lines.proofs.Pairs.{pair_turn, none_left}
use Rattle.lines.proofs.hex.read_hex.Goals as goal

pub returns-in_err-byte : goal.returns-in_err-byte
returns-in_err-byte c =
    let t = pair_turn (vec_items c.loop-pair.bytes) (chunks_rest c.loop-pair.pair-iterator) c.in-Some.pair.now (chunks_rest c.next.new.self) (search rules) (search rules) (search rules) in
    let e : Err c.in_err-byte.field-0.0 ≡ byte_in c.in-Some.pair.now = search rules in
    rw (← c.loop-pair.invariant.1, t, ← e) (search rules)

pub loop-pair-preserved : goal.loop-pair-preserved
loop-pair-preserved c =
    let t = pair_turn (vec_items c.loop-pair.bytes) (chunks_rest c.loop-pair.pair-iterator) c.in-Some.pair.now (chunks_rest c.next.new.self) (search rules) (search rules) (search rules) in
    let e : Ok c.in_ok-byte.field-0 ≡ byte_in c.in-Some.pair.now = search rules in
    let more = t ∙ ap (onward (λ b. bytes_from (vec_items c.loop-pair.bytes ++ b ∷ []) (chunks_rest c.next.new.self))) (sym e) in
    (search rules, rw c.in_ok-push.ensures.items (sym more ∙ c.loop-pair.invariant.1))

pub returns : goal.returns
returns c =
    let end = none_left (vec_items c.loop-pair.bytes) (chunks_rest c.loop-pair.pair-iterator) (search rules) in
    rw (← c.loop-pair.invariant.1, end) refl
