-- A fault of the may-open byte, or of the length, stops the reading of the packet.
use Rattle.std.proofs.Common.{sym, ◌∙◌}
use Rattle.std.proofs.lemmas.Result.{err_from_is_err_and}
use Rattle.wire.specs.Format.{two, number_in}
use Rattle.wire_packet.proofs.Fields.{behind_way, length_stops}
use Rattle.wire_packet.proofs.read_carried.Goals as goal

pub returns-in_err-opens : goal.returns-in_err-opens
returns-in_err-opens c =
    let p = err_from_is_err_and c.from_residual-in_err-opens.result c.from_residual-in_err-opens.ensures.1 in
    let whole = behind_way c.args.buckets.count c.args.at.bucket c.args.at.place c.args.bytes.now _ _ c.in_ok-way.ensures in
    rw (p.1, p.2) (rw (sym c.in_err-opens.ensures) at whole)

pub returns-in_err-inside : goal.returns-in_err-inside
returns-in_err-inside c =
    let p = err_from_is_err_and c.from_residual-in_err-inside.result c.from_residual-in_err-inside.ensures.1 in
    let whole = behind_way c.args.buckets.count c.args.at.bucket c.args.at.place c.args.bytes.now _ _ c.in_ok-way.ensures in
    rw (p.1, p.2)
    (length_stops c.args.buckets.count c.args.at.bucket c.args.at.place _ _ _ _ _ (number_in two c.in_ok-opens.rest.now) c.in_err-inside.ensures
    ∙ rw (sym c.in_ok-opens.ensures) at whole)
