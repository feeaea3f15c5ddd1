-- A message about a place is read by the format of its topic, as such or as an answer.
use Rattle.std.proofs.Common.{ap}
use Rattle.std.proofs.lemmas.Result.{err_from_is_err_and}
use Rattle.wire.specs.Meant.{Said, Answered}
use Rattle.wire.specs.Kinds.{kind_format}
use Rattle.wire_read.proofs.ByKind.{by_topic}
use Rattle.wire_read.proofs.read_kind.Goals as goal

pub returns-in_ok-read_control-in-Control : goal.returns-in_ok-read_control-in-Control
returns-in_ok-read_control-in-Control c =
    by_topic Said c.in-Control.topic _ _ c.args.buckets.count c.args.bytes.now _ _ (ap kind_format c.in-Control.is) c.in_ok-try_from.ensures c.in_ok-number.ensures
    c.in_ok-read_control-in-Control.ensures

pub returns-in_err-read_control-in-Control : goal.returns-in_err-read_control-in-Control
returns-in_err-read_control-in-Control c =
    let p = err_from_is_err_and c.from_residual-in_err-read_control-in-Control.result c.from_residual-in_err-read_control-in-Control.ensures.1 in
    rw (p.1, p.2)
    (by_topic Said c.in-Control.topic _ _ c.args.buckets.count c.args.bytes.now _ _ (ap kind_format c.in-Control.is) c.in_ok-try_from.ensures c.in_ok-number.ensures
    c.in_err-read_control-in-Control.ensures)

pub returns-in_ok-read_control-in-Answer : goal.returns-in_ok-read_control-in-Answer
returns-in_ok-read_control-in-Answer c =
    by_topic Answered c.in-Answer.topic _ _ c.args.buckets.count c.args.bytes.now _ _ (ap kind_format c.in-Answer.is) c.in_ok-try_from.ensures c.in_ok-number.ensures
    c.in_ok-read_control-in-Answer.ensures

pub returns-in_err-read_control-in-Answer : goal.returns-in_err-read_control-in-Answer
returns-in_err-read_control-in-Answer c =
    let p = err_from_is_err_and c.from_residual-in_err-read_control-in-Answer.result c.from_residual-in_err-read_control-in-Answer.ensures.1 in
    rw (p.1, p.2)
    (by_topic Answered c.in-Answer.topic _ _ c.args.buckets.count c.args.bytes.now _ _ (ap kind_format c.in-Answer.is) c.in_ok-try_from.ensures c.in_ok-number.ensures
    c.in_err-read_control-in-Answer.ensures)
