-- Those so far are posted.
use Rattle.std.proofs.Common.{◌≡◌, ◌++◌, map, take}
use Rattle.edge.specs.Posts.{mails_of}
use Rattle.edge.specs.Admission.{mail_in}
use Rattle.edge.proofs.send.send_all.Given as goal

abbrev pub invariant-loop-sent : goal.invariant-loop-sent
invariant-loop-sent l = mails_of l.out ≡ mails_of l.initial.out ++ map mail_in (take l.sent-index l.all)
