-- One name after the other.
use Rattle.std.proofs.Common.{fold, sym, ap, ◌∙◌, arith}
use Rattle.std.proofs.lemmas.List.{take_all}
use Rattle.std.proofs.lemmas.List.Sums.{fold_more}
use Rattle.sessions.specs.Entries.{without}
use Rattle.sessions.specs.Model.{entries_of}
use Rattle.sessions.proofs.store.Sessions.close_all.Goals as goal

pub loop-key-preserved : goal.loop-key-preserved
loop-key-preserved c =
    c.close.ensures.rest ∙ (ap (without _) c.loop-key.invariant
    ∙ sym (fold_more (λ es k. without k es) (entries_of c.args.self.now) c.args.names.now c.loop-key.key-index _ (omega arith)))

pub returns : goal.returns
returns c = c.loop-key.invariant ∙ ap (fold (λ es k. without k es) (entries_of c.args.self.now)) (take_all c.loop-key.key-index c.args.names.now (omega arith))
