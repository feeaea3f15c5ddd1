-- The names, and what is left without them.
use Rattle.std.proofs.Common.{vec_items, refl}
use Rattle.std.proofs.lemmas.Result.{err_from_is_err_and}
use Rattle.sessions.specs.Model.{entries_of}
use Rattle.sessions.proofs.Idled.{lapsing_refused, lapsed_to}
use Rattle.sessions.proofs.store.Sessions.idle.Goals as goal

pub returns-in_err-names : goal.returns-in_err-names
unfolding entries_of
returns-in_err-names c = lapsing_refused c.args.tick _ _ c.from_residual.result refl (err_from_is_err_and c.from_residual.result c.from_residual.ensures.1)

pub returns : goal.returns
returns c = lapsed_to c.args.tick c.args.self.now (entries_of c.close_idle.new.self) (vec_items c.in_ok-names.names) c.in_ok-names.ensures c.close_idle.ensures
