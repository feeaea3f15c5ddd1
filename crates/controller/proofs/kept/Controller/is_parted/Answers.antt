-- Of what is kept of the buckets, or of the buckets themselves.
use Rattle.std.proofs.Common.{rules, vec_items, ◌∙◌, arith}
use Rattle.std.proofs.lemmas.Grind.{get_or_default_zero}
use Rattle.controller.proofs.Seen.{chain_of}
use Rattle.controller.proofs.kept.Controller.is_parted.Goals as goal

pub returns-then-not-is_in_chain : goal.returns-then-not-is_in_chain
returns-then-not-is_in_chain c =
    let k = c.args.self.now in
    let at = rw c.from.ensures at c.index.ensures in
    let then = at ∙ get_or_default_zero (vec_items k.parted) c.args.server c.index.result.now (omega (arith, k.parted.ok.0, k.each_server, c.ranges.server.fits)) in
    rw (chain_of c.args.server (vec_items k.charges), ← then) (search rules)

pub returns-else-not-is_in_chain : goal.returns-else-not-is_in_chain
returns-else-not-is_in_chain c = rw (chain_of c.args.server (vec_items c.args.self.now.charges)) (search rules)
