use Rattle.std.proofs.Common.{rules, false}
use Rattle.std.proofs.lemmas.Fmt.{hex_byte}
use Rattle.shown.proofs.text.write_byte.Goals as goal

pub returns : goal.returns
returns g c = rw (← hex_byte false c.args.byte (search (rules, c.ranges.byte))) (search rules)
