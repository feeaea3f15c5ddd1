-- The first with the key, and of it the tick.
use Rattle.std.proofs.Common.{◌≡◌, rules, tests}
use Rattle.std.proofs.lemmas.Iterator.{YieldsList-from_slice}
use Rattle.std.proofs.lemmas.Iterator.Search.{find_from_yields_List}
use Rattle.std.specs.List.{find}
use Rattle.std.specs.Option.{option_map}
use Rattle.sessions.specs.Keys.{same_key}
use Rattle.sessions.proofs.Changes.{seen_find}
use Rattle.sessions.proofs.entry.find.Goals as goal

pub returns : goal.returns
returns c =
    let f : option_map (λ e. e.now) c.find.result ≡ find (λ e. same_key e.key c.args.key.now) c.args.entries.now =
    find_from_yields_List (λ e. same_key e.key c.args.key.now) _ _ c.find.result c.find.ensures.ran (YieldsList-from_slice c.args.entries.now cc) (λ x b q k. search (rules, tests)) in
    rw (seen_find c.args.key.now c.args.entries.now) (search rules)
