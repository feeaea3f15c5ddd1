-- The struct of a server's places, as the rules know it. Assumes nothing.
use Rattle.places.specs.declared.kept.Places.{Places}
use Rattle.places.specs.Rules.{Known}

abbrev pub known : Places → Known
known p = record { highest = p.highest; standing = p.standing.items; past = p.past.items }
