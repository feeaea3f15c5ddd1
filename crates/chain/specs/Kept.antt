-- The controller's struct for one bucket's chain, as its rules know it. Assumes nothing.
use Rattle.std.specs.Prelude.{List, take}
use Rattle.chain.specs.declared.way.Link.{Link}
use Rattle.chain.specs.declared.kept.Chain.{Chain}
use Rattle.chain.specs.Controllers.{Control}

-- the front of the array of eight, newest first
abbrev pub links_of : Chain → List Link
links_of c = take c.len c.links

abbrev pub control : Chain → Control
control c = record { kept = links_of c; handover = c.handover }
