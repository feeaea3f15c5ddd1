-- What a machine is called in lines of text. Assumes nothing.
use Rattle.std.specs.Prelude.{ℕ, List, ◌++◌, codes}
use Rattle.std.specs.Fmt.{decimal}
use Rattle.machine.specs.declared.name.Machine.{Machine}
use Rattle.machine.specs.declared.name.Machine.TheVariants.{Client, Operator, Balancer, Server, Controller}

abbrev pub name_text : Machine → List ℕ
name_text Client = codes "client"
name_text Operator = codes "order"
name_text (Balancer d) = codes "door " ++ decimal d
name_text (Server s) = codes "house " ++ decimal s
name_text Controller = codes "office"
