-- What was written is read back. Assumes nothing.
use Rattle.std.specs.Prelude.{◌≡◌, ℕ, ◌<◌, List, Ok}
use Rattle.wire.specs.Laws.{Bytes}
use Rattle.machine.specs.declared.name.Machine.{Machine}
use Rattle.machine.specs.declared.name.Machine.TheVariants.{Client, Operator, Balancer, Server, Controller}
use Rattle.lines.specs.Lines.{line_in, line_text}

-- its number is one that there can be
abbrev pub Real : Machine → Type 0
Real Client = Unit {0}
Real Operator = Unit {0}
Real (Balancer d) = d < 65536
Real (Server s) = s < 256
Real Controller = Unit {0}

abbrev pub ReadBack : Type 0
ReadBack = (m : Machine) (bs : List ℕ) → Real m → Bytes bs → line_in (line_text m bs) ≡ Ok (m, bs)
