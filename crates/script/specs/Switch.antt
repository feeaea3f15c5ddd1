-- What `on` and `off` say. Assumes nothing.
use Rattle.std.specs.Prelude.{ℕ, true, false, Bool, cond, List, Ok, Err, Result}
use Rattle.std.specs.Str.{bytes_eq}
use lib.Chars.{codes}
use Rattle.fault.specs.declared.Fault.{Fault}
use Rattle.fault.specs.declared.Fault.TheVariants.{Malformed}

abbrev pub switch : List ℕ → Result Bool Fault
switch word = cond (bytes_eq word (codes "on")) (Ok true) (cond (bytes_eq word (codes "off")) (Ok false) (Err Malformed))
