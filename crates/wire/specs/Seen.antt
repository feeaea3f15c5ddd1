-- A message of the code, with the bytes that it refers to. Assumes nothing.
use Rattle.std.specs.Prelude.{Ok, Err, Result}
use Rattle.wire.specs.declared.message.Message.{Message}
use Rattle.wire.specs.declared.message.Message.TheVariants.{Packet, Control, Answer, Refused, Order}
use Rattle.wire.specs.Meant.{Meant, Carried, Said, Answered, Back, Ordered}

abbrev pub said : Message → Meant
said (Packet h key p) = Carried h key p.now
said (Control c) = Said c
said (Answer c) = Answered c
said (Refused why p) = Back why p.now
said (Order o) = Ordered o

abbrev pub seen : {E : Type 0} → Result Message E → Result Meant E
seen (Ok m) = Ok (said m)
seen (Err e) = Err e
