-- What a note says on the wire. Assumes nothing.
use Rattle.std.specs.Prelude.{◌/◌, ◌%◌, [], ◌∷◌}
use Rattle.fault.specs.declared.Fault.TheVariants.{ChainFull}
use Rattle.fault.specs.declared.Refusal.TheVariants.{For}
use Rattle.wire.specs.Meant.{Meant, Said, Answered, Back}
use Rattle.machine.specs.declared.sent.Note.{Note}
use Rattle.machine.specs.declared.sent.Note.TheVariants.{Say, Answer, PutOff}

-- a put-off handover is a refusal with the bucket's two bytes
abbrev pub meant_by : Note → Meant
meant_by (Say c) = Said c
meant_by (Answer c) = Answered c
meant_by (PutOff b) = Back (For ChainFull) (b / 256 ∷ b % 256 ∷ [])
