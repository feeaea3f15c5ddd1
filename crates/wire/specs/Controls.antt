-- What can be said of a message about places. Assumes nothing.
use Rattle.std.specs.Prelude.{ℕ}
use Rattle.wire.specs.declared.message.Control.{Control}
use Rattle.wire.specs.declared.message.Control.TheVariants.{Stand, Behind, Door, Forgotten}

-- the bucket that it speaks of
abbrev pub bucket_in : Control → ℕ
bucket_in (Stand b n before) = b
bucket_in (Behind b n a) = b
bucket_in (Door b l) = b
bucket_in (Forgotten b n a) = b
