-- What is true of every whole, whatever its buckets are at: sizes, numbers, and that a packet names its own bucket. Assumes nothing.
use Rattle.std.proofs.Common.{◌≡◌, ℕ, length}
use mathlib.Core.List.{Memᴰ}
use Rattle.flow.specs.Buckets.{bucket_of}
use Rattle.sessions.specs.Entries.{Once}
use Rattle.wire.specs.Meant.{Meant, Carried, Said, Answered, Back, Ordered}
use Rattle.whole.specs.World.{Envelope, World}
use Rattle.whole.proofs.Closing.{Keyed}

abbrev pub OwnBucket : ℕ → Meant → Type 0
OwnBucket B (Carried h c bs) = h.bucket ≡ bucket_of c B
OwnBucket B (Said c) = Unit {0}
OwnBucket B (Answered c) = Unit {0}
OwnBucket B (Back r bs) = Unit {0}
OwnBucket B (Ordered o) = Unit {0}

pub record Sane (B : ℕ) (w : World) : Type 0 where
  pub numbers : (v : ℕ) → (w.servers v).number ≡ v
  pub lengths : (v : ℕ) → length (w.servers v).holdings ≡ B
  pub links : (d : ℕ) → length (w.balancers d) ≡ B
  pub charges : length w.controller.charges ≡ B
  pub keyed : (v : ℕ) → Keyed B (w.sessions v)
  pub once : (v : ℕ) → Once (w.sessions v)
  pub carried : (e : Envelope) → Memᴰ e w.sent → OwnBucket B e.what
