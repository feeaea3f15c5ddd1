-- Runs that there must be, so that the promises are not empty. At the start server 3 has all sixteen buckets, and there is one balancer. Assumes nothing.
use Rattle.std.specs.Prelude.{◌≡◌, [], ◌∷◌, replicate}
use Rattle.chain.specs.declared.place.Outcome.TheVariants.{Delivered, Opened}
use Rattle.chain.specs.Controllers.{newest_of}
use Rattle.whole.specs.World.{World, OpenAt, Packet, Handled, Step, Reach}
use Rattle.whole.specs.Promise.{control_of}

abbrev pub InRun : World → Type 0
InRun w = Reach (3 ∷ []) (replicate 16 3) 1 w

pub record SomeRuns : Type 0 where
  -- a packet comes, asks, and opens its session
  pub opens_session : (w x : World) × (p : Packet) × InRun w × Step 16 w (Handled 3 p Opened) x
  -- then server 5 is added, and the session's bucket is handed over to it: the balancer, which was told, sends the next packet to place 2 at server 5, and it is delivered in place 1 at server 3
  pub finds_old : (w x : World) × (p : Packet) × InRun w × ((newest_of (control_of w 8).kept).server ≡ 5) × (p.was ≡ OpenAt 3 1) × (p.head.place ≡ 1) × Step 16 w (Handled 3 p Delivered) x
