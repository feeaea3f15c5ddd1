-- The machines of one bucket and what is on its way between them, and that a fault changes none of it. Assumes nothing.
use Rattle.std.specs.Prelude.{◌≡◌, ℕ, List, map, Ok, Err, vec_items, Option, Result}
use Rattle.fault.specs.declared.Error.{Error}
use Rattle.fault.specs.declared.Error.TheVariants.{Of, Memory}
use Rattle.chain.specs.declared.way.Link.{Link}
use Rattle.chain.specs.declared.place.Place.{Place}
use Rattle.chain.specs.Controllers.{Control}
use Rattle.chain.specs.Kept.{control}
use Rattle.sessions.specs.Clocks.{ticks_of}
use Rattle.stage.specs.declared.message.Message.{Message}
use Rattle.stage.specs.declared.session.Session.{Session}
use Rattle.stage.specs.declared.stage.Notice.{Notice}
use Rattle.stage.specs.declared.stage.Stage.{Stage}
use Rattle.stage.specs.Opened.{opened}
use Rattle.stage.specs.Posts.{on_way}

pub record Machines : Type 0 where
  pub stand_there : List Place
  pub open_there : List Session
  pub forgotten_there : List Notice
  pub known_there : List Link
  pub still_told : List (Option Link)
  pub controls : Control
  pub on_the_way : List Message
  pub ticks : ℕ

abbrev pub machines : Stage → Machines
machines s =
    record {
      stand_there = vec_items s.places;
      open_there = opened s.sessions;
      forgotten_there = vec_items s.notices;
      known_there = map (λ b. b.known) (vec_items s.balancers);
      still_told = map (λ b. b.telling) (vec_items s.balancers);
      controls = control s.chain;
      on_the_way = on_way s.traffic.post;
      ticks = ticks_of s.clock;
    }

-- of the answer, and the machines before and after: a fault has changed nothing; want of memory may stop half way
abbrev pub FaultChangesNothing : Result (Unit {0}) Error → Machines → Machines → Type 0
FaultChangesNothing (Ok u) a b = Unit {0}
FaultChangesNothing (Err (Of f)) a b = b ≡ a
FaultChangesNothing (Err Memory) a b = Unit {0}
