-- A session that is open is touched; one that is not is added, if there is room.
use Rattle.std.proofs.Common.{◌≡◌, length, None, sym, refl, ap, ◌∙◌, arith}
use Rattle.sessions.specs.Entries.{seen_in}
use Rattle.sessions.specs.Model.{entries_of}
use Rattle.sessions.proofs.Steps.{none_seen, len_is}
use Rattle.sessions.proofs.Opened.{opening}
use Rattle.sessions.proofs.store.Sessions.open.Goals as goal
use Rattle.sessions.proofs.store.Sessions.open.Goals.{Else-touch}

closed : (c : goal.Else-touch) → seen_in c.args.key (entries_of c.args.self.now) ≡ None
closed c = none_seen (seen_in c.args.key (entries_of c.args.self.now)) (sym c.if-touch.ensures.answer)

pub returns-then-self-ge-MOST : goal.returns-then-self-ge-MOST
returns-then-self-ge-MOST c =
    let e = c.touch.ensures.same c.if-touch.false in
    (refl, closed (goal.at.returns-then-self-ge-MOST c).Else-touch, omega (arith, ap length e, len_is c.touch.new.self), e)

pub add-requires : goal.add-requires
add-requires c =
    let e = c.touch.ensures.same c.if-touch.false in
    (ap (seen_in c.args.key) e ∙ closed (goal.at.add-requires c).Else-touch, omega (arith, len_is c.touch.new.self))

pub returns : goal.returns
returns c =
    let e = c.touch.ensures.same c.if-touch.false in
    let n = closed (goal.at.returns c).Else-touch in
    rw (sym e) (opening c.args.key c.args.tick (entries_of c.touch.new.self) (entries_of c.add.new.self) c.add.result (rw e n) (omega (arith, len_is c.touch.new.self)) c.add.ensures)
