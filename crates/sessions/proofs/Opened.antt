-- Opening a session, case by case of the answer. Assumes nothing.
use Rattle.std.proofs.Common.{◌≡◌, ℕ, ◌<◌, List, length, None, Ok, Err, Result, ap, ◌∙◌, inr}
use Rattle.fault.specs.declared.Error.{Error}
use Rattle.fault.specs.declared.Error.TheVariants.{Of, Memory}
use Rattle.sessions.specs.declared.key.Key.{Key}
use Rattle.sessions.specs.declared.entry.Entry.{Entry}
use Rattle.sessions.specs.Entries.{seen_in}
use Rattle.sessions.specs.Model.{Adding, Opening}

pub adding_refused : (k : Key) (t : ℕ) (was after : List Entry) (r : Result (Unit {0}) Error) → after ≡ was → (y : Error) × (r ≡ Err y) × (y ≡ Memory) → Adding k t was after r
adding_refused k t was after r e x = let z : r ≡ Err Memory = x.1 ∙ ap Err x.2 in rw z e

pub opening : (k : Key) (t : ℕ) (was after : List Entry) (r : Result (Unit {0}) Error) → seen_in k was ≡ None → length was < 65536 → Adding k t was after r → Opening k t was after r
opening k t was after (Ok u) n h a = (a, inr h)
opening k t was after (Err Memory) n h a = (n, h, a)
opening k t was after (Err (Of f)) n h a = absurd a
