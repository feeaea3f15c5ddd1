-- What the controller is told and hears, by the message. Assumes nothing.
use Rattle.std.proofs.Common.{◌≡◌, ℕ, ◌<◌, cond, List, [], ◌++◌, length, Ok, Err, Option, Result, sym, subst}
use Rattle.std.proofs.lemmas.List.{append-nil}
use Rattle.std.proofs.lemmas.Bool.{lt-ltb}
use Rattle.fault.specs.declared.Error.{Error}
use Rattle.fault.specs.declared.Fault.TheVariants.{NoSuch}
use Rattle.chain.specs.declared.way.Link.{Link}
use Rattle.wire.specs.declared.message.Control.{Control}
use Rattle.wire.specs.declared.message.Control.TheVariants as control
use Rattle.machine.specs.declared.name.Machine.{Machine}
use Rattle.machine.specs.declared.sent.Sent.{Sent}
use Rattle.machine.specs.Steps.{Did}
use Rattle.controller.specs.Rules.{Ruling, is_bucket, bucket_in, told, told_of, forgets, heard, heard_of, heard_stood, heard_told, door_heard}

abbrev Answer : Type 0
Answer = Result (Unit {0}) Error

pub forgotten_told : (from : Machine) (c : Control) (b n : ℕ) (a : Link) (k after : Ruling) (out sent : List Sent) (r : Answer) → c ≡ control.Forgotten b n a → b < length k.charges
    → Did (Ok (forgets from (control.Forgotten b n a) b n k)) r k after out sent → Did (told from c k) r k after out sent
forgotten_told from c b n a k after out sent r e h d =
    subst (λ x. Did (cond (is_bucket (bucket_in x) k) (told_of from x x k) (Err NoSuch)) r k after out sent) (sym e) (rw (lt-ltb b (length k.charges) h) d)

abbrev Hears : Machine → Answer → Ruling → Ruling → List Sent → List Sent → Control → Type 0
Hears from r k after out sent x = Did (Ok (cond (is_bucket (bucket_in x) k) (heard_of from x k) ([], k))) r k after out sent

pub heard_stand : (from : Machine) (c : Control) (b n : ℕ) (before : Option Link) (k after : Ruling) (out sent : List Sent) (r : Answer) → c ≡ control.Stand b n before → b < length k.charges
    → Did (Ok (heard_stood b n k)) r k after out sent → Did (Ok (heard from c k)) r k after out sent
heard_stand from c b n before k after out sent r e h d = subst (Hears from r k after out sent) (sym e) (rw (lt-ltb b (length k.charges) h) d)

pub heard_behind : (from : Machine) (c : Control) (b n : ℕ) (a : Link) (k after : Ruling) (out sent : List Sent) (r : Answer) → c ≡ control.Behind b n a → b < length k.charges
    → Did (Ok (heard_told b n a k)) r k after out sent → Did (Ok (heard from c k)) r k after out sent
heard_behind from c b n a k after out sent r e h d = subst (Hears from r k after out sent) (sym e) (rw (lt-ltb b (length k.charges) h) d)

pub heard_door : (from : Machine) (c : Control) (b : ℕ) (l : Link) (k after : Ruling) (out : List Sent) → c ≡ control.Door b l → b < length k.charges → after ≡ door_heard from b l k
    → (after ≡ (heard from c k).1) × (out ≡ out ++ (heard from c k).0)
heard_door from c b l k after out e h d = subst (Hears from (Ok tt) k after out out) (sym e) (rw (lt-ltb b (length k.charges) h) (d, sym (append-nil out)))
