-- What a step leaves, and what a stopped one does. Assumes nothing.
use Rattle.std.proofs.Common.{◌≡◌, ℕ, ◌+◌, ◌^◌, ◌<◌, cond, List, [], ◌++◌, map, Ok, Err, Result, sym, ap, ◌∙◌, subst, inl, inr, arith}
use Rattle.std.proofs.lemmas.Bool.{lt-ltb}
use Rattle.fault.specs.declared.Fault.{Fault}
use Rattle.fault.specs.declared.Fault.TheVariants.{NoSuch}
use Rattle.fault.specs.declared.Error.{Error}
use Rattle.fault.specs.declared.Error.TheVariants.{Of, Memory}
use Rattle.machine.specs.declared.name.Machine.{Machine}
use Rattle.machine.specs.declared.sent.Sent.{Sent}
use Rattle.machine.specs.Steps.{Did}
use Rattle.edge.specs.Posts.{Mail, Sends}
use Rattle.edge.specs.Admission.{refusal, mail_in, Stops}
use Rattle.controller.specs.Kept.{Ticking}
use Rattle.controller.specs.Rules.{Ruling, ticked}
use Rattle.controller_edge.specs.Bytes.{posting, clocked, Hears}

did_posts : (p : List Sent × Ruling) (r : Result (Unit {0}) Error) (k k' : Ruling) (said : List Sent) (was after : List Mail)
    → k' ≡ p.1 → said ≡ p.0 → Sends (map mail_in said) r was after → Hears (map mail_in p.0, p.1) r k k' was after
did_posts p (Ok u) k k' said was after e g s = (e, s ∙ ap (λ x. was ++ map mail_in x) g)
did_posts p (Err Memory) k k' said was after e g s = (s, inr e)
did_posts p (Err (Of f)) k k' said was after e g s = s

pub done : (t : Result (List Sent × Ruling) Fault) (from : Machine) (bs : List ℕ) (r : Result (Unit {0}) Error) (k k' : Ruling) (start said all : List Sent) (was after : List Mail)
    → Did t (Ok tt) k k' start said → start ≡ [] → all ≡ said → Sends (map mail_in all) r was after → Hears (posting from bs k t) r k k' was after
done (Ok p) from bs r k k' start said all was after d z same s = did_posts p r k k' all was after d.0 (same ∙ (d.1 ∙ ap (λ x. x ++ p.0) z)) s
done (Err f) from bs r k k' start said all was after d z same s = absurd d

refused : (from : Machine) (bs : List ℕ) (f : Fault) (r : Result (Unit {0}) Error) (k k' : Ruling) (was after : List Mail)
    → k' ≡ k → Sends (refusal from f bs) r was after → Hears (refusal from f bs, k) r k k' was after
refused from bs f (Ok u) k k' was after e s = (e, s)
refused from bs f (Err Memory) k k' was after e s = (s, inl e)
refused from bs f (Err (Of g)) k k' was after e s = s

short : (p : List Mail × Ruling) (r : Result (Unit {0}) Error) (k k' : Ruling) (was after : List Mail) → k' ≡ k → (r ≡ Err Memory) × (after ≡ was) → Hears p r k k' was after
short p r k k' was after e h = rw h.0 (h.1, inl e)

pub stopped : (t : Result (List Sent × Ruling) Fault) (e : Error) (from : Machine) (bs : List ℕ) (r : Result (Unit {0}) Error) (k k' : Ruling) (said said' : List Sent) (was after : List Mail)
    → Did t (Err e) k k' said said' → Stops from bs e r was after → Hears (posting from bs k t) r k k' was after
stopped (Ok p) (Of g) from bs r k k' said said' was after d h = absurd d
stopped (Ok p) Memory from bs r k k' said said' was after d h = short (posting from bs k (Ok p)) r k k' was after d.0 h
stopped (Err f) (Of g) from bs r k k' said said' was after d h = refused from bs f r k k' was after d.1 (rw d.0 at h)
stopped (Err f) Memory from bs r k k' said said' was after d h = short (posting from bs k (Err f)) r k k' was after d.0 h

-- the clock holds the sum
pub in_time : (n : ℕ) (r : Result (Unit {0}) Error) (k k' : Ruling) (out out' : List Sent) → k.tick + n < 2 ^ 64 → Ticking (ticked n k) n r k k' out out' → Did (clocked n k) r k k' out out'
in_time n (Ok u) k k' out out' h d = subst (λ q. Did (cond q (Ok (ticked n k)) (Err NoSuch)) (Ok u) k k' out out') (sym (lt-ltb (k.tick + n) (2 ^ 64) h)) d
in_time n (Err Memory) k k' out out' h d = subst (λ q. Did (cond q (Ok (ticked n k)) (Err NoSuch)) (Err Memory) k k' out out') (sym (lt-ltb (k.tick + n) (2 ^ 64) h)) d
in_time n (Err (Of f)) k k' out out' h d = absurd (omega (arith, h, d.1))
