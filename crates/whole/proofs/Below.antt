-- A place is told to stand behind one with a lower number. Assumes nothing.
use Rattle.std.proofs.Common.{ℕ, T, List, ◌∷◌, Some, None, Ok, Err, Option, Result, inl, inr, arith}
use mathlib.Core.List.Memᴰ
use mathlib.Core.List.{Memᴰ}
use Rattle.fault.specs.declared.Fault.{Fault}
use Rattle.chain.specs.declared.way.Link.{Link}
use Rattle.chain.specs.declared.place.Standing.{Standing}
use Rattle.chain.specs.declared.place.Standing.TheVariants.{Never, Stands, Forgotten}
use Rattle.chain.specs.declared.place.Place.{Place}
use Rattle.chain.specs.declared.place.Outcome.{Outcome}
use Rattle.chain.specs.declared.place.Outcome.TheVariants.{Delivered, Opened, Forwarded, Refused, Dropped}
use Rattle.chain.specs.Places as place
use Rattle.chain.specs.Places.{handle, below}
use Rattle.chain.specs.Ways.{heard_link}
use Rattle.chain.specs.Controllers.{hears_stood}
use Rattle.bucket.specs.Sessions.{is_empty}
use Rattle.bucket.specs.Model.{Traced, Message, Carry, ToStand, Stood, BehindYou, Told, ToBalancer, Gone, State, link_to, place_at, puts, controls, learns, answers, becomes, introduced, tells_of_it, retires, done, outcome, Event, Step, ignores, begins, stands, introduces, follows, confirms, announces, hints, hears, comes, arrives, closes, forgets, frees, shortens, Reach, begin, more}

abbrev Low : Message → Type 0
Low (Carry p) = Unit {0}
Low (ToStand l b) = T (below l.place b)
Low (Stood l) = Unit {0}
Low (BehindYou l a) = Unit {0}
Low (Told l a) = Unit {0}
Low (ToBalancer d l) = Unit {0}
Low (Gone l a) = Unit {0}

abbrev AllLow : List Message → Type 0
AllLow xs = (m : Message) → Memᴰ m xs → Low m

low_cons : (m : Message) (xs : List Message) → Low m → AllLow xs → AllLow (m ∷ xs)
low_cons m xs l all k mem = elim (Memᴰ.cases_cons mem) [ inl e ↦ rw e l | inr old ↦ all k old ]

module _ (host : ℕ → ℕ) (s : State) (all : AllLow s.sent) where
  done_low : (p : Traced) (o : Outcome) → AllLow (done o p s).sent
  done_low p Delivered = all
  done_low p Opened = all
  done_low p (Forwarded l w) = low_cons _ s.sent tt all
  done_low p (Refused r) = all
  done_low p Dropped = all

  answers_low : (k : ℕ) (a : Message) → Low a → (r : Result Place Fault) → AllLow (answers k a r s).sent
  answers_low k a l (Ok x) = low_cons a s.sent l all
  answers_low k a l (Err f) = all

  becomes_low : (k : ℕ) (r : Result Place Fault) → AllLow (becomes k r s).sent
  becomes_low k (Ok x) = all
  becomes_low k (Err f) = all

  learns_low : (d : ℕ) (r : Result Link Fault) → AllLow (learns d r s).sent
  learns_low d (Ok x) = all
  learns_low d (Err f) = all

  tells_low : (l : Link) (x : Standing) → AllLow (tells_of_it l x s).sent
  tells_low l Never = all
  tells_low l (Stands b a) = all
  tells_low l (Forgotten a) = low_cons _ s.sent tt all

  introduced_low : (o : Option Link) → AllLow (introduced o s).sent
  introduced_low None = all
  introduced_low (Some a) = low_cons _ s.sent tt all

retires_low : (s : State) → AllLow s.sent → (l : Link) (o : Option Place) → AllLow (retires l o s).sent
retires_low s all l None = all
retires_low s all l (Some x) = tells_low (λ n. n) (puts l.place x.standing s) all l x.standing

step_low : (host : ℕ → ℕ) (s : State) {e : Event} {t : State} → Step handle host s e t → AllLow s.sent → AllLow t.sent
step_low host s ignores all = all
step_low host s (begins l _ lt _) all = low_cons _ s.sent (grind arith) all
step_low host s (stands l b _) all = answers_low host s all l.place (Stood l) tt (place.told_to_stand b (place_at host s l))
step_low host s (introduces l _) all = introduced_low host (controls (hears_stood l.place s.control).1 s) all (hears_stood l.place s.control).0
step_low host s (follows l a _) all = answers_low host s all l.place (Told l a) tt (place.told_behind a (place_at host s l))
step_low host s (confirms _ _ _) all = all
step_low host s (announces _) all = low_cons _ s.sent tt all
step_low host s (hints _ _ _ _) all = low_cons _ s.sent tt all
step_low host s (hears d l _) all = learns_low host s all d (heard_link (s.balancers d) l)
step_low host s (comes _ _ _ _ _) all = low_cons _ s.sent tt all
step_low host s (arrives room p _) all = done_low host s all p (outcome handle host s room p)
step_low host s (closes _ _ _) all = all
step_low host s (forgets k) all = retires_low s all (link_to host k) (place.forgets (is_empty (s.sessions k)) (place_at host s (link_to host k)))
step_low host s (frees l a _) all = becomes_low host s all a.place (place.told_forgotten l.place (place_at host s a))
step_low host s (shortens _ _ _) all = all

reach_low : {host : ℕ → ℕ} {s : State} → Reach handle host s → AllLow s.sent
reach_low begin = λ m mem. absurd (Memᴰ.not-nil mem)
reach_low {host} (more {s} r step) = step_low host s step (reach_low r)

pub reach_below : {host : ℕ → ℕ} {s : State} → Reach handle host s → (l : Link) (b : Option Link) → Memᴰ (ToStand l b) s.sent → T (below l.place b)
reach_below r l b mem = reach_low r (ToStand l b) mem
