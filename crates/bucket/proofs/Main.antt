-- The promises of one bucket, from the invariant. Assumes nothing.
use Rattle.std.proofs.Common.{◌≡◌, ℕ, ◌<◌, ◌≤◌, T, ◌⊎◌, ◌∷◌, Some, None, sym, refl, ap, subst, inl, inr, arith}
use mathlib.Core.List.Memᴰ
use mathlib.Core.List.{Memᴰ}
use Rattle.chain.specs.declared.way.Link.{Link}
use Rattle.chain.specs.declared.way.Way.{Way}
use Rattle.chain.specs.declared.place.Standing.{Standing}
use Rattle.chain.specs.declared.place.Standing.TheVariants.{Never, Stands, Forgotten}
use Rattle.chain.specs.declared.place.Outcome.{Outcome}
use Rattle.chain.specs.declared.place.Outcome.TheVariants.{Delivered, Opened, Forwarded, Refused, Dropped}
use Rattle.chain.specs.Places as place
use Rattle.bucket.specs.Sessions.{is_in}
use Rattle.bucket.specs.Model.{Was, OpenAt, Traced, Carry, State, start, IsOpen, Event, Quiet, Handled, outcome, onto, done, Step, ignores, begins, stands, introduces, follows, confirms, announces, hints, hears, comes, arrives, closes, forgets, frees, shortens, Reach, begin, more}
use Rattle.bucket.specs.Promise.{made, PointsTo, IsLast, Newest, Journey, last, next, meanwhile, Main}
use Rattle.bucket.proofs.Lists.{put_all, put_here, put_cases, in_none, in_here, count_empty}
use Rattle.bucket.proofs.Invariant.{view, Born, IsStanding, AfterIs, Shape, Owed, Fine, Inv}
use Rattle.bucket.proofs.Handle.{Ranks, left, left_some, left_most, Spent, Right, handle_right}
use Rattle.bucket.proofs.Ranks.{made_ranks, ranks_stay}
use Rattle.bucket.proofs.Stable.{Grows}
use Rattle.bucket.proofs.Change.{sends_inv}
use Rattle.bucket.proofs.Steps.{right, after_next, top_stands, step_inv, step_sent}

start_none : (host : ℕ → ℕ) (k : ℕ) → Born ((start host).places k) → k ≡ 1
start_none host k b = elim (put_cases Born 1 (Stands None None) (λ _. Never) k b) [ inl here ↦ here.0 | inr there ↦ absurd there.1 ]

start_inv : (host : ℕ → ℕ) → Inv host 1 (start host)
start_inv host = record {
  shape = put_all (Shape (view host 1 (start host))) 1 (Stands None None) (λ _. Never)
      ((λ q lt st. elim (put_cases IsStanding 1 (Stands None None) (λ _. Never) q st) [ inl here ↦ absurd (omega (arith, here.0)) | inr there ↦ there.1 ]), omega arith) (λ k ne. tt);
  low = omega arith;
  born = tt;
  pointed = inl refl;
  fresh = λ k lt b. absurd (omega (arith, start_none host k b));
  shut = λ c k o. absurd (in_none c o);
  one = λ c g h o _. absurd (in_none c o);
  once = λ c k. count_empty c;
  words = λ m mem. absurd (Memᴰ.not-nil mem);
  balancers = λ d. (refl, tt, omega arith);
  newest = (refl, tt, omega arith);
  waits = refl;
}

pub reach_inv : {host : ℕ → ℕ} {s : State} → Reach place.handle host s → (n : ℕ) × Inv host n s
reach_inv {host} begin = (1, start_inv host)
reach_inv {host} (more {s} r step) = let i = reach_inv r in let j = step_inv host i.0 s i.1 step in (j.0, j.1)

-- what a step lets others see
abbrev Seen : State → State → Traced → Outcome → Type 0
Seen s t p Delivered = IsOpen s p.packet.flow p.packet.at.place × ((g : ℕ) → p.was ≡ OpenAt g → (p.packet.at.place ≡ g) ⊎ (p.seen < s.closings p.packet.flow))
Seen s t p Opened = IsOpen t p.packet.flow p.packet.at.place × ((g : ℕ) → p.was ≡ OpenAt g → p.seen < s.closings p.packet.flow)
Seen s t p (Forwarded l w) = Unit {0}
Seen s t p (Refused r) = (g : ℕ) → p.was ≡ OpenAt g → p.seen < s.closings p.packet.flow
Seen s t p Dropped = ⊥

abbrev Says : State → State → Event → Type 0
Says s t Quiet = Unit {0}
Says s t (Handled p o) = Seen s t p o

module _ (host : ℕ → ℕ) (n : ℕ) (s : State) (i : Inv host n s) where
  spent : (p : Traced) (was : Was) → Spent p.seen (s.closings p.packet.flow) was → (g : ℕ) → was ≡ OpenAt g → p.seen < s.closings p.packet.flow
  spent p was h g e = subst (Spent p.seen (s.closings p.packet.flow)) e h

  owed_at : (p : Traced) (w : Way) → Fine (view host n s) p w → (g : ℕ) → p.was ≡ OpenAt g → (p.seen < s.closings p.packet.flow) ⊎ IsOpen s p.packet.flow g
  owed_at p w f g e =
      let h : Owed (view host n s) p w (OpenAt g) = subst (Owed (view host n s) p w) e f.owed in
      elim h [ inl closed ↦ inl closed | inr held ↦ inr held.0 ]

  done_says : (p : Traced) (o : Outcome) → Fine (view host n s) p p.packet.way → Right (view host n s) (made s.places) p p.packet.way o → Seen s (done o p s) p o
  done_says p Delivered f r =
      (r, λ g e. elim (owed_at p p.packet.way f g e) [ inl closed ↦ inr closed | inr held ↦ inl (i.one p.packet.flow p.packet.at.place g r held) ])
  done_says p Opened f r = (
    put_here (λ cs. T (is_in p.packet.flow cs)) p.packet.at.place (p.packet.flow ∷ s.sessions p.packet.at.place) s.sessions (in_here p.packet.flow (s.sessions p.packet.at.place)),
    λ g e. elim (owed_at p p.packet.way f g e) [ inl closed ↦ closed | inr held ↦ absurd (r.1 g held) ],
  )
  done_says p (Forwarded l w) f r = tt
  done_says p (Refused q) f r = spent p p.was r
  done_says p Dropped f r = r

  step_says : {e : Event} {t : State} → Step place.handle host s e t → Says s t e
  step_says ignores = tt
  step_says (begins _ _ _ _) = tt
  step_says (stands _ _ _) = tt
  step_says (introduces _ _) = tt
  step_says (follows _ _ _) = tt
  step_says (confirms _ _ _) = tt
  step_says (announces _) = tt
  step_says (hints _ _ _ _) = tt
  step_says (hears _ _ _) = tt
  step_says (comes _ _ _ _ _) = tt
  step_says (arrives room p mem) = done_says p (outcome place.handle host s room p) (i.words (Carry p) mem) (right host n s i room p mem)
  step_says (closes _ _ _) = tt
  step_says (forgets _) = tt
  step_says (frees _ _ _) = tt
  step_says (shortens _ _ _) = tt

  points_below : (h k : ℕ) (y : Standing) → s.places k ≡ y → PointsTo h y → h ≤ n
  points_below h k Never e q = absurd q
  points_below h k (Stands b None) e q = absurd q
  points_below h k (Stands b (Some l)) e q = let z = (after_next host n s i k l (Stands b (Some l)) e refl).1.2 in omega arith
  points_below h k (Forgotten l) e q = let z = (after_next host n s i k l (Forgotten l) e refl).1.2 in omega arith

  last_above : (h : ℕ) (y : Standing) → s.places h ≡ y → IsLast y → n ≤ h
  last_above h Never e q = absurd q
  last_above h (Stands b None) e q = let sh : Shape (view host n s) h (Stands b None) = subst (Shape (view host n s) h) e (i.shape h) in sh.1
  last_above h (Stands b (Some l)) e q = absurd q
  last_above h (Forgotten l) e q = absurd q

  -- the top is the newest place, and no other is
  pub newest_top : (h : ℕ) → Newest s h → h ≡ n
  newest_top h new =
      let ge = last_above h (s.places h) refl new.is_last in
      elim new.known [ inl e ↦ omega (arith, i.low) | inr there ↦ (let le = points_below h there.0 (s.places there.0) refl there.1 in omega arith) ]

  top_last : (y : Standing) → s.places n ≡ y → IsStanding y → IsLast y
  top_last Never e st = st
  top_last (Stands b None) e st = tt
  top_last (Stands b (Some l)) e st = let z = after_next host n s i n l (Stands b (Some l)) e refl in absurd (omega (arith, z.0, z.1.2))
  top_last (Forgotten l) e st = absurd st

  points : (k : ℕ) (a : Link) (y : Standing) → AfterIs a y → PointsTo a.place y
  points k a Never is = is
  points k a (Stands b None) is = is
  points k a (Stands b (Some l)) is = ap (λ x. x.place) is
  points k a (Forgotten l) is = ap (λ x. x.place) is

  pub top_newest : Newest s n
  top_newest = record {
    known = elim i.pointed [ inl e ↦ inl e | inr there ↦ inr (there.0, subst (λ m. PointsTo m (s.places there.0)) there.3 (points there.0 there.1 (s.places there.0) there.2)) ];
    is_last = top_last (s.places n) refl (top_stands host n s i (s.places n) refl);
  }

-- each delivery takes one of those that are left, and nothing else changes how many that are
rests : (host : ℕ → ℕ) (n : ℕ) (rank : ℕ → ℕ) {p : Traced} {s : State} {d : ℕ} → Journey host n p s d → Inv host n s → Ranks (view host n s) rank → Memᴰ (Carry p) s.sent →
    d ≤ left (view host n s) rank p.packet.at.place p.packet.way
rests host n rank (last {p} {s}) i ranks mem = left_some (view host n s) rank ranks i.born i.shut p p.packet.way (i.words (Carry p) mem)
rests host n rank (next {p} {s} room l w e on) i ranks mem =
    let f = i.words (Carry p) mem in
    let r : Right (view host n s) rank p p.packet.way (Forwarded l w) =
    subst (Right (view host n s) rank p p.packet.way) e (handle_right (view host n s) rank ranks i.born i.shut i.shape p room f) in
    omega (arith, r.1, rests host n rank on (sends_inv host n s i (Carry (onto l w p)) r.0) ranks (Memᴰ.head refl))
rests host n rank (meanwhile {p} {s} {t} step new on) i ranks mem =
    let j = step_inv host n s i step in
    let e : j.0 ≡ n = sym (newest_top host j.0 t j.1 n new) in
    let k : Inv host n t = subst (λ m. Inv host m t) e j.1 in
    let g : Grows (view host n s) (view host n t) = subst (λ m. Grows (view host n s) (view host m t)) e j.2 in
    rests host n rank on k (ranks_stay (view host n s) (view host n t) rank g refl ranks) (step_sent host s step (Carry p) mem)

pub main : Main
main host s r =
    let n = (reach_inv r).0 in
    let i : Inv host n s = (reach_inv r).1 in
    record {
      one_place = i.one;
      once = i.once;
      stays_open = λ t e c g step. (step_inv host n s i step).2.keeps c g;
      delivered_where_open = λ t p step. (step_says host n s i step).0;
      opened_there = λ t p step. (step_says host n s i step).0;
      not_refused = λ t p r step. step_says host n s i step;
      not_opened_anew = λ t p step. (step_says host n s i step).1;
      delivered_to_its_place = λ t p step. (step_says host n s i step).1;
      not_dropped = λ t p step. step_says host n s i step;
      newest_place = (n, top_newest host n s i);
      soon_at_rest = λ p h d mem new on.
          let e : h ≡ n = newest_top host n s i h new in
          let ranks = made_ranks (view host n s) in
          let enough : d ≤ left (view host n s) (made s.places) p.packet.at.place p.packet.way = rests host n (made s.places) (subst (λ m. Journey host m p s d) e on) i ranks mem in
          rw e (omega (arith, left_most (view host n s) (made s.places) ranks i.born i.shut p p.packet.way (i.words (Carry p) mem)));
    }
