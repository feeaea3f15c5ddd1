-- What is said of messages, packets and places stays true whatever a step does: a step only ever lets the view grow. Assumes nothing.
use Rattle.std.proofs.Common.{◌≡◌, ℕ, ◌<◌, ◌≤◌, ◌⊎◌, Some, None, Option, refl, inl, inr, arith}
use Rattle.flow.specs.declared.key.FlowKey.{FlowKey}
use Rattle.chain.specs.declared.way.Link.{Link}
use Rattle.chain.specs.declared.way.Way.{Way}
use Rattle.chain.specs.declared.way.Way.TheVariants.{Up, Down, Asked}
use Rattle.chain.specs.declared.place.Standing.{Standing}
use Rattle.chain.specs.declared.place.Standing.TheVariants.{Never, Stands, Forgotten}
use Rattle.chain.specs.declared.handover.Handover.{Handover}
use Rattle.chain.specs.declared.handover.Handover.TheVariants.{Idle, AwaitStood, AwaitTold}
use Rattle.bucket.specs.Model.{Was, NotOpen, OpenAt, Traced, Message, Carry, ToStand, Stood, BehindYou, Told, ToBalancer, Gone}
use Rattle.bucket.proofs.Invariant.{View, Born, IsStanding, AfterIs, ForgottenTo, Held, Known, Before, Next, After, Shape, Asks, Owed, Fine, StandOk, BehindOk, Ok, Waits}

pub record Grows (v w : View) : Type 0 where
  pub host : (p : ℕ) → v.host p ≡ w.host p
  pub top : v.top ≤ w.top
  pub born : (k : ℕ) → Born (v.places k) → Born (w.places k)
  -- new places are made only above the top
  pub old : (k : ℕ) → k ≤ v.top → Born (w.places k) → Born (v.places k)
  pub after : (a : Link) (k : ℕ) → AfterIs a (v.places k) → AfterIs a (w.places k)
  pub gone : (a : Link) (k : ℕ) → ForgottenTo a (v.places k) → ForgottenTo a (w.places k)
  -- only the top opens, and whoever closes counts
  pub opens : (c : FlowKey) (k : ℕ) → Held w c k → Held v c k ⊎ (v.top ≤ k)
  pub keeps : (c : FlowKey) (k : ℕ) → Held v c k → Held w c k ⊎ (v.closings c < w.closings c)
  pub closings : (c : FlowKey) → v.closings c ≤ w.closings c
  -- what the controller waits for comes before it goes on
  pub stand : (l : Link) (b : Option Link) → StandOk v l b → StandOk w l b
  pub behind : (l a : Link) → BehindOk v l a → BehindOk w l a

pub grows_not : (v : View) → Grows v v
grows_not v = record {
  host = λ p. refl;
  top = omega arith;
  born = λ k b. b;
  old = λ k le b. b;
  after = λ a k h. h;
  gone = λ a k h. h;
  opens = λ c k o. inl o;
  keeps = λ c k o. inl o;
  closings = λ c. omega arith;
  stand = λ l b h. h;
  behind = λ l a h. h;
}

module _ (v w : View) (grows : Grows v w) where
  pub known_stays : (l : Link) → Known v l → Known w l
  known_stays l k = let h = grows.host l.place in let t = grows.top in (grind arith, grows.born l.place k.1, omega arith)

  none_stays : (c : FlowKey) (q : ℕ) → q < v.top → (Held v c q → ⊥) → Held w c q → ⊥
  none_stays c q lt none held = elim (grows.opens c q held) [ inl was ↦ none was | inr le ↦ absurd (omega arith) ]

  asks_stay : (p : Traced) (way : Way) → Asks v p way → Asks w p way
  asks_stay p Up h = tt
  asks_stay p (Down by) h = (known_stays by h.0, h.1, λ q lo hi. none_stays p.packet.flow q (omega (arith, h.0.2)) (h.2 q lo hi))
  asks_stay p (Asked by) h = (known_stays by h.0, h.1, h.2, λ q hi. none_stays p.packet.flow q (omega (arith, h.0.2)) (h.3 q hi))

  owed_stays : (p : Traced) (way : Way) (was : Was) → p.seen ≤ v.closings p.packet.flow → Owed v p way was → Owed w p way was
  owed_stays p way NotOpen le h = tt
  owed_stays p way (OpenAt g) le h =
      let more = grows.closings p.packet.flow in
      elim h [ inl closed ↦ inl (omega arith) | inr held ↦ elim (grows.keeps p.packet.flow g held.0) [ inl still ↦ inr (still, held.1) | inr lt ↦ inl (omega arith) ] ]

  fine_stays : (p : Traced) (way : Way) → Fine v p way → Fine w p way
  fine_stays p way f = record {
    at = known_stays p.packet.at f.at;
    asks = asks_stay p way f.asks;
    seen = omega (arith, f.seen, grows.closings p.packet.flow);
    owed = owed_stays p way p.was f.seen f.owed;
  }

  pub ok_stays : (m : Message) → Ok v m → Ok w m
  ok_stays (Carry p) h = fine_stays p p.packet.way h
  ok_stays (ToStand l b) h = (let e = grows.host l.place in let r = h.0 in grind arith, grows.stand l b h.1)
  ok_stays (Stood l) h = grows.born l.place h
  ok_stays (BehindYou l a) h = (known_stays l h.0, grows.behind l a h.1)
  ok_stays (Told l a) h = grows.after a l.place h
  ok_stays (ToBalancer d l) h = known_stays l h
  ok_stays (Gone l a) h = grows.gone a l.place h

  -- Links and what is between them stay, if nothing new stands below a place that was there.
  module _ (stands : (j q : ℕ) → Born (v.places j) → q < j → IsStanding (w.places q) → IsStanding (v.places q)) where
    pub before_stays : (j : ℕ) (b : Option Link) → Born (v.places j) → Before v j b → Before w j b
    before_stays j None born h = λ q lt st. h q lt (stands j q born lt st)
    before_stays j (Some l) born h = (h.0, known_stays l h.1, λ q lo hi st. h.2 q lo hi (stands j q born hi st))

    pub next_stays : (j : ℕ) (l : Link) → Next v j l → Next w j l
    next_stays j l h = (h.0, known_stays l h.1, λ q lo hi st. h.2 q lo hi (stands l.place q h.1.1 hi st))

    pub after_stays : (j : ℕ) (a : Option Link) → (v.top ≤ j → w.top ≤ j) → After v j a → After w j a
    after_stays j None last h = last h
    after_stays j (Some l) last h = next_stays j l h

    -- so do other places than k, if none of them but those above the new top is the last
    pub shape_stays : (k : ℕ) → ((j : ℕ) → (j ≡ k → ⊥) → Born (v.places j) → v.top ≤ j → w.top ≤ j) → (j : ℕ) (x : Standing) → (j ≡ k → ⊥) → (Born x → Born (v.places j)) → Shape v j x → Shape w j x
    shape_stays k last j Never ne born h = tt
    shape_stays k last j (Stands b a) ne born h = (before_stays j b (born tt) h.0, after_stays j a (last j ne (born tt)) h.1)
    shape_stays k last j (Forgotten l) ne born h = (omega (arith, h.0, grows.top), (λ q lt st. h.1 q lt (stands j q (born tt) lt st)), next_stays j l h.2)

  pub waits_stay : v.top ≡ w.top → v.newest ≡ w.newest → (h : Handover) → Waits v h → Waits w h
  waits_stay top new Idle h = grind arith
  waits_stay top new (AwaitStood l) h = let e = grows.host l.place in let a = h.0 in let b = h.1 in let c = h.2 in grind arith
  waits_stay top new (AwaitTold l) h = let e = grows.host l.place in let a = h.0 in let b = h.1 in let c = h.2 in let d = grows.born l.place h.3 in grind arith
