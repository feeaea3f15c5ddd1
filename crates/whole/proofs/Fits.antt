-- What a server keeps still fits after a step of its own, or of another. Assumes nothing.
use Rattle.std.proofs.Common.{◌≡◌, ℕ, ◌<◌, ◌≤◌, Bool, true, false, cond, T, ◌⊎◌, List, [], ◌∷◌, ◌++◌, Some, None, Option, sym, refl, ◌∙◌, subst, inl, inr, arith}
use mathlib.Core.List.Memᴰ
use mathlib.Core.List.{Memᴰ}
use Rattle.std.proofs.lemmas.Bool.{cases_eq}
use Rattle.flow.specs.declared.key.FlowKey.{FlowKey}
use Rattle.flow.specs.Buckets.{bucket_of}
use Rattle.chain.specs.declared.way.Link.{Link}
use Rattle.chain.specs.declared.place.Standing.{Standing}
use Rattle.chain.specs.declared.place.Standing.TheVariants.{Never, Stands, Forgotten}
use Rattle.chain.specs.declared.place.Place.{Place}
use Rattle.chain.specs.declared.handover.Handover.{Handover}
use Rattle.chain.specs.declared.handover.Handover.TheVariants.{Idle, AwaitStood, AwaitTold}
use Rattle.chain.specs.Places.{handle}
use Rattle.chain.specs.Controllers.{Control}
use Rattle.bucket.specs.Sessions.{is_in}
use Rattle.bucket.specs.Model as one
use Rattle.places.specs.Rules.{find}
use Rattle.sessions.specs.declared.entry.Entry.{Entry}
use Rattle.wire.specs.declared.message.Control as said
use Rattle.wire.specs.declared.message.Control.TheVariants as say
use Rattle.wire.specs.Meant.{Meant, Carried, Said, Answered, Back, Ordered}
use Rattle.machine.specs.declared.name.Machine.{Machine}
use Rattle.machine.specs.declared.name.Machine.TheVariants.{Client, Operator, Balancer, Server, Controller}
use Rattle.machine.specs.declared.sent.Sent.{Sent}
use Rattle.machine.specs.Notes.{meant_by}
use Rattle.server_bucket.specs.Rules.{Holding}
use Rattle.server.specs.Rules.{Keeping, holding_at}
use Rattle.whole.specs.World.{Was, NotOpen, Envelope, posted, World}
use Rattle.whole.proofs.Rows.{IsGone, Less}
use Rattle.whole.proofs.Sim.{Passed, Missing, Fit, Serves, SaidTo, Reported, AnsweredTo, Announced, ToServer, ToController, ToBalancer, Post, Posted, Says, Awaited, Sim, Walk, stay, then}

-- LISTS

abbrev pub All : {A : Type 0} → (A → Type 0) → List A → Type 0
All P [] = Unit {0}
All P (x ∷ xs) = P x × All P xs

pub all_append : {A : Type 0} (P : A → Type 0) (xs ys : List A) → All P xs → All P ys → All P (xs ++ ys)
all_append P [] ys p q = q
all_append P (x ∷ xs) ys p q = (p.0, all_append P xs ys p.1 q)

pub all_more : {A : Type 0} (P Q : A → Type 0) (xs : List A) → ((x : A) → P x → Q x) → All P xs → All Q xs
all_more P Q [] f p = tt
all_more P Q (x ∷ xs) f p = (f x p.0, all_more P Q xs f p.1)

pub all_in : {A : Type 0} (P : A → Type 0) (xs : List A) → ((x : A) → Memᴰ x xs → P x) → All P xs
all_in P [] f = tt
all_in P (x ∷ xs) f = (f x (Memᴰ.head refl), all_in P xs (λ y m. f y (Memᴰ.tail m)))

pub by_cond : {A : Type 0} (P : A → Type 0) (q : Bool) (x y : A) → (q ≡ true → P x) → (q ≡ false → P y) → P (cond q x y)
by_cond P true x y f g = f refl
by_cond P false x y f g = g refl

-- A PLACE

pub fit_same : (host : ℕ → ℕ) (c : Control) (v k hi : ℕ) (x y : Standing) (o : Option Place) → (host k ≡ v → y ≡ x) → Fit host c v k hi x o → Fit host c v k hi y o
fit_same host c v k hi x y None e f = λ at. rw (e at) (f at)
fit_same host c v k hi x y (Some z) e f = rw (e f.0) f

less_fit : (host : ℕ → ℕ) (c : Control) (v k hi : ℕ) (x : Standing) (y : Place) → IsGone y.standing → Fit host c v k hi x (Some y) → Missing c hi k x
less_fit host c v k hi Never y g f = absurd f.3
less_fit host c v k hi (Stands b a) y g f = absurd (subst (λ z. IsGone z.standing) f.2 g)
less_fit host c v k hi (Forgotten a) y g f = f.1

pub fit_less : (host : ℕ → ℕ) (c : Control) (v k hi : ℕ) (x : Standing) (o q : Option Place) → Less o q → Fit host c v k hi x o → Fit host c v k hi x q
fit_less host c v k hi x None q l f = rw l f
fit_less host c v k hi x (Some y) q l f = elim l [ inl e ↦ rw e f | inr n ↦ rw n.0 (λ _. less_fit host c v k hi x y n.1 f) ]

pub fit_rise : (host : ℕ → ℕ) (c : Control) (v k hi hi' : ℕ) (x : Standing) (o : Option Place) → hi ≤ hi' → (x ≡ Never → (hi' < k) ⊎ Passed c k) → Fit host c v k hi x o → Fit host c v k hi' x o
fit_rise host c v k hi hi' x (Some y) le un f = (f.0, omega (arith, f.1), f.2, f.3)
fit_rise host c v k hi hi' Never None le un f = λ at. un refl
fit_rise host c v k hi hi' (Stands b a) None le un f = f
fit_rise host c v k hi hi' (Forgotten a) None le un f = λ at. omega (arith, f at)

pub fit_control : (host : ℕ → ℕ) (c d : Control) (v k hi : ℕ) (x : Standing) (o : Option Place) → (Passed c k → Passed d k) → Fit host c v k hi x o → Fit host d v k hi x o
fit_control host c d v k hi x (Some y) p f = f
fit_control host c d v k hi Never None p f = λ at. elim (f at) [ inl lt ↦ inl lt | inr q ↦ inr (p q) ]
fit_control host c d v k hi (Stands b a) None p f = f
fit_control host c d v k hi (Forgotten a) None p f = f

-- WHAT WAS SENT STAYS SO

module _ (B b : ℕ) (xs ys : List one.Message) (up : (m : one.Message) → Memᴰ m xs → Memᴰ m ys) where
  said_stays : (v : ℕ) (c : said.Control) → SaidTo b xs v c → SaidTo b ys v c
  said_stays v (say.Stand c n before) h = λ e. up _ (h e)
  said_stays v (say.Behind c n a) h = λ e. up _ (h e)
  said_stays v (say.Door c l) h = tt
  said_stays v (say.Forgotten c n a) h = λ e. ((h e).0, up _ (h e).1)

  reported_stays : (c : said.Control) → Reported b xs c → Reported b ys c
  reported_stays (say.Stand c n before) h = tt
  reported_stays (say.Behind c n a) h = tt
  reported_stays (say.Door c l) h = tt
  reported_stays (say.Forgotten c n a) h = λ e. ((h e).0, up _ (h e).1)

  answered_stays : (c : said.Control) → AnsweredTo b xs c → AnsweredTo b ys c
  answered_stays (say.Stand c n before) h = λ e. ((h e).0, up _ (h e).1)
  answered_stays (say.Behind c n a) h = λ e. ((h e).0, up _ (h e).1)
  answered_stays (say.Door c l) h = tt
  answered_stays (say.Forgotten c n a) h = tt

  announced_stays : (d : ℕ) (c : said.Control) → Announced b xs d c → Announced b ys d c
  announced_stays d (say.Stand c n before) h = tt
  announced_stays d (say.Behind c n a) h = tt
  announced_stays d (say.Door c l) h = λ e. up _ (h e)
  announced_stays d (say.Forgotten c n a) h = tt

  server_stays : (v : ℕ) (was : Was) (seen : ℕ) (m : Meant) → ToServer B b xs v was seen m → ToServer B b ys v was seen m
  server_stays v was seen (Carried h c bs) p = λ e. up _ (p e)
  server_stays v was seen (Said c) p = said_stays v c p
  server_stays v was seen (Answered c) p = tt
  server_stays v was seen (Back r bs) p = tt
  server_stays v was seen (Ordered o) p = tt

  controller_stays : (m : Meant) → ToController b xs m → ToController b ys m
  controller_stays (Carried h c bs) p = tt
  controller_stays (Said c) p = reported_stays c p
  controller_stays (Answered c) p = answered_stays c p
  controller_stays (Back r bs) p = tt
  controller_stays (Ordered o) p = tt

  balancer_stays : (d : ℕ) (m : Meant) → ToBalancer b xs d m → ToBalancer b ys d m
  balancer_stays d (Carried h c bs) p = tt
  balancer_stays d (Said c) p = announced_stays d c p
  balancer_stays d (Answered c) p = tt
  balancer_stays d (Back r bs) p = tt
  balancer_stays d (Ordered o) p = tt

  pub post_stays : (was : Was) (seen : ℕ) (m : Meant) (to : Machine) → Post B b xs was seen m to → Post B b ys was seen m to
  post_stays was seen m Client p = tt
  post_stays was seen m Operator p = tt
  post_stays was seen m (Balancer d) p = balancer_stays d m p
  post_stays was seen m (Server v) p = server_stays v was seen m p
  post_stays was seen m Controller p = controller_stays m p

pub posted_all : (B b : ℕ) (xs : List one.Message) (from : Machine) (out : List Sent) → All (Says B b xs) out → (e : Envelope) → Memᴰ e (posted from out) → Posted B b xs e
posted_all B b xs from [] p e mem = absurd (Memᴰ.not-nil mem)
posted_all B b xs from (x ∷ out) p e mem = elim (Memᴰ.cases_cons mem) [ inl q ↦ rw q p.0 | inr m ↦ posted_all B b xs from out p.1 e m ]

-- A SERVER

-- only places of server v change
pub record Local (host : ℕ → ℕ) (v : ℕ) (s t : one.State) : Type 0 where
  pub places : (k : ℕ) → (host k ≡ v → ⊥) → t.places k ≡ s.places k
  pub sessions : (k : ℕ) → (host k ≡ v → ⊥) → t.sessions k ≡ s.sessions k
  pub sent : (m : one.Message) → Memᴰ m s.sent → Memᴰ m t.sent
  pub balancers : t.balancers ≡ s.balancers
  pub control : t.control ≡ s.control

pub local_none : (host : ℕ → ℕ) (v : ℕ) (s : one.State) → Local host v s s
local_none host v s = record { places = λ k ne. refl; sessions = λ k ne. refl; sent = λ m mem. mem; balancers = refl; control = refl }

pub local_then : (host : ℕ → ℕ) (v : ℕ) (s t u : one.State) → Local host v s t → Local host v t u → Local host v s u
local_then host v s t u a b = record {
  places = λ k ne. b.places k ne ∙ a.places k ne;
  sessions = λ k ne. b.sessions k ne ∙ a.sessions k ne;
  sent = λ m mem. b.sent m (a.sent m mem);
  balancers = b.balancers ∙ a.balancers;
  control = b.control ∙ a.control;
}

pub serves_stays : (host : ℕ → ℕ) (b v u : ℕ) (s t : one.State) (h : Holding) (es : List Entry) → Local host v s t → (u ≡ v → ⊥) → Serves host b s u h es → Serves host b t u h es
serves_stays host b v u s t h es l ne i = record {
  fit = λ k. rw l.control (fit_same host s.control u k h.known.highest (s.places k) (t.places k) (find k h.known) (λ e. l.places k (λ q. ne (sym e ∙ q))) (i.fit k));
  tidy = i.tidy;
  down = λ k c o. let d = i.down k c o in (d.0, rw (l.sessions k (λ q. ne (sym d.0 ∙ q))) d.1);
  up = λ k c e o. i.up k c e (subst (λ z. T (is_in c z)) (l.sessions k (λ q. ne (sym e ∙ q))) o);
  farewells = λ f mem. let g = i.farewells f mem in (g.0, l.sent _ g.1);
}

-- what server v comes to in the bucket, and what it says
pub record Serving (host : ℕ → ℕ) (B b : ℕ) (s : one.State) (v : ℕ) (h : Holding) (es : List Entry) (out : List Sent) (f : FlowKey → ℕ) : Type 0 where
  pub state : one.State
  pub walk : Walk host s state
  pub serves : Serves host b state v h es
  pub local : Local host v s state
  pub says : All (Says B b state.sent) out
  pub closings : (c : FlowKey) → bucket_of c B ≡ b → state.closings c ≡ f c

pub walk_on : (host : ℕ → ℕ) (s t u : one.State) → Walk host s t → Walk host t u → Walk host s u
walk_on host s t u a stay = a
walk_on host s t u a (then b step) = then (walk_on host s t _ a b) step

pub walk_reach : (host : ℕ → ℕ) (s t : one.State) → Walk host s t → one.Reach handle host s → one.Reach handle host t
walk_reach host s t stay r = r
walk_reach host s t (then {t = u} w step) r = one.more (walk_reach host s u w r) step

pub says_stay : (B b : ℕ) (xs ys : List one.Message) (out : List Sent) → ((m : one.Message) → Memᴰ m xs → Memᴰ m ys) → All (Says B b xs) out → All (Says B b ys) out
says_stay B b xs ys out up p = all_more (Says B b xs) (Says B b ys) out (λ x. post_stays B b xs ys up NotOpen 0 (meant_by x.note) x.to) p

-- and then it comes to more
pub serving_then : (host : ℕ → ℕ) (B b : ℕ) (s : one.State) (v : ℕ) (h k : Holding) (es fs : List Entry) (out out' : List Sent) (f : FlowKey → ℕ) (a : Serving host B b s v h es out f) →
    Serving host B b a.state v k fs out' a.state.closings → Serving host B b s v k fs (out ++ out') f
serving_then host B b s v h k es fs out out' f a c = record {
  state = c.state;
  walk = walk_on host s a.state c.state a.walk c.walk;
  serves = c.serves;
  local = local_then host v s a.state c.state a.local c.local;
  says = all_append (Says B b c.state.sent) out out' (says_stay B b a.state.sent c.state.sent out c.local.sent a.says) c.says;
  closings = λ d e. c.closings d e ∙ a.closings d e;
}

-- THE WHOLE

pub awaited_stays : (xs ys : List one.Message) → ((m : one.Message) → Memᴰ m xs → Memᴰ m ys) → (h : Handover) (n : Link) → Awaited xs h n → Awaited ys h n
awaited_stays xs ys up Idle n a = tt
awaited_stays xs ys up (AwaitStood l) n a = up _ a
awaited_stays xs ys up (AwaitTold l) n a = up _ a

-- server v, its sessions and what was sent are others
abbrev pub served : World → (ℕ → Keeping) → (ℕ → List Entry) → List Envelope → (FlowKey → ℕ) → World
served w ks ss es f = record { balancers = w.balancers; servers = ks; sessions = ss; controller = w.controller; sent = es ++ w.sent; closings = f }

pub served_sim : (host : ℕ → ℕ) (B b : ℕ) (w : World) (s t : one.State) (v : ℕ) (ks : ℕ → Keeping) (ss : ℕ → List Entry) (es : List Envelope) (f : FlowKey → ℕ) → Sim host B b w s → Local host v s t →
    Serves host b t v (holding_at b (ks v)) (ss v) → ((u : ℕ) → (u ≡ v → ⊥) → (holding_at b (ks u) ≡ holding_at b (w.servers u)) × (ss u ≡ w.sessions u)) →
    ((e : Envelope) → Memᴰ e es → Posted B b t.sent e) → ((c : FlowKey) → bucket_of c B ≡ b → f c ≡ t.closings c) → Sim host B b (served w ks ss es f) t
served_sim host B b w s t v ks ss es f i l here there new closings = record {
  servers = λ u. elim (cases_eq u v) [
    | inl e ↦ rw e here
    | inr ne ↦ rw ((there u ne).0, (there u ne).1) (serves_stays host b v u s t (holding_at b (w.servers u)) (w.sessions u) l ne (i.servers u))
  ];
  balancers = λ d. rw l.balancers (i.balancers d);
  control = rw l.control i.control;
  awaited = rw l.control (awaited_stays s.sent t.sent l.sent s.control.handover (one.newest s) i.awaited);
  sent = λ e mem. elim (Memᴰ.append_cases es mem) [ inl m ↦ new e m | inr m ↦ post_stays B b s.sent t.sent l.sent e.was e.seen e.what e.to (i.sent e m) ];
  closings = closings;
}
