-- What a server is told of its places, as steps of their bucket. Assumes nothing.
use Rattle.std.proofs.Common.{◌≡◌, ℕ, zero, suc, ◌<◌, ◌≤◌, Bool, true, false, T, eqb, ltb, ◌⊎◌, List, [], ◌∷◌, length, take, is_some, Some, None, Ok, Err, Option, Result, sym, refl, ap, ◌∙◌, subst, inl, inr, arith}
use mathlib.Core.List.Memᴰ
use mathlib.Core.List.{Memᴰ}
use Rattle.fault.specs.declared.Fault.{Fault}
use Rattle.flow.specs.declared.key.FlowKey.{FlowKey}
use Rattle.chain.specs.declared.way.Link.{Link}
use Rattle.chain.specs.declared.place.Standing.{Standing}
use Rattle.chain.specs.declared.place.Standing.TheVariants.{Never, Stands, Forgotten}
use Rattle.chain.specs.declared.place.Place.{Place}
use Rattle.chain.specs.declared.handover.Handover.{Handover}
use Rattle.chain.specs.declared.handover.Handover.TheVariants.{AwaitStood}
use Rattle.chain.specs.Places as place
use Rattle.chain.specs.Places.{handle, below}
use Rattle.chain.specs.Controllers.{Control}
use Rattle.bucket.specs.Sessions.{is_in, is_empty, put}
use Rattle.bucket.specs.Model as one
use Rattle.bucket.proofs.Lists.{put_all, in_here}
use Rattle.bucket.proofs.Invariant.{Born, Inv}
use Rattle.bucket.proofs.Main.{reach_inv}
use Rattle.places.specs.Rules.{Known, find, settled, unchanged, stood_with, takes, stands_as, followed_as, freed_as, oldest_in, replaced, remembered, left, forgotten_as, retires}
use Rattle.sessions.specs.declared.entry.Entry.{Entry}
use Rattle.sessions.specs.Entries.{seen_in}
use Rattle.wire.specs.declared.message.Control as said
use Rattle.wire.specs.declared.message.Control.TheVariants as say
use Rattle.machine.specs.declared.name.Machine.{Machine}
use Rattle.machine.specs.declared.name.Machine.TheVariants.{Client, Operator, Balancer, Server, Controller}
use Rattle.machine.specs.declared.sent.Sent.{Sent}
use Rattle.server_bucket.specs.declared.farewell.Farewell.{Farewell}
use Rattle.server_bucket.specs.Rules.{Holding, farewell_of, departs, then_emptied, emptied, tells}
use Rattle.server.specs.Rules.{answer_to}
use Rattle.whole.specs.World.{key_in}
use Rattle.whole.proofs.Rows.{IsGone, Tidy, replaced_tidy, replaced_other, replaced_here, stood_here, stood_other, stood_tidy, oldest_found, forgot_tidy, forgot_here, forgot_other}
use Rattle.whole.proofs.Sim.{PassedIn, Missing, Fit, Serves, AnsweredTo, Says, stay, then}
use Rattle.whole.proofs.Fits.{All, by_cond, fit_less, fit_rise, local_none, Serving, serving_then, walk_reach}
use Rattle.whole.proofs.Below.{reach_below}

pub put_far : {A : Type 0} (host : ℕ → ℕ) (v p k : ℕ) (a : A) (f : ℕ → A) → host p ≡ v → (host k ≡ v → ⊥) → put p a f k ≡ f k
put_far host v p k a f at ne = grind arith

pub at_right : (host : ℕ → ℕ) (s : one.State) (l : Link) → l.server ≡ host l.place → one.place_at host s l ≡ record { link = l; standing = s.places l.place }
at_right host s l e = grind arith

pub answer_says : (B b : ℕ) (xs : List one.Message) (from : Machine) (c : said.Control) → AnsweredTo b xs c → Says B b xs (answer_to from c)
answer_says B b xs Client c p = tt
answer_says B b xs Operator c p = tt
answer_says B b xs (Balancer d) c p = tt
answer_says B b xs (Server v) c p = tt
answer_says B b xs Controller c p = p

take_in : {A : Type 0} (n : ℕ) (x : A) (xs : List A) → Memᴰ x (take n xs) → Memᴰ x xs
take_in zero x [] mem = mem
take_in (suc n) x [] mem = mem
take_in zero x (y ∷ ys) mem = absurd (Memᴰ.not-nil mem)
take_in (suc n) x (y ∷ ys) mem = elim (Memᴰ.cases_cons mem) [ inl e ↦ Memᴰ.head e | inr m ↦ Memᴰ.tail (take_in n x ys m) ]

apart : (n k : ℕ) → (k ≡ n → ⊥) → (n < k) ⊎ (k < n)
apart n k ne = grind arith

none_in : (xs : List FlowKey) → ((c : FlowKey) → T (is_in c xs) → ⊥) → xs ≡ []
none_in [] h = refl
none_in (x ∷ xs) h = absurd (h x (in_here x xs))

-- told to stand, a place that was ever made stays as it is
stood_keeps : (before : Option Link) (l : Link) (x : Standing) (y : Place) → Born x → place.told_to_stand before (record { link = l; standing = x }) ≡ Ok y → y ≡ record { link = l; standing = x }
stood_keeps before l Never y b e = absurd b
stood_keeps before l (Stands f a) y b e = grind arith
stood_keeps before l (Forgotten a) y b e = grind arith

stood_fresh : (before : Option Link) (l : Link) (y : Place) → place.told_to_stand before (record { link = l; standing = Never }) ≡ Ok y → y ≡ record { link = l; standing = Stands before None }
stood_fresh before l y e = grind arith

stood_gone : (before : Option Link) (l a : Link) → T (below l.place before) → place.told_to_stand before (record { link = l; standing = Forgotten a }) ≡ Ok (record { link = l; standing = Forgotten a })
stood_gone before l a t = grind arith

fresh_never : (c : Control) (hi n : ℕ) (x : Standing) → Missing c hi n x → hi < n → x ≡ Never
fresh_never c hi n Never m lt = refl
fresh_never c hi n (Stands b a) m lt = absurd m
fresh_never c hi n (Forgotten a) m lt = absurd (omega (arith, m))

passed_or : (g : Handover) (l : Link) (n k : ℕ) → g ≡ AwaitStood l → (k ≡ l.place → ⊥) → (l.place < k) ⊎ PassedIn g n k
passed_or g l n k e ne = rw e (apart l.place k ne)

-- told of the one behind it, or that the one before it is forgotten, a place stays where it is, and a forgotten one stays as it is
behind_ok : (after l : Link) (x : Standing) (y : Place) → place.told_behind after (record { link = l; standing = x }) ≡ Ok y → (y ≡ record { link = l; standing = y.standing }) × Born y.standing × (IsGone x → y.standing ≡ x)
behind_ok after l Never y e = absurd (grind arith)
behind_ok after l (Stands b None) y e = grind arith
behind_ok after l (Stands b (Some a)) y e = grind arith
behind_ok after l (Forgotten a) y e = grind arith

freed_ok : (gone : ℕ) (l : Link) (x : Standing) (y : Place) → place.told_forgotten gone (record { link = l; standing = x }) ≡ Ok y → (y ≡ record { link = l; standing = y.standing }) × Born y.standing × (IsGone x → y.standing ≡ x)
freed_ok gone l Never y e = absurd (grind arith)
freed_ok gone l (Stands None a) y e = grind arith
freed_ok gone l (Stands (Some b) a) y e = grind arith
freed_ok gone l (Forgotten a) y e = grind arith

module _ (host : ℕ → ℕ) (B b : ℕ) (s : one.State) (v : ℕ) (h : Holding) (es : List Entry) (r : one.Reach handle host s) (i : Serves host b s v h es) where
  abbrev hi : ℕ
  hi = h.known.highest

  -- no session is open in place n
  abbrev Vacated : ℕ → Type 0
  Vacated n = (c : FlowKey) → T (is_some (seen_in (key_in b n c) es)) → ⊥

  pub stays : (out : List Sent) → All (Says B b s.sent) out → Serving host B b s v h es out s.closings
  stays out p = record { state = s; walk = stay; serves = i; local = local_none host v s; says = p; closings = λ c _. refl }

  -- place n becomes y, by a step of the bucket
  puts_serving : (t : one.State) (n : ℕ) (y : Standing) (k : Known) (fs : List Farewell) (out : List Sent) → host n ≡ v → one.Step handle host s one.Quiet t →
      t.places ≡ put n y s.places → t.sessions ≡ s.sessions → t.control ≡ s.control → t.balancers ≡ s.balancers → t.closings ≡ s.closings → ((m : one.Message) → Memᴰ m s.sent → Memᴰ m t.sent) →
      Tidy k → Fit host s.control v n k.highest y (find n k) → ((q : ℕ) → (q ≡ n → ⊥) → Fit host s.control v q k.highest (s.places q) (find q k)) →
      ((f : Farewell) → Memᴰ f fs → (u : ℕ) × Memᴰ (one.Gone (record { place = f.place; server = u }) f.after) t.sent) →
      All (Says B b t.sent) out → Serving host B b s v (record { known = k; farewells = fs }) es out s.closings
  puts_serving t n y k fs out at step places sessions control balancers closings up tidy here there bye said = record {
    state = t;
    walk = then stay step;
    serves = record {
      fit = rw (control, places) (put_all (λ q x. Fit host s.control v q k.highest x (find q k)) n y s.places here there);
      tidy = tidy;
      down = rw sessions i.down;
      up = rw sessions i.up;
      farewells = bye;
    };
    local = record { places = λ q ne. rw places (put_far host v n q y s.places at ne); sessions = λ q ne. rw sessions; sent = up; balancers = balancers; control = control };
    says = said;
    closings = λ c _. rw closings;
  }

  still : (m : one.Message) → (f : Farewell) → Memᴰ f h.farewells → (u : ℕ) × Memᴰ (one.Gone (record { place = f.place; server = u }) f.after) (m ∷ s.sent)
  still m f mem = let g = i.farewells f mem in (g.0, Memᴰ.tail g.1)

  -- TOLD TO STAND

  abbrev pub StandsTo : Machine → ℕ → Option Link → Result (Unit {0}) Fault × Known → Type 0
  StandsTo from n before (Ok u, k) = Serving host B b s v (record { known = k; farewells = h.farewells }) es (answer_to from (say.Stand b n before) ∷ []) s.closings
  StandsTo from n before (Err f, k) = Unit {0}

  module _ (from : Machine) (n : ℕ) (before : Option Link) (at : host n ≡ v) (mem : Memᴰ (one.ToStand (record { place = n; server = v }) before) s.sent) where
    abbrev l : Link
    l = record { place = n; server = v }

    told_stand : (y : Standing) (k : Known) → place.told_to_stand before (record { link = l; standing = s.places n }) ≡ Ok (record { link = l; standing = y }) → Tidy k → Fit host s.control v n k.highest y (find n k) →
        ((q : ℕ) → (q ≡ n → ⊥) → Fit host s.control v q k.highest (s.places q) (find q k)) →
        Serving host B b s v (record { known = k; farewells = h.farewells }) es (answer_to from (say.Stand b n before) ∷ []) s.closings
    told_stand y k e tidy here there =
        let t = one.sends (one.Stood l) (one.puts n y s) in
        let step : one.Step handle host s one.Quiet t = subst (λ z. one.Step handle host s one.Quiet (one.answers n (one.Stood l) z s)) (ap (place.told_to_stand before) (at_right host s l (sym at)) ∙ e) (one.stands l before mem) in
        puts_serving t n y k h.farewells _ at step refl refl refl refl refl (λ m q. Memᴰ.tail q) tidy here there (still (one.Stood l))
        (answer_says B b t.sent from (say.Stand b n before) (λ _. (v, Memᴰ.head refl)), tt)

    stands_some : (x : Place) (z : Result Place Fault) → find n h.known ≡ Some x → Fit host s.control v n hi (s.places n) (Some x) → place.told_to_stand before x ≡ z → StandsTo from n before (unchanged h.known z)
    stands_some x (Ok y) e f q =
        let e1 : x ≡ record { link = l; standing = s.places n } = f.2 ∙ ap (λ u. record { link = record { place = n; server = u }; standing = s.places n }) at in
        let e2 : place.told_to_stand before (record { link = l; standing = s.places n }) ≡ Ok y = subst (λ z. place.told_to_stand before z ≡ Ok y) e1 q in
        told_stand (s.places n) h.known (e2 ∙ ap Ok (stood_keeps before l (s.places n) y f.3 e2)) i.tidy (rw e f) (λ k _. i.fit k)
    stands_some x (Err g) e f q = tt

    stands_new : (z : Result Place Fault) → find n h.known ≡ None → hi < n → Fit host s.control v n hi (s.places n) None → place.told_to_stand before (record { link = l; standing = Never }) ≡ z → StandsTo from n before (takes h.known z)
    stands_new (Ok y) e lt f q =
        let never : s.places n ≡ Never = fresh_never s.control hi n (s.places n) (f at) lt in
        let yeq = stood_fresh before l y q in
        let y' : Place = record { link = l; standing = Stands before None } in
        let inv : Inv host (reach_inv r).0 s = (reach_inv r).1 in
        let ok = (inv.words (one.ToStand l before) mem).1 in
        subst (λ z. Serving host B b s v (record { known = stood_with z h.known; farewells = h.farewells }) es (answer_to from (say.Stand b n before) ∷ []) s.closings) (sym yeq)
        (told_stand (Stands before None) (stood_with y' h.known) (rw never (q ∙ ap Ok yeq)) (stood_tidy y' h.known lt i.tidy)
        (rw (stood_here y' h.known) (at, omega arith, ap (λ u. record { link = record { place = n; server = u }; standing = Stands before None }) (sym at), tt))
        (λ k ne. rw (stood_other y' k h.known ne) (fit_rise host s.control v k hi n (s.places k) (find k h.known) (omega arith)
        (λ _. elim ok [ inl born ↦ absurd (subst Born never born) | inr w ↦ passed_or s.control.handover l (one.newest s).place k w.0 ne ]) (i.fit k))))
    stands_new (Err g) e lt f q = tt

    stands_gone : (x : Standing) → s.places n ≡ x → Missing s.control hi n x → find n h.known ≡ None → n ≤ hi → StandsTo from n before (Ok tt, h.known)
    stands_gone Never p m e le =
        let inv : Inv host (reach_inv r).0 s = (reach_inv r).1 in
        let ok = (inv.words (one.ToStand l before) mem).1 in
        absurd (elim m [ inl lt ↦ omega arith | inr q ↦ elim ok [ inl born ↦ subst Born p born | inr w ↦ (let z : PassedIn (AwaitStood l) (one.newest s).place n = subst (λ g. PassedIn g (one.newest s).place n) w.0 q in omega (arith, z)) ] ])
    stands_gone (Stands f a) p m e le = absurd m
    stands_gone (Forgotten a) p m e le = told_stand (Forgotten a) h.known (rw p (stood_gone before l a (reach_below r l before mem))) i.tidy (rw e (λ _. le)) (λ k _. i.fit k)

    stands_old : find n h.known ≡ None → n ≤ hi → Fit host s.control v n hi (s.places n) None → StandsTo from n before (Ok tt, h.known)
    stands_old e le f = stands_gone (s.places n) refl (f at) e le

    pub stands_here : (o : Option Place) → find n h.known ≡ o → Fit host s.control v n hi (s.places n) o → StandsTo from n before (stands_as o l before h.known)
    stands_here (Some x) e f = stands_some x (place.told_to_stand before x) e f refl
    stands_here None e f = by_cond (StandsTo from n before) (ltb hi n) _ _
        (λ lt. by_cond (StandsTo from n before) (ltb (length h.known.standing) 8) _ _ (λ _. stands_new (place.told_to_stand before (record { link = l; standing = Never })) e (grind arith) f refl) (λ _. tt))
        (λ ge. stands_old e (grind arith) f)

  -- FORGETTING

  abbrev Leaves : ℕ → Option Link × Holding → Type 0
  Leaves n p = Serving host B b s v p.1 es (tells b n p.0) s.closings

  goes : (n : ℕ) (a : Link) (x : Place) → oldest_in h.known.standing ≡ Some x → n ≡ x.link.place → x.standing ≡ Stands None (Some a) → Vacated n →
      Leaves n (Some a, record { known = remembered (record { link = x.link; standing = Forgotten a }) (left h.known); farewells = farewell_of n a ∷ take 15 h.farewells })
  goes n a x o here st vacated =
      let f : Fit host s.control v n hi (s.places n) (Some x) = subst (Fit host s.control v n hi (s.places n)) (ap (λ z. find z h.known) here ∙ oldest_found x h.known i.tidy o) (i.fit n) in
      let x' : Place = record { link = x.link; standing = Forgotten a } in
      let at = f.0 in
      let none : s.sessions n ≡ [] = none_in (s.sessions n) (λ c t. vacated c (i.up n c at t)) in
      let link : x.link ≡ one.link_to host n = ap (λ z. z.link) f.2 in
      let was : s.places n ≡ Stands None (Some a) = sym (ap (λ z. z.standing) f.2) ∙ st in
      let t = one.sends (one.Gone (one.link_to host n) a) (one.puts n (Forgotten a) s) in
      let e : place.forgets (is_empty (s.sessions n)) (one.place_at host s (one.link_to host n)) ≡ Some (record { link = one.link_to host n; standing = Forgotten a }) = ap (place.forgets (is_empty (s.sessions n))) (at_right host s (one.link_to host n) refl) ∙ ap (λ z. place.forgets (is_empty z) (record { link = one.link_to host n; standing = s.places n })) none ∙ ap (λ z. place.forgets true (record { link = one.link_to host n; standing = z })) was in
      let step : one.Step handle host s one.Quiet t = subst (λ z. one.Step handle host s one.Quiet (one.retires (one.link_to host n) z s)) e (one.forgets n) in
      puts_serving t n (Forgotten a) (remembered x' (left h.known)) (farewell_of n a ∷ take 15 h.farewells) (tells b n (Some a)) at step refl refl refl refl refl (λ m q. Memᴰ.tail q)
      (forgot_tidy x' h.known tt i.tidy)
      (subst (Fit host s.control v n hi (Forgotten a)) (sym (ap (λ z. find z (remembered x' (left h.known))) here ∙ forgot_here x' x h.known i.tidy o refl)) (at, f.1, ap (λ z. record { link = z; standing = Forgotten a }) link, tt))
      (λ k ne. fit_less host s.control v k hi (s.places k) (find k h.known) (find k (remembered x' (left h.known))) (forgot_other x' x k h.known i.tidy o refl (λ z. ne (z ∙ sym here))) (i.fit k))
      (λ g mem. elim (Memᴰ.cases_cons mem) [ inl q ↦ rw q (host n, Memᴰ.head refl) | inr m ↦ still (one.Gone (one.link_to host n) a) g (take_in 15 g h.farewells m) ])
      ((λ _. (host n, Memᴰ.head refl)), ((λ _. (host n, Memᴰ.head refl)), tt))

  gone_by : (n : ℕ) (x : Place) → oldest_in h.known.standing ≡ Some x → n ≡ x.link.place → (y : Standing) → x.standing ≡ y → (empty : Bool) → (T empty → Vacated n) →
      Leaves n (departs n h.farewells (forgotten_as (place.replaced x.link (place.gone empty y)) h.known))
  gone_by n x o here Never st empty none = stays [] tt
  gone_by n x o here (Stands None None) st empty none = stays [] tt
  gone_by n x o here (Stands None (Some a)) st true none = goes n a x o here st (none tt)
  gone_by n x o here (Stands None (Some a)) st false none = stays [] tt
  gone_by n x o here (Stands (Some g) a) st empty none = stays [] tt
  gone_by n x o here (Forgotten a) st empty none = stays [] tt

  leaves_by : (n : ℕ) (empty : Bool) → (T empty → Vacated n) → (o : Option Place) → oldest_in h.known.standing ≡ o → Leaves n (departs n h.farewells (retires n empty o h.known))
  leaves_by n empty none None o = stays [] tt
  leaves_by n empty none (Some x) o = by_cond (λ p. Leaves n (departs n h.farewells p)) (eqb n x.link.place) _ _
      (λ e. gone_by n x o (grind arith) x.standing refl empty none)
      (λ _. stays [] tt)

  pub emptied_here : (n : ℕ) (empty : Bool) → (T empty → Vacated n) → Leaves n (emptied n empty h)
  emptied_here n empty none = leaves_by n empty none (oldest_in h.known.standing) refl

-- TOLD OF THE PLACE BEHIND, OR OF THE ONE BEFORE

-- place n is y now, which was found there
module _ (host : ℕ → ℕ) (B b : ℕ) (s : one.State) (v : ℕ) (h : Holding) (es : List Entry) (r : one.Reach handle host s) (i : Serves host b s v h es) where
  abbrev Vacated' : ℕ → Type 0
  Vacated' n = (c : FlowKey) → T (is_some (seen_in (key_in b n c) es)) → ⊥

  abbrev pub ChangesTo : Machine → said.Control → ℕ → Result (Option Link) Fault × Holding → Type 0
  ChangesTo from c n (Ok gone, k) = Serving host B b s v k es (answer_to from c ∷ tells b n gone) s.closings
  ChangesTo from c n (Err f, k) = Unit {0}

  -- and then it may be forgotten
  then_empty : (from : Machine) (c : said.Control) (n : ℕ) (empty : Bool) (k : Known) → (T empty → Vacated' n) →
      (a : Serving host B b s v (record { known = k; farewells = h.farewells }) es (answer_to from c ∷ []) s.closings) →
      ChangesTo from c n (then_emptied n empty h.farewells (Ok tt, k))
  then_empty from c n empty k none a =
      let k' : Holding = record { known = k; farewells = h.farewells } in
      serving_then host B b s v k' (emptied n empty k').1 es es (answer_to from c ∷ []) (tells b n (emptied n empty k').0) s.closings a
      (emptied_here host B b a.state v k' es (walk_reach host s a.state a.walk r) a.serves n empty none)

  abbrev hi' : ℕ
  hi' = h.known.highest

  module _ (from : Machine) (n : ℕ) (empty : Bool) (none : T empty → Vacated' n) where
    abbrev l' : Link
    l' = record { place = n; server = v }

    -- what was found is replaced by y
    changed : (c : said.Control) (t : one.State) (x y : Place) → find n h.known ≡ Some x → Fit host s.control v n hi' (s.places n) (Some x) → y ≡ record { link = l'; standing = y.standing } → Born y.standing → (IsGone (s.places n) → y.standing ≡ s.places n) →
        one.Step handle host s one.Quiet t → t.places ≡ put n y.standing s.places → t.sessions ≡ s.sessions → t.control ≡ s.control → t.balancers ≡ s.balancers → t.closings ≡ s.closings → ((m : one.Message) → Memᴰ m s.sent → Memᴰ m t.sent) →
        Says B b t.sent (answer_to from c) → ChangesTo from c n (then_emptied n empty h.farewells (Ok tt, replaced n y h.known))
    changed c t x y e f yl born same step places sessions control balancers closings up said =
        let e1 : x ≡ record { link = l'; standing = s.places n } = f.2 ∙ ap (λ u. record { link = record { place = n; server = u }; standing = s.places n }) f.0 in
        let at : y.link.place ≡ n = ap (λ z. z.link.place) yl in
        let there : IsGone x.standing → y ≡ x = λ g. yl ∙ ap (λ z. record { link = l'; standing = z }) (same (subst (λ z. IsGone z.standing) e1 g)) ∙ sym e1 in
        then_empty from c n empty (replaced n y h.known) none
        (puts_serving host B b s v h es r i t n y.standing (replaced n y h.known) h.farewells (answer_to from c ∷ []) f.0 step places sessions control balancers closings up
        (replaced_tidy n y h.known at i.tidy)
        (rw (replaced_here n y x h.known at i.tidy e there) (f.0, f.1, yl ∙ ap (λ u. record { link = record { place = n; server = u }; standing = y.standing }) (sym f.0), born))
        (λ k ne. rw (replaced_other n y k h.known at ne) (i.fit k))
        (λ g mem. let q = i.farewells g mem in (q.0, up _ q.1))
        (said, tt))

    behind_by : (a : Link) → Memᴰ (one.BehindYou l' a) s.sent → (x : Place) (z : Result Place Fault) → find n h.known ≡ Some x → Fit host s.control v n hi' (s.places n) (Some x) → place.told_behind a x ≡ z →
        ChangesTo from (say.Behind b n a) n (then_emptied n empty h.farewells (settled n h.known z))
    behind_by a mem x (Err g) e f q = tt
    behind_by a mem x (Ok y) e f q =
        let e1 : x ≡ record { link = l'; standing = s.places n } = f.2 ∙ ap (λ u. record { link = record { place = n; server = u }; standing = s.places n }) f.0 in
        let e2 : place.told_behind a (record { link = l'; standing = s.places n }) ≡ Ok y = subst (λ z. place.told_behind a z ≡ Ok y) e1 q in
        let ok = behind_ok a l' (s.places n) y e2 in
        let t = one.sends (one.Told l' a) (one.puts n y.standing s) in
        let step : one.Step handle host s one.Quiet t = subst (λ z. one.Step handle host s one.Quiet (one.answers n (one.Told l' a) z s)) (ap (place.told_behind a) (at_right host s l' (sym f.0)) ∙ e2) (one.follows l' a mem) in
        changed (say.Behind b n a) t x y e f ok.0 ok.1 ok.2 step refl refl refl refl refl (λ m k. Memᴰ.tail k) (answer_says B b t.sent from (say.Behind b n a) (λ _. (v, Memᴰ.head refl)))

    pub behind_here : (a : Link) → Memᴰ (one.BehindYou l' a) s.sent → (o : Option Place) → find n h.known ≡ o → Fit host s.control v n hi' (s.places n) o →
        ChangesTo from (say.Behind b n a) n (then_emptied n empty h.farewells (followed_as o n a h.known))
    behind_here a mem None e f = tt
    behind_here a mem (Some x) e f = behind_by a mem x (place.told_behind a x) e f refl

    freed_by : (gone u : ℕ) → Memᴰ (one.Gone (record { place = gone; server = u }) l') s.sent → (x : Place) (z : Result Place Fault) → find n h.known ≡ Some x → Fit host s.control v n hi' (s.places n) (Some x) →
        place.told_forgotten gone x ≡ z → ChangesTo from (say.Forgotten b gone l') n (then_emptied n empty h.farewells (settled n h.known z))
    freed_by gone u mem x (Err g) e f q = tt
    freed_by gone u mem x (Ok y) e f q =
        let e1 : x ≡ record { link = l'; standing = s.places n } = f.2 ∙ ap (λ u. record { link = record { place = n; server = u }; standing = s.places n }) f.0 in
        let e2 : place.told_forgotten gone (record { link = l'; standing = s.places n }) ≡ Ok y = subst (λ z. place.told_forgotten gone z ≡ Ok y) e1 q in
        let ok = freed_ok gone l' (s.places n) y e2 in
        let t = one.puts n y.standing s in
        let step : one.Step handle host s one.Quiet t = subst (λ z. one.Step handle host s one.Quiet (one.becomes n z s)) (ap (place.told_forgotten gone) (at_right host s l' (sym f.0)) ∙ e2) (one.frees (record { place = gone; server = u }) l' mem) in
        changed (say.Forgotten b gone l') t x y e f ok.0 ok.1 ok.2 step refl refl refl refl refl (λ m k. k) (answer_says B b t.sent from (say.Forgotten b gone l') tt)

    pub freed_here : (gone u : ℕ) → Memᴰ (one.Gone (record { place = gone; server = u }) l') s.sent → (o : Option Place) → find n h.known ≡ o → Fit host s.control v n hi' (s.places n) o →
        ChangesTo from (say.Forgotten b gone l') n (then_emptied n empty h.farewells (freed_as o n gone h.known))
    freed_here gone u mem None e f = by_cond (λ p. ChangesTo from (say.Forgotten b gone l') n (then_emptied n empty h.farewells p)) (ltb hi' n) _ _ (λ _. tt)
        (λ _. then_empty from (say.Forgotten b gone l') n empty h.known none (stays host B b s v h es r i (answer_to from (say.Forgotten b gone l') ∷ []) (answer_says B b s.sent from (say.Forgotten b gone l') tt, tt)))
    freed_here gone u mem (Some x) e f = freed_by gone u mem x (place.told_forgotten gone x) e f refl
