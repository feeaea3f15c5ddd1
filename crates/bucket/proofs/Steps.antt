-- Every step keeps the invariant. Assumes nothing.
use Rattle.std.proofs.Common.{◌≡◌, ℕ, ◌<◌, ◌≤◌, Bool, true, false, cond, ◌&&◌, T, eqb, ltb, List, [], ◌∷◌, Some, None, Ok as Done, Err, Option, Result, sym, refl, ap, subst, inl, inr, arith}
use mathlib.Core.Path.{fun_ext}
use mathlib.Core.List.{Memᴰ}
use Rattle.std.proofs.lemmas.Bool.{cases_lt}
use Rattle.fault.specs.declared.Fault.{Fault}
use Rattle.fault.specs.declared.Fault.TheVariants.{Contradiction}
use Rattle.flow.specs.declared.key.FlowKey.{FlowKey}
use Rattle.chain.specs.declared.way.Link.{Link}
use Rattle.chain.specs.declared.way.Way.TheVariants.{Up}
use Rattle.chain.specs.declared.place.Standing.{Standing}
use Rattle.chain.specs.declared.place.Standing.TheVariants.{Never, Stands, Forgotten}
use Rattle.chain.specs.declared.place.Place.{Place}
use Rattle.chain.specs.declared.place.Outcome.{Outcome}
use Rattle.chain.specs.declared.place.Outcome.TheVariants.{Delivered, Opened, Forwarded, Refused, Dropped}
use Rattle.chain.specs.declared.handover.Handover.{Handover}
use Rattle.chain.specs.declared.handover.Handover.TheVariants.{Idle, AwaitStood, AwaitTold}
use Rattle.chain.specs.Ways.{same_link, heard_link}
use Rattle.chain.specs.Places as place
use Rattle.chain.specs.Controllers.{Control, newest_of, began, above, stood_in, told_in, hears_stood, hears_forgotten}
use Rattle.bucket.specs.Sessions.{is_empty, put}
use Rattle.bucket.specs.Promise.{made}
use Rattle.bucket.specs.Model.{Was, NotOpen, OpenAt, Traced, Message, Carry, ToStand, Stood, BehindYou, Told, ToBalancer, Gone, State, newest, IsOpen, link_to, place_at, sends, puts, controls, learns, answers, becomes, introduced, tells_of_it, retires, onto, done, Event, outcome, Step, ignores, begins, stands, introduces, follows, confirms, announces, hints, hears, comes, arrives, closes, forgets, frees, shortens}
use Rattle.bucket.proofs.Lists.{put_all, put_here, put_cases, in_empty}
use Rattle.bucket.proofs.Invariant.{View, view, Born, IsStanding, AfterIs, ForgottenTo, Known, Next, Shape, Owed, StandOk, BehindOk, Ok, Waits, Names, Inv}
use Rattle.bucket.proofs.Handle.{Right, handle_right}
use Rattle.bucket.proofs.Ranks.{made_ranks}
use Rattle.bucket.proofs.Stable.{Grows, grows_not, known_stays, before_stays, next_stays, after_stays, waits_stay}
use Rattle.bucket.proofs.Change.{AfterStep, sends_inv, Turn, puts_inv, Learnt, learns_inv, opened_inv, closed_inv, controls_inv}

-- a test inside what is shown
by_cond : {A : Type 0} (P : A → Type 0) (q : Bool) (x y : A) → (T q → P x) → P y → P (cond q x y)
by_cond P true x y yes' no' = yes' tt
by_cond P false x y yes' no' = no'

link_same : (a b : Link) → T (same_link a b) → a ≡ b
link_same a b t =
    let p : a.place ≡ b.place = grind arith in
    let q : a.server ≡ b.server = grind arith in
    let e : ◌≡◌ {A = Link} (record { place = a.place; server = a.server }) (record { place = b.place; server = b.server }) = cc in
    e

both : (p q : ℕ) (x : Bool) → T (eqb p q && x) → (p ≡ q) × T x
both p q x t = grind arith

put_same : {A : Type 0} (k : ℕ) (f : ℕ → A) → put k (f k) f ≡ f
put_same k f = fun_ext (λ g. put_all (λ g z. z ≡ f g) k (f k) f refl (λ g ne. refl) g)

standing_born : (y : Standing) → IsStanding y → Born y
standing_born Never h = h
standing_born (Stands b a) h = tt
standing_born (Forgotten a) h = absurd h

module _ (host : ℕ → ℕ) (n : ℕ) (s : State) (i : Inv host n s) where
  -- a message more, of which the invariant's part holds, after a step
  and_word : (t : State) (m : Message) → (a : AfterStep host n s t) → Ok (view host a.0 t) m → AfterStep host n s (sends m t)
  and_word t m a ok = (a.0, sends_inv host a.0 t a.1 m ok, a.2)

  nothing : AfterStep host n s s
  nothing = (n, i, grows_not (view host n s))

  by_word : (m : Message) → Ok (view host n s) m → AfterStep host n s (sends m s)
  by_word m ok = (n, sends_inv host n s i m ok, grows_not (view host n s))

  -- a place that stays as it is
  same_inv : (m : List Message) (k : ℕ) (y : Standing) → s.places k ≡ y → AfterStep host n s (record { places = s.places; sessions = s.sessions; sent = m; balancers = s.balancers; control = s.control; closings = s.closings }) →
      AfterStep host n s (record { places = put k y s.places; sessions = s.sessions; sent = m; balancers = s.balancers; control = s.control; closings = s.closings })
  same_inv m k y e a =
      let f : put k y s.places ≡ s.places = subst (λ z. put k z s.places ≡ s.places) e (put_same k s.places) in
      subst (λ f. AfterStep host n s (record { places = f; sessions = s.sessions; sent = m; balancers = s.balancers; control = s.control; closings = s.closings })) (sym f) a

  -- a message that leaves the place as it is, and is answered
  answers_same : (l : Link) (k : ℕ) (m : Message) (y : Standing) → s.places k ≡ y → Ok (view host n s) m → AfterStep host n s (answers k m (Done (record { link = l; standing = y })) s)
  answers_same l k m y e ok = same_inv (m ∷ s.sent) k y e (by_word m ok)

  pub top_stands : (y : Standing) → s.places n ≡ y → IsStanding y
  top_stands y e = grind (arith, i.born, i.shape)

  -- THE NEW PLACE STANDS

  stand_turn : (l : Link) → s.control.handover ≡ AwaitStood l → Turn host n s i l.place Never (Stands (Some (newest s)) None) n
  stand_turn l h =
      let x = Stands (Some (newest s)) None in
      let w : Waits (view host n s) (AwaitStood l) = subst (Waits (view host n s)) h i.waits in
      let lt : n < l.place = omega (arith, w.0, w.1) in
      let names : (j : ℕ) → n < j → Born (s.places j) → l.place ≡ j = λ j hi b. subst (Names j) h (i.fresh j hi b) in
      record {
        born = λ b. absurd b;
        old = λ le b. absurd (omega arith);
        after = λ a b. absurd b;
        gone = λ a b. absurd b;
        top = omega arith;
        top_born = put_all (λ j z. j ≡ n → Born z) l.place x s.places (λ e. tt) (λ j ne e. subst (λ q. Born (s.places q)) (sym e) i.born) n refl;
        stands = λ j b hi st. absurd (let e = names j (omega arith) b in omega arith);
        last = λ j ne b le. le;
        pointed = inl refl;
        fresh = λ hi b. subst (Names l.place) (sym h) refl;
        shut = λ c o. tt;
        shape = λ g below. (
          (
            w.1,
            known_stays (view host n s) (view host n (puts l.place x s)) g (newest s) i.newest,
            λ q lo hi st.
                elim (put_cases IsStanding l.place x s.places q st)
                [ inl here ↦ absurd (omega (arith, here.0)) | inr there ↦ (let e = names q (omega (arith, w.0)) (standing_born (s.places q) there.1) in absurd (omega arith)) ],
          ),
          omega arith,
        );
        waits = λ g. waits_stay (view host n s) (view host n (puts l.place x s)) g refl refl s.control.handover i.waits;
      }

  stands_inv : (l : Link) (b : Option Link) (y : Standing) → s.places l.place ≡ y → StandOk (view host n s) l b →
      AfterStep host n s (answers l.place (Stood l) (place.told_to_stand b (record { link = l; standing = y })) s)
  stands_inv l b Never e (inl born) = absurd (subst Born e born)
  stands_inv l b Never e (inr waits) =
      let w : Waits (view host n s) (AwaitStood l) = subst (Waits (view host n s)) waits.0 i.waits in
      let x = Stands (Some (newest s)) None in
      let a = puts_inv host n s i l.place x n (subst (λ y. Turn host n s i l.place y x n) (sym e) (stand_turn l waits.0)) in
      subst (λ b. AfterStep host n s (answers l.place (Stood l) (place.told_to_stand b (record { link = l; standing = Never })) s)) (sym waits.1)
      (by_cond (λ r. AfterStep host n s (answers l.place (Stood l) r s)) (ltb (newest s).place l.place) (Done (record { link = l; standing = x })) (Err Contradiction)
      (λ _. and_word (puts l.place x s) (Stood l) a (put_here Born l.place x s.places tt)) nothing)
  stands_inv l b (Stands b' a) e ok =
      by_cond (λ r. AfterStep host n s (answers l.place (Stood l) r s)) (place.below l.place b) _ (Err Contradiction)
      (λ _. by_cond (λ r. AfterStep host n s (answers l.place (Stood l) (place.placed l r) s)) (place.agrees_before b b') (Done (Stands b' a)) (Err Contradiction)
      (λ _. answers_same l l.place (Stood l) (Stands b' a) e (subst Born (sym e) tt)) nothing)
      nothing
  stands_inv l b (Forgotten a) e ok =
      by_cond (λ r. AfterStep host n s (answers l.place (Stood l) r s)) (place.below l.place b) (Done (record { link = l; standing = Forgotten a })) (Err Contradiction)
      (λ _. answers_same l l.place (Stood l) (Forgotten a) e (subst Born (sym e) tt)) nothing

  -- THE NEWEST IS TOLD OF THE ONE BEHIND IT

  -- the place that was told of becomes the top
  behind_turn : (l a : Link) (b : Option Link) → s.places l.place ≡ Stands b None → newest s ≡ l → s.control.handover ≡ AwaitTold a → Turn host n s i l.place (Stands b None) (Stands b (Some a)) a.place
  behind_turn l a b e new h =
      let x = Stands b (Some a) in
      let v = view host n s in
      let w = view host a.place (puts l.place x s) in
      let wait : Waits v (AwaitTold a) = subst (Waits v) h i.waits in
      let sh : Shape v l.place (Stands b None) = subst (Shape v l.place) e (i.shape l.place) in
      let here : (newest s).place ≡ l.place = ap (λ k. k.place) new in
      let le : n ≤ l.place = sh.1 in
      let lt : l.place < a.place = omega (arith, here, wait.1) in
      let top : n ≡ l.place = elim wait.0 [ inl t ↦ omega (arith, t, here) | inr t ↦ absurd (omega (arith, t)) ] in
      let names : (j : ℕ) → n < j → Born (s.places j) → a.place ≡ j = λ j hi born. subst (Names j) h (i.fresh j hi born) in
      let there : Born (put l.place x s.places a.place) =
      put_all (λ j z. j ≡ a.place → Born z) l.place x s.places (λ _. tt) (λ j ne q. subst (λ q. Born (s.places q)) (sym q) wait.3) a.place refl in
      record {
        born = λ _. tt;
        old = λ _ _. tt;
        after = λ c q. absurd q;
        gone = λ c q. absurd q;
        top = omega arith;
        top_born = there;
        stands = λ j born hi st. tt;
        last = λ j ne born hi. let q = names j (let lt : n < j = omega arith in lt) born in omega arith;
        fresh = λ hi born. absurd (omega arith);
        pointed = inr (a, refl, refl);
        shut = λ c o. tt;
        shape = λ g below. (
          before_stays v w g below l.place b (subst Born (sym e) tt) sh.0,
          (
            lt,
            (wait.2, there, omega arith),
            λ q lo hi st. let born = standing_born (s.places q) (below a.place q wait.3 hi st) in let z = names q (omega arith) born in absurd (omega arith),
          ),
        );
        waits = λ g. subst (Waits w) (sym h) (inr refl, wait.1, wait.2, there);
      }

  follows_inv : (l a : Link) (y : Standing) → s.places l.place ≡ y → Born y → BehindOk (view host n s) l a →
      AfterStep host n s (answers l.place (Told l a) (place.told_behind a (record { link = l; standing = y })) s)
  follows_inv l a Never e born ok = absurd born
  follows_inv l a (Stands b None) e born (inl is) = absurd (subst (AfterIs a) e is)
  follows_inv l a (Stands b None) e born (inr waits) =
      let x = Stands b (Some a) in
      let step = puts_inv host n s i l.place x a.place (subst (λ y. Turn host n s i l.place y x a.place) (sym e) (behind_turn l a b e waits.0 waits.1)) in
      by_cond (λ r. AfterStep host n s (answers l.place (Told l a) (place.placed l r) s)) (ltb l.place a.place) (Done x) (Err Contradiction)
      (λ _. and_word (puts l.place x s) (Told l a) step (put_here (AfterIs a) l.place x s.places refl)) nothing
  follows_inv l a (Stands b (Some c)) e born ok =
      by_cond (λ r. AfterStep host n s (answers l.place (Told l a) (place.placed l r) s)) (ltb l.place a.place) _ (Err Contradiction)
      (λ _. by_cond (λ r. AfterStep host n s (answers l.place (Told l a) (place.placed l r) s)) (same_link a c) (Done (Stands b (Some c))) (Err Contradiction)
      (λ t. answers_same l l.place (Told l a) (Stands b (Some c)) e (subst (AfterIs a) (sym e) (sym (link_same a c t)))) nothing)
      nothing
  follows_inv l a (Forgotten c) e born ok =
      by_cond (λ r. AfterStep host n s (answers l.place (Told l a) (place.placed l r) s)) (ltb l.place a.place) _ (Err Contradiction)
      (λ _. by_cond (λ r. AfterStep host n s (answers l.place (Told l a) (place.placed l r) s)) (same_link a c) (Done (Forgotten c)) (Err Contradiction)
      (λ t. answers_same l l.place (Told l a) (Forgotten c) e (subst (AfterIs a) (sym e) (sym (link_same a c t)))) nothing)
      nothing

  -- A PLACE IS FORGOTTEN

  forget_turn : (k : ℕ) (a : Link) → s.places k ≡ Stands None (Some a) → T (is_empty (s.sessions k)) → Turn host n s i k (Stands None (Some a)) (Forgotten a) n
  forget_turn k a e empty =
      let x = Forgotten a in
      let v = view host n s in
      let w = view host n (puts k x s) in
      let sh : Shape v k (Stands None (Some a)) = subst (Shape v k) e (i.shape k) in
      record {
        born = λ _. tt;
        old = λ _ _. tt;
        after = λ c q. q;
        gone = λ c q. absurd q;
        top = omega arith;
        top_born = put_all (λ j z. j ≡ n → Born z) k x s.places (λ _. tt) (λ j ne q. subst (λ q. Born (s.places q)) (sym q) i.born) n refl;
        stands = λ j born hi st. absurd st;
        last = λ j ne born hi. hi;
        pointed = inl refl;
        fresh = λ hi born. i.fresh k hi (subst Born (sym e) tt);
        shut = λ c o. in_empty c (s.sessions k) empty o;
        shape = λ g below. (omega (arith, sh.1.0, sh.1.1.2), before_stays v w g below k None (subst Born (sym e) tt) sh.0, next_stays v w g below k a sh.1);
        waits = λ g. waits_stay v w g refl refl s.control.handover i.waits;
      }

  forgets_inv : (k : ℕ) (y : Standing) → s.places k ≡ y → AfterStep host n s (retires (link_to host k) (place.forgets (is_empty (s.sessions k)) (record { link = link_to host k; standing = y })) s)
  forgets_inv k Never e = nothing
  forgets_inv k (Stands None None) e = nothing
  forgets_inv k (Stands (Some b) a) e = nothing
  forgets_inv k (Forgotten a) e = nothing
  forgets_inv k (Stands None (Some a)) e =
      by_cond (λ o. AfterStep host n s (retires (link_to host k) (place.replaced (link_to host k) o) s)) (is_empty (s.sessions k)) (Some (Forgotten a)) None
      (λ empty.
      let step = puts_inv host n s i k (Forgotten a) n (subst (λ y. Turn host n s i k y (Forgotten a) n) (sym e) (forget_turn k a e empty)) in
      and_word (puts k (Forgotten a) s) (Gone (link_to host k) a) step (put_here (ForgottenTo a) k (Forgotten a) s.places refl))
      nothing

  -- nothing that stands is below the place after a forgotten one
  gone_shape : (l a : Link) (y : Standing) → s.places l.place ≡ y → ForgottenTo a y → (q : ℕ) → q < a.place → IsStanding (s.places q) → ⊥
  gone_shape l a Never e same q hi st = absurd same
  gone_shape l a (Stands b c) e same q hi st = absurd same
  gone_shape l a (Forgotten c) e same q hi st =
      let sh : Shape (view host n s) l.place (Forgotten c) = subst (Shape (view host n s) l.place) e (i.shape l.place) in
      let to : c.place ≡ a.place = ap (λ k. k.place) same in
      elim (cases_lt q l.place) [
        | inl lt ↦ sh.1 q lt st
        | inr ge ↦ elim (cases_lt l.place q) [ inl gt ↦ sh.2.2 q gt (omega arith) st | inr le ↦ (let z : q ≡ l.place = omega arith in absurd (subst IsStanding e (subst (λ q. IsStanding (s.places q)) z st))) ]
      ]

  -- the place after it has none before it
  free_turn : (l a b : Link) (c : Option Link) → s.places a.place ≡ Stands (Some b) c → ForgottenTo a (s.places l.place) → Turn host n s i a.place (Stands (Some b) c) (Stands None c) n
  free_turn l a b c e gone =
      let x = Stands None c in
      let v = view host n s in
      let w = view host n (puts a.place x s) in
      let sh : Shape v a.place (Stands (Some b) c) = subst (Shape v a.place) e (i.shape a.place) in
      let old = gone_shape l a (s.places l.place) refl gone in
      record {
        born = λ _. tt;
        old = λ _ _. tt;
        after = λ d q. q;
        gone = λ d q. absurd q;
        top = omega arith;
        top_born = put_all (λ j z. j ≡ n → Born z) a.place x s.places (λ _. tt) (λ j ne q. subst (λ q. Born (s.places q)) (sym q) i.born) n refl;
        stands = λ j born hi st. tt;
        last = λ j ne born hi. hi;
        pointed = inl refl;
        fresh = λ hi born. i.fresh a.place hi (subst Born (sym e) tt);
        shut = λ d o. tt;
        shape = λ g below.
            ((λ q hi st. old q hi (below a.place q (subst Born (sym e) tt) hi st)), after_stays v w g below a.place c (λ h. h) sh.1);
        waits = λ g. waits_stay v w g refl refl s.control.handover i.waits;
      }

  frees_inv : (l a : Link) (y : Standing) → s.places a.place ≡ y → ForgottenTo a (s.places l.place) →
      AfterStep host n s (becomes a.place (place.told_forgotten l.place (record { link = a; standing = y })) s)
  frees_inv l a Never e gone = nothing
  frees_inv l a (Stands None c) e gone = same_inv s.sent a.place (Stands None c) e nothing
  frees_inv l a (Stands (Some b) c) e gone =
      by_cond (λ r. AfterStep host n s (becomes a.place (place.placed a r) s)) (eqb b.place l.place) (Done (Stands None c)) (Err Contradiction)
      (λ _. puts_inv host n s i a.place (Stands None c) n (subst (λ y. Turn host n s i a.place y (Stands None c) n) (sym e) (free_turn l a b c e gone))) nothing
  frees_inv l a (Forgotten c) e gone = same_inv s.sent a.place (Forgotten c) e nothing

  -- THE CONTROLLER GOES ON

  controls_grows : (c : Control) → ((l : Link) (b : Option Link) → StandOk (view host n s) l b → StandOk (view host n (controls c s)) l b) →
      ((l a : Link) → BehindOk (view host n s) l a → BehindOk (view host n (controls c s)) l a) → Grows (view host n s) (view host n (controls c s))
  controls_grows c stand behind = record {
    host = λ p. refl;
    top = omega arith;
    born = λ k b. b;
    old = λ k le b. b;
    after = λ a k h. h;
    gone = λ a k h. h;
    opens = λ d k o. inl o;
    keeps = λ d k o. inl o;
    closings = λ d. omega arith;
    stand = stand;
    behind = behind;
  }

  controls_same : AfterStep host n s (controls s.control s)
  controls_same =
      let g = controls_grows s.control (λ l b h. h) (λ l a h. h) in
      (n, controls_inv host n s i s.control g i.fresh i.newest i.waits, g)

  -- a handover begins, and the new place is told to stand
  begins_inv : (l : Link) → l.server ≡ host l.place → (newest s).place < l.place → s.control.handover ≡ Idle →
      AfterStep host n s (controls (began l s.control) (sends (ToStand l (Some (newest s))) s))
  begins_inv l right lt e =
      let c = began l s.control in
      let w : Waits (view host n s) Idle = subst (Waits (view host n s)) e i.waits in
      let g = controls_grows c
      (λ k b h. elim h [ inl born ↦ inl born | inr waits ↦ (let z = waits.0 in absurd (grind arith)) ])
      (λ k a h. elim h [ inl is ↦ inl is | inr waits ↦ (let z = waits.1 in absurd (grind arith)) ]) in
      let j = controls_inv host n s i c g (λ k hi born. absurd (subst (Names k) e (i.fresh k hi born))) i.newest (w, lt, right) in
      (n, sends_inv host n (controls c s) j (ToStand l (Some (newest s))) (right, inr (refl, refl)), g)

  -- the new place stands, and the newest is told of it
  introduces_inv : (a : Link) → s.control.handover ≡ AwaitStood a → Born (s.places a.place) →
      AfterStep host n s (sends (BehindYou (newest s) a) (controls (record { kept = s.control.kept; handover = AwaitTold a }) s))
  introduces_inv a e born =
      let c : Control = record { kept = s.control.kept; handover = AwaitTold a } in
      let w : Waits (view host n s) (AwaitStood a) = subst (Waits (view host n s)) e i.waits in
      let g = controls_grows c
      (λ k b h. elim h [ inl is ↦ inl is | inr waits ↦ (let z = waits.0 in let q : a ≡ k = grind arith in inl (subst (λ k. Born (s.places k.place)) q born)) ])
      (λ k d h. elim h [ inl is ↦ inl is | inr waits ↦ (let z = waits.1 in absurd (grind arith)) ]) in
      let j = controls_inv host n s i c g (λ k hi b. subst (Names k) e (i.fresh k hi b)) i.newest (inl w.0, w.1, w.2, born) in
      (n, sends_inv host n (controls c s) j (BehindYou (newest s) a) (i.newest, inr (refl, refl)), g)

  on_stood : (p : ℕ) (h : Handover) → s.control.handover ≡ h → Born (s.places p) → AfterStep host n s (introduced (stood_in h p s.control).0 (controls (stood_in h p s.control).1 s))
  on_stood p Idle e born = controls_same
  on_stood p (AwaitTold a) e born = controls_same
  on_stood p (AwaitStood a) e born =
      by_cond {A = Option Link × Control} (λ r. AfterStep host n s (introduced r.0 (controls r.1 s))) (eqb p a.place) (Some a, record { kept = s.control.kept; handover = AwaitTold a }) (None, s.control)
      (λ t. introduces_inv a e (let q : p ≡ a.place = grind arith in subst (λ k. Born (s.places k)) q born)) controls_same

  pub after_next : (k : ℕ) (a : Link) (y : Standing) → s.places k ≡ y → AfterIs a y → Next (view host n s) k a
  after_next k a Never e is = absurd is
  after_next k a (Stands b None) e is = absurd is
  after_next k a (Stands b (Some c)) e is =
      let sh : Shape (view host n s) k (Stands b (Some c)) = subst (Shape (view host n s) k) e (i.shape k) in
      subst (Next (view host n s) k) is sh.1
  after_next k a (Forgotten c) e is =
      let sh : Shape (view host n s) k (Forgotten c) = subst (Shape (view host n s) k) e (i.shape k) in
      subst (Next (view host n s) k) is sh.2

  -- the newest was told: the new place is the newest
  confirms_inv : (a : Link) → s.control.handover ≡ AwaitTold a → AfterIs a (s.places (newest s).place) → AfterStep host n s (controls (record { kept = a ∷ s.control.kept; handover = Idle }) s)
  confirms_inv a e is =
      let c : Control = record { kept = a ∷ s.control.kept; handover = Idle } in
      let w : Waits (view host n s) (AwaitTold a) = subst (Waits (view host n s)) e i.waits in
      let next = after_next (newest s).place a (s.places (newest s).place) refl is in
      let top : n ≡ a.place = elim w.0 [ inl t ↦ absurd (omega (arith, t, next.0, next.1.2)) | inr t ↦ t ] in
      let g = controls_grows c
      (λ k b h. elim h [ inl born ↦ inl born | inr waits ↦ (let z = waits.0 in absurd (grind arith)) ])
      (λ k d h. elim h [ inl is' ↦ inl is' | inr waits ↦ (let z = waits.1 in let q : a ≡ d = grind arith in inl (subst (λ k. AfterIs d (s.places k.place)) waits.0 (subst (λ d. AfterIs d (s.places (newest s).place)) q is))) ]) in
      (n, controls_inv host n s i c g (λ k hi born. let q : a.place ≡ k = subst (Names k) e (i.fresh k hi born) in absurd (omega arith)) next.1 top, g)

  on_told : (p : ℕ) (b : Link) (h : Handover) → s.control.handover ≡ h → AfterIs b (s.places p) → AfterStep host n s (controls (told_in h p b s.control).1 s)
  on_told p b Idle e is = controls_same
  on_told p b (AwaitStood a) e is = controls_same
  on_told p b (AwaitTold a) e is =
      by_cond {A = Bool × Control} (λ r. AfterStep host n s (controls r.1 s)) (eqb p (newest s).place && same_link b a) (true, record { kept = a ∷ s.control.kept; handover = Idle }) (false, s.control)
      (λ t.
      let q = (both p (newest s).place (same_link b a) t).0 in
      let u = (both p (newest s).place (same_link b a) t).1 in
      confirms_inv a e (subst (λ a. AfterIs a (s.places (newest s).place)) (link_same b a u) (subst (λ k. AfterIs b (s.places k)) q is)))
      controls_same

  above_newest : (p : ℕ) (ls : List Link) → T (ltb p (newest_of ls).place) → newest_of (above p ls) ≡ newest_of ls
  unfolding above
  above_newest p [] t = refl
  above_newest p (l ∷ ls) t = let e : ltb p l.place ≡ true = grind arith in rw e refl

  on_forgotten : (p : ℕ) → AfterStep host n s (controls (hears_forgotten p s.control).1 s)
  on_forgotten p =
      by_cond {A = Bool × Control} (λ r. AfterStep host n s (controls r.1 s)) (ltb p (newest s).place) (true, record { kept = above p s.control.kept; handover = s.control.handover }) (false, s.control)
      (λ t.
      let c : Control = record { kept = above p s.control.kept; handover = s.control.handover } in
      let e : newest s ≡ newest_of (above p s.control.kept) = sym (above_newest p s.control.kept t) in
      let with' : Link → View = λ l. record { host = host; top = n; places = s.places; sessions = s.sessions; closings = s.closings; newest = l; handover = s.control.handover } in
      let g : Grows (view host n s) (view host n (controls c s)) = subst (λ l. Grows (view host n s) (with' l)) e (grows_not (view host n s)) in (
        n,
        controls_inv host n s i c g i.fresh (subst (Known (view host n s)) e i.newest) (subst (λ l. Waits (with' l) s.control.handover) e i.waits),
        g,
      ))
      controls_same

  -- PACKETS

  came : (c : FlowKey) (opens : Bool) (at : Link) (was : Was) → ((g : ℕ) → was ≡ OpenAt g → IsOpen s c g) →
      Owed (view host n s) (record { packet = record { flow = c; opens = opens; at = at; way = Up }; was = was; seen = s.closings c }) Up was
  came c opens at NotOpen h = tt
  came c opens at (OpenAt g) h = inr (h g refl, tt)

  pub right : (room : Bool) (p : Traced) → Memᴰ (Carry p) s.sent → Right (view host n s) (made s.places) p p.packet.way (outcome place.handle host s room p)
  right room p mem = handle_right (view host n s) (made s.places) (made_ranks (view host n s)) i.born i.shut i.shape p room (i.words (Carry p) mem)

  done_inv : (p : Traced) (o : Outcome) → Right (view host n s) (made s.places) p p.packet.way o → AfterStep host n s (done o p s)
  done_inv p Delivered r = nothing
  done_inv p Opened r = opened_inv host n s i p.packet.flow p.packet.at.place r.0 (subst (λ k. IsStanding (s.places k)) (sym r.0) (top_stands (s.places n) refl)) r.1
  done_inv p (Forwarded l w) r = by_word (Carry (onto l w p)) r.0
  done_inv p (Refused f) r = nothing
  done_inv p Dropped r = nothing

  heard : (k l : Link) → Known (view host n s) k → Known (view host n s) l → Learnt host n s i (heard_link k l)
  heard k l old new =
      by_cond (Learnt host n s i) (ltb k.place l.place) (Done l) _ (λ _. new)
      (by_cond (Learnt host n s i) _ (Err Contradiction) (Done k) (λ _. tt) old)

  hinted : (p : ℕ) (a : Link) → s.places p ≡ Forgotten a → Known (view host n s) a
  hinted p a e = let sh : Shape (view host n s) p (Forgotten a) = subst (Shape (view host n s) p) e (i.shape p) in sh.2.1

  gone_known : (l a : Link) (y : Standing) → s.places l.place ≡ y → ForgottenTo a y → Known (view host n s) a
  gone_known l a Never e h = absurd h
  gone_known l a (Stands b c) e h = absurd h
  gone_known l a (Forgotten c) e h = subst (Known (view host n s)) h (hinted l.place c e)

  -- what the server that a link names knows, by the right server
  at_right : (P : Standing → Type 0) (l : Link) → l.server ≡ host l.place → P (s.places l.place) → P (cond (eqb l.server (host l.place)) (s.places l.place) Never)
  at_right P l e h = grind arith

pub step_inv : (host : ℕ → ℕ) (n : ℕ) (s : State) → Inv host n s → {e : Event} {t : State} → Step place.handle host s e t → AfterStep host n s t
step_inv host n s i ignores = nothing host n s i
step_inv host n s i (begins l right lt e) = begins_inv host n s i l right lt e
step_inv host n s i (stands l b mem) =
    let ok = i.words (ToStand l b) mem in
    at_right host n s i (λ y. AfterStep host n s (answers l.place (Stood l) (place.told_to_stand b (record { link = l; standing = y })) s)) l ok.0 (stands_inv host n s i l b (s.places l.place) refl ok.1)
step_inv host n s i (introduces l mem) = on_stood host n s i l.place s.control.handover refl (i.words (Stood l) mem)
step_inv host n s i (follows l a mem) =
    let ok = i.words (BehindYou l a) mem in
    at_right host n s i (λ y. AfterStep host n s (answers l.place (Told l a) (place.told_behind a (record { link = l; standing = y })) s)) l ok.0.0
    (follows_inv host n s i l a (s.places l.place) refl ok.0.1 ok.1)
step_inv host n s i (confirms l a mem) = on_told host n s i l.place a s.control.handover refl (i.words (Told l a) mem)
step_inv host n s i (announces d) = by_word host n s i (ToBalancer d (newest s)) i.newest
step_inv host n s i (hints d p a e) = by_word host n s i (ToBalancer d a) (hinted host n s i p a e)
step_inv host n s i (hears d l mem) = learns_inv host n s i d (heard_link (s.balancers d) l) (heard host n s i (s.balancers d) l (i.balancers d) (i.words (ToBalancer d l) mem))
step_inv host n s i (comes d c opens was is_open) =
    by_word host n s i (Carry _) (record { at = i.balancers d; asks = tt; seen = omega arith; owed = came host n s i c opens (s.balancers d) was is_open })
step_inv host n s i (arrives room p mem) = done_inv host n s i p (outcome place.handle host s room p) (right host n s i room p mem)
step_inv host n s i (closes c k o) = closed_inv host n s i c k
step_inv host n s i (forgets k) =
    at_right host n s i (λ y. AfterStep host n s (retires (link_to host k) (place.forgets (is_empty (s.sessions k)) (record { link = link_to host k; standing = y })) s)) (link_to host k) refl
    (forgets_inv host n s i k (s.places k) refl)
step_inv host n s i (frees l a mem) =
    let ok = i.words (Gone l a) mem in
    at_right host n s i (λ y. AfterStep host n s (becomes a.place (place.told_forgotten l.place (record { link = a; standing = y })) s)) a (gone_known host n s i l a (s.places l.place) refl ok).0
    (frees_inv host n s i l a (s.places a.place) refl ok)
step_inv host n s i (shortens l a mem) = on_forgotten host n s i l.place

-- nothing that was sent is ever taken back
done_sent : (s : State) (p : Traced) (o : Outcome) (m : Message) → Memᴰ m s.sent → Memᴰ m (done o p s).sent
done_sent s p Delivered m mem = mem
done_sent s p Opened m mem = mem
done_sent s p (Forwarded l w) m mem = Memᴰ.tail mem
done_sent s p (Refused r) m mem = mem
done_sent s p Dropped m mem = mem

answers_sent : (s : State) (k : ℕ) (a : Message) (r : Result Place Fault) (m : Message) → Memᴰ m s.sent → Memᴰ m (answers k a r s).sent
answers_sent s k a (Done x) m mem = Memᴰ.tail mem
answers_sent s k a (Err f) m mem = mem

becomes_sent : (s : State) (k : ℕ) (r : Result Place Fault) (m : Message) → Memᴰ m s.sent → Memᴰ m (becomes k r s).sent
becomes_sent s k (Done x) m mem = mem
becomes_sent s k (Err f) m mem = mem

introduced_sent : (s : State) (o : Option Link) (m : Message) → Memᴰ m s.sent → Memᴰ m (introduced o s).sent
introduced_sent s None m mem = mem
introduced_sent s (Some a) m mem = Memᴰ.tail mem

learns_sent : (s : State) (d : ℕ) (r : Result Link Fault) (m : Message) → Memᴰ m s.sent → Memᴰ m (learns d r s).sent
learns_sent s d (Done x) m mem = mem
learns_sent s d (Err f) m mem = mem

tells_sent : (s : State) (l : Link) (x : Standing) (m : Message) → Memᴰ m s.sent → Memᴰ m (tells_of_it l x s).sent
tells_sent s l Never m mem = mem
tells_sent s l (Stands b a) m mem = mem
tells_sent s l (Forgotten a) m mem = Memᴰ.tail mem

retires_sent : (s : State) (l : Link) (o : Option Place) (m : Message) → Memᴰ m s.sent → Memᴰ m (retires l o s).sent
retires_sent s l None m mem = mem
retires_sent s l (Some x) m mem = tells_sent (puts l.place x.standing s) l x.standing m mem

pub step_sent : (host : ℕ → ℕ) (s : State) {e : Event} {t : State} → Step place.handle host s e t → (m : Message) → Memᴰ m s.sent → Memᴰ m t.sent
step_sent host s ignores m mem = mem
step_sent host s (begins _ _ _ _) m mem = Memᴰ.tail mem
step_sent host s (stands l b _) m mem = answers_sent s l.place (Stood l) (place.told_to_stand b (place_at host s l)) m mem
step_sent host s (introduces l _) m mem = introduced_sent (controls (hears_stood l.place s.control).1 s) (hears_stood l.place s.control).0 m mem
step_sent host s (follows l a _) m mem = answers_sent s l.place (Told l a) (place.told_behind a (place_at host s l)) m mem
step_sent host s (confirms _ _ _) m mem = mem
step_sent host s (announces _) m mem = Memᴰ.tail mem
step_sent host s (hints _ _ _ _) m mem = Memᴰ.tail mem
step_sent host s (hears d l _) m mem = learns_sent s d (heard_link (s.balancers d) l) m mem
step_sent host s (comes _ _ _ _ _) m mem = Memᴰ.tail mem
step_sent host s (arrives room p _) m mem = done_sent s p (outcome place.handle host s room p) m mem
step_sent host s (closes _ _ _) m mem = mem
step_sent host s (forgets k) m mem = retires_sent s (link_to host k) (place.forgets (is_empty (s.sessions k)) (place_at host s (link_to host k))) m mem
step_sent host s (frees l a _) m mem = becomes_sent s a.place (place.told_forgotten l.place (place_at host s a)) m mem
step_sent host s (shortens _ _ _) m mem = mem
