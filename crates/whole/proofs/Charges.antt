-- What the controller does for one bucket, as steps of the bucket. Assumes nothing.
use Rattle.std.proofs.Common.{◌≡◌, ℕ, ◌<◌, ◌≤◌, Bool, true, cond, ◌&&◌, eqb, ltb, List, [], ◌∷◌, ◌++◌, map, Some, None, Option, sym, refl, ap, ◌∙◌, subst, arith}
use mathlib.Core.List.{Memᴰ}
use Rattle.chain.specs.declared.way.Link.{Link}
use Rattle.chain.specs.declared.handover.Handover.{Handover}
use Rattle.chain.specs.declared.handover.Handover.TheVariants.{Idle, AwaitStood, AwaitTold}
use Rattle.chain.specs.Places.{handle}
use Rattle.chain.specs.Ways.{same_link}
use Rattle.chain.specs.Controllers.{Control, newest_of, began, next_at, has_room, begins_in, stood_in, told_in, hears_stood, hears_told, hears_forgotten, above}
use Rattle.bucket.specs.Model as one
use Rattle.machine.specs.declared.sent.Sent.{Sent}
use Rattle.machine.specs.Again.{is_due}
use Rattle.controller_bucket.specs.Rules as bucket
use Rattle.controller_bucket.specs.Rules.{Charge, awaited_of, awaited, door_to, doors, with_control, put_off, started_with, begun_in, begun, stood_with, stood, also, told_with, told, forgotten_with, forgotten, due}
use Rattle.whole.proofs.Sim.{lead, PassedIn, Passed, Says, Awaited, Walk, stay, then}
use Rattle.whole.proofs.Fits.{All, all_append, by_cond, walk_on, says_stay, awaited_stays}

pub when_true : {A : Type 0} {q : Bool} (x y : A) → q ≡ true → cond q x y ≡ x
when_true {q} x y e = subst (λ z. cond z x y ≡ x) (sym e) refl

-- only the controller's part of the bucket changes
pub record Steady (s t : one.State) : Type 0 where
  pub places : t.places ≡ s.places
  pub sessions : t.sessions ≡ s.sessions
  pub balancers : t.balancers ≡ s.balancers
  pub closings : t.closings ≡ s.closings
  pub sent : (m : one.Message) → Memᴰ m s.sent → Memᴰ m t.sent
  pub passed : (k : ℕ) → Passed s.control k → Passed t.control k

pub steady_none : (s : one.State) → Steady s s
steady_none s = record { places = refl; sessions = refl; balancers = refl; closings = refl; sent = λ m z. z; passed = λ k z. z }

steady_then : (s t u : one.State) → Steady s t → Steady t u → Steady s u
steady_then s t u a b = record {
  places = b.places ∙ a.places;
  sessions = b.sessions ∙ a.sessions;
  balancers = b.balancers ∙ a.balancers;
  closings = b.closings ∙ a.closings;
  sent = λ m z. b.sent m (a.sent m z);
  passed = λ k z. b.passed k (a.passed k z);
}

-- what the controller keeps of the bucket is what the bucket's state has, and what is awaited was said
abbrev pub Ruled : one.State → Charge → Type 0
Ruled s c = (c.control ≡ s.control) × Awaited s.sent s.control.handover (one.newest s)

-- what it comes to, and what it says
pub record Charging (host : ℕ → ℕ) (B b : ℕ) (s : one.State) (c : Charge) (out : List Sent) : Type 0 where
  pub state : one.State
  pub walk : Walk host s state
  pub ruled : Ruled state c
  pub steady : Steady s state
  pub says : All (Says B b state.sent) out

-- the place that was last given is at the server that host says
abbrev pub Right : (ℕ → ℕ) → Control → Type 0
Right host c = host (lead c).place ≡ (lead c).server

pub charging_then : (host : ℕ → ℕ) (B b : ℕ) (s : one.State) (c d : Charge) (out out' : List Sent) (a : Charging host B b s c out) → Charging host B b a.state d out' → Charging host B b s d (out ++ out')
charging_then host B b s c d out out' a e = record {
  state = e.state;
  walk = walk_on host s a.state e.state a.walk e.walk;
  ruled = e.ruled;
  steady = steady_then s a.state e.state a.steady e.steady;
  says = all_append (Says B b e.state.sent) out out' (says_stay B b a.state.sent e.state.sent out e.steady.sent a.says) e.says;
}

pub above_newest : (n : ℕ) (ls : List Link) → n < (newest_of ls).place → newest_of (above n ls) ≡ newest_of ls
unfolding above
above_newest n [] lt = absurd (omega arith)
above_newest n (l ∷ ls) lt = grind arith

awaited_says : (B b : ℕ) (xs : List one.Message) (g : Handover) (n : Link) → Awaited xs g n → All (Says B b xs) (awaited_of b g n)
awaited_says B b xs Idle n a = tt
awaited_says B b xs (AwaitStood l) n a = ((λ _. a), tt)
awaited_says B b xs (AwaitTold l) n a = ((λ _. a), tt)

module _ (host : ℕ → ℕ) (B b : ℕ) where
  abbrev stays : (s : one.State) (c : Charge) (out : List Sent) → Ruled s c → All (Says B b s.sent) out → Charging host B b s c out
  stays s c out u p = record { state = s; walk = stay; ruled = u; steady = steady_none s; says = p }

  -- BALANCERS ARE TOLD

  tells_all : (ds : List ℕ) (s : one.State) (c : Charge) (l : Link) → l ≡ one.newest s → Ruled s c → Charging host B b s c (map (door_to b l) ds)
  tells_all [] s c l e u = stays s c [] u tt
  tells_all (d ∷ ds) s c l e u =
      let t = one.sends (one.ToBalancer d (one.newest s)) s in
      let a : Charging host B b s c (door_to b l d ∷ []) = record {
        state = t;
        walk = then stay (one.announces d);
        ruled = (u.0, awaited_stays s.sent t.sent (λ m z. Memᴰ.tail z) s.control.handover (one.newest s) u.1);
        steady = record { places = refl; sessions = refl; balancers = refl; closings = refl; sent = λ m z. Memᴰ.tail z; passed = λ k z. z };
        says = ((λ _. rw e (Memᴰ.head refl)), tt);
      } in
      charging_then host B b s c c (door_to b l d ∷ []) (map (door_to b l) ds) a (tells_all ds t c l e a.ruled)

  -- A HANDOVER BEGINS

  starts : (s : one.State) (c : Charge) (server : ℕ) → Ruled s c → c.control.handover ≡ Idle → Right host (began (next_at server c.control.kept) c.control) →
      Charging host B b s (with_control (began (next_at server c.control.kept) c.control) c) (awaited b (with_control (began (next_at server c.control.kept) c.control) c))
  starts s c server u idle right =
      let l = next_at server c.control.kept in
      let same : newest_of c.control.kept ≡ one.newest s = ap (λ z. newest_of z.kept) u.0 in
      let place = ap (λ z. z.place) same in
      let idle' : s.control.handover ≡ Idle = ap (λ z. z.handover) (sym u.0) ∙ idle in
      let t = one.controls (began l s.control) (one.sends (one.ToStand l (Some (one.newest s))) s) in
      record {
        state = t;
        walk = then stay (one.begins l (sym right) (omega (arith, place)) idle');
        ruled = (ap (began l) u.0, Memᴰ.head refl);
        steady = record {
          places = refl;
          sessions = refl;
          balancers = refl;
          closings = refl;
          sent = λ m z. Memᴰ.tail z;
          passed = λ k z. let y : k ≤ (one.newest s).place = subst (λ g. PassedIn g (one.newest s).place k) idle' z in omega (arith, place, y);
        };
        says = ((λ _. Memᴰ.head (ap (λ z. one.ToStand l (Some z)) same)), tt);
      }

  begun_so : (s : one.State) (c : Charge) (server : ℕ) (g : Handover) → c.control.handover ≡ g → Ruled s c → Right host (begun_in b server g c).1.control → Charging host B b s (begun_in b server g c).1 (begun_in b server g c).0
  begun_so s c server Idle e u =
      by_cond {A = List Sent × Charge} (λ p. Right host p.1.control → Charging host B b s p.1 p.0) (eqb (bucket.newest c).server server) _ _ (λ _ _. stays s _ [] u tt)
      (λ _. subst (λ g. Right host (started_with b c (begins_in g server c.control)).1.control → Charging host B b s (started_with b c (begins_in g server c.control)).1 (started_with b c (begins_in g server c.control)).0) (sym e)
      (by_cond (λ p. Right host (started_with b c p).1.control → Charging host B b s (started_with b c p).1 (started_with b c p).0) (has_room c.control.kept) _ _
      (λ _ right. starts s c server u e right)
      (λ _ _. stays s _ _ u (by_cond (All (Says B b s.sent)) c.reported [] _ (λ _. tt) (λ _. (tt, tt))))))
  begun_so s c server (AwaitStood l) e u = λ right. stays s c [] u tt
  begun_so s c server (AwaitTold l) e u = λ right. stays s c [] u tt

  pub begun_here : (s : one.State) (c : Charge) (server : ℕ) → Ruled s c → Right host (begun b server c).1.control → Charging host B b s (begun b server c).1 (begun b server c).0
  begun_here s c server u right = begun_so s c server c.control.handover refl u right

  -- ANSWERS

  stood_by : (s : one.State) (c : Charge) (n v : ℕ) → Memᴰ (one.Stood (record { place = n; server = v })) s.sent → Ruled s c → (g : Handover) → c.control.handover ≡ g →
      Charging host B b s (stood_with b c (stood_in g n c.control)).1 (stood_with b c (stood_in g n c.control)).0
  stood_by s c n v mem u Idle e = stays s c [] u tt
  stood_by s c n v mem u (AwaitTold l) e = stays s c [] u tt
  stood_by s c n v mem u (AwaitStood l) e = by_cond (λ p. Charging host B b s (stood_with b c p).1 (stood_with b c p).0) (eqb n l.place) _ _
      (λ q. let eq : hears_stood n c.control ≡ (Some l, record { kept = c.control.kept; handover = AwaitTold l }) = ap (λ g. stood_in g n c.control) e ∙ when_true _ _ q in
      let eq' : hears_stood n s.control ≡ (Some l, record { kept = s.control.kept; handover = AwaitTold l }) = subst (λ z. hears_stood n z ≡ (Some l, record { kept = z.kept; handover = AwaitTold l })) u.0 eq in
      let ho : s.control.handover ≡ AwaitStood l = ap (λ z. z.handover) (sym u.0) ∙ e in
      let same : newest_of c.control.kept ≡ one.newest s = ap (λ z. newest_of z.kept) u.0 in
      let k : Control = record { kept = s.control.kept; handover = AwaitTold l } in
      record {
        state = one.sends (one.BehindYou (one.newest s) l) (one.controls k s);
        walk = then stay (subst (λ z. one.Step handle host s one.Quiet (one.introduced z.0 (one.controls z.1 s))) eq' (one.introduces (record { place = n; server = v }) mem));
        ruled = (ap (λ z. record { kept = z.kept; handover = AwaitTold l }) u.0, Memᴰ.head refl);
        steady = record { places = refl; sessions = refl; balancers = refl; closings = refl; sent = λ m z. Memᴰ.tail z; passed = λ j z. subst (λ g. PassedIn g (one.newest s).place j) ho z };
        says = ((λ _. Memᴰ.head (ap (λ z. one.BehindYou z l) same)), tt);
      })
      (λ _. stays s c [] u tt)

  pub stood_here : (s : one.State) (c : Charge) (n v : ℕ) → Memᴰ (one.Stood (record { place = n; server = v })) s.sent → Ruled s c → Charging host B b s (stood b n c).1 (stood b n c).0
  stood_here s c n v mem u = stood_by s c n v mem u c.control.handover refl

  told_by : (s : one.State) (c : Charge) (server : ℕ) (all : List ℕ) (n v : ℕ) (a : Link) → Memᴰ (one.Told (record { place = n; server = v }) a) s.sent → Ruled s c → (g : Handover) → c.control.handover ≡ g →
      Right host (told_with b server all c (told_in g n a c.control)).1.control → Charging host B b s (told_with b server all c (told_in g n a c.control)).1 (told_with b server all c (told_in g n a c.control)).0
  told_by s c server all n v a mem u Idle e = λ right. stays s c [] u tt
  told_by s c server all n v a mem u (AwaitStood l) e = λ right. stays s c [] u tt
  told_by s c server all n v a mem u (AwaitTold l) e = by_cond (λ p. Right host (told_with b server all c p).1.control → Charging host B b s (told_with b server all c p).1 (told_with b server all c p).0) (eqb n (newest_of c.control.kept).place && same_link a l) _ _
      (λ q right.
      let eq : hears_told n a c.control ≡ (true, record { kept = l ∷ c.control.kept; handover = Idle }) = ap (λ g. told_in g n a c.control) e ∙ when_true _ _ q in
      let eq' : hears_told n a s.control ≡ (true, record { kept = l ∷ s.control.kept; handover = Idle }) = subst (λ z. hears_told n a z ≡ (true, record { kept = l ∷ z.kept; handover = Idle })) u.0 eq in
      let ho : s.control.handover ≡ AwaitTold l = ap (λ z. z.handover) (sym u.0) ∙ e in
      let c1 : Charge = record { control = record { kept = l ∷ c.control.kept; handover = Idle }; age = 0; untold = all; untold_age = 0; reported = c.reported } in
      let t = one.controls (record { kept = l ∷ s.control.kept; handover = Idle }) s in
      let a1 : Charging host B b s c1 [] = record {
        state = t;
        walk = then stay (subst (λ z. one.Step handle host s one.Quiet (one.controls z.1 s)) eq' (one.confirms (record { place = n; server = v }) a mem));
        ruled = (ap (λ z. record { kept = l ∷ z.kept; handover = Idle }) u.0, tt);
        steady = record { places = refl; sessions = refl; balancers = refl; closings = refl; sent = λ m z. z; passed = λ j z. let y : j < l.place = subst (λ g. PassedIn g (one.newest s).place j) ho z in omega (arith, y) };
        says = tt;
      } in
      let a2 = charging_then host B b s c1 c1 [] (doors b c1) a1 (tells_all all t c1 (bucket.newest c1) refl a1.ruled) in
      charging_then host B b s c1 (begun b server c1).1 (doors b c1) (begun b server c1).0 a2 (begun_here a2.state c1 server a2.ruled right))
      (λ _ _. stays s c [] u tt)

  pub told_here : (s : one.State) (c : Charge) (server : ℕ) (all : List ℕ) (n v : ℕ) (a : Link) → Memᴰ (one.Told (record { place = n; server = v }) a) s.sent → Ruled s c →
      Right host (told b server all n a c).1.control → Charging host B b s (told b server all n a c).1 (told b server all n a c).0
  told_here s c server all n v a mem u right = told_by s c server all n v a mem u c.control.handover refl right

  -- FORGETTING

  abbrev pub Forgot : one.State → Charge → Option (List Sent × Charge) → Type 0
  Forgot s c None = Unit {0}
  Forgot s c (Some (out, d)) = Right host d.control → Charging host B b s d out

  pub forgotten_here : (s : one.State) (c : Charge) (server n v : ℕ) (a : Link) → Memᴰ (one.Gone (record { place = n; server = v }) a) s.sent → Ruled s c → Forgot s c (forgotten b server n c)
  forgotten_here s c server n v a mem u = by_cond (λ p. Forgot s c (forgotten_with b server c p)) (ltb n (newest_of c.control.kept).place) _ _
      (λ q right.
      let k : Control = record { kept = above n c.control.kept; handover = c.control.handover } in
      let eq : hears_forgotten n c.control ≡ (true, k) = when_true _ _ q in
      let eq' : hears_forgotten n s.control ≡ (true, record { kept = above n s.control.kept; handover = s.control.handover }) = subst (λ z. hears_forgotten n z ≡ (true, record { kept = above n z.kept; handover = z.handover })) u.0 eq in
      let lt : n < (newest_of c.control.kept).place = grind arith in
      let top : newest_of (above n s.control.kept) ≡ one.newest s = above_newest n s.control.kept (subst (λ z. n < (newest_of z.kept).place) u.0 lt) in
      let c1 : Charge = record { control = k; age = c.age; untold = c.untold; untold_age = c.untold_age; reported = c.reported } in
      let t = one.controls (record { kept = above n s.control.kept; handover = s.control.handover }) s in
      let a1 : Charging host B b s c1 [] = record {
        state = t;
        walk = then stay (subst (λ z. one.Step handle host s one.Quiet (one.controls z.1 s)) eq' (one.shortens (record { place = n; server = v }) a mem));
        ruled = (ap (λ z. record { kept = above n z.kept; handover = z.handover }) u.0, subst (Awaited s.sent s.control.handover) (sym top) u.1);
        steady = record { places = refl; sessions = refl; balancers = refl; closings = refl; sent = λ m z. z; passed = λ j z. subst (λ y. PassedIn s.control.handover y.place j) (sym top) z };
        says = tt;
      } in
      charging_then host B b s c1 (begun b server c1).1 [] (begun b server c1).0 a1 (begun_here t c1 server a1.ruled right))
      (λ _. tt)

  -- TICKS

  pub due_here : (s : one.State) (c : Charge) (ticks : ℕ) → Ruled s c → Charging host B b s c (due b ticks c)
  due_here s c ticks u =
      let same : newest_of c.control.kept ≡ one.newest s = ap (λ z. newest_of z.kept) u.0 in
      let say : All (Says B b s.sent) (awaited b c) = subst (λ z. All (Says B b s.sent) (awaited_of b z.handover (newest_of z.kept))) (sym u.0) (awaited_says B b s.sent s.control.handover (one.newest s) u.1) in
      let first = cond (is_due ticks c.age) (awaited b c) [] in
      let a = stays s c first u (by_cond (All (Says B b s.sent)) (is_due ticks c.age) (awaited b c) [] (λ _. say) (λ _. tt)) in
      charging_then host B b s c c first (cond (is_due ticks c.untold_age) (doors b c) []) a
      (by_cond (Charging host B b s c) (is_due ticks c.untold_age) (doors b c) [] (λ _. tells_all c.untold s c (bucket.newest c) same u) (λ _. stays s c [] u tt))
