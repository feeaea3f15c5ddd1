-- A step that changes one place, the sessions of one place, or what the controller keeps, keeps the invariant, if what it does is allowed; so does one that sends a message of which the invariant's part holds. Assumes nothing.
use Rattle.std.proofs.Common.{◌≡◌, ℕ, ◌<◌, ◌≤◌, T, ◌⊎◌, ◌∷◌, Ok as Done, Err, Result, sym, refl, subst, inl, inr, arith}
use mathlib.Core.List.Memᴰ
use Rattle.fault.specs.declared.Fault.{Fault}
use Rattle.flow.specs.declared.key.FlowKey.{FlowKey}
use Rattle.chain.specs.declared.way.Link.{Link}
use Rattle.chain.specs.declared.place.Standing.{Standing}
use Rattle.chain.specs.Controllers.{Control, newest_of}
use Rattle.bucket.specs.Sessions.{is_in, count, without, put, bump}
use Rattle.bucket.specs.Model.{Message, State, newest, IsOpen, sends, puts, holds, controls, counts, learns}
use Rattle.bucket.proofs.Lists.{put_all, put_here, put_cases, in_cons, in_there, in_without, in_still, count_without, count_cons, bump_up, bump_here}
use Rattle.bucket.proofs.Invariant.{view, Born, IsStanding, AfterIs, ForgottenTo, Known, Shape, Ok, Waits, Names, Pointed, Inv}
use Rattle.bucket.proofs.Stable.{Grows, grows_not, known_stays, ok_stays, shape_stays}

-- the invariant of a state after a step, and that the step let the view grow
abbrev pub AfterStep : (ℕ → ℕ) → ℕ → State → State → Type 0
AfterStep host n s t = (m : ℕ) × Inv host m t × Grows (view host n s) (view host m t)

module _ (host : ℕ → ℕ) (n : ℕ) (s : State) (i : Inv host n s) where
  pub sends_inv : (m : Message) → Ok (view host n s) m → Inv host n (sends m s)
  sends_inv m ok = record {
    shape = i.shape;
    low = i.low;
    born = i.born;
    pointed = i.pointed;
    fresh = i.fresh;
    shut = i.shut;
    one = i.one;
    once = i.once;
    words = λ m' mem. elim (Memᴰ.cases_cons mem) [ inl e ↦ rw e ok | inr old ↦ i.words m' old ];
    balancers = i.balancers;
    newest = i.newest;
    waits = i.waits;
  }

  -- nothing new stands below a place that was there
  abbrev pub Stands-below : ℕ → Standing → Type 0
  Stands-below k x = (j q : ℕ) → Born (s.places j) → q < j → IsStanding (put k x s.places q) → IsStanding (s.places q)

  -- what is allowed of a place that becomes x, with m as the top
  pub record Turn (k : ℕ) (y x : Standing) (m : ℕ) : Type 0 where
    pub born : Born y → Born x
    pub old : k ≤ n → Born x → Born y
    pub after : (a : Link) → AfterIs a y → AfterIs a x
    pub gone : (a : Link) → ForgottenTo a y → ForgottenTo a x
    pub top : n ≤ m
    pub top_born : Born (put k x s.places m)
    pub stands : (j : ℕ) → Born (s.places j) → k < j → IsStanding x → IsStanding y
    pub last : (j : ℕ) → (j ≡ k → ⊥) → Born (s.places j) → n ≤ j → m ≤ j
    pub fresh : n < k → Born x → Names k s.control.handover
    pub shut : (c : FlowKey) → IsOpen s c k → IsStanding x
    pub pointed : (m ≡ n) ⊎ ((a : Link) × AfterIs a x × (a.place ≡ m))
    pub shape : Grows (view host n s) (view host m (puts k x s)) → Stands-below k x → Shape (view host m (puts k x s)) k x
    pub waits : Grows (view host n s) (view host m (puts k x s)) → Waits (view host m (puts k x s)) s.control.handover

  module _ (k : ℕ) (x : Standing) (m : ℕ) (turn : Turn k (s.places k) x m) where
    grows_born : (j : ℕ) → Born (s.places j) → Born (put k x s.places j)
    grows_born = put_all (λ j z. Born (s.places j) → Born z) k x s.places turn.born (λ j ne b. b)

    grows_after : (a : Link) (j : ℕ) → AfterIs a (s.places j) → AfterIs a (put k x s.places j)
    grows_after a = put_all (λ j z. AfterIs a (s.places j) → AfterIs a z) k x s.places (turn.after a) (λ j ne h. h)

    pointed_stays : Pointed n s.places → Pointed n (put k x s.places)
    pointed_stays (inl e) = inl e
    pointed_stays (inr there) = inr (there.0, there.1, grows_after there.1 there.0 there.2, there.3)

    puts_grows : Grows (view host n s) (view host m (puts k x s))
    puts_grows = record {
      host = λ p. refl;
      top = turn.top;
      born = grows_born;
      old = put_all (λ j z. j ≤ n → Born z → Born (s.places j)) k x s.places turn.old (λ j ne le b. b);
      after = grows_after;
      gone = λ a. put_all (λ j z. ForgottenTo a (s.places j) → ForgottenTo a z) k x s.places (turn.gone a) (λ j ne h. h);
      opens = λ c j o. inl o;
      keeps = λ c j o. inl o;
      closings = λ c. omega arith;
      stand = λ l b h. elim h [ inl born ↦ inl (grows_born l.place born) | inr waits ↦ inr waits ];
      behind = λ l a h. elim h [ inl is ↦ inl (grows_after a l.place is) | inr waits ↦ inr waits ];
    }

    pub puts_inv : AfterStep host n s (puts k x s)
    puts_inv =
        let v = view host n s in
        let w = view host m (puts k x s) in
        let g : Grows v w = puts_grows in
        let below : Stands-below k x =
        λ j q born lt. put_all (λ q z. q < j → IsStanding z → IsStanding (s.places q)) k x s.places (λ lt st. turn.stands j born lt st) (λ q ne lt st. st) q lt in (
          m,
          record {
            shape = put_all (Shape w) k x s.places (turn.shape g below) (λ j ne. shape_stays v w g below k turn.last j (s.places j) ne (λ b. b) (i.shape j));
            low = omega (arith, i.low, turn.top);
            born = turn.top_born;
            pointed = elim turn.pointed [ inl e ↦ rw e (pointed_stays i.pointed) | inr new ↦ inr (k, new.0, put_here (AfterIs new.0) k x s.places new.1, new.2) ];
            fresh = put_all (λ j z. m < j → Born z → Names j s.control.handover) k x s.places
                (λ lt b. turn.fresh (omega (arith, turn.top)) b) (λ j ne lt b. i.fresh j (omega (arith, turn.top)) b);
            shut = λ c. put_all (λ j z. IsOpen s c j → IsStanding z × (j ≤ m)) k x s.places
                (λ o. (turn.shut c o, omega (arith, turn.top, (i.shut c k o).1))) (λ j ne o. ((i.shut c j o).0, omega (arith, turn.top, (i.shut c j o).1)));
            one = i.one;
            once = i.once;
            words = λ msg mem. ok_stays v w g msg (i.words msg mem);
            balancers = λ d. known_stays v w g (s.balancers d) (i.balancers d);
            newest = known_stays v w g (newest s) i.newest;
            waits = turn.waits g;
          },
          g,
        )

  -- a balancer keeps a known link
  abbrev pub Learnt : Result Link Fault → Type 0
  Learnt (Done l) = Known (view host n s) l
  Learnt (Err f) = Unit {0}

  pub learns_inv : (d : ℕ) (r : Result Link Fault) → Learnt r → AfterStep host n s (learns d r s)
  learns_inv d (Err f) known = (n, i, grows_not (view host n s))
  learns_inv d (Done l) known = (
    n,
    record {
      shape = i.shape;
      low = i.low;
      born = i.born;
      pointed = i.pointed;
      fresh = i.fresh;
      shut = i.shut;
      one = i.one;
      once = i.once;
      words = i.words;
      balancers = put_all (λ _. Known (view host n s)) d l s.balancers known (λ g ne. i.balancers g);
      newest = i.newest;
      waits = i.waits;
    },
    grows_not (view host n s),
  )

  -- the top opens a session that is open nowhere
  pub opened_inv : (c : FlowKey) (k : ℕ) → k ≡ n → IsStanding (s.places k) → ((g : ℕ) → IsOpen s c g → ⊥) → AfterStep host n s (holds k (c ∷ s.sessions k) s)
  opened_inv c k top st none =
      let t = holds k (c ∷ s.sessions k) s in
      let v = view host n s in
      let w = view host n t in
      let was : (d : FlowKey) (j : ℕ) → IsOpen t d j → IsOpen s d j ⊎ ((d ≡ c) × (j ≡ k)) =
      λ d j o.
      elim (put_cases (λ cs. T (is_in d cs)) k (c ∷ s.sessions k) s.sessions j o) [
        | inl here ↦ elim (in_cons d c (s.sessions k) here.1) [ inl e ↦ inr (e, here.0) | inr old ↦ inl (subst (λ q. IsOpen s d q) (sym here.0) old) ]
        | inr there ↦ inl there.1
      ] in
      let g : Grows v w = record {
        host = λ p. refl;
        top = omega arith;
        born = λ j b. b;
        old = λ j le b. b;
        after = λ a j h. h;
        gone = λ a j h. h;
        opens = λ d j o. elim (was d j o) [ inl old ↦ inl old | inr new ↦ inr (omega (arith, new.1, top)) ];
        keeps = λ d. put_all (λ j cs. IsOpen s d j → T (is_in d cs) ⊎ (s.closings d < s.closings d)) k (c ∷ s.sessions k) s.sessions (λ o. inl (in_there d c (s.sessions k) o)) (λ j ne o. inl o);
        closings = λ d. omega arith;
        stand = λ l b h. h;
        behind = λ l a h. h;
      } in (
        n,
        record {
          shape = i.shape;
          low = i.low;
          born = i.born;
          pointed = i.pointed;
          fresh = i.fresh;
          shut = λ d j o. elim (was d j o) [ inl old ↦ i.shut d j old | inr new ↦ (subst (λ q. IsStanding (s.places q)) (sym new.1) st, omega (arith, new.1, top)) ];
          one = λ d a b o p.
              elim (was d a o) [
                | inl old ↦ elim (was d b p) [ inl too ↦ i.one d a b old too | inr new ↦ absurd (none a (subst (λ e. IsOpen s e a) new.0 old)) ]
                | inr new ↦ elim (was d b p) [ inl old ↦ absurd (none b (subst (λ e. IsOpen s e b) new.0 old)) | inr too ↦ omega (arith, new.1, too.1) ]
              ];
          once = λ d. put_all (λ _ cs. count d cs ≤ 1) k (c ∷ s.sessions k) s.sessions (count_cons c d (s.sessions k) (none k) (λ e. i.once e k)) (λ j ne. i.once d j);
          words = λ m mem. ok_stays v w g m (i.words m mem);
          balancers = i.balancers;
          newest = i.newest;
          waits = i.waits;
        },
        g,
      )

  -- a session is closed, and that is counted
  pub closed_inv : (c : FlowKey) (k : ℕ) → AfterStep host n s (counts c (holds k (without c (s.sessions k)) s))
  closed_inv c k =
      let t = counts c (holds k (without c (s.sessions k)) s) in
      let v = view host n s in
      let w = view host n t in
      let was : (d : FlowKey) (j : ℕ) → IsOpen t d j → IsOpen s d j =
      λ d. put_all (λ j cs. T (is_in d cs) → IsOpen s d j) k (without c (s.sessions k)) s.sessions (in_without c d (s.sessions k)) (λ j ne o. o) in
      let g : Grows v w = record {
        host = λ p. refl;
        top = omega arith;
        born = λ j b. b;
        old = λ j le b. b;
        after = λ a j h. h;
        gone = λ a j h. h;
        opens = λ d j o. inl (was d j o);
        keeps = λ d.
            put_all (λ j cs. IsOpen s d j → T (is_in d cs) ⊎ (s.closings d < bump c s.closings d)) k (without c (s.sessions k)) s.sessions
            (λ o. elim (in_still c d (s.sessions k) o) [ inl still ↦ inl still | inr e ↦ inr (subst (λ e. s.closings e < bump c s.closings e) e (bump_here c s.closings)) ])
            (λ j ne o. inl o);
        closings = λ d. bump_up c d s.closings;
        stand = λ l b h. h;
        behind = λ l a h. h;
      } in (
        n,
        record {
          shape = i.shape;
          low = i.low;
          born = i.born;
          pointed = i.pointed;
          fresh = i.fresh;
          shut = λ d j o. i.shut d j (was d j o);
          one = λ d a b o p. i.one d a b (was d a o) (was d b p);
          once = λ d. put_all (λ _ cs. count d cs ≤ 1) k (without c (s.sessions k)) s.sessions (omega (arith, count_without c d (s.sessions k), i.once d k)) (λ j ne. i.once d j);
          words = λ m mem. ok_stays v w g m (i.words m mem);
          balancers = i.balancers;
          newest = i.newest;
          waits = i.waits;
        },
        g,
      )

  -- the controller goes on: its newest place is known, and what it waits for is right
  pub controls_inv : (c : Control) → Grows (view host n s) (view host n (controls c s)) → ((k : ℕ) → n < k → Born (s.places k) → Names k c.handover) →
      Known (view host n s) (newest_of c.kept) → Waits (view host n (controls c s)) c.handover → Inv host n (controls c s)
  controls_inv c g fresh known waits = record {
    shape = i.shape;
    low = i.low;
    born = i.born;
    pointed = i.pointed;
    fresh = fresh;
    shut = i.shut;
    one = i.one;
    once = i.once;
    words = λ m mem. ok_stays (view host n s) (view host n (controls c s)) g m (i.words m mem);
    balancers = i.balancers;
    newest = known;
    waits = waits;
  }
