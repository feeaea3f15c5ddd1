-- Sessions are closed, what is unanswered is said again, and places become empty, as steps of their bucket. Assumes nothing.
use Rattle.std.proofs.Common.{◌≡◌, ℕ, suc, ◌+◌, ◌<◌, Bool, true, false, cond, ◌&&◌, ◌||◌, T, eqb, List, [], ◌∷◌, map, length, get_or, is_some, Some, None, fold, Option, sym, refl, ap, ◌∙◌, subst, inl, inr, arith}
use mathlib.Core.List.Memᴰ
use mathlib.Core.List.{Memᴰ}
use Rattle.std.proofs.lemmas.Bool.{cases_eq, cases_Bool, true≢false}
use Rattle.std.proofs.lemmas.List.{get_or-set_same, get_or-set_other, get_or-map, length-set}
use Rattle.flow.specs.declared.key.FlowKey.{FlowKey}
use Rattle.flow.specs.Buckets.{bucket_of}
use Rattle.flow.proofs.Same as flows
use Rattle.chain.specs.declared.way.Link.{Link}
use Rattle.chain.specs.Ways.{same_link}
use Rattle.chain.specs.Places.{handle}
use Rattle.bucket.specs.Sessions.{is_in, without, bump}
use Rattle.bucket.specs.Model as one
use Rattle.bucket.proofs.Lists.{put_all, put_cases, in_without, in_still}
use Rattle.sessions.specs.declared.key.Key.{Key}
use Rattle.sessions.specs.declared.entry.Entry.{Entry}
use Rattle.sessions.specs.Keys.{same_key, in_place}
use Rattle.sessions.specs.Entries as entries
use Rattle.sessions.specs.Entries.{seen_in, Once, count_in, is_idle, idle_keys, staying}
use Rattle.sessions.proofs.Same.{same_refl, same_eq, same_flip}
use Rattle.sessions.proofs.Changed.{without_slot}
use Rattle.sessions.proofs.Changes.{count_without, once_without}
use Rattle.sessions.proofs.Lapse.{taken_idle}
use Rattle.machine.specs.declared.name.Machine.{Machine}
use Rattle.machine.specs.declared.name.Machine.TheVariants.{Client, Operator, Balancer, Server, Controller}
use Rattle.machine.specs.Again.{is_due}
use Rattle.server_bucket.specs.declared.farewell.Farewell.{Farewell}
use Rattle.server_bucket.specs.Rules as bucket
use Rattle.server_bucket.specs.Rules.{Holding, unheld, says, tells, due_in, due, older, passed, less_awaited, still_awaited, answered_in}
use Rattle.server.specs.Rules.{Keeping, holding_at, is_empty, emptied, due_from, emptied_all, later, Does, Ordered, closed_at, open_at, ticked, closes}
use Rattle.chain.specs.declared.place.Place.{Place}
use Rattle.whole.specs.World.{key_in, counted, closed_by}
use Rattle.whole.proofs.Sim.{Serves, Says, stay, then}
use Rattle.whole.proofs.Fits.{All, all_append, all_in, by_cond, local_then, walk_on, Serving, serving_then, walk_reach}
use Rattle.whole.proofs.Places.{put_far, emptied_here, stays}

-- LISTS

pub all_at : {A : Type 0} (P : A → Type 0) (xs : List A) (x : A) → All P xs → Memᴰ x xs → P x
all_at P [] x p mem = absurd (Memᴰ.not-nil mem)
all_at P (y ∷ ys) x p mem = elim (Memᴰ.cases_cons mem) [ inl e ↦ rw e p.0 | inr m ↦ all_at P ys x p.1 m ]

in_not : (c : FlowKey) (xs : List FlowKey) → T (is_in c (without c xs)) → ⊥
unfolding is_in without
in_not c [] t = t
in_not c (x ∷ xs) t = let ih = in_not c xs in let e = flows.same_eq c x in grind arith

in_its_place : (b n : ℕ) (c : FlowKey) → in_place b n (key_in b n c) ≡ true
unfolding in_place
in_its_place b n c = grind arith

vacant_by : (b n : ℕ) (c : FlowKey) (es : List Entry) → count_in b n es ≡ 0 → (o : Option ℕ) → seen_in (key_in b n c) es ≡ o → T (is_some o) → ⊥
vacant_by b n c es e None q t = t
vacant_by b n c es e (Some s) q t =
    let z = count_without b n (key_in b n c) s es q in
    let y : count_in b n (entries.without (key_in b n c) es) + cond true 1 0 ≡ 0 = ap (λ x. count_in b n (entries.without (key_in b n c) es) + cond x 1 0) (sym (in_its_place b n c)) ∙ z ∙ e in
    omega (arith, y)

-- where none is counted, none is open
vacant_in : (b n : ℕ) (es : List Entry) → count_in b n es ≡ 0 → (c : FlowKey) → T (is_some (seen_in (key_in b n c) es)) → ⊥
vacant_in b n es e c t = vacant_by b n c es e (seen_in (key_in b n c) es) refl t

pub vacant : (b n : ℕ) (es : List Entry) → T (is_empty b n es) → (c : FlowKey) → T (is_some (seen_in (key_in b n c) es)) → ⊥
vacant b n es t c = vacant_in b n es (grind arith) c

-- FAREWELLS

-- said of a forgotten place
abbrev pub Bye : one.State → Farewell → Type 0
Bye s f = (u : ℕ) × Memᴰ (one.Gone (record { place = f.place; server = u }) f.after) s.sent

module _ (s : one.State) where
  bye_less : (by : Machine) (f : Farewell) → Bye s f → Bye s (less_awaited by f)
  bye_less Client f p = p
  bye_less Operator f p = p
  bye_less (Balancer d) f p = p
  bye_less (Server u) f p = p
  bye_less Controller f p = p

  pub bye_answered : (n : ℕ) (a : Link) (by : Machine) (fs : List Farewell) → All (Bye s) fs → All (Bye s) (answered_in n a by fs)
  unfolding answered_in
  bye_answered n a by [] p = tt
  bye_answered n a by (f ∷ fs) p =
      by_cond (All (Bye s)) (eqb n f.place && same_link a f.after) (still_awaited (less_awaited by f) fs) (f ∷ answered_in n a by fs)
      (λ _. by_cond (All (Bye s)) ((less_awaited by f).awaits_after || (less_awaited by f).awaits_controller) (less_awaited by f ∷ fs) fs (λ _. (bye_less by f p.0, p.1)) (λ _. p.1))
      (λ _. (p.0, bye_answered n a by fs p.1))

  pub bye_passed : (ticks : ℕ) (fs : List Farewell) → All (Bye s) fs → All (Bye s) (map (older ticks) fs)
  bye_passed ticks [] p = tt
  bye_passed ticks (f ∷ fs) p = (p.0, bye_passed ticks fs p.1)

  says_bye : (B b d : ℕ) (f : Farewell) → (d ≡ b → Bye s f) → All (Says B b s.sent) (says d f)
  says_bye B b d f p = all_append (Says B b s.sent) (cond f.awaits_after _ []) (cond f.awaits_controller _ [])
      (by_cond (All (Says B b s.sent)) f.awaits_after _ [] (λ _. (p, tt)) (λ _. tt))
      (by_cond (All (Says B b s.sent)) f.awaits_controller _ [] (λ _. (p, tt)) (λ _. tt))

  due_says : (B b d ticks : ℕ) (fs : List Farewell) → (d ≡ b → All (Bye s) fs) → All (Says B b s.sent) (due_in d ticks fs)
  unfolding due_in
  due_says B b d ticks [] p = tt
  due_says B b d ticks (f ∷ fs) p = all_append (Says B b s.sent) (cond (is_due ticks f.age) (says d f) []) (due_in d ticks fs)
      (by_cond (All (Says B b s.sent)) (is_due ticks f.age) (says d f) [] (λ _. says_bye B b d f (λ e. (p e).0)) (λ _. tt))
      (due_says B b d ticks fs (λ e. (p e).1))

  pub due_counted : (B b from ticks : ℕ) (hs : List Holding) → ((j : ℕ) → from + j ≡ b → All (Bye s) (get_or hs j unheld).farewells) → All (Says B b s.sent) (due_from from ticks hs)
  unfolding due_from
  due_counted B b from ticks [] p = tt
  due_counted B b from ticks (h ∷ hs) p = all_append (Says B b s.sent) (due from ticks h) (due_from (suc from) ticks hs)
      (due_says B b from ticks h.farewells (λ e. p 0 (omega arith)))
      (due_counted B b (suc from) ticks hs (λ j e. p (suc j) (omega arith)))

-- what is said of another bucket
pub tells_other : (B b d n : ℕ) (xs : List one.Message) (gone : Option Link) → (d ≡ b → ⊥) → All (Says B b xs) (tells d n gone)
tells_other B b d n xs None ne = tt
tells_other B b d n xs (Some a) ne = ((λ e. absurd (ne e)), ((λ e. absurd (ne e)), tt))

-- A SESSION IS CLOSED

-- the sessions after, without one
abbrev pub Without : Key → List Entry → List Entry → Type 0
Without k was after = (q : Key) → seen_in q after ≡ cond (same_key q k) None (seen_in q was)

pub without_found : (k : Key) (es : List Entry) → Once es → Without k es (entries.without k es)
without_found k es once q = (without_slot k es once).found q ∙ ap (λ e. cond e None (seen_in q es)) (same_flip k q)

not_same : (p q : Key) → (p ≡ q → ⊥) → same_key p q ≡ false
not_same p q ne = elim (cases_Bool (same_key p q)) [ inl e ↦ absurd (ne (same_eq p q e)) | inr e ↦ e ]

left_by : (e : Bool) (o : Option ℕ) → T (is_some (cond e None o)) → (e ≡ false) × T (is_some o)
left_by true o t = absurd t
left_by false o t = (refl, t)

kept_by : (e : Bool) (o : Option ℕ) → e ≡ false → T (is_some o) → T (is_some (cond e None o))
kept_by true o e t = absurd (grind arith)
kept_by false o e t = t

module _ (host : ℕ → ℕ) (B b : ℕ) (s : one.State) (v : ℕ) (h : Holding) (es es' : List Entry) (r : one.Reach handle host s) (i : Serves host b s v h es) where
  pub closes_one : (k : ℕ) (c : FlowKey) → T (is_some (seen_in (key_in b k c) es)) → Without (key_in b k c) es es' → Serving host B b s v h es' [] (bump c s.closings)
  closes_one k c t w =
      let d = i.down k c t in
      let at = d.0 in
      let key = key_in b k c in
      let u = one.counts c (one.holds k (without c (s.sessions k)) s) in
      record {
        state = u;
        walk = then stay (one.closes c k d.1);
        serves = record {
          fit = i.fit;
          tidy = i.tidy;
          down = λ g a o. let z = left_by (same_key (key_in b g a) key) (seen_in (key_in b g a) es) (subst (λ y. T (is_some y)) (w (key_in b g a)) o) in (
            (i.down g a z.1).0,
            put_all (λ j cs. (same_key (key_in b j a) key ≡ false) → T (is_in a (s.sessions j)) → T (is_in a cs)) k (without c (s.sessions k)) s.sessions
                (λ f old. elim (in_still c a (s.sessions k) old) [ inl y ↦ y | inr e ↦ absurd (true≢false (sym (subst (λ y. same_key (key_in b k y) key ≡ true) e (same_refl key)) ∙ f)) ]) (λ j ne f old. old) g z.0 (i.down g a z.1).1,
          );
          up = λ g a at' o. elim (put_cases (λ cs. T (is_in a cs)) k (without c (s.sessions k)) s.sessions g o) [
            | inl here ↦ rw (w (key_in b g a)) (kept_by (same_key (key_in b g a) key) (seen_in (key_in b g a) es)
                (not_same (key_in b g a) key (λ e. in_not c (s.sessions k) (subst (λ y. T (is_in y (without c (s.sessions k)))) (ap (λ y. y.flow) e) here.1)))
                (i.up g a at' (rw here.0 (in_without c a (s.sessions k) here.1))))
            | inr there ↦ rw (w (key_in b g a)) (kept_by (same_key (key_in b g a) key) (seen_in (key_in b g a) es) (not_same (key_in b g a) key (λ e. there.0 (ap (λ y. y.place) e))) (i.up g a at' there.1))
          ];
          farewells = i.farewells;
        };
        local = record { places = λ j ne. refl; sessions = λ j ne. put_far host v k j (without c (s.sessions k)) s.sessions at ne; sent = λ m z. z; balancers = refl; control = refl };
        says = tt;
        closings = λ _ _. refl;
      }

  -- a session of another bucket
  pub closes_far : (q : Key) → (q.bucket ≡ b → ⊥) → Without q es es' → Serves host b s v h es'
  closes_far q ne w = record {
    fit = i.fit;
    tidy = i.tidy;
    down = λ g a o. i.down g a (left_by (same_key (key_in b g a) q) (seen_in (key_in b g a) es) (subst (λ y. T (is_some y)) (w (key_in b g a)) o)).1;
    up = λ g a at o. rw (w (key_in b g a)) (kept_by (same_key (key_in b g a) q) (seen_in (key_in b g a) es) (not_same (key_in b g a) q (λ e. ne (sym (ap (λ y. y.bucket) e)))) (i.up g a at o));
    farewells = i.farewells;
  }

-- MANY SESSIONS ARE CLOSED

-- each of them is open when its turn comes
abbrev Takable : List Entry → List Key → Type 0
Takable es [] = Unit {0}
Takable es (k ∷ ks) = T (is_some (seen_in k es)) × Takable (entries.without k es) ks

takable_cons : (e : Entry) (es : List Entry) (ks : List Key) → seen_in e.key es ≡ None → Once es → Takable es ks → Takable (e ∷ es) ks
takable_cons e es [] n o t = tt
takable_cons e es (k ∷ ks) n o t =
    let ne : same_key e.key k ≡ false = not_same e.key k (λ z. subst (λ y. T (is_some y)) (ap (λ q. seen_in q es) (sym z) ∙ n) t.0) in
    let n' : seen_in e.key (entries.without k es) ≡ None = without_found k es o e.key ∙ rw (ne, n) in
    rw ne (t.0, takable_cons e (entries.without k es) ks n' (once_without k es o) t.1)

takable_idle : (t : ℕ) (es : List Entry) → Once es → Takable es (idle_keys t es)
takable_idle t [] o = tt
takable_idle t (e ∷ es) o = elim (cases_Bool (is_idle t e.seen)) [
  | inl y ↦ rw (y, same_refl e.key) (tt, takable_idle t es o.1)
  | inr n ↦ rw n (takable_cons e es (idle_keys t es) o.0 o.1 (takable_idle t es o.1))
]

-- each session is in the bucket of its flow
abbrev pub Keyed : ℕ → List Entry → Type 0
Keyed B es = (q : Key) → T (is_some (seen_in q es)) → q.bucket ≡ bucket_of q.flow B

pub keyed_without : (B : ℕ) (k : Key) (es : List Entry) → Once es → Keyed B es → Keyed B (entries.without k es)
keyed_without B k es o y q t = y q (left_by (same_key q k) (seen_in q es) (subst (λ z. T (is_some z)) (without_found k es o q) t)).1

bump_same : (k c : FlowKey) (f g : FlowKey → ℕ) → f c ≡ g c → bump k f c ≡ bump k g c
unfolding bump
bump_same k c f g e = rw e

bump_far : (k c : FlowKey) (f : FlowKey → ℕ) → (k ≡ c → ⊥) → f c ≡ bump k f c
unfolding bump
bump_far k c f ne = let e = flows.same_eq k c in grind arith

pub counted_same : (ks : List Key) (f g : FlowKey → ℕ) (c : FlowKey) → f c ≡ g c → counted ks f c ≡ counted ks g c
unfolding counted
counted_same [] f g c e = e
counted_same (k ∷ ks) f g c e = counted_same ks (bump k.flow f) (bump k.flow g) c (bump_same k.flow c f g e)

pub lapses : (host : ℕ → ℕ) (B b : ℕ) (s : one.State) (v : ℕ) (h : Holding) (es : List Entry) (ks : List Key) → one.Reach handle host s → Serves host b s v h es → Once es → Keyed B es → Takable es ks →
    Serving host B b s v h (fold (λ xs k. entries.without k xs) es ks) [] (counted ks s.closings)
unfolding counted
lapses host B b s v h es [] r i o y t = stays host B b s v h es r i [] tt
lapses host B b s v h es (k ∷ ks) r i o y t = elim (cases_eq k.bucket b) [
  | inl e ↦
      let a = closes_one host B b s v h es (entries.without k es) r i k.place k.flow (subst (λ z. T (is_some (seen_in (key_in z k.place k.flow) es))) e t.0)
      (subst (λ z. Without (key_in z k.place k.flow) es (entries.without k es)) e (without_found k es o)) in
      let rest = lapses host B b a.state v h (entries.without k es) ks (walk_reach host s a.state a.walk r) a.serves (once_without k es o) (keyed_without B k es o y) t.1 in
      record {
        state = rest.state;
        walk = walk_on host s a.state rest.state a.walk rest.walk;
        serves = rest.serves;
        local = local_then host v s a.state rest.state a.local rest.local;
        says = tt;
        closings = λ c z. rest.closings c z ∙ counted_same ks a.state.closings (bump k.flow s.closings) c (a.closings c z);
      }
  | inr ne ↦
      let rest = lapses host B b s v h (entries.without k es) ks r (closes_far host B b s v h es (entries.without k es) r i k ne (without_found k es o)) (once_without k es o) (keyed_without B k es o y) t.1 in
      record {
        state = rest.state;
        walk = rest.walk;
        serves = rest.serves;
        local = rest.local;
        says = tt;
        closings = λ c z. rest.closings c z ∙ counted_same ks s.closings (bump k.flow s.closings) c (bump_far k.flow c s.closings (λ e. ne (y k t.0 ∙ ap (λ f. bucket_of f B) e ∙ z)));
      }
]

-- PLACES BECOME EMPTY

module _ (host : ℕ → ℕ) (B b : ℕ) (v : ℕ) (es : List Entry) (lt : b < B) where
  pub emptied_one : (d n : ℕ) (k : Keeping) (s : one.State) → one.Reach handle host s → length k.holdings ≡ B → Serves host b s v (holding_at b k) es →
      Serving host B b s v (holding_at b (emptied d n es k).1) es (emptied d n es k).0 s.closings
  emptied_one d n k s r len i = elim (cases_eq d b) [
    | inl e ↦ rw e (
        let p = bucket.emptied n (is_empty b n es) (holding_at b k) in
        subst (λ z. Serving host B b s v z es (tells b n p.0) s.closings) (sym (get_or-set_same k.holdings b p.1 unheld (rw len lt)))
        (emptied_here host B b s v (holding_at b k) es r i n (is_empty b n es) (vacant b n es)))
    | inr ne ↦
        let p = bucket.emptied n (is_empty d n es) (holding_at d k) in
        subst (λ z. Serving host B b s v z es (tells d n p.0) s.closings) (sym (get_or-set_other k.holdings d b p.1 unheld (λ e. ne (sym e))))
        (stays host B b s v (holding_at b k) es r i (tells d n p.0) (tells_other B b d n s.sent p.0 ne))
  ]

  emptied_length : (d n : ℕ) (k : Keeping) → length (emptied d n es k).1.holdings ≡ length k.holdings
  emptied_length d n k = length-set k.holdings d _

  pub emptied_each : (qs : List Key) (k : Keeping) (s : one.State) → one.Reach handle host s → length k.holdings ≡ B → Serves host b s v (holding_at b k) es →
      Serving host B b s v (holding_at b (emptied_all qs es k).1) es (emptied_all qs es k).0 s.closings
  unfolding emptied_all
  emptied_each [] k s r len i = stays host B b s v (holding_at b k) es r i [] tt
  emptied_each (q ∷ qs) k s r len i =
      let a = emptied_one q.bucket q.place k s r len i in
      let k' = (emptied q.bucket q.place es k).1 in
      serving_then host B b s v (holding_at b k') (holding_at b (emptied_all qs es k').1) es es (emptied q.bucket q.place es k).0 (emptied_all qs es k').0 s.closings a
      (emptied_each qs k' a.state (walk_reach host s a.state a.walk r) (emptied_length q.bucket q.place k ∙ len) a.serves)

-- ORDERS

pub length_passed : (ticks : ℕ) (hs : List Holding) → length (map (passed ticks) hs) ≡ length hs
length_passed ticks [] = refl
length_passed ticks (h ∷ hs) = ap suc (length_passed ticks hs)

open_seen : (b : ℕ) (c : FlowKey) (es : List Entry) (xs : List Place) (n : ℕ) → open_at b c es xs ≡ Some n → T (is_some (seen_in (key_in b n c) es))
unfolding open_at
open_seen b c es [] n e = absurd (grind arith)
open_seen b c es (x ∷ xs) n e = elim (cases_Bool (is_some (seen_in (key_in b x.link.place c) es))) [
  | inl y ↦ (let z : Some x.link.place ≡ Some n = rw y at e in let q : x.link.place ≡ n = grind arith in rw (← q) (subst T (sym y) tt))
  | inr m ↦ open_seen b c es xs n (rw m at e)
]

module _ (host : ℕ → ℕ) (B b : ℕ) (s : one.State) (v : ℕ) (k : Keeping) (es es' : List Entry) (lt : b < B) (r : one.Reach handle host s) (len : length k.holdings ≡ B) (i : Serves host b s v (holding_at b k) es) (once : Once es) (keyed : Keyed B es) where
  abbrev Follows : Ordered → Type 0
  Follows o = Serving host B b s v (holding_at b o.keeping) es' o.sends (counted (closed_by o.effect es) s.closings)

  closes_by : (c : FlowKey) (d : ℕ) (o : Option ℕ) → ((n : ℕ) → o ≡ Some n → T (is_some (seen_in (key_in d n c) es))) → Does (closed_at c d k es o).effect es es' → Follows (closed_at c d k es o)
  unfolding counted
  closes_by c d None seen st = rw (st) (stays host B b s v (holding_at b k) es r i [] tt)
  closes_by c d (Some n) seen st =
      let q = key_in d n c in
      let a = lapses host B b s v (holding_at b k) es (q ∷ []) r i once keyed (seen n refl, tt) in
      rw (st) (serving_then host B b s v (holding_at b k) (holding_at b (emptied d n (entries.without q es) k).1) (entries.without q es) (entries.without q es) [] (emptied d n (entries.without q es) k).0 (counted (q ∷ []) s.closings) a
      (emptied_one host B b v (entries.without q es) lt d n k a.state (walk_reach host s a.state a.walk r) len a.serves))

  pub closes_here : (c : FlowKey) → Does (closes c k es).effect es es' → Follows (closes c k es)
  closes_here c st =
      let d = bucket_of c (length k.holdings) in
      closes_by c d (open_at d c es (holding_at d k).known.standing) (λ n e. open_seen d c es (holding_at d k).known.standing n e) st

  later_serves : (ticks : ℕ) → Serves host b s v (holding_at b (later ticks k)) es
  later_serves ticks = rw (get_or-map (passed ticks) k.holdings b unheld unheld (rw len lt)) (record {
    fit = i.fit;
    tidy = i.tidy;
    down = i.down;
    up = i.up;
    farewells = λ f mem. all_at (Bye s) (map (older ticks) (holding_at b k).farewells) f (bye_passed s ticks (holding_at b k).farewells (all_in (Bye s) (holding_at b k).farewells i.farewells)) mem;
  })

  pub ticks_here : (ticks : ℕ) → Does (ticked ticks k es).effect es es' → Follows (ticked ticks k es)
  ticks_here ticks st =
      let t = k.tick + ticks in
      let ks = idle_keys t es in
      let k' = later ticks k in
      let a = lapses host B b s v (holding_at b k') es ks r (later_serves ticks) once keyed (takable_idle t es once) in
      let z = staying t es in
      let i' : Serves host b a.state v (holding_at b k') z = subst (Serves host b a.state v (holding_at b k')) (taken_idle t es once) a.serves in
      let bye : All (Says B b a.state.sent) (due_from 0 ticks k.holdings) = due_counted a.state B b 0 ticks k.holdings
      (λ j e. all_in (Bye a.state) (get_or k.holdings j unheld).farewells (λ f mem. let g = i.farewells f (subst (λ x. Memᴰ f (get_or k.holdings x unheld).farewells) (omega arith) mem) in (g.0, a.local.sent _ g.1))) in
      let a' : Serving host B b s v (holding_at b k') z (due_from 0 ticks k.holdings) (counted ks s.closings) = record { state = a.state; walk = a.walk; serves = i'; local = a.local; says = bye; closings = a.closings } in
      rw (st) (serving_then host B b s v (holding_at b k') (holding_at b (emptied_all ks z k').1) z z (due_from 0 ticks k.holdings) (emptied_all ks z k').0 (counted ks s.closings) a'
      (emptied_each host B b v z lt ks k' a.state (walk_reach host s a.state a.walk r) (length_passed ticks k.holdings ∙ len) i'))
