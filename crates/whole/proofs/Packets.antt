-- A packet at a server, as a step of its bucket. Assumes nothing.
use Rattle.std.proofs.Common.{◌≡◌, ℕ, ◌≤◌, Bool, true, false, cond, T, ltb, ◌⊎◌, List, ◌∷◌, length, is_some, Some, None, Option, sym, refl, ap, ◌∙◌, subst, inl, inr}
use mathlib.Core.List.Memᴰ
use mathlib.Core.List.{Memᴰ}
use Rattle.flow.specs.declared.key.FlowKey.{FlowKey}
use Rattle.chain.specs.declared.way.Link.{Link}
use Rattle.chain.specs.declared.way.Way.{Way}
use Rattle.chain.specs.declared.place.Standing.{Standing}
use Rattle.chain.specs.declared.place.Standing.TheVariants.{Never, Stands, Forgotten}
use Rattle.chain.specs.declared.place.Place.{Place}
use Rattle.chain.specs.declared.place.Outcome.{Outcome}
use Rattle.chain.specs.declared.place.Outcome.TheVariants.{Delivered, Opened, Forwarded, Refused, Dropped}
use Rattle.chain.specs.Places.{handle}
use Rattle.bucket.specs.Sessions.{is_in}
use Rattle.bucket.specs.Model as one
use Rattle.bucket.proofs.Lists.{put_all, put_here, put_cases, in_here, in_there, in_cons}
use Rattle.bucket.proofs.Invariant.{Born}
use Rattle.bucket.proofs.Main.{main, reach_inv}
use Rattle.places.specs.Rules.{find}
use Rattle.sessions.specs.declared.key.Key.{Key}
use Rattle.sessions.specs.declared.entry.Entry.{Entry}
use Rattle.sessions.specs.Keys.{same_key}
use Rattle.sessions.specs.Entries.{seen_in}
use Rattle.sessions.specs.Model.{Changed}
use Rattle.sessions.proofs.Same.{same_refl, same_eq}
use Rattle.machine.specs.declared.name.Machine.{Machine}
use Rattle.machine.specs.declared.name.Machine.TheVariants.{Client, Operator, Balancer, Server, Controller}
use Rattle.machine.specs.declared.sent.Sent.{Sent}
use Rattle.server_bucket.specs.Rules.{Holding}
use Rattle.server.specs.Rules.{Does, entry_in, place_of, packet_of, effect_of, forwards, hint_from}
use Rattle.whole.specs.World.{key_in, Envelope, hint_of, Packet, forwarded}
use Rattle.whole.proofs.Sim.{Missing, Fit, Serves, Posted, Says, traced, Walk, stay, then, Saw}
use Rattle.whole.proofs.Fits.{All, Local, local_none}
use Rattle.whole.proofs.Places.{put_far, at_right}

-- what becomes of a packet in the bucket; o: what becomes of it at the server; hint: what a balancer is told; es: the sessions after
pub record Handling (host : ℕ → ℕ) (B b : ℕ) (s : one.State) (v : ℕ) (h : Holding) (es : List Entry) (p : Packet) (o : Outcome) (hint : Option Sent) : Type 0 where
  pub state : one.State
  pub walk : Walk host s state
  pub serves : Serves host b state v h es
  pub local : Local host v s state
  pub says : All (Says B b state.sent) (hint_of hint)
  pub carries : (e : Envelope) → Memᴰ e (forwarded v p o) → Posted B b state.sent e
  pub closings : state.closings ≡ s.closings
  pub saw : Saw host h s state (traced v p.head p.flow p.was p.seen) o

-- a session's key in a place
same_place : (b n k : ℕ) (c d : FlowKey) → same_key (key_in b n c) (key_in b k d) ≡ true → (n ≡ k) × (c ≡ d)
same_place b n k c d e = let q = same_eq (key_in b n c) (key_in b k d) e in (ap (λ z. z.place) q, ap (λ z. z.flow) q)

either_by : (e : Bool) (t : ℕ) (o : Option ℕ) → T (is_some (cond e (Some t) o)) → (e ≡ true) ⊎ T (is_some o)
either_by true t o z = inl refl
either_by false t o z = inr z

old_by : (e : Bool) (t : ℕ) (o : Option ℕ) → T (is_some o) → T (is_some (cond e (Some t) o))
old_by true t o z = tt
old_by false t o z = z

pub noted_or : (was after : List Entry) (k q : Key) (t : ℕ) → Changed was after k (Some t) → T (is_some (seen_in q after)) → (q ≡ k) ⊎ T (is_some (seen_in q was))
noted_or was after k q t c o = elim (either_by (same_key k q) t (seen_in q was) (subst (λ z. T (is_some z)) (c.found q) o)) [ inl e ↦ inl (sym (same_eq k q e)) | inr old ↦ inr old ]

pub noted_old : (was after : List Entry) (k q : Key) (t : ℕ) → Changed was after k (Some t) → T (is_some (seen_in q was)) → T (is_some (seen_in q after))
noted_old was after k q t c o = rw (c.found q) (old_by (same_key k q) t (seen_in q was) o)

pub noted_new : (was after : List Entry) (k : Key) (t : ℕ) → Changed was after k (Some t) → T (is_some (seen_in k after))
noted_new was after k t c = rw (c.found k, same_refl k) tt

bool_same : (x y : Bool) → (T x → T y) → (T y → T x) → x ≡ y
bool_same true true f g = refl
bool_same true false f g = absurd (f tt)
bool_same false true f g = absurd (g tt)
bool_same false false f g = refl

module _ (host : ℕ → ℕ) (B : ℕ) (s : one.State) (v : ℕ) (h : Holding) (es es' : List Entry) (from : Machine) (p : Packet) (tick : ℕ) (r : one.Reach handle host s) (i : Serves host p.head.bucket s v h es)
    (mem : Memᴰ (one.Carry (traced v p.head p.flow p.was p.seen)) s.sent) where
  abbrev b : ℕ
  b = p.head.bucket

  abbrev n : ℕ
  n = p.head.place

  abbrev key : Key
  key = key_in b n p.flow

  abbrev q : one.Traced
  q = traced v p.head p.flow p.was p.seen

  abbrev room : Bool
  room = ltb (length es) 65536

  abbrev Handles : Standing → Outcome → Type 0
  Handles x o = Handling host B b s v h es' p o (cond (forwards o) (hint_from b from x) None)

  nothing : (x : Standing) → es' ≡ es → (find n h.known ≡ None) × (n ≤ h.known.highest) → Handles x Dropped
  nothing x e lost = record { state = s; walk = stay; serves = rw e i; local = local_none host v s; says = tt; carries = λ _ m. absurd (Memᴰ.not-nil m); closings = refl; saw = lost }

  abbrev onward : (l : Link) (way : Way) → host n ≡ v → one.outcome handle host s room q ≡ Forwarded l way → one.Step handle host s (one.Handled q (Forwarded l way)) (one.done (Forwarded l way) q s) → Handling host B b s v h es p (Forwarded l way) None
  onward l way at same step = record {
    state = one.sends (one.Carry (one.onto l way q)) s;
    walk = then stay step;
    serves = record { fit = i.fit; tidy = i.tidy; down = i.down; up = i.up; farewells = λ f m. let g = i.farewells f m in (g.0, Memᴰ.tail g.1) };
    local = record { places = λ k ne. refl; sessions = λ k ne. refl; sent = λ m z. Memᴰ.tail z; balancers = refl; control = refl };
    says = tt;
    carries = λ m z. rw (Memᴰ.eq_of_singleton z) (λ _. Memᴰ.head refl);
    closings = refl;
    saw = (room, same);
  }

  hinted : (x : Standing) (l : Link) (way : Way) (from : Machine) → host n ≡ v → s.places n ≡ x → one.outcome handle host s room q ≡ Forwarded l way → one.Step handle host s (one.Handled q (Forwarded l way)) (one.done (Forwarded l way) q s) →
      Handling host B b s v h es p (Forwarded l way) (hint_from b from x)
  hinted x l way Client at e same step = onward l way at same step
  hinted x l way Operator at e same step = onward l way at same step
  hinted x l way (Server u) at e same step = onward l way at same step
  hinted x l way Controller at e same step = onward l way at same step
  hinted Never l way (Balancer d) at e same step = onward l way at same step
  hinted (Stands f a) l way (Balancer d) at e same step = onward l way at same step
  hinted (Forgotten a) l way (Balancer d) at e same step =
      let o = onward l way at same step in
      let t = one.sends (one.ToBalancer d a) o.state in
      record {
        state = t;
        walk = then o.walk (one.hints d n a e);
        serves = record { fit = o.serves.fit; tidy = o.serves.tidy; down = o.serves.down; up = o.serves.up; farewells = λ f m. let g = o.serves.farewells f m in (g.0, Memᴰ.tail g.1) };
        local = record { places = λ k ne. refl; sessions = λ k ne. refl; sent = λ m z. Memᴰ.tail (Memᴰ.tail z); balancers = refl; control = refl };
        says = ((λ _. Memᴰ.head refl), tt);
        carries = λ m z. rw (Memᴰ.eq_of_singleton z) (λ _. Memᴰ.tail (Memᴰ.head refl));
        closings = refl;
        saw = (room, same);
      }

  handled_so : (x : Standing) (o : Outcome) → host n ≡ v → s.places n ≡ x → one.outcome handle host s room q ≡ o → Does (effect_of key tick o) es es' → one.Step handle host s (one.Handled q o) (one.done o q s) → Handles x o
  handled_so x Delivered at e same does step = record {
    state = s;
    walk = then stay step;
    serves = record {
      fit = i.fit;
      tidy = i.tidy;
      down = λ k c t. elim (noted_or es es' key (key_in b k c) tick does t) [
        | inl z ↦ (rw (ap (λ w. w.place) z) at, rw (ap (λ w. w.place) z, ap (λ w. w.flow) z) ((main host s r).delivered_where_open s q step))
        | inr old ↦ i.down k c old
      ];
      up = λ k c a t. noted_old es es' key (key_in b k c) tick does (i.up k c a t);
      farewells = i.farewells;
    };
    local = local_none host v s;
    says = tt;
    carries = λ _ m. absurd (Memᴰ.not-nil m);
    closings = refl;
    saw = (at, step);
  }
  handled_so x Opened at e same does step =
      let t = one.holds n (p.flow ∷ s.sessions n) s in
      record {
        state = t;
        walk = then stay step;
        serves = record {
          fit = i.fit;
          tidy = i.tidy;
          down = λ k c o. elim (noted_or es es' key (key_in b k c) tick does o) [
            | inl z ↦ (rw (ap (λ w. w.place) z) at, rw (ap (λ w. w.place) z, ap (λ w. w.flow) z) (put_here (λ cs. T (is_in p.flow cs)) n (p.flow ∷ s.sessions n) s.sessions (in_here p.flow (s.sessions n))))
            | inr old ↦ ((i.down k c old).0, put_all (λ g cs. T (is_in c (s.sessions g)) → T (is_in c cs)) n (p.flow ∷ s.sessions n) s.sessions (in_there c p.flow (s.sessions n)) (λ g _ z. z) k (i.down k c old).1)
          ];
          up = λ k c a o. elim (put_cases (λ cs. T (is_in c cs)) n (p.flow ∷ s.sessions n) s.sessions k o) [
            | inl here ↦ elim (in_cons c p.flow (s.sessions n) here.1) [
              | inl z ↦ rw (here.0, z) (noted_new es es' key tick does)
              | inr old ↦ rw here.0 (noted_old es es' key (key_in b n c) tick does (i.up n c at old))
            ]
            | inr there ↦ noted_old es es' key (key_in b k c) tick does (i.up k c a there.1)
          ];
          farewells = i.farewells;
        };
        local = record { places = λ k ne. refl; sessions = λ k ne. put_far host v n k (p.flow ∷ s.sessions n) s.sessions at ne; sent = λ m z. z; balancers = refl; control = refl };
        says = tt;
        carries = λ _ m. absurd (Memᴰ.not-nil m);
        closings = refl;
        saw = (at, step);
      }
  handled_so x (Forwarded l way) at e same does step = rw does (hinted x l way from at e same step)
  handled_so x (Refused z) at e same does step =
      record { state = s; walk = then stay step; serves = rw does i; local = local_none host v s; says = tt; carries = λ _ m. absurd (Memᴰ.not-nil m); closings = refl; saw = step }
  handled_so x Dropped at e same does step = absurd ((main host s r).not_dropped s q step)

  same_entry : host n ≡ v → one.entry_at s q.packet room ≡ entry_in key es
  same_entry at = rw (bool_same (is_in p.flow (s.sessions n)) (is_some (seen_in key es)) (i.up n p.flow at) (λ t. (i.down n p.flow t).1))

  abbrev known-here : (v ≡ host n) × Born (s.places n) × (n ≤ (reach_inv r).0)
  known-here = ((reach_inv r).1.words (one.Carry q) mem).at

  lost_by : (x : Standing) → Born x → Missing s.control h.known.highest n x → n ≤ h.known.highest
  lost_by Never born m = absurd born
  lost_by (Stands f a) born m = absurd m
  lost_by (Forgotten a) born m = m

  -- the packet at its place, or at a server that knows nothing of it
  pub handled_here : (y : Option Place) → find n h.known ≡ y → Fit host s.control v n h.known.highest (s.places n) y →
      Does (effect_of key tick (handle (place_of (record { place = n; server = v }) y) (packet_of v p.head p.flow) (entry_in key es))) es es' →
      Handles (place_of (record { place = n; server = v }) y).standing (handle (place_of (record { place = n; server = v }) y) (packet_of v p.head p.flow) (entry_in key es))
  handled_here None e f does = nothing Never does (e, lost_by (s.places n) known-here.1 (f (sym known-here.0)))
  handled_here (Some x) e f does =
      let at = f.0 in
      let e1 : one.place_at host s q.packet.at ≡ x = at_right host s q.packet.at (sym at) ∙ ap (λ u. record { link = record { place = n; server = u }; standing = s.places n }) (sym at) ∙ sym f.2 in
      let o = handle x (packet_of v p.head p.flow) (entry_in key es) in
      let e2 : one.outcome handle host s room q ≡ o = ap (λ z. handle z q.packet (one.entry_at s q.packet room)) e1 ∙ ap (handle x q.packet) (same_entry at) in
      handled_so x.standing o at (sym (ap (λ z. z.standing) f.2)) e2 does (subst (λ z. one.Step handle host s (one.Handled q z) (one.done z q s)) e2 (one.arrives room q mem))
