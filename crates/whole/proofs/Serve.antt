-- What a server does with a message, an order and a packet, as steps of each bucket. Assumes nothing.
use Rattle.std.proofs.Common.{◌≡◌, ℕ, ◌<◌, eqb, List, [], ◌∷◌, length, Some, None, Ok, Err, Option, Result, sym, refl, ap, ◌∙◌, subst, inl, inr}
use mathlib.Core.List.Memᴰ
use mathlib.Core.List.{Memᴰ}
use Rattle.std.proofs.lemmas.Bool.{cases_eq, eqb-true, lt-ltb, true≢false}
use Rattle.std.proofs.lemmas.List.{get_or-set_same, get_or-set_other}
use Rattle.fault.specs.declared.Fault.{Fault}
use Rattle.fault.specs.declared.Fault.TheVariants.{NoSuch}
use Rattle.fault.specs.declared.Refusal.TheVariants.{For}
use Rattle.flow.specs.declared.key.FlowKey.{FlowKey}
use Rattle.flow.specs.Buckets.{bucket_of}
use Rattle.chain.specs.declared.way.Link.{Link}
use Rattle.chain.specs.declared.place.Standing.{Standing}
use Rattle.chain.specs.declared.place.Standing.TheVariants.{Never, Stands, Forgotten}
use Rattle.chain.specs.declared.place.Place.{Place}
use Rattle.chain.specs.declared.place.Outcome.{Outcome}
use Rattle.chain.specs.declared.place.Outcome.TheVariants.{Delivered, Opened, Forwarded, Refused, Dropped}
use Rattle.chain.specs.Places.{handle}
use Rattle.bucket.specs.Sessions.{put}
use Rattle.bucket.specs.Model as one
use Rattle.bucket.proofs.Lists.{put_all, put_here}
use Rattle.bucket.proofs.Invariant.{Inv}
use Rattle.bucket.proofs.Main.{reach_inv}
use Rattle.places.specs.Rules.{Known, find, stands_as}
use Rattle.sessions.specs.declared.key.Key.{Key}
use Rattle.sessions.specs.declared.entry.Entry.{Entry}
use Rattle.sessions.specs.Model.{Changed}
use Rattle.wire.specs.declared.message.Control as said
use Rattle.wire.specs.declared.message.Control.TheVariants as say
use Rattle.wire.specs.Meant.{Said}
use Rattle.machine.specs.declared.name.Machine.{Machine}
use Rattle.machine.specs.declared.name.Machine.TheVariants.{Client, Operator, Balancer, Server, Controller}
use Rattle.machine.specs.declared.sent.Sent.{Sent}
use Rattle.server_bucket.specs.Rules as bucket
use Rattle.server_bucket.specs.Rules.{Holding, unheld, only, then_emptied, tells, answered_in}
use Rattle.server.specs.Rules as server
use Rattle.server.specs.Rules.{Keeping, holding_at, is_bucket, Effect, Same, Noted, Does, is_empty, standing, changing, told_of, bucket_in, heard_of, effect_of, handled_as, handled_at, answer_to, place_of, packet_of, entry_in, forwards, hint_from, Ordered}
use Rattle.whole.specs.World.{Envelope, posted, hint_of, World, sends, keeps, stores, closed_by, counted, server_did, ordered, key_in, Packet, forwarded, carries, taken, Quiet, Handled}
use Rattle.whole.proofs.Sim.{Serves, SaidTo, AnsweredTo, Post, Posted, Says, Sim, stay, Next}
use Rattle.whole.proofs.Fits.{All, all_in, by_cond, local_none, Serving, served_sim, posted_all}
use Rattle.whole.proofs.Places as places
use Rattle.whole.proofs.Packets as packets
use Rattle.whole.proofs.Closing.{all_at, vacant, Bye, bye_answered, tells_other, closes_here, ticks_here, counted_same}
use Rattle.whole.proofs.Sane.{Sane}

module _ (host : ℕ → ℕ) (B b : ℕ) (lt : b < B) (w : World) (s : one.State) (r : one.Reach handle host s) (i : Sim host B b w s) (sane : Sane B w) where
  -- more is sent
  pub sim_sends : (x : World) (t : one.State) (es : List Envelope) → Sim host B b x t → ((e : Envelope) → Memᴰ e es → Posted B b t.sent e) → Sim host B b (sends es x) t
  sim_sends x t es j p = record {
    servers = j.servers;
    balancers = j.balancers;
    control = j.control;
    awaited = j.awaited;
    sent = λ e mem. elim (Memᴰ.append_cases es mem) [ inl m ↦ p e m | inr m ↦ j.sent e m ];
    closings = j.closings;
  }

  pub unchanged : Next host B b w s Quiet w
  unchanged = record { state = s; walk = stay; sim = i; seen = tt }

  abbrev kept : ℕ → Keeping
  kept v = w.servers v

  abbrev held : ℕ → Holding
  held v = holding_at b (w.servers v)

  -- server v keeps and sends something else, in the bucket or not
  by_serving : (v : ℕ) (k : Keeping) (out : List Sent) → Serving host B b s v (holding_at b k) (w.sessions v) out s.closings → Next host B b w s Quiet (sends (posted (Server v) out) (keeps v k w))
  by_serving v k out a = record {
    state = a.state;
    walk = a.walk;
    sim = served_sim host B b w s a.state v (put v k w.servers) w.sessions (posted (Server v) out) w.closings i a.local
        (put_here (λ z. Serves host b a.state v (holding_at b z) (w.sessions v)) v k w.servers a.serves)
        (λ u ne. (put_all (λ y z. (y ≡ v → ⊥) → holding_at b z ≡ holding_at b (w.servers y)) v k w.servers (λ e. absurd (e refl)) (λ y _ _. refl) u ne, refl))
        (posted_all B b a.state.sent (Server v) out a.says)
        (λ c e. i.closings c e ∙ sym (a.closings c e));
    seen = tt;
  }

  module _ (v : ℕ) where
    abbrev in_b : b < length (kept v).holdings
    in_b = subst (λ z. b < z) (sym (sane.lengths v)) lt

    -- the bucket's own part
    by_own : (h : Holding) (gone : Option Link) (out : List Sent) → Serving host B b s v h (w.sessions v) out s.closings → Next host B b w s Quiet (sends (posted (Server v) out) (keeps v (server.keeps b h gone (kept v)) w))
    by_own h gone out a = by_serving v (server.keeps b h gone (kept v)) out
        (subst (λ z. Serving host B b s v z (w.sessions v) out s.closings) (sym (get_or-set_same (kept v).holdings b h unheld in_b)) a)

    -- another bucket's
    by_other : (d : ℕ) (h : Holding) (gone : Option Link) (out : List Sent) → (d ≡ b → ⊥) → All (Says B b s.sent) out → Next host B b w s Quiet (sends (posted (Server v) out) (keeps v (server.keeps d h gone (kept v)) w))
    by_other d h gone out ne p = by_serving v (server.keeps d h gone (kept v)) out
        (subst (λ z. Serving host B b s v z (w.sessions v) out s.closings) (sym (get_or-set_other (kept v).holdings d b h unheld (λ e. ne (sym e))))
        (places.stays host B b s v (held v) (w.sessions v) r (i.servers v) out p))

    abbrev Did : Result (List Sent × Keeping) Fault → Type 0
    Did z = Next host B b w s Quiet (server_did v z w)

    own_standing : (from : Machine) (n : ℕ) (before : Option Link) (p : Result (Unit {0}) Fault × Known) → places.StandsTo host B b s v (held v) (w.sessions v) r (i.servers v) from n before p →
        Did (standing from (say.Stand b n before) b (kept v) (only (held v).farewells p))
    own_standing from n before (Ok u, k) a = by_own (record { known = k; farewells = (held v).farewells }) None (answer_to from (say.Stand b n before) ∷ []) a
    own_standing from n before (Err f, k) a = unchanged

    other_standing : (from : Machine) (d n : ℕ) (before : Option Link) → (d ≡ b → ⊥) → (p : Result (Unit {0}) Fault × Holding) → Did (standing from (say.Stand d n before) d (kept v) p)
    other_standing from d n before ne (Ok u, h) = by_other d h None (answer_to from (say.Stand d n before) ∷ []) ne (places.answer_says B b s.sent from (say.Stand d n before) (λ e. absurd (ne e)), tt)
    other_standing from d n before ne (Err f, h) = unchanged

    own_changing : (from : Machine) (c : said.Control) (n : ℕ) (p : Result (Option Link) Fault × Holding) → places.ChangesTo host B b s v (held v) (w.sessions v) r (i.servers v) from c n p → Did (changing from c b n (kept v) p)
    own_changing from c n (Ok gone, h) a = by_own h gone (answer_to from c ∷ tells b n gone) a
    own_changing from c n (Err f, h) a = unchanged

    other_changing : (from : Machine) (c : said.Control) (d n : ℕ) → (d ≡ b → ⊥) → AnsweredTo b s.sent c → (p : Result (Option Link) Fault × Holding) → Did (changing from c d n (kept v) p)
    other_changing from c d n ne an (Ok gone, h) = by_other d h gone (answer_to from c ∷ tells d n gone) ne (places.answer_says B b s.sent from c an, tells_other B b d n s.sent gone ne)
    other_changing from c d n ne an (Err f, h) = unchanged

    -- TOLD

    own_stand : (from : Machine) (n : ℕ) (before : Option Link) → Memᴰ (one.ToStand (record { place = n; server = v }) before) s.sent →
        Did (standing from (say.Stand b n before) b (kept v) (bucket.stand (record { place = n; server = (kept v).number }) before (held v)))
    own_stand from n before mem =
        let inv : Inv host (reach_inv r).0 s = (reach_inv r).1 in
        let at : host n ≡ v = sym (inv.words (one.ToStand (record { place = n; server = v }) before) mem).0 in
        subst (λ u. Did (standing from (say.Stand b n before) b (kept v) (bucket.stand (record { place = n; server = u }) before (held v)))) (sym (sane.numbers v))
        (own_standing from n before (stands_as (find n (held v).known) (record { place = n; server = v }) before (held v).known)
        (places.stands_here host B b s v (held v) (w.sessions v) r (i.servers v) from n before at mem (find n (held v).known) refl ((i.servers v).fit n)))

    own_behind : (from : Machine) (n : ℕ) (a : Link) → Memᴰ (one.BehindYou (record { place = n; server = v }) a) s.sent →
        Did (changing from (say.Behind b n a) b n (kept v) (bucket.behind n a (is_empty b n (w.sessions v)) (held v)))
    own_behind from n a mem = own_changing from (say.Behind b n a) n (bucket.behind n a (is_empty b n (w.sessions v)) (held v))
        (places.behind_here host B b s v (held v) (w.sessions v) r (i.servers v) from n (is_empty b n (w.sessions v)) (vacant b n (w.sessions v)) a mem (find n (held v).known) refl ((i.servers v).fit n))

    own_freed : (from : Machine) (n gone u : ℕ) → Memᴰ (one.Gone (record { place = gone; server = u }) (record { place = n; server = v })) s.sent →
        Did (changing from (say.Forgotten b gone (record { place = n; server = v })) b n (kept v) (bucket.freed n gone (is_empty b n (w.sessions v)) (held v)))
    own_freed from n gone u mem = own_changing from (say.Forgotten b gone (record { place = n; server = v })) n (bucket.freed n gone (is_empty b n (w.sessions v)) (held v))
        (places.freed_here host B b s v (held v) (w.sessions v) r (i.servers v) from n (is_empty b n (w.sessions v)) (vacant b n (w.sessions v)) gone u mem (find n (held v).known) refl ((i.servers v).fit n))

    own_forgotten : (from : Machine) (n : ℕ) (a : Link) → a ≡ record { place = a.place; server = v } → (u : ℕ) → Memᴰ (one.Gone (record { place = n; server = u }) a) s.sent →
        Did (changing from (say.Forgotten b n a) b a.place (kept v) (bucket.freed a.place n (is_empty b a.place (w.sessions v)) (held v)))
    own_forgotten from n a e u mem =
        subst (λ z. Did (changing from (say.Forgotten b n z) b a.place (kept v) (bucket.freed a.place n (is_empty b a.place (w.sessions v)) (held v)))) (sym e)
        (own_freed from a.place n u (subst (λ z. Memᴰ (one.Gone (record { place = n; server = u }) z) s.sent) e mem))

    told_right : (from : Machine) (c : said.Control) → SaidTo b s.sent v c → (kept v).number ≡ v → Did (told_of from c c (kept v) (w.sessions v))
    told_right from (say.Stand d n before) m num = elim (cases_eq d b) [
      | inl e ↦ subst (λ z. Did (standing from (say.Stand z n before) z (kept v) (bucket.stand (record { place = n; server = (kept v).number }) before (holding_at z (kept v))))) (sym e) (own_stand from n before (m e))
      | inr ne ↦ other_standing from d n before ne _
    ]
    told_right from (say.Behind d n a) m num = elim (cases_eq d b) [
      | inl e ↦ subst (λ z. Did (changing from (say.Behind z n a) z n (kept v) (bucket.behind n a (is_empty z n (w.sessions v)) (holding_at z (kept v))))) (sym e) (own_behind from n a (m e))
      | inr ne ↦ other_changing from (say.Behind d n a) d n ne (λ e. absurd (ne e)) _
    ]
    told_right from (say.Door d l) m num = unchanged
    told_right from (say.Forgotten d n a) m num = by_cond Did (eqb a.server (kept v).number) _ _
        (λ q. elim (cases_eq d b) [
          | inl e ↦ subst (λ z. Did (changing from (say.Forgotten z n a) z a.place (kept v) (bucket.freed a.place n (is_empty z a.place (w.sessions v)) (holding_at z (kept v))))) (sym e)
              (own_forgotten from n a (let q' : a.server ≡ v = eqb-true a.server (kept v).number q ∙ num in ap (λ u. record { place = a.place; server = u }) q') (m e).0 (m e).1)
          | inr ne ↦ other_changing from (say.Forgotten d n a) d a.place ne tt _
        ])
        (λ _. unchanged)

    pub tells_here : (m : Envelope) (c : said.Control) → Memᴰ m w.sent → m.to ≡ Server v → m.what ≡ Said c → Did (server.told m.from c (kept v) (w.sessions v))
    tells_here m c mem to what =
        let p : SaidTo b s.sent v c = subst (λ z. Post B b s.sent m.was m.seen z (Server v)) what (subst (Post B b s.sent m.was m.seen m.what) to (i.sent m mem)) in
        by_cond Did (is_bucket (bucket_in c) (kept v)) _ _ (λ _. told_right m.from c p (sane.numbers v)) (λ _. unchanged)

    -- ANSWERED

    answered_of : (from : Machine) (c : said.Control) → Next host B b w s Quiet (keeps v (heard_of from c (kept v)) w)
    answered_of from (say.Stand d n before) = by_serving v (kept v) [] (places.stays host B b s v (held v) (w.sessions v) r (i.servers v) [] tt)
    answered_of from (say.Behind d n a) = by_serving v (kept v) [] (places.stays host B b s v (held v) (w.sessions v) r (i.servers v) [] tt)
    answered_of from (say.Door d l) = by_serving v (kept v) [] (places.stays host B b s v (held v) (w.sessions v) r (i.servers v) [] tt)
    answered_of from (say.Forgotten d n a) = elim (cases_eq d b) [
      | inl e ↦ subst (λ z. Next host B b w s Quiet (keeps v (server.keeps z (bucket.answered n a from (holding_at z (kept v))) None (kept v)) w)) (sym e) (by_own (bucket.answered n a from (held v)) None [] (record {
        state = s;
        walk = stay;
        serves = record {
          fit = (i.servers v).fit;
          tidy = (i.servers v).tidy;
          down = (i.servers v).down;
          up = (i.servers v).up;
          farewells = λ f mem. all_at (Bye s) (answered_in n a from (held v).farewells) f (bye_answered s n a from (held v).farewells (all_in (Bye s) (held v).farewells (i.servers v).farewells)) mem;
        };
        local = local_none host v s;
        says = tt;
        closings = λ c _. refl;
      }))
      | inr ne ↦ by_other d _ None [] ne tt
    ]

    pub answers_here : (from : Machine) (c : said.Control) → Next host B b w s Quiet (keeps v (server.heard from c (kept v)) w)
    answers_here from c = by_cond (λ k. Next host B b w s Quiet (keeps v k w)) (is_bucket (bucket_in c) (kept v)) _ _ (λ _. answered_of from c)
        (λ _. by_serving v (kept v) [] (places.stays host B b s v (held v) (w.sessions v) r (i.servers v) [] tt))

    -- ORDERED

    by_order : (o : Ordered) (es : List Entry) → Serving host B b s v (holding_at b o.keeping) es o.sends (counted (closed_by o.effect (w.sessions v)) s.closings) → Next host B b w s Quiet (ordered v o es w)
    by_order o es a = record {
      state = a.state;
      walk = a.walk;
      sim = served_sim host B b w s a.state v (put v o.keeping w.servers) (put v es w.sessions) (posted (Server v) o.sends) (counted (closed_by o.effect (w.sessions v)) w.closings) i a.local
          (put_here (λ z. Serves host b a.state v (holding_at b (put v o.keeping w.servers v)) z) v es w.sessions (put_here (λ z. Serves host b a.state v (holding_at b z) es) v o.keeping w.servers a.serves))
          (λ u ne. (
            put_all (λ y z. (y ≡ v → ⊥) → holding_at b z ≡ holding_at b (w.servers y)) v o.keeping w.servers (λ e. absurd (e refl)) (λ y _ _. refl) u ne,
            put_all (λ y z. (y ≡ v → ⊥) → z ≡ w.sessions y) v es w.sessions (λ e. absurd (e refl)) (λ y _ _. refl) u ne,
          ))
          (posted_all B b a.state.sent (Server v) o.sends a.says)
          (λ c e. counted_same (closed_by o.effect (w.sessions v)) w.closings s.closings c (i.closings c e) ∙ sym (a.closings c e));
      seen = tt;
    }

    pub closes_all : (c : FlowKey) (es : List Entry) → Does (server.closes c (kept v) (w.sessions v)).effect (w.sessions v) es → Next host B b w s Quiet (ordered v (server.closes c (kept v) (w.sessions v)) es w)
    closes_all c es st = by_order (server.closes c (kept v) (w.sessions v)) es (closes_here host B b s v (kept v) (w.sessions v) es lt r (sane.lengths v) (i.servers v) (sane.once v) (sane.keyed v) c st)

    pub ticks_all : (n : ℕ) (es : List Entry) → Does (server.ticked n (kept v) (w.sessions v)).effect (w.sessions v) es → Next host B b w s Quiet (ordered v (server.ticked n (kept v) (w.sessions v)) es w)
    ticks_all n es st = by_order (server.ticked n (kept v) (w.sessions v)) es (ticks_here host B b s v (kept v) (w.sessions v) es lt r (sane.lengths v) (i.servers v) (sane.once v) (sane.keyed v) n st)

    -- A PACKET

    -- what server v did with it
    abbrev handled_by : Packet → List Entry → server.Handled → World
    handled_by p es d = sends (forwarded v p d.outcome) (sends (posted (Server v) (hint_of d.hint)) (stores v d.effect es w))

    abbrev Handles : Packet → List Entry → server.Handled → Type 0
    Handles p es d = Next host B b w s (Handled v p d.outcome) (handled_by p es d)

    closes_none : (k : Key) (t : ℕ) (o : Outcome) (es : List Entry) → closed_by (effect_of k t o) es ≡ []
    closes_none k t Delivered es = refl
    closes_none k t Opened es = refl
    closes_none k t (Forwarded l way) es = refl
    closes_none k t (Refused z) es = refl
    closes_none k t Dropped es = refl

    by_handling : (p : Packet) (es : List Entry) (d : server.Handled) → closed_by d.effect (w.sessions v) ≡ [] → packets.Handling host B b s v (held v) es p d.outcome d.hint → Handles p es d
    unfolding counted
    by_handling p es d none a = record {
      state = a.state;
      walk = a.walk;
      sim = sim_sends (sends (posted (Server v) (hint_of d.hint)) (stores v d.effect es w)) a.state (forwarded v p d.outcome)
          (served_sim host B b w s a.state v w.servers (put v es w.sessions) (posted (Server v) (hint_of d.hint)) (counted (closed_by d.effect (w.sessions v)) w.closings) i a.local
          (put_here (λ z. Serves host b a.state v (held v) z) v es w.sessions a.serves)
          (λ u ne. (refl, put_all (λ y z. (y ≡ v → ⊥) → z ≡ w.sessions y) v es w.sessions (λ e. absurd (e refl)) (λ y _ _. refl) u ne))
          (posted_all B b a.state.sent (Server v) (hint_of d.hint) a.says)
          (λ c e. rw (none, a.closings) (i.closings c e)))
          a.carries;
      seen = λ _. a.saw;
    }

    -- of another bucket
    noted_far : (k : Key) (t : ℕ) (es : List Entry) → (k.bucket ≡ b → ⊥) → Changed (w.sessions v) es k (Some t) → Serves host b s v (held v) es
    noted_far k t es ne c = record {
      fit = (i.servers v).fit;
      tidy = (i.servers v).tidy;
      down = λ g a o. elim (packets.noted_or (w.sessions v) es k (key_in b g a) t c o) [ inl e ↦ absurd (ne (sym (ap (λ z. z.bucket) e))) | inr old ↦ (i.servers v).down g a old ];
      up = λ g a at o. packets.noted_old (w.sessions v) es k (key_in b g a) t c ((i.servers v).up g a at o);
      farewells = (i.servers v).farewells;
    }

    far_serves : (k : Key) (t : ℕ) (o : Outcome) (es : List Entry) → (k.bucket ≡ b → ⊥) → Does (effect_of k t o) (w.sessions v) es → Serves host b s v (held v) es
    far_serves k t Delivered es ne d = noted_far k t es ne d
    far_serves k t Opened es ne d = noted_far k t es ne d
    far_serves k t (Forwarded l way) es ne d = rw d (i.servers v)
    far_serves k t (Refused z) es ne d = rw d (i.servers v)
    far_serves k t Dropped es ne d = rw d (i.servers v)

    far_carries : (p : Packet) (o : Outcome) → (bucket_of p.flow B ≡ b → ⊥) → (e : Envelope) → Memᴰ e (forwarded v p o) → Posted B b s.sent e
    far_carries p Delivered ne e m = absurd (Memᴰ.not-nil m)
    far_carries p Opened ne e m = absurd (Memᴰ.not-nil m)
    far_carries p (Forwarded l way) ne e m = rw (Memᴰ.eq_of_singleton m) (λ q. absurd (ne q))
    far_carries p (Refused z) ne e m = absurd (Memᴰ.not-nil m)
    far_carries p Dropped ne e m = absurd (Memᴰ.not-nil m)

    by_far : (p : Packet) (es : List Entry) (d : server.Handled) → (bucket_of p.flow B ≡ b → ⊥) → closed_by d.effect (w.sessions v) ≡ [] → Serves host b s v (held v) es → All (Says B b s.sent) (hint_of d.hint) → Handles p es d
    unfolding counted
    by_far p es d ne none sv say = record {
      state = s;
      walk = stay;
      sim = sim_sends (sends (posted (Server v) (hint_of d.hint)) (stores v d.effect es w)) s (forwarded v p d.outcome)
          (served_sim host B b w s s v w.servers (put v es w.sessions) (posted (Server v) (hint_of d.hint)) (counted (closed_by d.effect (w.sessions v)) w.closings) i (local_none host v s)
          (put_here (λ z. Serves host b s v (held v) z) v es w.sessions sv)
          (λ u ne. (refl, put_all (λ y z. (y ≡ v → ⊥) → z ≡ w.sessions y) v es w.sessions (λ e. absurd (e refl)) (λ y _ _. refl) u ne))
          (posted_all B b s.sent (Server v) (hint_of d.hint) say)
          (λ c e. rw none (i.closings c e)))
          (far_carries p d.outcome ne);
      seen = λ e. absurd (ne e);
    }

    far_hint : (d : ℕ) (from : Machine) (x : Standing) → (d ≡ b → ⊥) → All (Says B b s.sent) (hint_of (hint_from d from x))
    far_hint d (Balancer n) (Forgotten a) ne = ((λ e. absurd (ne e)), tt)
    far_hint d (Balancer n) Never ne = tt
    far_hint d (Balancer n) (Stands f a) ne = tt
    far_hint d Client x ne = tt
    far_hint d Operator x ne = tt
    far_hint d (Server n) x ne = tt
    far_hint d Controller x ne = tt

    module _ (from : Machine) (p : Packet) (es : List Entry) (mem : Memᴰ (carries from v p) w.sent) where
      abbrev own : p.head.bucket ≡ bucket_of p.flow B
      own = sane.carried (carries from v p) mem

      abbrev key : Key
      key = key_in p.head.bucket p.head.place p.flow

      abbrev found : Option Place
      found = find p.head.place (holding_at p.head.bucket (kept v)).known

      -- by the number that the server has for its own
      abbrev does : ℕ → server.Handled
      does u = handled_as from (kept v) key (place_of (record { place = p.head.place; server = u }) found)
          (handle (place_of (record { place = p.head.place; server = u }) found) (packet_of u p.head p.flow) (entry_in key (w.sessions v)))

      own_arrives : bucket_of p.flow B ≡ b → Does (does v).effect (w.sessions v) es → Handles p es (does v)
      own_arrives e st =
          let e' : p.head.bucket ≡ b = own ∙ e in
          let j : Serves host p.head.bucket s v (holding_at p.head.bucket (kept v)) (w.sessions v) = subst (λ z. Serves host z s v (holding_at z (kept v)) (w.sessions v)) (sym e') (i.servers v) in
          by_handling p es (does v) (closes_none key (kept v).tick (does v).outcome (w.sessions v))
          (subst (λ z. packets.Handling host B z s v (holding_at z (kept v)) es p (does v).outcome (does v).hint) e'
          (packets.handled_here host B s v (holding_at p.head.bucket (kept v)) (w.sessions v) es from p (kept v).tick r j (i.sent (carries from v p) mem e) found refl (j.fit p.head.place) (st)))

      far_arrives : (u : ℕ) → (bucket_of p.flow B ≡ b → ⊥) → Does (does u).effect (w.sessions v) es → Handles p es (does u)
      far_arrives u ne st =
          let ne' : p.head.bucket ≡ b → ⊥ = λ e. ne (sym own ∙ e) in
          by_far p es (does u) ne (closes_none key (kept v).tick (does u).outcome (w.sessions v)) (far_serves key (kept v).tick (does u).outcome es ne' (st))
          (by_cond (λ z. All (Says B b s.sent) (hint_of z)) (forwards (does u).outcome) _ None (λ _. far_hint p.head.bucket from (place_of (record { place = p.head.place; server = u }) found).standing ne') (λ _. tt))

      pub arrives_all : Does (taken w v from p).effect (w.sessions v) es → Handles p es (taken w v from p)
      arrives_all = by_cond (λ d. Does d.effect (w.sessions v) es → Handles p es d) (is_bucket p.head.bucket (kept v)) (does (kept v).number) _
          (λ _. elim (cases_eq (bucket_of p.flow B) b) [
            | inl e ↦ subst (λ u. Does (does u).effect (w.sessions v) es → Handles p es (does u)) (sym (sane.numbers v)) (own_arrives e)
            | inr ne ↦ far_arrives (kept v).number ne
          ])
          (λ q st. elim (cases_eq (bucket_of p.flow B) b) [
            | inl e ↦ absurd (true≢false (sym (lt-ltb p.head.bucket (length (kept v).holdings) (subst (λ z. z < length (kept v).holdings) (sym (own ∙ e)) in_b)) ∙ q))
            | inr ne ↦ by_far p es (record { outcome = Refused (For NoSuch); hint = None; effect = Same }) ne refl (rw (st) (i.servers v)) tt
          ])
