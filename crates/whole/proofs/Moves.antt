-- Every step of the whole is some steps of each bucket. Assumes nothing.
use Rattle.std.proofs.Common.{◌≡◌, ℕ, zero, suc, ◌+◌, ◌<◌, Bool, true, false, cond, T, eqb, ltb, ◌⊎◌, List, [], ◌∷◌, map, length, get_or, set, is_some, Some, None, Ok, Err, Option, Result, sym, refl, ap, ◌∙◌, subst, inl, inr, arith}
use mathlib.Core.List.Memᴰ
use mathlib.Core.List.{Memᴰ}
use Rattle.std.proofs.lemmas.Bool.{cases_eq}
use Rattle.std.proofs.lemmas.List.{get_or-set_same, get_or-set_other, get_or-map}
use Rattle.fault.specs.declared.Fault.{Fault}
use Rattle.flow.specs.declared.key.FlowKey.{FlowKey}
use Rattle.flow.specs.declared.ipv4.Flow.{Flow}
use Rattle.flow.specs.Buckets.{bucket_of}
use Rattle.chain.specs.declared.way.Link.{Link}
use Rattle.chain.specs.declared.way.Way.TheVariants.{Up}
use Rattle.chain.specs.declared.handover.Handover.{Handover}
use Rattle.chain.specs.declared.handover.Handover.TheVariants.{Idle, AwaitStood, AwaitTold}
use Rattle.chain.specs.Ways.{heard_link, same_link}
use Rattle.chain.specs.Controllers as chains
use Rattle.chain.specs.Controllers.{newest_of}
use Rattle.places.specs.Rules.{find}
use Rattle.sessions.specs.Entries.{seen_in}
use Rattle.server.specs.Rules.{holding_at, answer_to}
use Rattle.chain.specs.Places.{handle}
use Rattle.bucket.specs.Sessions.{is_in, put}
use Rattle.bucket.specs.Model as one
use Rattle.bucket.proofs.Lists.{put_all}
use Rattle.wire.specs.declared.message.Control as said
use Rattle.wire.specs.declared.message.Control.TheVariants as say
use Rattle.wire.specs.Meant.{Said, Answered}
use Rattle.machine.specs.declared.name.Machine.{Machine}
use Rattle.machine.specs.declared.name.Machine.TheVariants.{Client, Operator, Balancer, Server, Controller}
use Rattle.machine.specs.declared.sent.Sent.{Sent}
use Rattle.balancer.specs.Rules as balancer
use Rattle.controller_bucket.specs.Rules as bucket
use Rattle.controller_bucket.specs.Rules.{Charge, charge_first, awaited_of, door_to, started_with, begun_in, stood_with, told_with, forgotten_with}
use Rattle.machine.specs.Again.{is_due}
use Rattle.roster.specs.Listing.{with_server, without_server}
use Rattle.assignment.specs.Rule as assigned
use Rattle.controller.specs.Rules as controller
use Rattle.controller.specs.Rules.{Ruling, charge_at, assigned_at, all_balancers, is_bucket, parts, forgotten_as, told_of, bucket_in, ruled_by, door_heard, heard_of, begun_from, reassigned, due_from, later}
use Rattle.whole.specs.World.{Was, NotOpen, OpenAt, Envelope, posted, World, IsOpen, key_in, sends, rules, knows, controller_did, balancer_did, carries, Event, Quiet, Step, comes, arrives, tells, answers, reports, confirms, hears, closes, ticks, adds, removes, waits}
use Rattle.whole.proofs.Sim.{Passed, Fit, Serves, plain_was, Reported, AnsweredTo, Announced, Post, Posted, Says, Sim, stay, then, Next}
use Rattle.whole.proofs.Fits.{All, all_append, by_cond, fit_control, posted_all, post_stays, awaited_stays}
use Rattle.whole.proofs.Places.{answer_says}
use Rattle.whole.proofs.Charges.{steady_none, Ruled, Charging, Right, begun_here, stood_here, told_here, Forgot, forgotten_here, due_here}
use Rattle.whole.proofs.Coming.{coming, sends_as, is_coming}
use Rattle.whole.proofs.Sane.{Sane}
use Rattle.whole.proofs.Serve.{sim_sends, unchanged, tells_here, answers_here, closes_all, ticks_all, arrives_all}

put_both : {A C : Type 0} (P : A → C → Type 0) (h : ℕ) (a : A) (c : C) (f : ℕ → A) (k : ℕ → C) → P a c → ((g : ℕ) → P (f g) (k g)) → (g : ℕ) → P (put h a f g) (put h c k g)
put_both P h a c f k here there g = let q = there g in grind arith

only_one : (B b : ℕ) (xs : List one.Message) (e : Envelope) → Posted B b xs e → (m : Envelope) → Memᴰ m (e ∷ []) → Posted B b xs m
only_one B b xs e p m z = rw (Memᴰ.eq_of_singleton z) p

-- WHAT IS SAID OF ANOTHER BUCKET

module _ (B b : ℕ) (xs : List one.Message) (d : ℕ) (ne : d ≡ b → ⊥) where
  other_awaited : (g : Handover) (n : Link) → All (Says B b xs) (awaited_of d g n)
  other_awaited Idle n = tt
  other_awaited (AwaitStood l) n = ((λ e. absurd (ne e)), tt)
  other_awaited (AwaitTold l) n = ((λ e. absurd (ne e)), tt)

  other_doors : (l : Link) (ds : List ℕ) → All (Says B b xs) (map (door_to d l) ds)
  other_doors l [] = tt
  other_doors l (g ∷ ds) = ((λ e. absurd (ne e)), other_doors l ds)

  other_started : (c : Charge) (p : Result Link Fault × chains.Control) → All (Says B b xs) (started_with d c p).0
  other_started c (Ok l, k) = other_awaited k.handover (newest_of k.kept)
  other_started c (Err f, k) = by_cond (All (Says B b xs)) c.reported [] _ (λ _. tt) (λ _. (tt, tt))

  other_begun_in : (server : ℕ) (g : Handover) (c : Charge) → All (Says B b xs) (begun_in d server g c).0
  other_begun_in server Idle c = by_cond {A = List Sent × Charge} (λ p. All (Says B b xs) p.0) (eqb (bucket.newest c).server server) _ _ (λ _. tt) (λ _. other_started c (chains.begins server c.control))
  other_begun_in server (AwaitStood l) c = tt
  other_begun_in server (AwaitTold l) c = tt

  other_begun : (server : ℕ) (c : Charge) → All (Says B b xs) (bucket.begun d server c).0
  other_begun server c = other_begun_in server c.control.handover c

  other_stood : (c : Charge) (p : Option Link × chains.Control) → All (Says B b xs) (stood_with d c p).0
  other_stood c (None, k) = tt
  other_stood c (Some l, k) = other_awaited k.handover (newest_of k.kept)

  other_told : (server : ℕ) (all : List ℕ) (c : Charge) (p : Bool × chains.Control) → All (Says B b xs) (told_with d server all c p).0
  other_told server all c (false, k) = tt
  other_told server all c (true, k) =
      let c1 : Charge = record { control = k; age = 0; untold = all; untold_age = 0; reported = c.reported } in
      all_append (Says B b xs) (bucket.doors d c1) (bucket.begun d server c1).0 (other_doors (bucket.newest c1) all) (other_begun server c1)

  abbrev SaysIf : Option (List Sent × Charge) → Type 0
  SaysIf None = Unit {0}
  SaysIf (Some (out, c)) = All (Says B b xs) out

  other_forgotten : (server : ℕ) (c : Charge) (p : Bool × chains.Control) → SaysIf (forgotten_with d server c p)
  other_forgotten server c (false, k) = tt
  other_forgotten server c (true, k) = other_begun server (record { control = k; age = c.age; untold = c.untold; untold_age = c.untold_age; reported = c.reported })

  other_due : (past : ℕ) (c : Charge) → All (Says B b xs) (bucket.due d past c)
  other_due past c = all_append (Says B b xs) (cond (is_due past c.age) (bucket.awaited d c) []) (cond (is_due past c.untold_age) (bucket.doors d c) [])
      (by_cond (All (Says B b xs)) (is_due past c.age) (bucket.awaited d c) [] (λ _. other_awaited c.control.handover (bucket.newest c)) (λ _. tt))
      (by_cond (All (Says B b xs)) (is_due past c.untold_age) (bucket.doors d c) [] (λ _. other_doors (bucket.newest c) c.untold) (λ _. tt))

-- OF MANY BUCKETS, FROM ONE ON

module _ (B b : ℕ) where
  past_due : (xs : List one.Message) (from past : ℕ) (cs : List Charge) → b < from → All (Says B b xs) (due_from from past cs)
  unfolding due_from
  past_due xs from past [] lt = tt
  past_due xs from past (c ∷ cs) lt = all_append (Says B b xs) (bucket.due from past c) (due_from (suc from) past cs) (other_due B b xs from (λ e. omega arith) past c) (past_due xs (suc from) past cs (omega arith))

  all_due : (xs : List one.Message) (from past j : ℕ) (cs : List Charge) → from + j ≡ b → All (Says B b xs) (bucket.due b past (get_or cs j (charge_first 0))) → All (Says B b xs) (due_from from past cs)
  unfolding due_from
  all_due xs from past j [] e p = tt
  all_due xs from past zero (c ∷ cs) e p = let q : from ≡ b = omega arith in all_append (Says B b xs) (bucket.due from past c) (due_from (suc from) past cs) (rw q p) (past_due xs (suc from) past cs (omega arith))
  all_due xs from past (suc j) (c ∷ cs) e p = all_append (Says B b xs) (bucket.due from past c) (due_from (suc from) past cs) (other_due B b xs from (λ q. omega arith) past c) (all_due xs (suc from) past j cs (omega arith) p)

  past_begun : (xs : List one.Message) (from : ℕ) (ns : List ℕ) (cs : List Charge) → b < from → All (Says B b xs) (begun_from from ns cs).0
  unfolding begun_from
  past_begun xs from ns [] lt = tt
  past_begun xs from [] (c ∷ cs) lt = tt
  past_begun xs from (a ∷ ns) (c ∷ cs) lt = all_append (Says B b xs) (bucket.begun from a c).0 (begun_from (suc from) ns cs).0 (other_begun B b xs from (λ e. omega arith) a c) (past_begun xs (suc from) ns cs (omega arith))

  -- a handover of the bucket may begin, or not
  pub record Begun (c d : Charge) (out : List Sent) : Type 0 where
    pub server : ℕ
    pub is : d ≡ (bucket.begun b server c).1
    pub says : (xs : List one.Message) → All (Says B b xs) (bucket.begun b server c).0 → All (Says B b xs) out

  abbrev pub Not : (c d : Charge) (out : List Sent) → Type 0
  Not c d out = (d ≡ c) × ((xs : List one.Message) → All (Says B b xs) out)

  pub all_begun : (from j : ℕ) (ns : List ℕ) (cs : List Charge) → from + j ≡ b → Begun (get_or cs j (charge_first 0)) (get_or (begun_from from ns cs).1 j (charge_first 0)) (begun_from from ns cs).0 ⊎ Not (get_or cs j (charge_first 0)) (get_or (begun_from from ns cs).1 j (charge_first 0)) (begun_from from ns cs).0
  unfolding begun_from
  all_begun from j ns [] e = inr (refl, λ xs. tt)
  all_begun from j [] (c ∷ cs) e = inr (refl, λ xs. tt)
  all_begun from zero (a ∷ ns) (c ∷ cs) e =
      let q : from ≡ b = omega arith in
      inl (record { server = a; is = ap (λ z. (bucket.begun z a c).1) q; says = λ xs p. all_append (Says B b xs) (bucket.begun from a c).0 (begun_from (suc from) ns cs).0 (rw q p) (past_begun xs (suc from) ns cs (omega arith)) })
  all_begun from (suc j) (a ∷ ns) (c ∷ cs) e =
      let o : (xs : List one.Message) → All (Says B b xs) (bucket.begun from a c).0 = λ xs. other_begun B b xs from (λ q. omega arith) a c in
      elim (all_begun (suc from) j ns cs (omega arith)) [
        | inl z ↦ inl (record { server = z.server; is = z.is; says = λ xs p. all_append (Says B b xs) (bucket.begun from a c).0 (begun_from (suc from) ns cs).0 (o xs) (z.says xs p) })
        | inr z ↦ inr (z.0, λ xs. all_append (Says B b xs) (bucket.begun from a c).0 (begun_from (suc from) ns cs).0 (o xs) (z.1 xs))
      ]

module _ (host : ℕ → ℕ) (B b : ℕ) (lt : b < B) (w : World) (s : one.State) (r : one.Reach handle host s) (i : Sim host B b w s) (sane : Sane B w) where
  -- THE BUCKET'S OTHER PARTS

  serves_steady : (t : one.State) → t.places ≡ s.places → t.sessions ≡ s.sessions → ((m : one.Message) → Memᴰ m s.sent → Memᴰ m t.sent) → ((k : ℕ) → Passed s.control k → Passed t.control k) →
      (v : ℕ) → Serves host b t v (holding_at b (w.servers v)) (w.sessions v)
  serves_steady t places sessions up passed v = record {
    fit = λ k. fit_control host s.control t.control v k (holding_at b (w.servers v)).known.highest (t.places k) (find k (holding_at b (w.servers v)).known) (passed k)
        (subst (λ f. Fit host s.control v k (holding_at b (w.servers v)).known.highest (f k) (find k (holding_at b (w.servers v)).known)) (sym places) ((i.servers v).fit k));
    tidy = (i.servers v).tidy;
    down = λ k c o. let d = (i.servers v).down k c o in (d.0, subst (λ f. T (is_in c (f k))) (sym sessions) d.1);
    up = λ k c at o. (i.servers v).up k c at (subst (λ f. T (is_in c (f k))) sessions o);
    farewells = λ f mem. let g = (i.servers v).farewells f mem in (g.0, up _ g.1);
  }

  -- A PACKET COMES

  was_open : (c : FlowKey) → bucket_of c B ≡ b → (was : Was) → ((v p : ℕ) → was ≡ OpenAt v p → IsOpen B w c v p) → (k : ℕ) → plain_was was ≡ one.OpenAt k → one.IsOpen s c k
  was_open c e NotOpen h k q = absurd (grind arith)
  was_open c e (OpenAt v p) h k q =
      let pk : p ≡ k = grind arith in
      subst (one.IsOpen s c) pk ((i.servers v).down p c (subst (λ z. T (is_some (seen_in (key_in z p c) (w.sessions v)))) e (h v p refl))).1

  comes_here : (d : ℕ) (bytes : List ℕ) (flow : Flow) (was : Was) → ((v p : ℕ) → was ≡ OpenAt v p → IsOpen B w flow.key v p) →
      Next host B b w s Quiet (sends (carries (Balancer d) (coming B (w.balancers d) flow bytes was (w.closings flow.key)).0 (coming B (w.balancers d) flow bytes was (w.closings flow.key)).1 ∷ []) w)
  comes_here d bytes flow was h =
      let env = carries (Balancer d) (coming B (w.balancers d) flow bytes was (w.closings flow.key)).0 (coming B (w.balancers d) flow bytes was (w.closings flow.key)).1 in
      elim (cases_eq (bucket_of flow.key B) b) [
        | inl e ↦
            let c = flow.key in
            let f : Link → ℕ → one.Message = λ l n. one.Carry (record { packet = record { flow = c; opens = flow.opens; at = l; way = Up }; was = plain_was was; seen = n }) in
            let t = one.sends (f (s.balancers d) (s.closings c)) s in
            let leq : balancer.link_at (w.balancers d) (bucket_of c B) ≡ s.balancers d = ap (balancer.link_at (w.balancers d)) e ∙ i.balancers d in
            record {
              state = t;
              walk = then stay (one.comes d c flow.opens (plain_was was) (was_open c e was h));
              sim = sim_sends host B b lt w s r i sane w t (env ∷ []) (record {
                servers = serves_steady t refl refl (λ m z. Memᴰ.tail z) (λ k z. z);
                balancers = i.balancers;
                control = i.control;
                awaited = awaited_stays s.sent t.sent (λ m z. Memᴰ.tail z) s.control.handover (one.newest s) i.awaited;
                sent = λ m z. post_stays B b s.sent t.sent (λ _ y. Memᴰ.tail y) m.was m.seen m.what m.to (i.sent m z);
                closings = i.closings;
              })
                  (only_one B b t.sent env (λ _. Memᴰ.head (ap (λ l. f l (w.closings c)) leq ∙ ap (f (s.balancers d)) (i.closings c e))));
              seen = tt;
            }
        | inr ne ↦ record { state = s; walk = stay; sim = sim_sends host B b lt w s r i sane w s (env ∷ []) i (only_one B b s.sent env (λ q. absurd (ne q))); seen = tt }
      ]

  -- A BALANCER HEARS

  -- an answer that concerns no bucket
  heard_says : (from : Machine) (c : ℕ) (l : Link) (xs : List one.Message) → Post B b xs NotOpen 0 (Answered (say.Door c l)) from
  heard_says Client c l xs = tt
  heard_says Operator c l xs = tt
  heard_says (Balancer g) c l xs = tt
  heard_says (Server g) c l xs = tt
  heard_says Controller c l xs = tt

  knows_own : (from : Machine) (d : ℕ) (l : Link) → Memᴰ (one.ToBalancer d l) s.sent → (z : Result Link Fault) → heard_link (s.balancers d) l ≡ z → Next host B b w s Quiet (balancer_did d from (say.Door b l) (balancer.kept b (w.balancers d) z) w)
  knows_own from d l mem (Err f) e = unchanged host B b lt w s r i sane
  knows_own from d l mem (Ok k) e =
      let t = one.learns d (Ok k) s in
      record {
        state = t;
        walk = then stay (subst (λ z. one.Step handle host s one.Quiet (one.learns d z s)) e (one.hears d l mem));
        sim = sim_sends host B b lt w s r i sane (knows d (set (w.balancers d) b k) w) t (record { from = Balancer d; to = from; what = Answered (say.Door b l); was = NotOpen; seen = 0 } ∷ []) (record {
          servers = serves_steady t refl refl (λ m z. z) (λ k z. z);
          balancers = put_both (λ ls x. balancer.link_at ls b ≡ x) d (set (w.balancers d) b k) k w.balancers s.balancers (get_or-set_same (w.balancers d) b k _ (subst (λ z. b < z) (sym (sane.links d)) lt)) i.balancers;
          control = i.control;
          awaited = i.awaited;
          sent = i.sent;
          closings = i.closings;
        })
            (only_one B b s.sent (record { from = Balancer d; to = from; what = Answered (say.Door b l); was = NotOpen; seen = 0 }) (heard_says from b l s.sent));
        seen = tt;
      }

  knows_other : (from : Machine) (d c : ℕ) (l : Link) → (c ≡ b → ⊥) → (z : Result Link Fault) → Next host B b w s Quiet (balancer_did d from (say.Door c l) (balancer.kept c (w.balancers d) z) w)
  knows_other from d c l ne (Err f) = unchanged host B b lt w s r i sane
  knows_other from d c l ne (Ok k) = record {
    state = s;
    walk = stay;
    sim = sim_sends host B b lt w s r i sane (knows d (set (w.balancers d) c k) w) s (record { from = Balancer d; to = from; what = Answered (say.Door c l); was = NotOpen; seen = 0 } ∷ []) (record {
      servers = i.servers;
      balancers = put_all (λ g ls. balancer.link_at ls b ≡ s.balancers g) d (set (w.balancers d) c k) w.balancers (get_or-set_other (w.balancers d) c b k _ (λ e. ne (sym e)) ∙ i.balancers d) (λ g _. i.balancers g);
      control = i.control;
      awaited = i.awaited;
      sent = i.sent;
      closings = i.closings;
    })
        (only_one B b s.sent (record { from = Balancer d; to = from; what = Answered (say.Door c l); was = NotOpen; seen = 0 }) (heard_says from c l s.sent));
    seen = tt;
  }

  hears_here : (m : Envelope) (d c : ℕ) (l : Link) → Memᴰ m w.sent → m.to ≡ Balancer d → m.what ≡ Said (say.Door c l) → Next host B b w s Quiet (balancer_did d m.from (say.Door c l) (balancer.hears c l (w.balancers d)) w)
  hears_here m d c l mem to what =
      let p : Announced b s.sent d (say.Door c l) = subst (λ z. Post B b s.sent m.was m.seen z (Balancer d)) what (subst (Post B b s.sent m.was m.seen m.what) to (i.sent m mem)) in
      by_cond {A = Result (Unit {0}) Fault × List Link} (λ z. Next host B b w s Quiet (balancer_did d m.from (say.Door c l) z w)) (ltb c (length (w.balancers d))) _ _
      (λ _. elim (cases_eq c b) [
        | inl e ↦ subst (λ z. Next host B b w s Quiet (balancer_did d m.from (say.Door z l) (balancer.kept z (w.balancers d) (heard_link (balancer.link_at (w.balancers d) z) l)) w)) (sym e)
            (knows_own m.from d l (p e) (heard_link (balancer.link_at (w.balancers d) b) l) (ap (λ x. heard_link x l) (sym (i.balancers d))))
        | inr ne ↦ knows_other m.from d c l ne _
      ])
      (λ _. unchanged host B b lt w s r i sane)

  -- THE CONTROLLER

  abbrev charge : Charge
  charge = charge_at b w.controller

  abbrev in_b : b < length w.controller.charges
  in_b = subst (λ z. b < z) (sym sane.charges) lt

  abbrev ruled : Ruled s charge
  ruled = (i.control, i.awaited)

  by_charging : (k : Ruling) (out : List Sent) → Charging host B b s (charge_at b k) out → Next host B b w s Quiet (sends (posted Controller out) (rules k w))
  by_charging k out a = record {
    state = a.state;
    walk = a.walk;
    sim = sim_sends host B b lt w s r i sane (rules k w) a.state (posted Controller out) (record {
      servers = serves_steady a.state a.steady.places a.steady.sessions a.steady.sent a.steady.passed;
      balancers = λ d. i.balancers d ∙ ap (λ f. f d) (sym a.steady.balancers);
      control = a.ruled.0;
      awaited = a.ruled.1;
      sent = λ e m. post_stays B b s.sent a.state.sent a.steady.sent e.was e.seen e.what e.to (i.sent e m);
      closings = λ c e. i.closings c e ∙ ap (λ f. f c) (sym a.steady.closings);
    })
        (posted_all B b a.state.sent Controller out a.says);
    seen = tt;
  }

  abbrev Did : Result (List Sent × Ruling) Fault → Type 0
  Did z = Next host B b w s Quiet (controller_did z w)

  -- the place last given in the bucket is right after it
  abbrev RightIn : Result (List Sent × Ruling) Fault → Type 0
  RightIn (Ok p) = Right host (charge_at b p.1).control
  RightIn (Err f) = Unit {0}

  -- the bucket's charge is as it was
  by_same : (k : Ruling) (out : List Sent) → (charge_at b k).control ≡ charge.control → All (Says B b s.sent) out → Did (Ok (out, k))
  by_same k out e p = by_charging k out (record { state = s; walk = stay; ruled = (e ∙ i.control, i.awaited); steady = steady_none s; says = p })

  own_rules : (k : Ruling) (c : Charge) (out : List Sent) → k.charges ≡ w.controller.charges → (Right host c.control → Charging host B b s c out) → RightIn (Ok (out, controller.rules b c k)) → Did (Ok (out, controller.rules b c k))
  own_rules k c out e a right =
      let q : charge_at b (controller.rules b c k) ≡ c = get_or-set_same k.charges b c (charge_first 0) (subst (λ z. b < length z) (sym e) in_b) in
      by_charging (controller.rules b c k) out (subst (λ z. Charging host B b s z out) (sym q) (a (subst (λ z. Right host z.control) q right)))

  other_rules : (k : Ruling) (d : ℕ) (c : Charge) (out : List Sent) → k.charges ≡ w.controller.charges → (d ≡ b → ⊥) → All (Says B b s.sent) out → Did (Ok (out, controller.rules d c k))
  other_rules k d c out e ne p = by_same (controller.rules d c k) out (ap (λ z. z.control) (get_or-set_other k.charges d b c (charge_first 0) (λ q. ne (sym q)) ∙ ap (λ z. get_or z b (charge_first 0)) e)) p

  -- TOLD

  own_forgotten : (from : Machine) (n : ℕ) (a : Link) (o : Option (List Sent × Charge)) → Forgot host B b s charge o →
      RightIn (Ok (forgotten_as from (say.Forgotten b n a) b n w.controller o)) → Did (Ok (forgotten_as from (say.Forgotten b n a) b n w.controller o))
  own_forgotten from n a None f = λ right. by_same w.controller [] refl tt
  own_forgotten from n a (Some (out, c)) f = own_rules (parts b n w.controller) c (answer_to from (say.Forgotten b n a) ∷ out) refl
      (λ right. let z = f right in record { state = z.state; walk = z.walk; ruled = z.ruled; steady = z.steady; says = (answer_says B b z.state.sent from (say.Forgotten b n a) tt, z.says) })

  far_forgotten : (from : Machine) (d n : ℕ) (a : Link) (ne : d ≡ b → ⊥) (o : Option (List Sent × Charge)) → SaysIf B b s.sent d ne o → Did (Ok (forgotten_as from (say.Forgotten d n a) d n w.controller o))
  far_forgotten from d n a ne None p = by_same w.controller [] refl tt
  far_forgotten from d n a ne (Some (out, c)) p = other_rules (parts d n w.controller) d c (answer_to from (say.Forgotten d n a) ∷ out) refl ne (answer_says B b s.sent from (say.Forgotten d n a) tt, p)

  told_right : (from : Machine) (c : said.Control) → Reported b s.sent c → RightIn (told_of from c c w.controller) → Did (told_of from c c w.controller)
  told_right from (say.Stand d n before) m = λ _. unchanged host B b lt w s r i sane
  told_right from (say.Behind d n a) m = λ _. unchanged host B b lt w s r i sane
  told_right from (say.Door d l) m = λ _. unchanged host B b lt w s r i sane
  told_right from (say.Forgotten d n a) m = elim (cases_eq d b) [
    | inl e ↦ subst (λ z. RightIn (told_of from (say.Forgotten z n a) (say.Forgotten z n a) w.controller) → Did (told_of from (say.Forgotten z n a) (say.Forgotten z n a) w.controller)) (sym e)
        (own_forgotten from n a (bucket.forgotten b (assigned_at b w.controller) n charge) (forgotten_here host B b s charge (assigned_at b w.controller) n (m e).0 a (m e).1 ruled))
    | inr ne ↦ λ _. far_forgotten from d n a ne _ (other_forgotten B b s.sent d ne (assigned_at d w.controller) (charge_at d w.controller) (chains.hears_forgotten n (charge_at d w.controller).control))
  ]

  pub reports_here : (m : Envelope) (c : said.Control) → Memᴰ m w.sent → m.to ≡ Controller → m.what ≡ Said c → RightIn (controller.told m.from c w.controller) → Did (controller.told m.from c w.controller)
  reports_here m c mem to what =
      let p : Reported b s.sent c = subst (λ z. Post B b s.sent m.was m.seen z Controller) what (subst (Post B b s.sent m.was m.seen m.what) to (i.sent m mem)) in
      by_cond (λ z. RightIn z → Did z) (is_bucket (bucket_in c) w.controller) _ _ (λ _. told_right m.from c p) (λ _ _. unchanged host B b lt w s r i sane)

  -- ANSWERED

  own_ruled : (p : List Sent × Charge) → (Right host p.1.control → Charging host B b s p.1 p.0) → RightIn (Ok (ruled_by b w.controller p)) → Did (Ok (ruled_by b w.controller p))
  own_ruled (out, c) a = own_rules w.controller c out refl a

  far_ruled : (d : ℕ) (p : List Sent × Charge) → (d ≡ b → ⊥) → All (Says B b s.sent) p.0 → Did (Ok (ruled_by d w.controller p))
  far_ruled d (out, c) ne p = other_rules w.controller d c out refl ne p

  door_hears : (from : Machine) (d : ℕ) (l : Link) → Did (Ok ([], door_heard from d l w.controller))
  door_hears Client d l = by_same w.controller [] refl tt
  door_hears Operator d l = by_same w.controller [] refl tt
  door_hears (Server g) d l = by_same w.controller [] refl tt
  door_hears Controller d l = by_same w.controller [] refl tt
  door_hears (Balancer g) d l = elim (cases_eq d b) [
    | inl e ↦ subst (λ z. Did (Ok ([], door_heard (Balancer g) z l w.controller))) (sym e)
        (by_same _ [] (ap (λ z. z.control) (get_or-set_same w.controller.charges b (bucket.heard g l charge) (charge_first 0) in_b) ∙ by_cond (λ z. z.control ≡ charge.control) (same_link l (bucket.newest charge)) _ charge (λ _. refl) (λ _. refl)) tt)
    | inr ne ↦ other_rules w.controller d _ [] refl ne tt
  ]

  heard_keeps : (from : Machine) (c : said.Control) → AnsweredTo b s.sent c → RightIn (Ok (heard_of from c w.controller)) → Did (Ok (heard_of from c w.controller))
  heard_keeps from (say.Stand d n before) m = elim (cases_eq d b) [
    | inl e ↦ subst (λ z. RightIn (Ok (heard_of from (say.Stand z n before) w.controller)) → Did (Ok (heard_of from (say.Stand z n before) w.controller))) (sym e)
        (own_ruled (bucket.stood b n charge) (λ _. stood_here host B b s charge n (m e).0 (m e).1 ruled))
    | inr ne ↦ λ _. far_ruled d (bucket.stood d n (charge_at d w.controller)) ne (other_stood B b s.sent d ne (charge_at d w.controller) (chains.hears_stood n (charge_at d w.controller).control))
  ]
  heard_keeps from (say.Behind d n a) m = elim (cases_eq d b) [
    | inl e ↦ subst (λ z. RightIn (Ok (heard_of from (say.Behind z n a) w.controller)) → Did (Ok (heard_of from (say.Behind z n a) w.controller))) (sym e)
        (own_ruled (bucket.told b (assigned_at b w.controller) (all_balancers w.controller) n a charge) (told_here host B b s charge (assigned_at b w.controller) (all_balancers w.controller) n (m e).0 a (m e).1 ruled))
    | inr ne ↦ λ _. far_ruled d (bucket.told d (assigned_at d w.controller) (all_balancers w.controller) n a (charge_at d w.controller)) ne
        (other_told B b s.sent d ne (assigned_at d w.controller) (all_balancers w.controller) (charge_at d w.controller) (chains.hears_told n a (charge_at d w.controller).control))
  ]
  heard_keeps from (say.Door d l) m = λ _. door_hears from d l
  heard_keeps from (say.Forgotten d n a) m = λ _. by_same w.controller [] refl tt

  pub confirms_here : (m : Envelope) (c : said.Control) → Memᴰ m w.sent → m.to ≡ Controller → m.what ≡ Answered c → RightIn (Ok (controller.heard m.from c w.controller)) → Did (Ok (controller.heard m.from c w.controller))
  confirms_here m c mem to what =
      let p : AnsweredTo b s.sent c = subst (λ z. Post B b s.sent m.was m.seen z Controller) what (subst (Post B b s.sent m.was m.seen m.what) to (i.sent m mem)) in
      by_cond {A = List Sent × Ruling} (λ z. RightIn (Ok z) → Did (Ok z)) (is_bucket (bucket_in c) w.controller) _ _ (λ _. heard_keeps m.from c p) (λ _ _. by_same w.controller [] refl tt)

  -- ORDERED

  reassigned_here : (ss : List ℕ) (p : Result (Unit {0}) Fault × List ℕ) → RightIn (reassigned ss w.controller p) → Did (reassigned ss w.controller p)
  reassigned_here ss (Err f, ns) = λ _. unchanged host B b lt w s r i sane
  reassigned_here ss (Ok u, ns) = λ right. elim (all_begun B b 0 b ns w.controller.charges (omega arith)) [
    | inl z ↦ (let a = begun_here host B b s charge z.server ruled (subst (λ c. Right host c.control) z.is right) in
        by_charging _ (begun_from 0 ns w.controller.charges).0 (subst (λ c. Charging host B b s c (begun_from 0 ns w.controller.charges).0) (sym z.is)
        (record { state = a.state; walk = a.walk; ruled = a.ruled; steady = a.steady; says = z.says a.state.sent a.says })))
    | inr z ↦ by_same _ (begun_from 0 ns w.controller.charges).0 (ap (λ c. c.control) z.0) (z.1 s.sent)
  ]

  changes_here : (ss : List ℕ) → RightIn (controller.changes ss w.controller) → Did (controller.changes ss w.controller)
  changes_here ss = reassigned_here ss (assigned.answered ss w.controller.assignment)

  adds_here : (v : ℕ) → RightIn (controller.adds v w.controller) → Did (controller.adds v w.controller)
  adds_here v = by_cond (λ z. RightIn z → Did z) (eqb (length (with_server v w.controller.servers)) (length w.controller.servers)) _ _ (λ _ _. by_same w.controller [] refl tt) (λ _. changes_here (with_server v w.controller.servers))

  removes_here : (v : ℕ) → RightIn (controller.removes v w.controller) → Did (controller.removes v w.controller)
  removes_here v = by_cond (λ z. RightIn z → Did z) (eqb (length (without_server v w.controller.servers)) (length w.controller.servers)) _ _ (λ _ _. unchanged host B b lt w s r i sane) (λ _. changes_here (without_server v w.controller.servers))

  waits_here : (n : ℕ) → Did (Ok (controller.ticked n w.controller))
  waits_here n =
      let q : charge_at b (later n w.controller) ≡ bucket.passed n charge = get_or-map (bucket.passed n) w.controller.charges b (charge_first 0) (charge_first 0) in_b in
      let a = due_here host B b s charge n ruled in
      by_charging (later n w.controller) (due_from 0 n w.controller.charges)
      (record { state = a.state; walk = a.walk; ruled = (ap (λ z. z.control) q ∙ a.ruled.0, a.ruled.1); steady = a.steady; says = all_due B b a.state.sent 0 n b w.controller.charges (omega arith) a.says })

  right_in : (z : Result (List Sent × Ruling) Fault) → Right host (charge_at b (controller_did z w).controller).control → RightIn z
  right_in (Ok p) h = h
  right_in (Err f) h = tt

  pub moves : {e : Event} {x : World} → Step B w e x → Right host (charge_at b x.controller).control → Next host B b w s e x
  moves (comes d bytes v h c was e o) right =
      let z = sends_as B (w.balancers d) bytes v h c e in
      subst (λ q. Next host B b w s Quiet (sends (carries (Balancer d) q.0 q.1 ∷ []) w)) (is_coming B (w.balancers d) bytes v h c was w.closings z)
      (comes_here d bytes z.flow was (λ u p q. subst (λ k. IsOpen B w k u p) (sym z.key) (o u p q)))
  moves (arrives from v p es mem st) right = arrives_all host B b lt w s r i sane v from p es mem st
  moves (tells m v c mem to what) right = tells_here host B b lt w s r i sane v m c mem to what
  moves (answers m v c mem to what) right = answers_here host B b lt w s r i sane v m.from c
  moves (reports m c mem to what) right = reports_here m c mem to what (right_in (controller.told m.from c w.controller) right)
  moves (confirms m c mem to what) right = confirms_here m c mem to what right
  moves (hears m d c l mem to what) right = hears_here m d c l mem to what
  moves (closes v c es st) right = closes_all host B b lt w s r i sane v c es st
  moves (ticks v n es st) right = ticks_all host B b lt w s r i sane v n es st
  moves (adds v _) right = adds_here v (right_in (controller.adds v w.controller) right)
  moves (removes v) right = removes_here v (right_in (controller.removes v w.controller) right)
  moves (waits n) right = waits_here n
