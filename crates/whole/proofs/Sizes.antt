-- Sizes and numbers stay as they are, and packets and sessions stay in their bucket. Assumes nothing.
use Rattle.std.proofs.Common.{◌≡◌, ℕ, suc, ◌+◌, T, eqb, ltb, List, [], ◌∷◌, ◌++◌, map, length, set, is_some, Some, None, Ok, Err, Option, Result, sym, refl, ap, ◌∙◌, subst, inl, inr}
use mathlib.Core.List.Memᴰ
use mathlib.Core.List.{Memᴰ}
use Rattle.std.proofs.lemmas.List.{length-set}
use Rattle.fault.specs.declared.Fault.{Fault}
use Rattle.flow.specs.declared.key.FlowKey.{FlowKey}
use Rattle.flow.specs.Buckets.{bucket_of}
use Rattle.chain.specs.declared.way.Link.{Link}
use Rattle.chain.specs.declared.place.Outcome.{Outcome}
use Rattle.chain.specs.declared.place.Outcome.TheVariants.{Delivered, Opened, Forwarded, Refused, Dropped}
use Rattle.chain.specs.Ways.{heard_link}
use Rattle.bucket.specs.Sessions.{put}
use Rattle.bucket.proofs.Lists.{put_all}
use Rattle.sessions.specs.declared.key.Key.{Key}
use Rattle.sessions.specs.declared.entry.Entry.{Entry}
use Rattle.sessions.specs.Entries.{seen_in, Once, without, idle_keys, staying, lapsed}
use Rattle.sessions.proofs.Lapse.{seen_stays}
use Rattle.wire.specs.declared.message.Control as said
use Rattle.wire.specs.declared.message.Control.TheVariants as say
use Rattle.machine.specs.declared.name.Machine.{Machine}
use Rattle.machine.specs.declared.name.Machine.TheVariants.{Client, Operator, Balancer, Server, Controller}
use Rattle.machine.specs.declared.sent.Note.{Note}
use Rattle.machine.specs.declared.sent.Note.TheVariants.{Say, Answer, PutOff}
use Rattle.machine.specs.declared.sent.Sent.{Sent}
use Rattle.machine.specs.Notes.{meant_by}
use Rattle.assignment.specs.Rule as assigned
use Rattle.roster.specs.Listing.{with_server, without_server}
use Rattle.balancer.specs.Rules as balancer
use Rattle.server_bucket.specs.Rules.{Holding}
use Rattle.server.specs.Rules as server
use Rattle.server.specs.Rules.{Keeping, Effect, Same, Noted, Closed, Lapsed, Does, standing, changing, emptied, emptied_all, later, closed_at, open_at, holding_at, effect_of}
use Rattle.controller_bucket.specs.Rules.{Charge}
use Rattle.controller_bucket.specs.Rules as bucket
use Rattle.controller.specs.Rules as controller
use Rattle.controller.specs.Rules.{Ruling, charge_at, assigned_at, all_balancers, forgotten_as, ruled_by, door_heard, begun_from, reassigned}
use Rattle.whole.specs.World.{Envelope, posted, hint_of, World, key_in, Packet, taken, forwarded, carries, server_did, controller_did, balancer_did, Event, Step, comes, arrives, tells, answers, reports, confirms, hears, closes, ticks, adds, removes, waits}
use Rattle.whole.proofs.Fits.{by_cond}
use Rattle.whole.proofs.Packets.{noted_or}
use Rattle.whole.proofs.Closing.{Keyed, keyed_without, length_passed}
use Rattle.whole.proofs.Once.{once_does}
use Rattle.whole.proofs.Coming.{sends_as}
use Rattle.whole.proofs.Sane.{OwnBucket, Sane}

-- A SERVER

abbrev Alike : Keeping → Keeping → Type 0
Alike k j = (j.number ≡ k.number) × (length j.holdings ≡ length k.holdings)

abbrev AlikeIn : Keeping → Result (List Sent × Keeping) Fault → Type 0
AlikeIn k (Ok p) = Alike k p.1
AlikeIn k (Err f) = Unit {0}

keeps_alike : (b : ℕ) (h : Holding) (gone : Option Link) (k : Keeping) → Alike k (server.keeps b h gone k)
keeps_alike b h _ k = (refl, length-set k.holdings b h)

standing_alike : (from : Machine) (c : said.Control) (b : ℕ) (k : Keeping) (p : Result (Unit {0}) Fault × Holding) → AlikeIn k (standing from c b k p)
standing_alike from c b k (Ok u, h) = keeps_alike b h None k
standing_alike from c b k (Err f, h) = tt

changing_alike : (from : Machine) (c : said.Control) (b n : ℕ) (k : Keeping) (p : Result (Option Link) Fault × Holding) → AlikeIn k (changing from c b n k p)
changing_alike from c b n k (Ok gone, h) = keeps_alike b h gone k
changing_alike from c b n k (Err f, h) = tt

told_right : (from : Machine) (c : said.Control) (k : Keeping) (es : List Entry) → AlikeIn k (server.told_of from c c k es)
told_right from (say.Stand b n before) k es = standing_alike from _ b k _
told_right from (say.Behind b n a) k es = changing_alike from _ b n k _
told_right from (say.Door b l) k es = tt
told_right from (say.Forgotten b n a) k es = by_cond (AlikeIn k) (eqb a.server k.number) _ _ (λ _. changing_alike from _ b a.place k _) (λ _. tt)

told_alike : (from : Machine) (c : said.Control) (k : Keeping) (es : List Entry) → AlikeIn k (server.told from c k es)
told_alike from c k es = by_cond (AlikeIn k) (server.is_bucket (server.bucket_in c) k) _ _ (λ _. told_right from c k es) (λ _. tt)

heard_keeps : (from : Machine) (c : said.Control) (k : Keeping) → Alike k (server.heard_of from c k)
heard_keeps from (say.Stand b n before) k = (refl, refl)
heard_keeps from (say.Behind b n a) k = (refl, refl)
heard_keeps from (say.Door b l) k = (refl, refl)
heard_keeps from (say.Forgotten b n a) k = keeps_alike b _ None k

heard_alike : (from : Machine) (c : said.Control) (k : Keeping) → Alike k (server.heard from c k)
heard_alike from c k = by_cond (Alike k) (server.is_bucket (server.bucket_in c) k) _ k (λ _. heard_keeps from c k) (λ _. (refl, refl))

emptied_alike : (d n : ℕ) (es : List Entry) (k : Keeping) → Alike k (emptied d n es k).1
emptied_alike d n es k = (refl, length-set k.holdings d _)

emptied_all_alike : (qs : List Key) (es : List Entry) (k : Keeping) → Alike k (emptied_all qs es k).1
unfolding emptied_all
emptied_all_alike [] es k = (refl, refl)
emptied_all_alike (q ∷ qs) es k =
    let a = emptied_alike q.bucket q.place es k in
    let b = emptied_all_alike qs es (emptied q.bucket q.place es k).1 in
    (b.0 ∙ a.0, b.1 ∙ a.1)

closed_alike : (c : FlowKey) (d : ℕ) (k : Keeping) (es : List Entry) (o : Option ℕ) → Alike k (closed_at c d k es o).keeping
closed_alike c d k es None = (refl, refl)
closed_alike c d k es (Some n) = emptied_alike d n (without (key_in d n c) es) k

closes_alike : (c : FlowKey) (k : Keeping) (es : List Entry) → Alike k (server.closes c k es).keeping
closes_alike c k es = let d = bucket_of c (length k.holdings) in closed_alike c d k es (open_at d c es (holding_at d k).known.standing)

ticked_alike : (n : ℕ) (k : Keeping) (es : List Entry) → Alike k (server.ticked n k es).keeping
ticked_alike n k es =
    let a = emptied_all_alike (idle_keys (k.tick + n) es) (staying (k.tick + n) es) (later n k) in
    (a.0, a.1 ∙ length_passed n k.holdings)

-- ITS SESSIONS

abbrev KeyOk : ℕ → Effect → Type 0
KeyOk B Same = Unit {0}
KeyOk B (Noted k t) = k.bucket ≡ bucket_of k.flow B
KeyOk B (Closed k) = Unit {0}
KeyOk B (Lapsed t) = Unit {0}

lapsed_old : (t : ℕ) (o : Option ℕ) → T (is_some (lapsed t o)) → T (is_some o)
lapsed_old t None z = z
lapsed_old t (Some n) z = tt

keyed_does : (B : ℕ) (e : Effect) (es fs : List Entry) → Does e es fs → Once es → KeyOk B e → Keyed B es → Keyed B fs
keyed_does B Same es fs d once ok y = rw d y
keyed_does B (Noted k t) es fs d once ok y = λ q o. elim (noted_or es fs k q t d o) [ inl z ↦ rw z ok | inr old ↦ y q old ]
keyed_does B (Closed k) es fs d once ok y = rw d (keyed_without B k es once y)
keyed_does B (Lapsed t) es fs d once ok y = rw d (λ q o. y q (lapsed_old t (seen_in q es) (subst (λ z. T (is_some z)) (seen_stays t q es once) o)))

effect_ok : (B : ℕ) (k : Key) (t : ℕ) (o : Outcome) → k.bucket ≡ bucket_of k.flow B → KeyOk B (effect_of k t o)
effect_ok B k t Delivered e = e
effect_ok B k t Opened e = e
effect_ok B k t (Forwarded l way) e = tt
effect_ok B k t (Refused r) e = tt
effect_ok B k t Dropped e = tt

taken_ok : (B : ℕ) (w : World) (v : ℕ) (from : Machine) (p : Packet) → p.head.bucket ≡ bucket_of p.flow B → KeyOk B (taken w v from p).effect
taken_ok B w v from p e = by_cond {A = server.Handled} (λ d. KeyOk B d.effect) (server.is_bucket p.head.bucket (w.servers v)) _ _ (λ _. effect_ok B (key_in p.head.bucket p.head.place p.flow) (w.servers v).tick _ e) (λ _. tt)

closed_ok : (B : ℕ) (c : FlowKey) (d : ℕ) (k : Keeping) (es : List Entry) (o : Option ℕ) → KeyOk B (closed_at c d k es o).effect
closed_ok B c d k es None = tt
closed_ok B c d k es (Some n) = tt

-- WHAT IS SENT

note_own : (B : ℕ) (n : Note) → OwnBucket B (meant_by n)
note_own B (Say c) = tt
note_own B (Answer c) = tt
note_own B (PutOff b) = tt

posted_own : (B : ℕ) (from : Machine) (out : List Sent) (e : Envelope) → Memᴰ e (posted from out) → OwnBucket B e.what
posted_own B from [] e mem = absurd (Memᴰ.not-nil mem)
posted_own B from (x ∷ out) e mem = elim (Memᴰ.cases_cons mem) [ inl q ↦ rw q (note_own B x.note) | inr m ↦ posted_own B from out e m ]

forwarded_own : (B v : ℕ) (p : Packet) (o : Outcome) → p.head.bucket ≡ bucket_of p.flow B → (e : Envelope) → Memᴰ e (forwarded v p o) → OwnBucket B e.what
forwarded_own B v p Delivered q e m = absurd (Memᴰ.not-nil m)
forwarded_own B v p Opened q e m = absurd (Memᴰ.not-nil m)
forwarded_own B v p (Forwarded l way) q e m = rw (Memᴰ.eq_of_singleton m) q
forwarded_own B v p (Refused r) q e m = absurd (Memᴰ.not-nil m)
forwarded_own B v p Dropped q e m = absurd (Memᴰ.not-nil m)

abbrev AllOwn : ℕ → List Envelope → Type 0
AllOwn B es = (e : Envelope) → Memᴰ e es → OwnBucket B e.what

own_append : (B : ℕ) (es fs : List Envelope) → AllOwn B es → AllOwn B fs → AllOwn B (es ++ fs)
own_append B es fs p q e mem = elim (Memᴰ.append_cases es mem) [ inl m ↦ p e m | inr m ↦ q e m ]

-- THE CONTROLLER

abbrev CountIn : Ruling → Result (List Sent × Ruling) Fault → Type 0
CountIn k (Ok p) = length p.1.charges ≡ length k.charges
CountIn k (Err f) = Unit {0}

forgotten_count : (from : Machine) (c : said.Control) (b n : ℕ) (k : Ruling) (o : Option (List Sent × Charge)) → CountIn k (Ok (forgotten_as from c b n k o))
forgotten_count from c b n k None = refl
forgotten_count from c b n k (Some (out, x)) = length-set k.charges b x

ctold_of : (from : Machine) (c : said.Control) (k : Ruling) → CountIn k (controller.told_of from c c k)
ctold_of from (say.Stand b n before) k = tt
ctold_of from (say.Behind b n a) k = tt
ctold_of from (say.Door b l) k = tt
ctold_of from (say.Forgotten b n a) k = forgotten_count from _ b n k _

told_count : (from : Machine) (c : said.Control) (k : Ruling) → CountIn k (controller.told from c k)
told_count from c k = by_cond (CountIn k) (controller.is_bucket (controller.bucket_in c) k) _ _ (λ _. ctold_of from c k) (λ _. tt)

ruled_count : (b : ℕ) (k : Ruling) (p : List Sent × Charge) → CountIn k (Ok (ruled_by b k p))
ruled_count b k (out, c) = length-set k.charges b c

door_count : (from : Machine) (b : ℕ) (l : Link) (k : Ruling) → length (door_heard from b l k).charges ≡ length k.charges
door_count Client b l k = refl
door_count Operator b l k = refl
door_count (Balancer d) b l k = length-set k.charges b _
door_count (Server s) b l k = refl
door_count Controller b l k = refl

cheard_of : (from : Machine) (c : said.Control) (k : Ruling) → CountIn k (Ok (controller.heard_of from c k))
cheard_of from (say.Stand b n before) k = ruled_count b k (bucket.stood b n (charge_at b k))
cheard_of from (say.Behind b n a) k = ruled_count b k (bucket.told b (assigned_at b k) (all_balancers k) n a (charge_at b k))
cheard_of from (say.Door b l) k = door_count from b l k
cheard_of from (say.Forgotten b n a) k = refl

heard_count : (from : Machine) (c : said.Control) (k : Ruling) → CountIn k (Ok (controller.heard from c k))
heard_count from c k = by_cond {A = List Sent × Ruling} (λ z. CountIn k (Ok z)) (controller.is_bucket (controller.bucket_in c) k) _ _ (λ _. cheard_of from c k) (λ _. refl)

begun_length : (b : ℕ) (ns : List ℕ) (cs : List Charge) → length (begun_from b ns cs).1 ≡ length cs
unfolding begun_from
begun_length b ns [] = refl
begun_length b [] (c ∷ cs) = refl
begun_length b (a ∷ ns) (c ∷ cs) = ap suc (begun_length (suc b) ns cs)

reassigned_count : (ss : List ℕ) (k : Ruling) (p : Result (Unit {0}) Fault × List ℕ) → CountIn k (reassigned ss k p)
reassigned_count ss k (Ok u, ns) = begun_length 0 ns k.charges
reassigned_count ss k (Err f, ns) = tt

adds_count : (v : ℕ) (k : Ruling) → CountIn k (controller.adds v k)
adds_count v k = by_cond (CountIn k) (eqb (length (with_server v k.servers)) (length k.servers)) _ _ (λ _. refl) (λ _. reassigned_count _ k (assigned.answered (with_server v k.servers) k.assignment))

removes_count : (v : ℕ) (k : Ruling) → CountIn k (controller.removes v k)
removes_count v k = by_cond (CountIn k) (eqb (length (without_server v k.servers)) (length k.servers)) _ _ (λ _. tt) (λ _. reassigned_count _ k (assigned.answered (without_server v k.servers) k.assignment))

passed_count : (n : ℕ) (cs : List Charge) → length (map (bucket.passed n) cs) ≡ length cs
passed_count n [] = refl
passed_count n (c ∷ cs) = ap suc (passed_count n cs)

-- A STEP

module _ (B : ℕ) (w : World) (i : Sane B w) where
  abbrev SaneNumbers : (ℕ → Keeping) → Type 0
  SaneNumbers ks = (v : ℕ) → (ks v).number ≡ v

  put_numbers : (v : ℕ) (k : Keeping) → Alike (w.servers v) k → (u : ℕ) → (put v k w.servers u).number ≡ u
  put_numbers v k a = put_all (λ u z. z.number ≡ u) v k w.servers (a.0 ∙ i.numbers v) (λ u _. i.numbers u)

  put_lengths : (v : ℕ) (k : Keeping) → Alike (w.servers v) k → (u : ℕ) → length (put v k w.servers u).holdings ≡ B
  put_lengths v k a = put_all (λ u z. length z.holdings ≡ B) v k w.servers (a.1 ∙ i.lengths v) (λ u _. i.lengths u)

  put_keyed : (v : ℕ) (e : Effect) (es : List Entry) → Does e (w.sessions v) es → KeyOk B e → (u : ℕ) → Keyed B (put v es w.sessions u)
  put_keyed v e es st ok = put_all (λ u z. Keyed B z) v es w.sessions (keyed_does B e (w.sessions v) es (st) (i.once v) ok (i.keyed v)) (λ u _. i.keyed u)

  put_once : (v : ℕ) (e : Effect) (es : List Entry) → Does e (w.sessions v) es → (u : ℕ) → Once (put v es w.sessions u)
  put_once v e es st = put_all (λ u z. Once z) v es w.sessions (once_does e (w.sessions v) es st (i.once v)) (λ u _. i.once u)

  server_sane : (v : ℕ) (z : Result (List Sent × Keeping) Fault) → AlikeIn (w.servers v) z → Sane B (server_did v z w)
  server_sane v (Ok (out, k)) a = record { numbers = put_numbers v k a; lengths = put_lengths v k a; links = i.links; charges = i.charges; keyed = i.keyed; once = i.once; carried = own_append B (posted (Server v) out) w.sent (posted_own B (Server v) out) i.carried }
  server_sane v (Err f) a = i

  controller_sane : (z : Result (List Sent × Ruling) Fault) → CountIn w.controller z → Sane B (controller_did z w)
  controller_sane (Ok (out, k)) a = record { numbers = i.numbers; lengths = i.lengths; links = i.links; charges = a ∙ i.charges; keyed = i.keyed; once = i.once; carried = own_append B (posted Controller out) w.sent (posted_own B Controller out) i.carried }
  controller_sane (Err f) a = i

  kept_sane : (d : ℕ) (from : Machine) (b : ℕ) (l : Link) (z : Result Link Fault) → Sane B (balancer_did d from (say.Door b l) (balancer.kept b (w.balancers d) z) w)
  kept_sane d from b l (Err f) = i
  kept_sane d from b l (Ok k) = record {
    numbers = i.numbers;
    lengths = i.lengths;
    links = put_all (λ g ls. length ls ≡ B) d (set (w.balancers d) b k) w.balancers (length-set (w.balancers d) b k ∙ i.links d) (λ g _. i.links g);
    charges = i.charges;
    keyed = i.keyed;
    once = i.once;
    carried = own_append B (_ ∷ []) w.sent (λ e m. rw (Memᴰ.eq_of_singleton m) tt) i.carried;
  }

  balancer_sane : (d : ℕ) (from : Machine) (b : ℕ) (l : Link) → Sane B (balancer_did d from (say.Door b l) (balancer.hears b l (w.balancers d)) w)
  balancer_sane d from b l = by_cond {A = Result (Unit {0}) Fault × List Link} (λ z. Sane B (balancer_did d from (say.Door b l) z w)) (ltb b (length (w.balancers d))) _ _ (λ _. kept_sane d from b l (heard_link (balancer.link_at (w.balancers d) b) l)) (λ _. i)

  pub sane_step : {e : Event} {x : World} → Step B w e x → Sane B x
  sane_step (comes d bytes v h c was e o) =
      let z = sends_as B (w.balancers d) bytes v h c e in
      let own : h.bucket ≡ bucket_of c B = sym (ap (λ y. y.bucket) z.head) ∙ ap (λ k. bucket_of k B) z.key in
      let env = carries (Balancer d) v (record { head = h; flow = c; bytes = bytes; was = was; seen = w.closings c }) in
      record {
        numbers = i.numbers;
        lengths = i.lengths;
        links = i.links;
        charges = i.charges;
        keyed = i.keyed;
        once = i.once;
        carried = own_append B (env ∷ []) w.sent (λ e m. rw (Memᴰ.eq_of_singleton m) own) i.carried;
      }
  sane_step (arrives from v p es mem st) =
      let own : p.head.bucket ≡ bucket_of p.flow B = i.carried (carries from v p) mem in
      record {
        numbers = i.numbers;
        lengths = i.lengths;
        links = i.links;
        charges = i.charges;
        keyed = put_keyed v (taken w v from p).effect es st (taken_ok B w v from p own);
        once = put_once v (taken w v from p).effect es st;
        carried = own_append B (forwarded v p (taken w v from p).outcome) (posted (Server v) (hint_of (taken w v from p).hint) ++ w.sent) (forwarded_own B v p (taken w v from p).outcome own)
            (own_append B (posted (Server v) (hint_of (taken w v from p).hint)) w.sent (posted_own B (Server v) (hint_of (taken w v from p).hint)) i.carried);
      }
  sane_step (tells m v c mem to what) = server_sane v (server.told m.from c (w.servers v) (w.sessions v)) (told_alike m.from c (w.servers v) (w.sessions v))
  sane_step (answers m v c mem to what) =
      let a = heard_alike m.from c (w.servers v) in
      record { numbers = put_numbers v _ a; lengths = put_lengths v _ a; links = i.links; charges = i.charges; keyed = i.keyed; once = i.once; carried = i.carried }
  sane_step (reports m c mem to what) = controller_sane (controller.told m.from c w.controller) (told_count m.from c w.controller)
  sane_step (confirms m c mem to what) = controller_sane (Ok (controller.heard m.from c w.controller)) (heard_count m.from c w.controller)
  sane_step (hears m d b l mem to what) = balancer_sane d m.from b l
  sane_step (closes v c es st) =
      let o = server.closes c (w.servers v) (w.sessions v) in
      let a = closes_alike c (w.servers v) (w.sessions v) in
      record {
        numbers = put_numbers v o.keeping a;
        lengths = put_lengths v o.keeping a;
        links = i.links;
        charges = i.charges;
        keyed = put_keyed v o.effect es st (let d = bucket_of c (length (w.servers v).holdings) in closed_ok B c d (w.servers v) (w.sessions v) (open_at d c (w.sessions v) (holding_at d (w.servers v)).known.standing));
        once = put_once v o.effect es st;
        carried = own_append B (posted (Server v) o.sends) w.sent (posted_own B (Server v) o.sends) i.carried;
      }
  sane_step (ticks v n es st) =
      let o = server.ticked n (w.servers v) (w.sessions v) in
      let a = ticked_alike n (w.servers v) (w.sessions v) in
      record {
        numbers = put_numbers v o.keeping a;
        lengths = put_lengths v o.keeping a;
        links = i.links;
        charges = i.charges;
        keyed = put_keyed v o.effect es st tt;
        once = put_once v o.effect es st;
        carried = own_append B (posted (Server v) o.sends) w.sent (posted_own B (Server v) o.sends) i.carried;
      }
  sane_step (adds v _) = controller_sane (controller.adds v w.controller) (adds_count v w.controller)
  sane_step (removes v) = controller_sane (controller.removes v w.controller) (removes_count v w.controller)
  sane_step (waits n) = controller_sane (Ok (controller.ticked n w.controller)) (passed_count n w.controller.charges)
