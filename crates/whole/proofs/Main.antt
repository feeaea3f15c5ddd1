-- The promises of the whole, from those of one bucket. Assumes nothing.
use Rattle.std.proofs.Common.{◌≡◌, ℕ, suc, ◌*◌, ◌<◌, ◌≤◌, T, ◌⊎◌, List, [], ◌++◌, length, is_some, Some, None, Option, sym, refl, ap, ◌∙◌, subst, inl, inr, arith}
use mathlib.Core.List.{Memᴰ}
use Rattle.std.proofs.lemmas.Nat.{mod_below}
use Rattle.fault.specs.declared.Refusal.{Refusal}
use Rattle.flow.specs.declared.key.FlowKey.{FlowKey}
use Rattle.flow.specs.Buckets.{bucket_of}
use Rattle.chain.specs.declared.place.Outcome.TheVariants.{Delivered, Opened, Forwarded, Refused}
use Rattle.chain.specs.declared.way.Way.{Way}
use Rattle.chain.specs.declared.way.Way.TheVariants.{Up, Down, Asked}
use Rattle.chain.specs.declared.place.Standing.{Standing}
use Rattle.chain.specs.declared.place.Standing.TheVariants.{Never, Stands, Forgotten}
use Rattle.chain.specs.declared.place.Place.{Place}
use Rattle.chain.specs.Controllers.{Control}
use Rattle.places.specs.Rules.{find}
use Rattle.chain.specs.declared.handover.Handover.TheVariants.{Idle}
use Rattle.chain.specs.Places.{handle}
use Rattle.bucket.proofs.Invariant.{View, view, Born, Inv}
use Rattle.bucket.proofs.Handle.{left, left_some, left_most, Right, handle_right}
use Rattle.machine.specs.declared.name.Machine.{Machine}
use Rattle.machine.specs.declared.name.Machine.TheVariants.{Server}
use Rattle.server.specs.Rules.{holding_at}
use Rattle.bucket.specs.Model as one
use Rattle.bucket.proofs.Main.{main, reach_inv}
use Rattle.bucket.proofs.Steps.{step_inv}
use Rattle.whole.specs.World.{Was, OpenAt, World, IsOpen, Packet, Event, Handled, Step, arrives, Reach, begin, more, carries, onto, taken, forwarded, posted, hint_of, handled_by}
use Rattle.whole.specs.Promise.{known_at, Newest, Journey, last, next, meanwhile, Whole, Main}
use Rattle.whole.proofs.Rest.{still_sent, ranks, newest_is, newest_there}
use Rattle.whole.proofs.Sim.{Fit, plain_was, traced, Saw, Sim, Walk, stay, then, Next}
use Rattle.whole.proofs.Fits.{walk_reach}
use Rattle.whole.proofs.Runs.{Hosts, reach_sane, Chosen, reach_host, reach_sim}
use Rattle.whole.proofs.Moves.{moves}
use Rattle.whole.proofs.Origins.{WasIn, Origins, step_came, step_origins}

pub bucket_below : (B : ℕ) → 0 < B → (c : FlowKey) → bucket_of c B < B
unfolding bucket_of
bucket_below B pos c = mod_below _ B pos

held_at : (host : ℕ → ℕ) (c : Control) (v k hi : ℕ) (x : Standing) (o : Option Place) → Fit host c v k hi x o → T (is_some o) → host k ≡ v
held_at host c v k hi x None f t = absurd t
held_at host c v k hi x (Some y) f t = f.0

stood_there : (host : ℕ → ℕ) (c : Control) (v k hi : ℕ) (x : Standing) (o : Option Place) → Fit host c v k hi x o → host k ≡ v → Born x → k ≤ hi
stood_there host c v k hi x (Some y) f at born = f.1
stood_there host c v k hi Never None f at born = absurd born
stood_there host c v k hi (Stands b a) None f at born = absurd (f at)
stood_there host c v k hi (Forgotten a) None f at born = f at

-- over some steps of a bucket, closings are counted up, and an open session stays open or is closed
walk_closings : (host : ℕ → ℕ) (s t : one.State) → one.Reach handle host s → Walk host s t → (c : FlowKey) → s.closings c ≤ t.closings c
walk_closings host s t r stay c = omega arith
walk_closings host s t r (then {t = u} w step) c =
    let ih = walk_closings host s u r w c in
    let i = reach_inv (walk_reach host s u w r) in
    omega (arith, ih, (step_inv host i.0 u i.1 step).2.closings c)

walk_keeps : (host : ℕ → ℕ) (s t : one.State) → one.Reach handle host s → Walk host s t → (c : FlowKey) (g : ℕ) → one.IsOpen s c g → one.IsOpen t c g ⊎ (s.closings c < t.closings c)
walk_keeps host s t r stay c g o = inl o
walk_keeps host s t r (then {t = u} {e = e} w step) c g o =
    let le = walk_closings host s u r w c in
    let ru = walk_reach host s u w r in
    let i = reach_inv ru in
    let up = (step_inv host i.0 u i.1 step).2.closings c in
    elim (walk_keeps host s u r w c g o) [
      | inl o' ↦ elim ((main host u ru).stays_open t e c g step o') [ inl x ↦ inl x | inr lt ↦ inr (omega (arith, le, lt)) ]
      | inr lt ↦ inr (omega (arith, lt, up))
    ]

module _ (listed assignment : List ℕ) (count : ℕ) (pos : 0 < length assignment) where
  abbrev B : ℕ
  B = length assignment

  -- AFTER A STEP

  module _ {w x : World} {e : Event} (r : Reach listed assignment count w) (step : Step B w e x) (c : FlowKey) where
    abbrev b : ℕ
    b = bucket_of c B

    abbrev chosen : (host : Hosts) × Chosen listed assignment count host (more r step)
    chosen = reach_host listed assignment count (more r step)

    abbrev host : ℕ → ℕ
    host = chosen.0 b

    abbrev from : (s : one.State) × one.Reach handle host s × Sim host B b w s
    from = reach_sim listed assignment count chosen.0 r chosen.1.0 b (bucket_below B pos c)

    abbrev goes : Next host B b w from.0 e x
    goes = moves host B b (bucket_below B pos c) w from.0 from.1 from.2 (reach_sane listed assignment count r) step (chosen.1.1 b (bucket_below B pos c))

    stays : (v p : ℕ) → IsOpen B w c v p → IsOpen B x c v p ⊎ (w.closings c < x.closings c)
    stays v p o =
        let d = (from.2.servers v).down p c o in
        elim (walk_keeps host from.0 goes.state from.1 goes.walk c p d.1) [
          | inl y ↦ inl ((goes.sim.servers v).up p c d.0 y)
          | inr lt ↦ inr (omega (arith, lt, from.2.closings c refl, goes.sim.closings c refl))
        ]

  plain : (was : Was) (g q : ℕ) → was ≡ OpenAt g q → plain_was was ≡ one.OpenAt q
  plain was g q e = ap plain_was e

  delivered : {w x : World} (r : Reach listed assignment count w) (v : ℕ) (p : Packet) → Step B w (Handled v p Delivered) x → IsOpen B w p.flow v p.head.place
  delivered {w} {x} r v p step =
      let f = from r step p.flow in
      let y = (goes r step p.flow).seen refl in
      (f.2.servers v).up p.head.place p.flow y.0 ((main (host r step p.flow) f.0 f.1).delivered_where_open (goes r step p.flow).state (traced v p.head p.flow p.was p.seen) y.1)

  opened : {w x : World} (r : Reach listed assignment count w) (v : ℕ) (p : Packet) → Step B w (Handled v p Opened) x → IsOpen B x p.flow v p.head.place
  opened {w} {x} r v p step =
      let f = from r step p.flow in
      let n = goes r step p.flow in
      let y = n.seen refl in
      (n.sim.servers v).up p.head.place p.flow y.0 ((main (host r step p.flow) f.0 f.1).opened_there n.state (traced v p.head p.flow p.was p.seen) y.1)

  not_refused : {w x : World} (r : Reach listed assignment count w) (v : ℕ) (p : Packet) (z : Refusal) → Step B w (Handled v p (Refused z)) x → (g q : ℕ) → p.was ≡ OpenAt g q → p.seen < w.closings p.flow
  not_refused {w} {x} r v p z step g q e =
      let f = from r step p.flow in
      let n = goes r step p.flow in
      let lt = (main (host r step p.flow) f.0 f.1).not_refused n.state (traced v p.head p.flow p.was p.seen) z (n.seen refl) q (plain p.was g q e) in
      omega (arith, lt, f.2.closings p.flow refl)

  not_anew : {w x : World} (r : Reach listed assignment count w) (v : ℕ) (p : Packet) → Step B w (Handled v p Opened) x → (g q : ℕ) → p.was ≡ OpenAt g q → p.seen < w.closings p.flow
  not_anew {w} {x} r v p step g q e =
      let f = from r step p.flow in
      let n = goes r step p.flow in
      let lt = (main (host r step p.flow) f.0 f.1).not_opened_anew n.state (traced v p.head p.flow p.was p.seen) (n.seen refl).1 q (plain p.was g q e) in
      omega (arith, lt, f.2.closings p.flow refl)

  -- where a packet's session was open when it came, the place is that server's
  reach_origins : {w : World} (host : Hosts) (r : Reach listed assignment count w) → Chosen listed assignment count host r → Origins host B w.sent
  reach_origins host begin ch = λ e mem. absurd (mathlib.Core.List.Memᴰ.not-nil mem)
  reach_origins host (more {w} r step) ch = step_origins host B w (reach_origins host r ch.0)
      (λ c v p o. (((reach_sim listed assignment count host r ch.0 (bucket_of c B) (bucket_below B pos c)).2.servers v).down p c o).0) step

  to_its_place : {w x : World} (r : Reach listed assignment count w) (v : ℕ) (p : Packet) → Step B w (Handled v p Delivered) x → (g q : ℕ) → p.was ≡ OpenAt g q → ((v ≡ g) × (p.head.place ≡ q)) ⊎ (p.seen < w.closings p.flow)
  to_its_place {w} {x} r v p step g q e =
      let f = from r step p.flow in
      let n = goes r step p.flow in
      let y = n.seen refl in
      let came = step_came step in
      let ch = chosen r step p.flow in
      let origin : WasIn (ch.0 (bucket_of p.flow B)) p.was = reach_origins ch.0 r ch.1.0 (carries came.0 v p) came.1 in
      let there : host r step p.flow q ≡ g = subst (WasIn (ch.0 (bucket_of p.flow B))) e origin in
      elim ((main (host r step p.flow) f.0 f.1).delivered_to_its_place n.state (traced v p.head p.flow p.was p.seen) y.1 q (plain p.was g q e)) [
        | inl here ↦ inl (sym y.0 ∙ ap (host r step p.flow) here ∙ there, here)
        | inr lt ↦ inr (omega (arith, lt, f.2.closings p.flow refl))
      ]

  -- A PACKET'S JOURNEY

  -- how many deliveries are left to a packet at place h, while n is the newest
  abbrev leftIn : ℕ → ℕ → Way → ℕ
  leftIn n h way = left (record { host = λ k. 0; top = n; places = λ k. Never; sessions = λ k. []; closings = λ c. 0; newest = record { place = 0; server = 0 }; handover = Idle }) suc h way

  left_is : (v : View) (h : ℕ) (way : Way) → left v suc h way ≡ leftIn v.top h way
  left_is v h Up = refl
  left_is v h (Down by) = refl
  left_is v h (Asked by) = refl

  -- by the newest place, what is known of a bucket
  top_is : {w : World} (host : Hosts) (r : Reach listed assignment count w) (ch : Chosen listed assignment count host r) (b n : ℕ) (lt : b < B) → Newest w b n → Inv (host b) n (reach_sim listed assignment count host r ch b lt).0
  top_is {w} host r ch b n lt new =
      let s = reach_sim listed assignment count host r ch b lt in
      let i = reach_inv s.1 in
      subst (λ m. Inv (host b) m s.0) (sym (newest_is (host b) B b w s.0 s.2 i.0 i.1 n new)) i.1

  rests : (n : ℕ) {p : Packet} {v : ℕ} {w : World} {d : ℕ} → Journey B n p v w d → (from : Machine) → Reach listed assignment count w → Memᴰ (carries from v p) w.sent → Newest w (bucket_of p.flow B) n → d ≤ leftIn n p.head.place p.head.way
  rests n (last {p} {v} {w}) sender r mem new =
      let ch = reach_host listed assignment count r in
      let b = bucket_of p.flow B in
      let lt = bucket_below B pos p.flow in
      let s = reach_sim listed assignment count ch.0 r ch.1 b lt in
      let inv = top_is ch.0 r ch.1 b n lt new in
      let q = traced v p.head p.flow p.was p.seen in
      let vw = view (ch.0 b) n s.0 in
      subst (λ z. 1 ≤ z) (left_is vw p.head.place p.head.way) (left_some vw suc (ranks vw) inv.born inv.shut q p.head.way (inv.words (one.Carry q) (s.2.sent (carries sender v p) mem refl)))
  rests n (next {p} {v} {w} {d} by es l way mem does eq on) sender r _ new =
      let step : Step B w (Handled v p (taken w v by p).outcome) (handled_by v p (taken w v by p) es w) = arrives by v p es mem does in
      let c = p.flow in
      let b = bucket_of c B in
      let ch = chosen r step c in
      let f = from r step c in
      let inv = top_is ch.0 r ch.1.0 b n (bucket_below B pos c) new in
      let q = traced v p.head c p.was p.seen in
      let vw = view (host r step c) n f.0 in
      let saw = subst (Saw (host r step c) (holding_at b (w.servers v)) f.0 (goes r step c).state q) eq ((goes r step c).seen refl) in
      let right : Right vw suc q p.head.way (Forwarded l way) =
      subst (Right vw suc q p.head.way) saw.1 (handle_right vw suc (ranks vw) inv.born inv.shut inv.shape q saw.0 (inv.words (one.Carry q) (f.2.sent (carries by v p) mem refl))) in
      let less : leftIn n l.place way < leftIn n p.head.place p.head.way = subst (λ z. z < leftIn n p.head.place p.head.way) (left_is vw l.place way) (subst (λ z. left vw suc l.place way < z) (left_is vw p.head.place p.head.way) right.1) in
      let there : Memᴰ (carries (Server v) l.server (onto l way p)) (handled_by v p (taken w v by p) es w).sent =
      subst (λ o. Memᴰ (carries (Server v) l.server (onto l way p)) (forwarded v p o ++ (posted (Server v) (hint_of (taken w v by p).hint) ++ w.sent))) (sym eq) (mathlib.Core.List.Memᴰ.head refl) in
      let ih = rests n on (Server v) (more r step) there (record { at = new.at; is_last = new.is_last; which = new.which }) in
      omega (arith, less, ih)
  rests n (meanwhile {p} {v} {w} step later on) sender r mem new = rests n on sender (more r step) (still_sent B w (carries sender v p) mem step) later

  soon : {w : World} (r : Reach listed assignment count w) (sender : Machine) (v : ℕ) (p : Packet) (n d : ℕ) → Memᴰ (carries sender v p) w.sent → Newest w (bucket_of p.flow B) n → Journey B n p v w d → d ≤ 2 * suc n
  soon {w} r sender v p n d mem new j =
      let ch = reach_host listed assignment count r in
      let b = bucket_of p.flow B in
      let lt = bucket_below B pos p.flow in
      let s = reach_sim listed assignment count ch.0 r ch.1 b lt in
      let inv = top_is ch.0 r ch.1 b n lt new in
      let q = traced v p.head p.flow p.was p.seen in
      let vw = view (ch.0 b) n s.0 in
      let most = left_most vw suc (ranks vw) inv.born inv.shut q p.head.way (inv.words (one.Carry q) (s.2.sent (carries sender v p) mem refl)) in
      omega (arith, rests n j sender r mem new, most, left_is vw p.head.place p.head.way)

  pub promises : (w : World) → Reach listed assignment count w → Whole B w
  promises w r =
      let ch = reach_host listed assignment count r in
      record {
        one_place = λ c u v p q t t'.
            let s = reach_sim listed assignment count ch.0 r ch.1 (bucket_of c B) (bucket_below B pos c) in
            let d = (s.2.servers u).down p c t in
            let d' = (s.2.servers v).down q c t' in
            let e = (main (ch.0 (bucket_of c B)) s.0 s.1).one_place c p q d.1 d'.1 in
            (sym d.0 ∙ ap (ch.0 (bucket_of c B)) e ∙ d'.0, e);
        one_holder = λ b p u v lt t t'.
            let s = reach_sim listed assignment count ch.0 r ch.1 b lt in
            sym (held_at (ch.0 b) s.0.control u p (known_at w u b).highest (s.0.places p) (find p (known_at w u b)) ((s.2.servers u).fit p) t)
            ∙ held_at (ch.0 b) s.0.control v p (known_at w v b).highest (s.0.places p) (find p (known_at w v b)) ((s.2.servers v).fit p) t';
        to_a_holder = λ sender v p mem.
            let b = bucket_of p.flow B in
            let s = reach_sim listed assignment count ch.0 r ch.1 b (bucket_below B pos p.flow) in
            let k = ((reach_inv s.1).1.words (one.Carry (traced v p.head p.flow p.was p.seen)) (s.2.sent (carries sender v p) mem refl)).at in
            stood_there (ch.0 b) s.0.control v p.head.place (known_at w v b).highest (s.0.places p.head.place) (find p.head.place (known_at w v b)) ((s.2.servers v).fit p.head.place) (sym k.0) k.1;
        once = (reach_sane listed assignment count r).once;
        stays_open = λ x e c v p step o. stays r step c v p o;
        delivered_where_open = λ x v p step. delivered r v p step;
        opened_there = λ x v p step. opened r v p step;
        not_refused = λ x v p z step. not_refused r v p z step;
        not_opened_anew = λ x v p step. not_anew r v p step;
        delivered_to_its_place = λ x v p step g q e. to_its_place r v p step g q e;
        dropped_where_forgotten = λ x v p step. (goes r step p.flow).seen refl;
        newest_place = λ b lt.
            let s = reach_sim listed assignment count ch.0 r ch.1 b lt in
            let i = reach_inv s.1 in
            (i.0, newest_there (ch.0 b) B b w s.0 s.2 i.0 i.1);
        soon_at_rest = λ sender v p n d mem new j. soon r sender v p n d mem new j;
      }

pub whole : Main
whole listed assignment count w pos r = promises listed assignment count pos w r
