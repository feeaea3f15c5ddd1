-- What a place does with a packet is right, by cases; and each forwarding takes one of the deliveries that are left. Assumes nothing.
use Rattle.std.proofs.Common.{◌≡◌, ℕ, ◌+◌, ◌-◌, ◌*◌, ◌<◌, ◌≤◌, Bool, true, false, cond, T, eqb, ltb, Some, None, Option, sym, refl, subst, inl, inr, arith}
use Rattle.flow.specs.declared.key.FlowKey.{FlowKey}
use Rattle.chain.specs.declared.way.Link.{Link}
use Rattle.chain.specs.declared.way.Way.{Way}
use Rattle.chain.specs.declared.way.Way.TheVariants.{Up, Down, Asked}
use Rattle.chain.specs.declared.place.Standing.{Standing}
use Rattle.chain.specs.declared.place.Standing.TheVariants.{Never, Stands, Forgotten}
use Rattle.chain.specs.declared.place.Entry.{Entry}
use Rattle.chain.specs.declared.place.Entry.TheVariants.{Open, Vacant, Full}
use Rattle.chain.specs.declared.place.Outcome.{Outcome}
use Rattle.chain.specs.declared.place.Outcome.TheVariants.{Delivered, Opened, Forwarded, Refused, Dropped}
use Rattle.chain.specs.Places.{ask_below, nobody_has, seek, leaves, strays, handle_at, stands_with}
use Rattle.bucket.specs.Sessions.{is_in}
use Rattle.bucket.specs.Model.{Was, NotOpen, OpenAt, Traced, onto}
use Rattle.bucket.proofs.Invariant.{View, Born, IsStanding, Held, Known, Before, After, Next, NoneBelow, Shape, Owed, Fine}

-- a count of the places up to each number: one more at least at every place that was made
pub record Ranks (v : View) (rank : ℕ → ℕ) : Type 0 where
  pub some : (b : ℕ) → b ≤ v.top → Born (v.places b) → 1 ≤ rank b
  pub rises : (a b : ℕ) → a < b → b ≤ v.top → Born (v.places b) → rank a < rank b

-- how many deliveries are left, at most, to a packet that is back at who began to ask
abbrev pub asked : View → (ℕ → ℕ) → ℕ → ℕ
asked v rank by = cond (ltb by v.top) (2 * rank v.top + 1 - rank by) 1

-- how many are left to a packet at place h, on each way
abbrev pub left : View → (ℕ → ℕ) → ℕ → Way → ℕ
left v rank h Up = 2 * rank v.top + 1 - rank h
left v rank h (Down by) = rank h + asked v rank by.place
left v rank h (Asked by) = asked v rank by.place

-- the session was closed since the packet came, if it was open then
abbrev pub Spent : ℕ → ℕ → Was → Type 0
Spent seen closings NotOpen = Unit {0}
Spent seen closings (OpenAt g) = seen < closings

-- what is shown of each outcome
abbrev pub Right : View → (ℕ → ℕ) → Traced → Way → Outcome → Type 0
Right v rank p w Delivered = Held v p.packet.flow p.packet.at.place
Right v rank p w Opened = (p.packet.at.place ≡ v.top) × ((g : ℕ) → Held v p.packet.flow g → ⊥)
Right v rank p w (Forwarded l x) = Fine v (onto l x p) x × (left v rank l.place x < left v rank p.packet.at.place w)
Right v rank p w (Refused r) = Spent p.seen (v.closings p.packet.flow) p.was
Right v rank p w Dropped = ⊥

module _ (v : View) (rank : ℕ → ℕ) (ranks : Ranks v rank) (born : Born (v.places v.top)) (shut : (c : FlowKey) (k : ℕ) → Held v c k → IsStanding (v.places k) × (k ≤ v.top)) where
  -- at least one, at most twice as many as there are places
  pub left_some : (p : Traced) (w : Way) → Fine v p w → 1 ≤ left v rank p.packet.at.place w
  left_some p Up f = let r = ranks.rises p.packet.at.place v.top in grind arith
  left_some p (Down by) f = let r = ranks.some p.packet.at.place f.at.2 f.at.1 in grind arith
  left_some p (Asked by) f = let r = ranks.rises by.place v.top in grind arith

  pub left_most : (p : Traced) (w : Way) → Fine v p w → left v rank p.packet.at.place w ≤ 2 * rank v.top
  left_most p Up f = let r = ranks.some p.packet.at.place f.at.2 f.at.1 in grind arith
  left_most p (Down by) f =
      let r = ranks.rises p.packet.at.place by.place f.asks.1 f.asks.0.2 f.asks.0.1 in
      let t = ranks.rises by.place v.top in
      grind arith
  left_most p (Asked by) f = let r = ranks.some by.place f.asks.0.2 f.asks.0.1 in let t = ranks.some v.top in grind arith

  asked_owed : (p : Traced) (by : Link) (was : Was) → Owed v p (Down by) was → Owed v p (Asked by) was
  asked_owed p by NotOpen h = h
  asked_owed p by (OpenAt g) h = h

  down_owed : (p : Traced) (by : Link) (was : Was) → Owed v p (Asked by) was → Owed v p (Down by) was
  down_owed p by NotOpen h = h
  down_owed p by (OpenAt g) h = h

  spent : (p : Traced) (by : Link) (was : Was) → ((q : ℕ) → q < by.place → Held v p.packet.flow q → ⊥) → Owed v p (Down by) was → Spent p.seen (v.closings p.packet.flow) was
  spent p by NotOpen none h = tt
  spent p by (OpenAt g) none h = elim h [ inl closed ↦ closed | inr held ↦ absurd (none g held.1 held.0) ]

  -- none of the places below who began to ask has the session
  nobody_right : (p : Traced) (w : Way) (by : Link) (o : Bool) → p.packet.opens ≡ o → Fine v p w → Known v by → ((q : ℕ) → q < by.place → Held v p.packet.flow q → ⊥) → Owed v p (Down by) p.was →
      asked v rank by.place < left v rank p.packet.at.place w → Right v rank p w (nobody_has by o)
  nobody_right p w by true e f known none owed most =
      (record { at = known; asks = (known, refl, subst T (sym e) tt, none); seen = f.seen; owed = asked_owed p by p.was owed }, most)
  nobody_right p w by false e f known none owed most = spent p by p.was none owed

  -- asking goes on below, or nobody has it
  below_right : (p : Traced) (w : Way) (by : Link) (b : Option Link) → Fine v p w → Known v by → p.packet.at.place ≤ by.place → Before v p.packet.at.place b →
      ((q : ℕ) → p.packet.at.place ≤ q → q < by.place → Held v p.packet.flow q → ⊥) → Owed v p (Down by) p.was →
      rank p.packet.at.place + asked v rank by.place ≤ left v rank p.packet.at.place w → Right v rank p w (ask_below by p.packet.opens b)
  below_right p w by (Some l) f known le before none owed most =
      let r = ranks.rises l.place p.packet.at.place before.0 f.at.2 f.at.1 in (
        record {
          at = before.1;
          asks = (known, omega (arith, before.0), λ q lo hi held. let st = (shut p.packet.flow q held).0 in let n = none q in let m = before.2 q in grind arith);
          seen = f.seen;
          owed = owed;
        },
        omega arith,
      )
  below_right p w by None f known le before none owed most =
      let r = ranks.some p.packet.at.place f.at.2 f.at.1 in
      nobody_right p w by p.packet.opens refl f known
      (λ q hi held. let st = (shut p.packet.flow q held).0 in let n = none q in let m = before q in grind arith)
      owed (omega arith)

  -- a session that is open below the top
  top_owed : (p : Traced) (was : Was) → p.packet.at.place ≡ v.top → (Held v p.packet.flow p.packet.at.place → ⊥) → Owed v p Up was → Owed v p (Down p.packet.at) was
  top_owed p NotOpen top here h = h
  top_owed p (OpenAt g) top here h =
      elim h [ inl closed ↦ inl closed | inr held ↦ inr (held.0, let le = (shut p.packet.flow g held.0).1 in let ne : g ≡ p.packet.at.place → ⊥ = λ e. here (subst (Held v p.packet.flow) e held.0) in omega arith) ]

  up_owed : (p : Traced) (w : Way) (was : Was) → Owed v p w was → Owed v p Up was
  up_owed p w NotOpen h = tt
  up_owed p w (OpenAt g) h = elim h [ inl closed ↦ inl closed | inr held ↦ inr (held.0, tt) ]

  -- up to the place after
  up_right : (p : Traced) (w : Way) (a : Link) → Fine v p w → Next v p.packet.at.place a → 2 * rank v.top + 1 - rank p.packet.at.place ≤ left v rank p.packet.at.place w → Right v rank p w (Forwarded a Up)
  up_right p w a f next most =
      let r = ranks.rises p.packet.at.place a.place next.0 next.1.2 next.1.1 in
      let t = ranks.rises a.place v.top in
      (record { at = next.1; asks = tt; seen = f.seen; owed = up_owed p w p.was f.owed }, grind arith)

  seek_right : (p : Traced) (w : Way) (b a : Option Link) (e : Entry) → Fine v p w → Before v p.packet.at.place b → After v p.packet.at.place a →
      (Held v p.packet.flow p.packet.at.place → ⊥) → (e ≡ Open → ⊥) → strays p.packet.at.place p.packet.opens w ≡ false → Right v rank p w (seek p.packet.at p.packet w b a e)
  seek_right p Up b None e f before after here vacant strays =
      let top : p.packet.at.place ≡ v.top = omega (arith, after, f.at.2) in
      below_right p Up p.packet.at b f f.at (omega arith) before (λ q lo hi. absurd (omega arith)) (top_owed p p.was top here f.owed) (rw top (grind arith))
  seek_right p Up b (Some a) e f before after here vacant strays = up_right p Up a f after (omega arith)
  seek_right p (Down by) b a e f before after here vacant strays =
      below_right p (Down by) by b f f.asks.0 (omega (arith, f.asks.1)) before
      (λ q lo hi held. let none = f.asks.2 q in let ne : q ≡ p.packet.at.place → ⊥ = λ e. here (subst (Held v p.packet.flow) e held) in grind arith)
      f.owed (omega arith)
  seek_right p (Asked by) b None Open f before after here vacant strays = absurd (vacant refl)
  seek_right p (Asked by) b None Vacant f before after here vacant strays =
      let top : p.packet.at.place ≡ v.top = omega (arith, after, f.at.2) in
      (top, λ g held. let le = (shut p.packet.flow g held).1 in let none = f.asks.3 g in let ne : g ≡ p.packet.at.place → ⊥ = λ e. here (subst (Held v p.packet.flow) e held) in let eq = f.asks.1 in grind arith)
  seek_right p (Asked by) b None Full f before after here vacant strays = spent p by p.was f.asks.3 (down_owed p by p.was f.owed)
  seek_right p (Asked by) b (Some a) e f before after here vacant strays =
      let eq = f.asks.1 in
      let lt : p.packet.at.place < v.top = omega (arith, after.0, after.1.2) in
      up_right p (Asked by) a f after (rw (sym eq) (grind arith))

  leaves_right : (p : Traced) (w : Way) (a : Link) → Fine v p w → NoneBelow v p.packet.at.place → Next v p.packet.at.place a → (Held v p.packet.flow p.packet.at.place → ⊥) →
      Right v rank p w (leaves p.packet w a)
  leaves_right p Up a f older next here = up_right p Up a f next (omega arith)
  leaves_right p (Down by) a f older next here =
      let r = ranks.some p.packet.at.place f.at.2 f.at.1 in
      nobody_right p (Down by) by p.packet.opens refl f f.asks.0
      (λ q hi held.
      let st = (shut p.packet.flow q held).0 in
      let none = f.asks.2 q in
      let o = older q in
      let ne : q ≡ p.packet.at.place → ⊥ = λ e. here (subst (Held v p.packet.flow) e held) in
      grind arith)
      f.owed (omega arith)
  leaves_right p (Asked by) a f older next here =
      let eq = f.asks.1 in
      let lt : p.packet.at.place < v.top = omega (arith, next.0, next.1.2) in
      up_right p (Asked by) a f next (rw (sym eq) (grind arith))

  not_stray : (p : Traced) (w : Way) → Fine v p w → strays p.packet.at.place p.packet.opens w ≡ false
  not_stray p Up f = refl
  not_stray p (Down by) f = refl
  not_stray p (Asked by) f = let e = f.asks.1 in let o = f.asks.2 in grind arith

  stands_right : (p : Traced) (b a : Option Link) (h room : Bool) → is_in p.packet.flow (v.sessions p.packet.at.place) ≡ h → Before v p.packet.at.place b → After v p.packet.at.place a → Fine v p p.packet.way →
      Right v rank p p.packet.way (stands_with p.packet.at p.packet b a (cond h Open (cond room Vacant Full)))
  stands_right p b a true room e before after f = subst T (sym e) tt
  stands_right p b a false true e before after f = seek_right p p.packet.way b a Vacant f before after (λ t. subst T e t) (λ q. grind arith) (not_stray p p.packet.way f)
  stands_right p b a false false e before after f = seek_right p p.packet.way b a Full f before after (λ t. subst T e t) (λ q. grind arith) (not_stray p p.packet.way f)

  handled_at_place : (p : Traced) (x : Standing) (room : Bool) → v.places p.packet.at.place ≡ x → Shape v p.packet.at.place x → Fine v p p.packet.way →
      Right v rank p p.packet.way (handle_at p.packet.at p.packet x (cond (is_in p.packet.flow (v.sessions p.packet.at.place)) Open (cond room Vacant Full)))
  handled_at_place p Never room e sh f = absurd (subst Born e f.at.1)
  handled_at_place p (Stands b a) room e sh f =
      rw (not_stray p p.packet.way f) (stands_right p b a (is_in p.packet.flow (v.sessions p.packet.at.place)) room refl sh.0 sh.1 f)
  handled_at_place p (Forgotten a) room e sh f =
      rw (not_stray p p.packet.way f) (leaves_right p p.packet.way a f sh.1 sh.2 (λ t. subst IsStanding e (shut p.packet.flow p.packet.at.place t).0))

  -- what the server that the packet's link names knows is what is known of that place
  pub known_right : (l : Link) → Known v l → cond (eqb l.server (v.host l.place)) (v.places l.place) Never ≡ v.places l.place
  known_right l k = let e = k.0 in grind arith

  pub handle_right : ((k : ℕ) → Shape v k (v.places k)) → (p : Traced) (room : Bool) → Fine v p p.packet.way →
      Right v rank p p.packet.way
      (handle_at p.packet.at p.packet (cond (eqb p.packet.at.server (v.host p.packet.at.place)) (v.places p.packet.at.place) Never)
      (cond (is_in p.packet.flow (v.sessions p.packet.at.place)) Open (cond room Vacant Full)))
  handle_right shape p room f = rw (known_right p.packet.at f.at) (handled_at_place p (v.places p.packet.at.place) room refl (shape p.packet.at.place) f)
