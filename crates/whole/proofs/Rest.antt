-- The newest place of a bucket, in the whole and in the bucket's model; and what is sent stays sent. Assumes nothing.
use Rattle.std.proofs.Common.{◌≡◌, ℕ, suc, ◌<◌, ◌≤◌, ◌⊎◌, List, [], ◌∷◌, ◌++◌, Some, None, Ok, Err, Option, Result, sym, refl, ap, ◌∙◌, subst, inl, inr, arith}
use mathlib.Core.List.{Memᴰ}
use Rattle.fault.specs.declared.Fault.{Fault}
use Rattle.chain.specs.declared.way.Link.{Link}
use Rattle.chain.specs.declared.place.Standing.{Standing}
use Rattle.chain.specs.declared.place.Standing.TheVariants.{Never, Stands, Forgotten}
use Rattle.chain.specs.declared.place.Place.{Place}
use Rattle.chain.specs.declared.handover.Handover.{Handover}
use Rattle.chain.specs.declared.handover.Handover.TheVariants.{Idle, AwaitStood, AwaitTold}
use Rattle.chain.specs.Controllers.{Control, newest_of}
use Rattle.bucket.specs.Model as one
use Rattle.bucket.specs.Promise.{IsLast}
use Rattle.bucket.proofs.Invariant.{View, view, Shape, Waits, Inv}
use Rattle.bucket.proofs.Handle.{Ranks}
use Rattle.bucket.proofs.Main.{top_newest}
use Rattle.places.specs.Rules.{find}
use Rattle.wire.specs.declared.message.Control as said
use Rattle.wire.specs.declared.message.Control.TheVariants as say
use Rattle.machine.specs.declared.name.Machine.{Machine}
use Rattle.machine.specs.declared.name.Machine.TheVariants.{Server, Controller}
use Rattle.machine.specs.declared.sent.Sent.{Sent}
use Rattle.balancer.specs.Rules as balancer
use Rattle.server.specs.Rules as server
use Rattle.server.specs.Rules.{Keeping}
use Rattle.controller.specs.Rules as controller
use Rattle.controller.specs.Rules.{Ruling}
use Rattle.whole.specs.World.{Envelope, posted, hint_of, World, taken, forwarded, server_did, controller_did, balancer_did, Event, Step, comes, arrives, tells, answers, reports, confirms, hears, closes, ticks, adds, removes, waits}
use Rattle.whole.specs.Promise.{known_at, LastIn, IsLastAt, control_of, Awaits, Newest}
use Rattle.whole.proofs.Sim.{Missing, Fit, Sim}

-- WHAT WAS SENT

in_right : (m : Envelope) (es fs : List Envelope) → Memᴰ m fs → Memᴰ m (es ++ fs)
in_right m [] fs mem = mem
in_right m (e ∷ es) fs mem = Memᴰ.tail (in_right m es fs mem)

module _ (B : ℕ) (w : World) (m : Envelope) (mem : Memᴰ m w.sent) where
  by_server : (v : ℕ) (z : Result (List Sent × Keeping) Fault) → Memᴰ m (server_did v z w).sent
  by_server v (Ok (out, k)) = in_right m (posted (Server v) out) w.sent mem
  by_server v (Err f) = mem

  by_controller : (z : Result (List Sent × Ruling) Fault) → Memᴰ m (controller_did z w).sent
  by_controller (Ok (out, k)) = in_right m (posted Controller out) w.sent mem
  by_controller (Err f) = mem

  by_balancer : (d : ℕ) (from : Machine) (c : said.Control) (z : Result (Unit {0}) Fault × List Link) → Memᴰ m (balancer_did d from c z w).sent
  by_balancer d from c (Ok u, ls) = Memᴰ.tail mem
  by_balancer d from c (Err f, ls) = mem

  pub still_sent : {e : Event} {x : World} → Step B w e x → Memᴰ m x.sent
  still_sent (comes _ _ _ _ _ _ _ _) = Memᴰ.tail mem
  still_sent (arrives from v p es _ st) =
      in_right m (forwarded v p (taken w v from p).outcome) (posted (Server v) (hint_of (taken w v from p).hint) ++ w.sent) (in_right m (posted (Server v) (hint_of (taken w v from p).hint)) w.sent mem)
  still_sent (tells k v c _ to what) = by_server v (server.told k.from c (w.servers v) (w.sessions v))
  still_sent (answers k v c _ to what) = mem
  still_sent (reports k c _ to what) = by_controller (controller.told k.from c w.controller)
  still_sent (confirms k c _ to what) = by_controller (Ok (controller.heard k.from c w.controller))
  still_sent (hears k d b l _ to what) = by_balancer d k.from (say.Door b l) (balancer.hears b l (w.balancers d))
  still_sent (closes v c es st) = in_right m (posted (Server v) (server.closes c (w.servers v) (w.sessions v)).sends) w.sent mem
  still_sent (ticks v n es st) = in_right m (posted (Server v) (server.ticked n (w.servers v) (w.sessions v)).sends) w.sent mem
  still_sent (adds v _) = by_controller (controller.adds v w.controller)
  still_sent (removes v) = by_controller (controller.removes v w.controller)
  still_sent (waits n) = by_controller (Ok (controller.ticked n w.controller))

-- THE NEWEST PLACE

-- numbers count places, if one more than there are
pub ranks : (v : View) → Ranks v suc
ranks v = record { some = λ b le h. omega arith; rises = λ a b lt le h. omega arith }

last_fit : (host : ℕ → ℕ) (c : Control) (v k hi : ℕ) (x : Standing) (o : Option Place) → Fit host c v k hi x o → LastIn o → IsLast x
last_fit host c v k hi x None f t = absurd t
last_fit host c v k hi x (Some y) f t = subst (λ z. IsLast z.standing) f.2 t

last_missing : (c : Control) (hi k : ℕ) (x : Standing) → Missing c hi k x → IsLast x → ⊥
last_missing c hi k Never m t = t
last_missing c hi k (Stands b a) m t = m
last_missing c hi k (Forgotten a) m t = t

fit_last : (host : ℕ → ℕ) (c : Control) (k hi : ℕ) (x : Standing) (o : Option Place) → Fit host c (host k) k hi x o → IsLast x → LastIn o
fit_last host c k hi x None f t = last_missing c hi k x (f refl) t
fit_last host c k hi x (Some y) f t = subst (λ z. IsLast z.standing) (sym f.2) t

last_top : (v : View) (k : ℕ) (x : Standing) → Shape v k x → IsLast x → v.top ≤ k
last_top v k Never sh t = absurd t
last_top v k (Stands b None) sh t = sh.1
last_top v k (Stands b (Some l)) sh t = absurd t
last_top v k (Forgotten l) sh t = absurd t

awaits_top : (v : View) (k : ℕ) (g : Handover) → Waits v g → Awaits k g → (v.top ≡ v.newest.place) ⊎ (v.top ≡ k)
awaits_top v k Idle w a = absurd a
awaits_top v k (AwaitStood l) w a = absurd a
awaits_top v k (AwaitTold l) w a = elim w.0 [ inl e ↦ inl e | inr e ↦ inr (e ∙ a) ]

module _ (host : ℕ → ℕ) (B b : ℕ) (w : World) (s : one.State) (i : Sim host B b w s) (n : ℕ) (inv : Inv host n s) where
  last_down : (v k : ℕ) → IsLastAt w b v k → IsLast (s.places k)
  last_down v k t = last_fit host s.control v k (known_at w v b).highest (s.places k) (find k (known_at w v b)) ((i.servers v).fit k) t

  last_up : (k : ℕ) → IsLast (s.places k) → IsLastAt w b (host k) k
  last_up k t = fit_last host s.control k (known_at w (host k) b).highest (s.places k) (find k (known_at w (host k) b)) ((i.servers (host k)).fit k) t

  above_top : (v k : ℕ) → IsLastAt w b v k → n ≤ k
  above_top v k t = last_top (view host n s) k (s.places k) (inv.shape k) (last_down v k t)

  same_newest : (newest_of (control_of w b).kept).place ≡ (one.newest s).place
  same_newest = ap (λ c. (newest_of c.kept).place) i.control

  pub newest_is : (k : ℕ) → Newest w b k → k ≡ n
  newest_is k new =
      let ge = above_top new.at k new.is_last in
      elim new.which [
        | inl e ↦ omega (arith, ge, e, same_newest, inv.newest.2)
        | inr q ↦ elim (awaits_top (view host n s) k s.control.handover inv.waits (subst (λ c. Awaits k c.handover) i.control q.0)) [
          | inl e ↦ absurd (q.1 (host n) (subst (IsLastAt w b (host n)) (e ∙ sym same_newest) (last_up n (top_newest host n s inv).is_last)))
          | inr e ↦ sym e
        ]
      ]

  abbrev Which : Control → Type 0
  Which c = (n ≡ (newest_of c.kept).place) ⊎ (Awaits n c.handover × ((v : ℕ) → IsLastAt w b v (newest_of c.kept).place → ⊥))

  which_by : (g : Handover) → Waits (view host n s) g → (n ≡ (one.newest s).place) ⊎ (Awaits n g × ((one.newest s).place < n))
  which_by Idle h = inl h
  which_by (AwaitStood l) h = inl h.0
  which_by (AwaitTold l) h = elim h.0 [ inl e ↦ inl e | inr e ↦ inr (sym e, omega (arith, e, h.1)) ]

  pub newest_there : Newest w b n
  newest_there = record {
    at = host n;
    is_last = last_up n (top_newest host n s inv).is_last;
    which = subst Which (sym i.control) (elim (which_by s.control.handover inv.waits) [ inl e ↦ inl e | inr q ↦ inr (q.0, λ v t. let ge = above_top v (one.newest s).place t in omega (arith, ge, q.1)) ]);
  }
