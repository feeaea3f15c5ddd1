-- Each bucket of a whole that is reached is a state of the bucket's model that is reached. Assumes nothing.
use Rattle.std.proofs.Common.{◌≡◌, ℕ, zero, suc, ◌<◌, ◌≤◌, Bool, true, false, cond, eqb, ◌⊎◌, List, [], ◌∷◌, map, length, get_or, Some, None, sym, refl, ap, ◌∙◌, subst, inl, inr, arith}
use mathlib.Core.List.Memᴰ
use mathlib.Core.List.{Memᴰ}
use Rattle.std.proofs.lemmas.Bool.{eqb-true, eqb-false}
use Rattle.std.proofs.lemmas.List.{get_or-map}
use Rattle.chain.specs.declared.place.Standing.TheVariants.{Never, Stands}
use Rattle.chain.specs.Places.{handle}
use Rattle.chain.specs.Controllers.{Control, first_control}
use Rattle.bucket.specs.Sessions.{put}
use Rattle.bucket.specs.Model as one
use Rattle.bucket.proofs.Lists.{in_none}
use Rattle.places.specs.Rules.{find_in, find, or_else}
use Rattle.balancer.specs.Rules.{first_link}
use Rattle.server_bucket.specs.Rules.{Holding, unheld, held_first}
use Rattle.server.specs.Rules.{first_holdings}
use Rattle.controller_bucket.specs.Rules.{charge_first}
use Rattle.controller.specs.Rules.{charge_at}
use Rattle.whole.specs.World.{World, start, Reach, begin, more}
use Rattle.whole.proofs.Sim.{lead, Missing, Fit, Serves, Sim}
use Rattle.whole.proofs.Fits.{by_cond, walk_reach}
use Rattle.whole.proofs.Charges.{Right}
use Rattle.whole.proofs.Sane.{Sane}
use Rattle.whole.proofs.Sizes.{sane_step}
use Rattle.whole.proofs.Choice.{Rises, control_at, step_rises}
use Rattle.whole.proofs.Moves.{moves}

-- AT THE START

mapped_length : {X Y : Type 0} (f : X → Y) (xs : List X) → length (map f xs) ≡ length xs
mapped_length f [] = refl
mapped_length f (x ∷ xs) = ap suc (mapped_length f xs)

first_length : (v : ℕ) (ns : List ℕ) → length (first_holdings v ns) ≡ length ns
unfolding first_holdings
first_length v [] = refl
first_length v (n ∷ ns) = ap suc (first_length v ns)

first_held : (v b : ℕ) (ns : List ℕ) → b < length ns → get_or (first_holdings v ns) b unheld ≡ cond (eqb (get_or ns b 0) v) (held_first v) unheld
unfolding first_holdings
first_held v b [] lt = absurd (omega arith)
first_held v zero (n ∷ ns) lt = refl
first_held v (suc b) (n ∷ ns) lt = first_held v b ns (omega arith)

start_sane : (listed assignment : List ℕ) (count : ℕ) → Sane (length assignment) (start listed assignment count)
start_sane listed assignment count = record {
  numbers = λ v. refl;
  lengths = λ v. first_length v assignment;
  links = λ d. mapped_length first_link assignment;
  charges = mapped_length charge_first assignment;
  keyed = λ v q t. absurd t;
  once = λ v. tt;
  carried = λ e mem. absurd (Memᴰ.not-nil mem);
}

positive : (k : ℕ) → (0 < k) ⊎ (k ≤ 1)
positive k = grind arith

apart : (k : ℕ) → (k ≡ 1 → ⊥) → (1 < k) ⊎ (k ≤ 1)
apart k ne = grind arith

own_by : (host : ℕ → ℕ) (v k : ℕ) → host 1 ≡ v → (e : Bool) → (e ≡ true → k ≡ 1) → (e ≡ false → k ≡ 1 → ⊥) →
    Fit host (first_control (host 1)) v k 1 (cond e (Stands None None) Never) (or_else (cond e (Some (record { link = record { place = 1; server = v }; standing = Stands None None })) None) None)
own_by host v k at true is not = rw (is refl) (at, omega arith, ap (λ s. record { link = record { place = 1; server = s }; standing = Stands None None }) (sym at), tt)
own_by host v k at false is not = λ _. apart k (not refl)

far_by : (host : ℕ → ℕ) (v k : ℕ) → (host 1 ≡ v → ⊥) → (e : Bool) → (e ≡ true → k ≡ 1) → host k ≡ v → Missing (first_control (host 1)) 0 k (cond e (Stands None None) Never)
far_by host v k ne true is at = absurd (ne (ap host (sym (is refl)) ∙ at))
far_by host v k ne false is at = positive k

-- place 1 stands here
own_first : (host : ℕ → ℕ) (v k : ℕ) → host 1 ≡ v → Fit host (first_control (host 1)) v k 1 (put 1 (Stands None None) (λ _. Never) k) (find k (held_first v).known)
unfolding find_in
own_first host v k e = own_by host v k e (eqb k 1) (λ q. eqb-true k 1 q) (λ q. eqb-false k 1 q)

-- or elsewhere
far_first : (host : ℕ → ℕ) (v k : ℕ) → (host 1 ≡ v → ⊥) → Fit host (first_control (host 1)) v k 0 (put 1 (Stands None None) (λ _. Never) k) (find k unheld.known)
unfolding find_in
far_first host v k ne = far_by host v k ne (eqb k 1) (λ q. eqb-true k 1 q)

start_serves : (host : ℕ → ℕ) (b v : ℕ) (h : Holding) → Rattle.whole.proofs.Rows.Tidy h.known → h.farewells ≡ [] →
    ((k : ℕ) → Fit host (first_control (host 1)) v k h.known.highest (put 1 (Stands None None) (λ _. Never) k) (find k h.known)) → Serves host b (one.start host) v h []
start_serves host b v h tidy none fits = record {
  fit = fits;
  tidy = tidy;
  down = λ k c t. absurd t;
  up = λ k c at t. absurd (in_none c t);
  farewells = λ f mem. absurd (Memᴰ.not-nil (subst (λ z. Memᴰ f z) none mem));
}

start_sim : (listed assignment : List ℕ) (count : ℕ) (host : ℕ → ℕ) (b : ℕ) → b < length assignment → Right host (control_at (start listed assignment count) b) → Sim host (length assignment) b (start listed assignment count) (one.start host)
start_sim listed assignment count host b lt right =
    let a = get_or assignment b 0 in
    let first : charge_at b (start listed assignment count).controller ≡ charge_first a = get_or-map charge_first assignment b 0 (charge_first 0) lt in
    let at : host 1 ≡ a = subst (λ c. Right host c.control) first right in
    record {
      servers = λ v. subst (λ h. Serves host b (one.start host) v h []) (sym (first_held v b assignment lt))
          (by_cond (λ h. Serves host b (one.start host) v h []) (eqb a v) (held_first v) unheld
          (λ q. start_serves host b v (held_first v) ((omega arith, tt), tt) refl (λ k. own_first host v k (at ∙ eqb-true a v q)))
          (λ q. start_serves host b v unheld (tt, tt) refl (λ k. far_first host v k (λ e. eqb-false a v q (sym at ∙ e)))));
      balancers = λ d. get_or-map first_link assignment b 0 _ lt ∙ ap (λ s. record { place = 1; server = s }) (sym at);
      control = ap (λ c. c.control) first ∙ ap first_control (sym at);
      awaited = tt;
      sent = λ e mem. absurd (Memᴰ.not-nil mem);
      closings = λ c e. refl;
    }

-- A RUN

abbrev pub Hosts : Type 0
Hosts = ℕ → ℕ → ℕ

rises_le : (c d : Control) → Rises c d → (lead c).place ≤ (lead d).place
rises_le c d h = elim h [ inl e ↦ subst (λ z. (lead c).place ≤ z.place) (sym e) (omega arith) | inr lt ↦ omega arith ]

module _ (listed assignment : List ℕ) (count : ℕ) where
  abbrev B : ℕ
  B = length assignment

  pub reach_sane : {w : World} → Reach listed assignment count w → Sane B w
  reach_sane begin = start_sane listed assignment count
  reach_sane (more {w} r step) = sane_step B w (reach_sane r) step

  abbrev pub AllRight : Hosts → World → Type 0
  AllRight host w = (b : ℕ) → b < B → Right (host b) (control_at w b)

  abbrev pub Chosen : {w : World} → Hosts → Reach listed assignment count w → Type 0
  Chosen host begin = AllRight host (start listed assignment count)
  Chosen host (more {x = x} r step) = Chosen host r × AllRight host x

  now_right : {w : World} (host : Hosts) (r : Reach listed assignment count w) → Chosen host r → AllRight host w
  now_right host begin ch = ch
  now_right host (more r step) ch = ch.1

  -- both say the same of all places that were given in w
  abbrev Agree : Hosts → Hosts → World → Type 0
  Agree host host' w = (b p : ℕ) → b < B → p ≤ (lead (control_at w b)).place → host' b p ≡ host b p

  chosen_stays : {w : World} (host host' : Hosts) (r : Reach listed assignment count w) → Agree host host' w → Chosen host r → Chosen host' r
  chosen_stays host host' begin agree ch = λ b lt. agree b _ lt (omega arith) ∙ ch b lt
  chosen_stays host host' (more {w} {x} r step) agree ch = (
    chosen_stays host host' r (λ b p lt le. agree b p lt (omega (arith, le, rises_le (control_at w b) (control_at x b) (step_rises B w (reach_sane r) b lt step)))) ch.0,
    λ b lt. agree b _ lt (omega arith) ∙ ch.1 b lt,
  )

  abbrev choose : Hosts → World → Hosts
  choose host x b p = cond (eqb p (lead (control_at x b)).place) (lead (control_at x b)).server (host b p)

  choose_right : (host : Hosts) (x : World) → AllRight (choose host x) x
  choose_right host x b lt = let p = (lead (control_at x b)).place in by_cond (λ z. z ≡ (lead (control_at x b)).server) (eqb p p) (lead (control_at x b)).server (host b p) (λ _. refl) (λ q. absurd (eqb-false p p q refl))

  choose_agrees : (host : Hosts) (w x : World) → AllRight host w → ((b : ℕ) → b < B → Rises (control_at w b) (control_at x b)) → Agree host (choose host x) w
  choose_agrees host w x right up b p lt le = by_cond (λ z. z ≡ host b p) (eqb p (lead (control_at x b)).place) (lead (control_at x b)).server (host b p)
      (λ q. elim (up b lt) [
        | inl e ↦ ap (λ z. z.server) e ∙ sym (right b lt) ∙ ap (host b) (sym (ap (λ z. z.place) e) ∙ sym (eqb-true p (lead (control_at x b)).place q))
        | inr less ↦ absurd (omega (arith, less, le, eqb-true p (lead (control_at x b)).place q))
      ])
      (λ _. refl)

  pub reach_host : {w : World} (r : Reach listed assignment count w) → (host : Hosts) × Chosen host r
  reach_host begin = ((λ b p. (lead (control_at (start listed assignment count) b)).server), λ b lt. refl)
  reach_host (more {w} {x} r step) =
      let h = reach_host r in
      let host' = choose h.0 x in
      (host', (chosen_stays h.0 host' r (choose_agrees h.0 w x (now_right h.0 r h.1) (λ b lt. step_rises B w (reach_sane r) b lt step)) h.1, choose_right h.0 x))

  pub reach_sim : {w : World} (host : Hosts) (r : Reach listed assignment count w) → Chosen host r → (b : ℕ) → b < B → (s : one.State) × one.Reach handle (host b) s × Sim (host b) B b w s
  reach_sim host begin ch b lt = (one.start (host b), one.begin, start_sim listed assignment count (host b) b lt (ch b lt))
  reach_sim host (more {w} {x} r step) ch b lt =
      let q = reach_sim host r ch.0 b lt in
      let n = moves (host b) B b lt w q.0 q.1 q.2 (reach_sane r) step (ch.1 b lt) in
      (n.state, walk_reach (host b) q.0 n.state n.walk q.1, n.sim)
