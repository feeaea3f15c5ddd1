-- What is refused changes nothing. Assumes nothing.
use Rattle.std.proofs.Common.{◌≡◌, ℕ, Bool, Some, None, Ok, Err, Option, Result, sym, refl, ap, ◌∙◌, arith}
use Rattle.fault.specs.declared.Fault.{Fault}
use Rattle.chain.specs.declared.way.Link.{Link}
use Rattle.chain.specs.declared.place.Place.{Place}
use Rattle.places.specs.Rules as place
use Rattle.places.specs.Rules.{Known, find, settled, takes, stands_as, followed_as, freed_as}
use Rattle.server_bucket.specs.Rules.{Holding, stand, behind, freed, then_emptied}

settled_kept : (n : ℕ) (k : Known) (r : Result Place Fault) (f : Fault) → (settled n k r).0 ≡ Err f → (settled n k r).1 ≡ k
settled_kept n k (Ok x) f e = grind arith
settled_kept n k (Err g) f e = refl

takes_kept : (k : Known) (r : Result Place Fault) (f : Fault) → (takes k r).0 ≡ Err f → (takes k r).1 ≡ k
takes_kept k (Ok x) f e = grind arith
takes_kept k (Err g) f e = refl

stands_kept : (o : Option Place) (l : Link) (before : Option Link) (k : Known) (f : Fault) → (stands_as o l before k).0 ≡ Err f → (stands_as o l before k).1 ≡ k
stands_kept (Some x) l before k f e = grind arith
stands_kept None l before k f e = grind (arith, takes_kept)

followed_kept : (o : Option Place) (n : ℕ) (after : Link) (k : Known) (f : Fault) → (followed_as o n after k).0 ≡ Err f → (followed_as o n after k).1 ≡ k
followed_kept None n after k f e = refl
followed_kept (Some x) n after k f e = settled_kept n k _ f e

freed_kept : (o : Option Place) (n gone : ℕ) (k : Known) (f : Fault) → (freed_as o n gone k).0 ≡ Err f → (freed_as o n gone k).1 ≡ k
freed_kept None n gone k f e = grind arith
freed_kept (Some x) n gone k f e = settled_kept n k _ f e

then_kept : (n : ℕ) (empty : Bool) (h : Holding) (r : Result (Unit {0}) Fault) (k : Known) (f : Fault) → (r ≡ Err f → k ≡ h.known) → (then_emptied n empty h.farewells (r, k)).0 ≡ Err f
    → (then_emptied n empty h.farewells (r, k)).1 ≡ h
then_kept n empty h (Ok u) k f same e = grind arith
then_kept n empty h (Err g) k f same e = rw (same (grind arith)) refl

pub stand_refused : (l : Link) (before : Option Link) (h h' : Holding) (f : Fault) → (Err f, h') ≡ stand l before h → h' ≡ h
stand_refused l before h h' f e =
    let s = stands_kept (find l.place h.known) l before h.known f (sym (ap (λ (p : Result (Unit {0}) Fault × Holding). p.0) e)) in
    ap (λ (p : Result (Unit {0}) Fault × Holding). p.1) e ∙ ap (λ k. record { known = k; farewells = h.farewells }) s

pub behind_refused : (n : ℕ) (after : Link) (empty : Bool) (h h' : Holding) (f : Fault) → (Err f, h') ≡ behind n after empty h → h' ≡ h
behind_refused n after empty h h' f e =
    ap (λ (p : Result (Option Link) Fault × Holding). p.1) e
    ∙ then_kept n empty h (place.behind n after h.known).0 (place.behind n after h.known).1 f (followed_kept (find n h.known) n after h.known f) (sym (ap (λ (p : Result (Option Link) Fault × Holding). p.0) e))

pub freed_refused : (n gone : ℕ) (empty : Bool) (h h' : Holding) (f : Fault) → (Err f, h') ≡ freed n gone empty h → h' ≡ h
freed_refused n gone empty h h' f e =
    ap (λ (p : Result (Option Link) Fault × Holding). p.1) e
    ∙ then_kept n empty h (place.freed n gone h.known).0 (place.freed n gone h.known).1 f (freed_kept (find n h.known) n gone h.known f) (sym (ap (λ (p : Result (Option Link) Fault × Holding). p.0) e))
