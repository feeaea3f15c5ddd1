-- A place is forgotten: its server left a chain, that is answered, and what begins is said. Assumes nothing.
use Rattle.std.proofs.Common.{◌≡◌, ℕ, ◌<◌, Bool, List, [], ◌∷◌, ◌++◌, Some, None, Option, refl, ap, ◌∙◌, subst, append_assoc, arith}
use Rattle.std.proofs.lemmas.Bool.{lt-ltb}
use Rattle.chain.specs.declared.way.Link.{Link}
use Rattle.wire.specs.declared.message.Control.{Control}
use Rattle.machine.specs.declared.name.Machine.{Machine}
use Rattle.machine.specs.declared.sent.Note.TheVariants.{Answer}
use Rattle.machine.specs.declared.sent.Sent.{Sent}
use Rattle.controller_bucket.specs.Rules as bucket
use Rattle.controller_bucket.specs.Rules.{Charge}
use Rattle.controller_bucket.specs.Kept.{Answers}
use Rattle.controller.specs.Rules.{Ruling, charge_at, assigned_at, rules, parts, parted_at, forgotten_as, forgets}

forgets_as : (from : Machine) (c : Control) (b n : ℕ) (k : Ruling) (o : Option (List Sent × Charge)) (r : Bool) (ch y : Charge) (was here out : List Sent) → (o ≡ None → ⊥) → Answers o r ch y here out
    → here ≡ was ++ record { to = from; note = Answer c } ∷ []
    → (rules b y (parts b n k) ≡ (forgotten_as from c b n k o).1) × (out ≡ was ++ (forgotten_as from c b n k o).0)
forgets_as from c b n k None r ch y was here out z a e = absurd (z refl)
forgets_as from c b n k (Some p) r ch y was here out z a e =
    (ap (λ x. rules b x (parts b n k)) a.1.0, a.1.1 ∙ (ap (λ h. h ++ p.0) e ∙ append_assoc was (record { to = from; note = Answer c } ∷ []) p.0))

some_forgotten : (b s n : ℕ) (ch : Charge) → n < (bucket.newest ch).place → bucket.forgotten b s n ch ≡ None → ⊥
some_forgotten b s n ch h e = let t = lt-ltb n (bucket.newest ch).place h in let f = rw t at e in grind arith

pub forgets_some : (from : Machine) (c : Control) (b n : ℕ) (k : Ruling) (s : ℕ) (ch y : Charge) (l : Link) (r : Bool) (was here out : List Sent) → s ≡ assigned_at b k → ch ≡ charge_at b k
    → l ≡ bucket.newest (charge_at b k) → n < l.place → Answers (bucket.forgotten b s n ch) r ch y here out → here ≡ was ++ record { to = from; note = Answer c } ∷ []
    → (rules b y (parts b n k) ≡ (forgets from c b n k).1) × (out ≡ was ++ (forgets from c b n k).0)
forgets_some from c b n k s ch y l r was here out e f g h a w =
    let m : n < (bucket.newest (charge_at b k)).place = subst (λ x. n < x.place) g h in
    let z = subst (λ u. Answers (bucket.forgotten b u n (charge_at b k)) r (charge_at b k) y here out) e (subst (λ x. Answers (bucket.forgotten b s n x) r x y here out) f a) in
    forgets_as from c b n k (bucket.forgotten b (assigned_at b k) n (charge_at b k)) r (charge_at b k) y was here out (some_forgotten b (assigned_at b k) n (charge_at b k) m) z w

-- who parted, by the chain that is kept
pub parted_is : (b n : ℕ) (k : Ruling) (tick : ℕ) (ls : List Link) (ps qs : List ℕ) (ch : Charge) → tick ≡ k.tick → ls ≡ ch.control.kept → ch ≡ charge_at b k → ps ≡ k.parted → qs ≡ parted_at tick n ls ps
    → qs ≡ (parts b n k).parted
parted_is b n k tick ls ps qs ch e f g h i = rw (i, e, f, g, h)
