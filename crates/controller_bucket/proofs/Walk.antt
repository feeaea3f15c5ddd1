-- Walks through a list: each of its items is said, or one is struck. Assumes nothing.
use Rattle.std.proofs.Common.{◌≡◌, ℕ, suc, ◌+◌, ◌<◌, ◌≤◌, true, false, cond, eqb, List, [], ◌∷◌, ◌++◌, map, length, get_or, drop, Some, None, sym, refl, ap, inl, inr, ◌∙◌, subst, append_assoc, arith}
use Rattle.std.specs.List.{remove, position, position_or_len}
use Rattle.std.proofs.lemmas.Bool.{cases_Bool}
use Rattle.std.proofs.lemmas.List.{drop_more, drop_all, append-nil}
use Rattle.std.proofs.lemmas.Bool.Decides.{nat_tests}
use Rattle.chain.specs.declared.way.Link.{Link}
use Rattle.chain.specs.Controllers.{Control, hears_told}
use Rattle.machine.specs.Again.{is_due}
use Rattle.machine.specs.declared.sent.Sent.{Sent}
use Rattle.controller_bucket.specs.Rules.{Charge, without_balancer, door_to, awaited, doors, due, begun, told, told_with}
use Rattle.controller_bucket.specs.Kept.{Goes}

-- one more is said
pub said_more : {A B : Type 0} (f : A → B) (out : List B) (xs : List A) (i : ℕ) (d : A) → i < length xs
    → (out ++ f (get_or xs i d) ∷ []) ++ map f (drop (i + 1) xs) ≡ out ++ map f (drop i xs)
said_more f out xs i d h = rw (append_assoc out (f (get_or xs i d) ∷ []) (map f (drop (i + 1) xs)), drop_more xs i d h)

pub said_all : {A B : Type 0} (f : A → B) (out : List B) (xs : List A) (i : ℕ) → length xs ≤ i → out ++ map f (drop i xs) ≡ out
said_all f out xs i h = rw (drop_all i xs h) (append-nil out)

pub doors_are : (b : ℕ) (n m : Link) (xs ys : List ℕ) (out : List Sent) → n ≡ m → xs ≡ ys → out ++ map (door_to b n) xs ≡ out ++ map (door_to b m) ys
doors_are b n m xs ys out e f = rw (e, f)

-- the first that is the balancer's is taken out, where there is one
one_more : (n : ℕ) → 1 + n ≡ suc n
one_more n = omega arith

struck : (d : ℕ) (xs : List ℕ) → remove xs (position_or_len (λ x. eqb d x) xs) ≡ without_balancer d xs
unfolding without_balancer
struck d [] = refl
struck d (x ∷ xs) = elim (cases_Bool (eqb d x)) [ inl t ↦ rw t refl | inr f ↦ rw (f, one_more (position_or_len (λ y. eqb d y) xs)) (ap (λ ys. x ∷ ys) (struck d xs)) ]

pub struck_at : (d : ℕ) (xs ys : List ℕ) (i : ℕ) → xs ≡ ys → Some i ≡ position (λ x. eqb d x) xs → remove ys i ≡ without_balancer d ys
struck_at d xs ys i e f = let s = struck d ys in grind (arith, nat_tests)

unstruck : (d : ℕ) (xs : List ℕ) → None ≡ position (λ x. eqb d x) xs → xs ≡ without_balancer d xs
unfolding without_balancer
unstruck d [] e = refl
unstruck d (x ∷ xs) e = let ih = unstruck d xs in grind (arith, nat_tests)

pub struck_none : (d : ℕ) (xs ys : List ℕ) → xs ≡ ys → None ≡ position (λ x. eqb d x) xs → ys ≡ without_balancer d ys
struck_none d xs ys e f = rw (← e) (unstruck d xs f)

-- what is due, in its two parts
pub due_said : (b t : ℕ) (c : Charge) (was here after : List Sent) → here ≡ was ++ cond (is_due t c.age) (awaited b c) [] → true ≡ is_due t c.untold_age → after ≡ here ++ doors b c
    → after ≡ was ++ due b t c
due_said b t c was here after h d a = rw (← d, a, h) (append_assoc was (cond (is_due t c.age) (awaited b c) []) (doors b c))

abbrev opened : Control → List ℕ → Charge → Charge
opened k all c = record { control = k; age = 0; untold = all; untold_age = 0; reported = c.reported }

-- the handover is done: the balancers are told, and then what begins is said
pub told_goes : (b server : ℕ) (all : List ℕ) (n : ℕ) (a : Link) (c : Charge) (k : Control) (was said out : List Sent) (after : Charge) → (true, k) ≡ hears_told n a c.control
    → said ≡ was ++ doors b (opened k all c) → Goes (begun b server (opened k all c)) after said out → Goes (told b server all n a c) after was out
told_goes b server all n a c k was said out after h s g =
    subst (λ p. Goes (told_with b server all c p) after was out) h
    (g.0, g.1 ∙ (ap (λ o. o ++ (begun b server (opened k all c)).0) s ∙ append_assoc was (doors b (opened k all c)) (begun b server (opened k all c)).0))

pub said_yes : (b t : ℕ) (c : Charge) (was room here : List Sent) → true ≡ is_due t c.age → room ≡ was → here ≡ room ++ awaited b c → here ≡ was ++ cond (is_due t c.age) (awaited b c) []
said_yes b t c was room here d r h = rw (← d, h, r)

pub said_no : (b t : ℕ) (c : Charge) (was room here : List Sent) → false ≡ is_due t c.age → room ≡ was → here ≡ room → here ≡ was ++ cond (is_due t c.age) (awaited b c) []
said_no b t c was room here d r h = rw (← d, h, r) (sym (append-nil was))
