-- Searches for a server: the first that is it ends them. Assumes nothing.
use Rattle.std.proofs.Common.{◌≡◌, ℕ, suc, ◌+◌, ◌≤◌, true, false, cond, ◌||◌, List, [], ◌∷◌, ◌++◌, map, sym, refl, ap, ◌∙◌, subst, inl, inr, append_assoc, arith}
use Rattle.std.specs.List.{list_any}
use Rattle.std.proofs.lemmas.List.{append-nil}
use Rattle.std.proofs.lemmas.Bool.{cases_Bool}
use Rattle.chain.specs.declared.way.Link.{Link}
use Rattle.controller_bucket.specs.declared.kept.Bucket.{Bucket}
use Rattle.controller_bucket.specs.Rules.{Charge, oldest}
use Rattle.controller_bucket.specs.Kept.{charge}
use Rattle.controller.specs.Rules.{Ruling, up_from, is_among, goes_to, is_in_chain}
use Rattle.controller.specs.declared.status.Waiting.{Waiting}
use Rattle.controller.specs.Status.{waiting_from, may_go, go_of, leaving}
use Rattle.controller.proofs.Walks.{ups_more}

-- in a chain, or going there: of what is kept of a bucket, or of the bucket itself
pub chain_of : (s : ℕ) (cs : List Bucket) → is_in_chain s (map charge cs) ≡ list_any (λ b. is_among s (charge b).control.kept || goes_to s (charge b).control.handover) cs
chain_of s [] = refl
chain_of s (c ∷ cs) = ap (λ t. (is_among s (charge c).control.kept || goes_to s (charge c).control.handover) || t) (chain_of s cs)

-- one bucket more: put off, or not
pub waiting_yes : (b : ℕ) (c : Charge) (cs : List Charge) (l : Link) (was here : List Waiting) → true ≡ c.reported → l ≡ oldest c
    → here ≡ was ++ record { bucket = b; oldest = l } ∷ [] → here ++ waiting_from (suc b) cs ≡ was ++ waiting_from b (c ∷ cs)
unfolding waiting_from
waiting_yes b c cs l was here t f g = rw (← t, g, f) (append_assoc was (record { bucket = b; oldest = oldest c } ∷ []) (waiting_from (suc b) cs))

pub waiting_no : (b : ℕ) (c : Charge) (cs : List Charge) (was : List Waiting) → false ≡ c.reported → was ++ waiting_from (suc b) cs ≡ was ++ waiting_from b (c ∷ cs)
unfolding waiting_from
waiting_no b c cs was t = rw (← t)

pub waiting_none : (m n : ℕ) → waiting_from m [] ≡ waiting_from n []
unfolding waiting_from
waiting_none m n = refl

pub waiting_end : (b : ℕ) (cs : List Bucket) (was : List Waiting) → cs ≡ [] → was ++ waiting_from b (map charge cs) ≡ was
unfolding waiting_from
waiting_end b cs was e = rw e (append-nil was)

-- one server more: it may go, or not
go_append : (k : Ruling) (xs : List ℕ) (n : ℕ) → go_of k (xs ++ n ∷ []) ≡ go_of k xs ++ cond (may_go n k) (n ∷ []) []
unfolding go_of
go_append k [] n = refl
go_append k (x ∷ xs) n = elim (cases_Bool (may_go x k)) [ inl t ↦ rw t (ap (λ ys. x ∷ ys) (go_append k xs n)) | inr f ↦ rw f (go_append k xs n) ]

go_more : (k : Ruling) (n : ℕ) → go_of k (up_from 0 (n + 1)) ≡ go_of k (up_from 0 n) ++ cond (may_go n k) (n ∷ []) []
go_more k n = ap (go_of k) (sym (ups_more n (up_from 0 n) (up_from 0 n ++ n ∷ []) refl refl)) ∙ go_append k (up_from 0 n) n

pub go_yes : (k : Ruling) (n : ℕ) (xs ys : List ℕ) → true ≡ may_go n k → xs ≡ go_of k (up_from 0 n) → ys ≡ xs ++ n ∷ [] → ys ≡ go_of k (up_from 0 (n + 1))
go_yes k n xs ys t e f = f ∙ (ap (λ zs. zs ++ n ∷ []) e ∙ sym (subst (λ q. go_of k (up_from 0 (n + 1)) ≡ go_of k (up_from 0 n) ++ cond q (n ∷ []) []) (sym t) (go_more k n)))

pub go_no : (k : Ruling) (n : ℕ) (xs : List ℕ) → false ≡ may_go n k → xs ≡ go_of k (up_from 0 n) → xs ≡ go_of k (up_from 0 (n + 1))
go_no k n xs t e =
    e ∙ (sym (append-nil (go_of k (up_from 0 n))) ∙ sym (subst (λ q. go_of k (up_from 0 (n + 1)) ≡ go_of k (up_from 0 n) ++ cond q (n ∷ []) []) (sym t) (go_more k n)))

pub go_all : (k : Ruling) (n : ℕ) (xs : List ℕ) → n ≤ 255 → 255 ≤ n → xs ≡ go_of k (up_from 0 (n + 1)) → xs ≡ leaving k
go_all k n xs l h e = let f : n + 1 ≡ 256 = omega (arith, l, h) in subst (λ m. xs ≡ go_of k (up_from 0 m)) f e
