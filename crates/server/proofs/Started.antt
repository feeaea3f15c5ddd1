-- The first buckets of a server, one by one. Assumes nothing.
use Rattle.std.proofs.Common.{◌≡◌, ℕ, suc, ◌+◌, ◌<◌, cond, eqb, List, [], ◌∷◌, ◌++◌, map, length, get_or, set, take, None, Result, sym, refl, ap, ◌∙◌}
use Rattle.std.proofs.lemmas.List.{take_more, map_push, length-map}
use Rattle.std.proofs.Math.Seq.{set-append_seam}
use Rattle.fault.specs.declared.Fault.{Fault}
use Rattle.places.specs.Rules.{find_in}
use Rattle.server_bucket.specs.declared.kept.Bucket.{Bucket}
use Rattle.server_bucket.specs.Rules.{Holding, unheld, held_first, stand}
use Rattle.server_bucket.specs.Kept.{holding}
use Rattle.server.specs.Rules.{first_holdings}

first_push : (n : ℕ) (ss : List ℕ) (s : ℕ) → first_holdings n (ss ++ s ∷ []) ≡ first_holdings n ss ++ cond (eqb s n) (held_first n) unheld ∷ []
unfolding first_holdings
first_push n [] s = refl
first_push n (x ∷ ss) s = ap (λ r. cond (eqb x n) (held_first n) unheld ∷ r) (first_push n ss s)

pub first_none : (n : ℕ) (bs : List Bucket) → bs ≡ [] → map holding bs ≡ first_holdings n []
unfolding first_holdings
first_none n bs e = ap (map holding) e

-- a bucket that never was is told that place 1 stands here
pub first_here : (n : ℕ) (r : Result (Unit {0}) Fault) (x h : Holding) → x ≡ unheld → (r, h) ≡ stand (record { place = 1; server = n }) None x → h ≡ held_first n
unfolding find_in
first_here n r x h e f = ap (λ p. p.1) (f ∙ ap (stand (record { place = 1; server = n }) None) e)

-- the last of a list is another
pub last_put : (bs bs' : List Bucket) (i : ℕ) (a b : Bucket) → bs' ≡ bs ++ a ∷ [] → i ≡ length bs → set bs' i b ≡ bs ++ b ∷ []
last_put bs bs' i a b e f = rw (e, f) (set-append_seam bs a [] b)

pub first_more : (n i : ℕ) (ss : List ℕ) (bs bs' : List Bucket) (b : Bucket) → i < length ss → bs' ≡ bs ++ b ∷ [] → holding b ≡ cond (eqb (get_or ss i 0) n) (held_first n) unheld
    → map holding bs ≡ first_holdings n (take i ss) → map holding bs' ≡ first_holdings n (take (i + 1) ss)
first_more n i ss bs bs' b h e f inv =
    ap (map holding) e
    ∙ (map_push holding bs b
    ∙ (ap (λ hs. hs ++ holding b ∷ []) inv
    ∙ (ap (λ x. first_holdings n (take i ss) ++ x ∷ []) f ∙ sym (ap (first_holdings n) (take_more ss i 0 h) ∙ first_push n (take i ss) (get_or ss i 0)))))

length_first : (n : ℕ) (ss : List ℕ) → length (first_holdings n ss) ≡ length ss
unfolding first_holdings
length_first n [] = refl
length_first n (s ∷ ss) = ap suc (length_first n ss)

pub one_each : (n : ℕ) (ss : List ℕ) (bs : List Bucket) → map holding bs ≡ first_holdings n ss → length bs ≡ length ss
one_each n ss bs e = sym (length-map bs holding) ∙ (ap length e ∙ length_first n ss)
