-- Ticks at a server, bucket by bucket and session by session. Assumes nothing.
use Rattle.std.proofs.Common.{◌≡◌, ℕ, suc, ◌+◌, ◌<◌, ◌≤◌, List, [], ◌∷◌, ◌++◌, map, length, get_or, take, drop, set, IfOk, Ok, Err, Result, sym, refl, ap, ◌∙◌, append_assoc, arith, MatchResult}
use Rattle.std.proofs.lemmas.List.Edits.{map_over_more}
use Rattle.std.proofs.lemmas.List.{map-set, get_or-map, length-map, length-take, append-nil, take-append-le, at_drop_more, at_drop_all}
use Rattle.sessions.specs.declared.entry.Entry.{Entry}
use Rattle.sessions.specs.declared.key.Key.{Key}
use Rattle.sessions.specs.Entries.{idle_keys}
use Rattle.machine.specs.declared.sent.Sent.{Sent}
use Rattle.server_bucket.specs.declared.kept.Bucket.{Bucket}
use Rattle.server_bucket.specs.Rules as bucket
use Rattle.server_bucket.specs.Rules.{Holding, passed}
use Rattle.server_bucket.specs.Kept.{holding}
use Rattle.server_bucket.proofs.Joined.{rest_more}
use Rattle.server.specs.Rules.{Keeping, due_from, emptied, emptied_all}

-- WHAT IS DUE

pub due_more : (t b : ℕ) (h : Holding) (hs : List Holding) (was here : List Sent) → here ≡ was ++ bucket.due b t h → here ++ due_from (suc b) t hs ≡ was ++ due_from b t (h ∷ hs)
unfolding due_from
due_more t b h hs was here p = rw p (append_assoc was (bucket.due b t h) (due_from (suc b) t hs))

pub due_none : (t m n : ℕ) → due_from m t [] ≡ due_from n t []
unfolding due_from
due_none t m n = refl

pub due_all : (t b : ℕ) (bs : List Bucket) (out : List Sent) → bs ≡ [] → out ++ due_from b t (map holding bs) ≡ out
unfolding due_from
due_all t b bs out e = rw e (append-nil out)

-- what was there stays in front
pub in_front : (was out out' x : List Sent) → out' ≡ out ++ x → take (length was) out ≡ was → take (length was) out' ≡ was
in_front was out out' x o f =
    let l = ap length f in
    let m = length-take (length was) out in
    ap (take (length was)) o ∙ (take-append-le (length was) out x (omega arith) ∙ f)

pub both_made : {E : Type 0} (r : Result (Unit {0}) E) (A B C : Type 0) → A → IfOk r (λ _. B) → C → MatchResult r (λ _. A × B) (λ _. C)
both_made (Ok u) A B C a b c = (a, b)
both_made (Err e) A B C a b c = c

-- ALL BUCKETS GROW OLDER

pub pass_more : (t i : ℕ) (bs bs₀ : List Bucket) (s s' : Bucket) → i < length bs₀ → length bs ≡ length bs₀ → s ≡ get_or bs i s → holding s' ≡ passed t (holding s)
    → map holding bs ≡ map (passed t) (take i (map holding bs₀)) ++ drop i (map holding bs₀)
    → map holding (set bs i s') ≡ map (passed t) (take (i + 1) (map holding bs₀)) ++ drop (i + 1) (map holding bs₀)
pass_more t i bs bs₀ s s' h l g e inv =
    map-set holding bs i s'
    ∙ (ap (set (map holding bs) i) e
    ∙ map_over_more (passed t) (map holding bs₀) (map holding bs) i (holding s) (omega (arith, length-map bs₀ holding)) inv (sym (get_or-map holding bs i s (holding s) (omega arith) ∙ ap holding (sym g))))

-- SESSIONS THAT ARE CLOSED

all_at : (qs : List Key) (i : ℕ) (d : Key) (es : List Entry) (k : Keeping) → i < length qs
    → emptied_all (drop i qs) es k
    ≡ ((emptied (get_or qs i d).bucket (get_or qs i d).place es k).0 ++ (emptied_all (drop (i + 1) qs) es (emptied (get_or qs i d).bucket (get_or qs i d).place es k).1).0, (emptied_all (drop (i + 1) qs) es (emptied (get_or qs i d).bucket (get_or qs i d).place es k).1).1)
unfolding emptied_all
all_at qs i d es k h = at_drop_more (λ xs. emptied_all xs es k) qs i d h

pub all_more : (qs : List Key) (i : ℕ) (d : Key) (es es' : List Entry) (k k' v : Keeping) (out out' w : List Sent) → i < length qs → es' ≡ es
    → out' ≡ out ++ (emptied (get_or qs i d).bucket (get_or qs i d).place es' k).0 → k' ≡ (emptied (get_or qs i d).bucket (get_or qs i d).place es' k).1
    → out ++ (emptied_all (drop i qs) es k).0 ≡ w → (emptied_all (drop i qs) es k).1 ≡ v
    → (out' ++ (emptied_all (drop (i + 1) qs) es k').0 ≡ w) × ((emptied_all (drop (i + 1) qs) es k').1 ≡ v)
all_more qs i d es es' k k' v out out' w h e o kk sent left =
    let b = (get_or qs i d).bucket in
    let n = (get_or qs i d).place in
    let a = emptied b n es k in
    let step = all_at qs i d es k h in
    let k≡ : k' ≡ a.1 = kk ∙ ap (λ x. (emptied b n x k).1) e in
    let o≡ : out' ≡ out ++ a.0 = o ∙ ap (λ x. out ++ (emptied b n x k).0) e in
    let m : (emptied_all (drop i qs) es k).0 ≡ a.0 ++ (emptied_all (drop (i + 1) qs) es k').0
    = ap (λ (p : List Sent × Keeping). p.0) step ∙ ap (λ x. a.0 ++ (emptied_all (drop (i + 1) qs) es x).0) (sym k≡) in (
      rest_more out out' a.0 (emptied_all (drop i qs) es k).0 (emptied_all (drop (i + 1) qs) es k').0 w o≡ m sent,
      ap (λ x. (emptied_all (drop (i + 1) qs) es x).1) k≡ ∙ (sym (ap (λ (p : List Sent × Keeping). p.1) step) ∙ left),
    )

pub all_none : (qs : List Key) (i : ℕ) (es : List Entry) (k : Keeping) → length qs ≤ i → emptied_all (drop i qs) es k ≡ ([], k)
unfolding emptied_all
all_none qs i es k h = at_drop_all (λ xs. emptied_all xs es k) qs i h

pub idle_few : (t : ℕ) (es : List Entry) → length (idle_keys t es) ≤ length es
idle_few t [] = omega arith
idle_few t (e ∷ es) = let ih = idle_few t es in grind arith
