-- A session that is closed by an order. Assumes nothing.
use Rattle.std.specs.Prelude.{find}
use Rattle.std.proofs.Common.{◌≡◌, ℕ, ◌<◌, List, [], ◌∷◌, ◌++◌, map, length, get_or, is_some, Some, None, Ok, Option, sym, refl, ap, ◌∙◌, subst, arith}
use Rattle.std.proofs.lemmas.List.{append-nil, length-map}
use Rattle.flow.specs.declared.key.FlowKey.{FlowKey}
use Rattle.flow.specs.Buckets.{bucket_of}
use Rattle.chain.specs.declared.place.Place.{Place}
use Rattle.sessions.specs.declared.entry.Entry.{Entry}
use Rattle.sessions.specs.declared.key.Key.{Key}
use Rattle.sessions.specs.Entries.{seen_in, without}
use Rattle.machine.specs.declared.sent.Sent.{Sent}
use Rattle.server_bucket.specs.declared.kept.Bucket.{Bucket}
use Rattle.server_bucket.specs.Rules.{Holding, unheld}
use Rattle.server_bucket.specs.Kept.{holding}
use Rattle.server.specs.Rules.{Keeping, Ordered, Same, Closed, closes, closed_at, open_at, emptied}
use Rattle.server.specs.Kept.{Obeys}
use Rattle.server.proofs.Buckets.{held_at}
use Rattle.server.proofs.Told.{kept}

-- the first of these keys of which a session is open
abbrev pub open_in : ℕ → FlowKey → List Entry → List Place → Option Key
open_in b flow es xs = find (λ k. is_some (seen_in k es)) (map (λ x. record { bucket = b; place = x.link.place; flow = flow }) xs)

-- the order, where the session was found under that key
abbrev closed_by : Keeping → List Entry → Option Key → Ordered
closed_by k es None = record { sends = []; keeping = k; effect = Same }
closed_by k es (Some q) = record { sends = (emptied q.bucket q.place (without q es) k).0; keeping = (emptied q.bucket q.place (without q es) k).1; effect = Closed q }

closed_as : (flow : FlowKey) (b : ℕ) (k : Keeping) (es : List Entry) (xs : List Place) → closed_at flow b k es (open_at b flow es xs) ≡ closed_by k es (open_in b flow es xs)
unfolding open_at
closed_as flow b k es [] = refl
closed_as flow b k es (x ∷ xs) = let ih = closed_as flow b k es xs in grind (arith, ih)

-- in which bucket, and where it is open
closes_at : (flow : FlowKey) (n t st B b : ℕ) (es : List Entry) (bs : List Bucket) (s : Bucket) (o : Option Key) → length bs ≡ B → b ≡ bucket_of flow B → b < length bs → s ≡ get_or bs b s
    → o ≡ open_in b flow es (holding s).known.standing → closes flow (kept n bs t st) es ≡ closed_by (kept n bs t st) es o
closes_at flow n t st B b es bs s o l e h g is =
    let k = kept n bs t st in
    let f : bucket_of flow (length (map holding bs)) ≡ b = ap (bucket_of flow) (length-map bs holding ∙ l) ∙ sym e in
    ap (λ x. closed_at flow x k es (open_at x flow es (get_or (map holding bs) x unheld).known.standing)) f
    ∙ (ap (λ (y : Holding). closed_at flow b k es (open_at b flow es y.known.standing)) (held_at bs b s h g) ∙ (closed_as flow b k es (holding s).known.standing ∙ ap (closed_by k es) (sym is)))

pub closed_nowhere : (flow : FlowKey) (n t st B b : ℕ) (es : List Entry) (bs : List Bucket) (s : Bucket) (out : List Sent) → length bs ≡ B → b ≡ bucket_of flow B → b < length bs → s ≡ get_or bs b s
    → None ≡ open_in b flow es (holding s).known.standing → Obeys (closes flow (kept n bs t st) es) (Ok tt) (kept n bs t st) (kept n bs t st) es es out out
closed_nowhere flow n t st B b es bs s out l e h g is =
    let k = kept n bs t st in
    subst (λ x. Obeys x (Ok tt) k k es es out out) (sym (closes_at flow n t st B b es bs s None l e h g is)) (refl, refl, sym (append-nil out))

pub closed_there : (flow : FlowKey) (n t st B b : ℕ) (q : Key) (es es₁ es' : List Entry) (bs : List Bucket) (s : Bucket) (k' : Keeping) (out out₁ out' : List Sent) → length bs ≡ B → b ≡ bucket_of flow B → b < length bs
    → s ≡ get_or bs b s → Some q ≡ open_in b flow es (holding s).known.standing → es₁ ≡ without q es → es' ≡ es₁ → out₁ ≡ out
    → k' ≡ (emptied q.bucket q.place es₁ (kept n bs t st)).1 → out' ≡ out₁ ++ (emptied q.bucket q.place es₁ (kept n bs t st)).0 → Obeys (closes flow (kept n bs t st) es) (Ok tt) (kept n bs t st) k' es es' out out'
closed_there flow n t st B b q es es₁ es' bs s k' out out₁ out' l e h g is gone same room kk o =
    let k = kept n bs t st in
    subst (λ x. Obeys x (Ok tt) k k' es es' out out') (sym (closes_at flow n t st B b es bs s (Some q) l e h g is))
    (kk ∙ ap (λ x. (emptied q.bucket q.place x k).1) gone, same ∙ gone, o ∙ (ap (λ z. z ++ (emptied q.bucket q.place es₁ k).0) room ∙ ap (λ x. out ++ (emptied q.bucket q.place x k).0) gone))
