-- What a message about one bucket makes of all that a server keeps. Assumes nothing.
use Rattle.std.proofs.Common.{◌≡◌, ℕ, ◌<◌, ◌≤◌, Bool, true, false, cond, List, [], ◌∷◌, map, length, get_or, set, Some, None, Ok, Err, Option, Result, ◌==◌, sym, refl, ap, ◌∙◌, arith}
use Rattle.std.proofs.lemmas.List.{map-set}
use Rattle.fault.specs.declared.Fault.{Fault}
use Rattle.fault.specs.declared.Fault.TheVariants.{NoSuch, UnknownPlace}
use Rattle.sessions.specs.declared.entry.Entry as session
use Rattle.chain.specs.declared.way.Link.{Link}
use Rattle.wire.specs.declared.message.Control.{Control}
use Rattle.wire.specs.declared.message.Control.TheVariants as control
use Rattle.machine.specs.declared.name.Machine.{Machine}
use Rattle.machine.specs.declared.sent.Sent.{Sent}
use Rattle.server_bucket.specs.declared.kept.Bucket.{Bucket}
use Rattle.server_bucket.specs.Rules.{Holding, unheld, stand, freed, answered, tells}
use Rattle.server_bucket.specs.Kept.{holding}
use Rattle.server.specs.Rules.{Keeping, answer_to, standing, changing, keeps, told, told_of, room_in, room_for, bucket_in, is_bucket, is_empty, holding_at}
use Rattle.server.specs.Kept.{left}
use Rattle.server.proofs.Buckets.{held_at, same_set, within_buckets}

abbrev pub kept : ℕ → List Bucket → ℕ → ℕ → Keeping
kept n bs t st = record { number = n; holdings = map holding bs; tick = t; stood = st }

abbrev pub with_holdings : ℕ → ℕ → ℕ → List Holding → Keeping
with_holdings n t st hs = record { number = n; holdings = hs; tick = t; stood = st }

-- one bucket is another now
pub kept_set : (n t st b : ℕ) (bs : List Bucket) (s' : Bucket) → kept n (set bs b s') t st ≡ keeps b (holding s') None (kept n bs t st)
kept_set n t st b bs s' = ap (with_holdings n t st) (map-set holding bs b s')

-- one bucket is as it was
pub kept_same : (n t st b : ℕ) (bs : List Bucket) (s s' : Bucket) → b < length bs → s ≡ get_or bs b s → holding s' ≡ holding s → kept n (set bs b s') t st ≡ kept n bs t st
kept_same n t st b bs s s' h g e = ap (with_holdings n t st) (same_set bs b s s' h g e)

pub stood_did : (from : Machine) (c : Control) (n t st b : ℕ) (bs : List Bucket) (s s' : Bucket) (l : Link) (before : Option Link)
    → b < length bs → s ≡ get_or bs b s → (Ok tt, holding s') ≡ stand l before (holding s)
    → standing from c b (kept n bs t st) (stand l before (get_or (map holding bs) b unheld)) ≡ Ok (answer_to from c ∷ [], kept n (set bs b s') t st)
stood_did from c n t st b bs s s' l before h g e = rw (held_at bs b s h g, sym e) (ap (λ x. Ok (answer_to from c ∷ [], x)) (sym (kept_set n t st b bs s')))

pub stood_not : (from : Machine) (c : Control) (n t st b : ℕ) (bs : List Bucket) (s s' : Bucket) (l : Link) (before : Option Link) (f : Fault)
    → b < length bs → s ≡ get_or bs b s → (Err f, holding s') ≡ stand l before (holding s)
    → standing from c b (kept n bs t st) (stand l before (get_or (map holding bs) b unheld)) ≡ Err f
stood_not from c n t st b bs s s' l before f h g e = rw (held_at bs b s h g, sym e) refl

-- by a message that may make a place forgotten
pub changed_did : (rule : Holding → Result (Option Link) Fault × Holding) (from : Machine) (c : Control) (n t st b m : ℕ) (bs : List Bucket) (s s' : Bucket) (gone : Option Link)
    → b < length bs → s ≡ get_or bs b s → (Ok gone, holding s') ≡ rule (holding s)
    → changing from c b m (kept n bs t st) (rule (get_or (map holding bs) b unheld)) ≡ Ok (answer_to from c ∷ tells b m gone, left gone (kept n (set bs b s') t st))
changed_did rule from c n t st b m bs s s' lost h g e = rw (held_at bs b s h g, sym e) (ap (λ x. Ok (answer_to from c ∷ tells b m lost, left lost x)) (sym (kept_set n t st b bs s')))

pub changed_not : (rule : Holding → Result (Option Link) Fault × Holding) (from : Machine) (c : Control) (n t st b m : ℕ) (bs : List Bucket) (s s' : Bucket) (f : Fault)
    → b < length bs → s ≡ get_or bs b s → (Err f, holding s') ≡ rule (holding s)
    → changing from c b m (kept n bs t st) (rule (get_or (map holding bs) b unheld)) ≡ Err f
changed_not rule from c n t st b m bs s s' f h g e = rw (held_at bs b s h g, sym e) refl

pub heard_did : (by : Machine) (n t st b m : ℕ) (a : Link) (bs : List Bucket) (s s' : Bucket) → b < length bs → s ≡ get_or bs b s → holding s' ≡ answered m a by (holding s)
    → kept n (set bs b s') t st ≡ keeps b (answered m a by (get_or (map holding bs) b unheld)) None (kept n bs t st)
heard_did by n t st b m a bs s s' h g e = kept_set n t st b bs s' ∙ ap (λ x. keeps b x None (kept n bs t st)) (e ∙ ap (answered m a by) (sym (held_at bs b s h g)))

-- which message it is
pub told_as : (from : Machine) (c c' : Control) (n t st : ℕ) (bs : List Bucket) (es : List session.Entry) (r : Result (List Sent × Keeping) Fault) → c ≡ c' → bucket_in c' < length bs
    → told_of from c' c' (kept n bs t st) es ≡ r → told from c (kept n bs t st) es ≡ r
told_as from c c' n t st bs es r e h d = rw (e, within_buckets bs (bucket_in c') h) d

not_refused : {A : Type 0} (q : Bool) (x : Result A Fault) (f : Fault) (y : A) → cond q x (Err f) ≡ Ok y → x ≡ Ok y
not_refused true x f y e = e
not_refused false x f y e = cc

standing_sends : (from : Machine) (c : Control) (b : ℕ) (k : Keeping) (r : Result (Unit {0}) Fault × Holding) (p : List Sent × Keeping) → standing from c b k r ≡ Ok p → length p.0 ≤ 1
standing_sends from c b k (Ok u, h) p e = grind arith
standing_sends from c b k (Err f, h) p e = cc

changing_sends : (from : Machine) (c : Control) (b n : ℕ) (k : Keeping) (r : Result (Option Link) Fault × Holding) (p : List Sent × Keeping) → changing from c b n k r ≡ Ok p → length p.0 ≤ 3
changing_sends from c b n k (Ok None, h) p e = grind arith
changing_sends from c b n k (Ok (Some a), h) p e = grind arith
changing_sends from c b n k (Err f, h) p e = cc

sends_in : (from : Machine) (c c' : Control) (k : Keeping) (es : List session.Entry) (n : ℕ) (p : List Sent × Keeping) → room_in c k ≡ Ok n → told_of from c' c k es ≡ Ok p → length p.0 ≤ n
sends_in from (control.Stand b m before) c' k es n p r t = let h = standing_sends from c' b k _ p t in grind arith
sends_in from (control.Behind b m a) c' k es n p r t = let h = changing_sends from c' b m k _ p t in grind arith
sends_in from (control.Door b l) c' k es n p r t = cc
sends_in from (control.Forgotten b m a) c' k es n p r t =
    let mine = a.server == k.number in
    let h = changing_sends from c' b a.place k (freed a.place m (is_empty b a.place es) (holding_at b k)) p (not_refused mine _ UnknownPlace p t) in
    let e = not_refused mine (Ok 3) UnknownPlace n r in
    grind arith

-- room is made for all that is sent
pub sends_fit : (from : Machine) (c : Control) (k : Keeping) (es : List session.Entry) (n : ℕ) (p : List Sent × Keeping) → room_for c k ≡ Ok n → told from c k es ≡ Ok p → length p.0 ≤ n
sends_fit from c k es n p r t =
    let held = is_bucket (bucket_in c) k in
    sends_in from c c k es n p (not_refused held (room_in c k) NoSuch n r) (not_refused held (told_of from c c k es) NoSuch p t)
