-- The open sessions by place, noted one by one. Assumes nothing.
use Rattle.std.proofs.Common.{◌≡◌, ℕ, suc, ◌+◌, ◌<◌, ◌≤◌, List, [], ◌∷◌, ◌++◌, map, length, get_or, drop, sym, refl, ap, ◌∙◌, append_assoc}
use Rattle.std.proofs.lemmas.List.{at_drop_more, at_drop_all, append-nil}
use Rattle.chain.specs.declared.place.Place.{Place}
use Rattle.sessions.specs.declared.entry.Entry.{Entry}
use Rattle.server_bucket.specs.declared.kept.Bucket.{Bucket}
use Rattle.server_bucket.specs.Rules.{Holding}
use Rattle.server_bucket.specs.Kept.{holding}
use Rattle.server_bucket.proofs.Joined.{rest_more}
use Rattle.server.specs.declared.busy.Busy.{Busy}
use Rattle.server.specs.Status.{busy_at, busy_in, busy_from}

pub busy_more : (b i : ℕ) (es : List Entry) (xs : List Place) (d : Place) (out out' w : List Busy) → i < length xs → out' ≡ out ++ busy_at b (get_or xs i d).link.place es
    → out ++ busy_in b es (drop i xs) ≡ w → out' ++ busy_in b es (drop (i + 1) xs) ≡ w
unfolding busy_in
busy_more b i es xs d out out' w h o inv =
    rest_more out out' (busy_at b (get_or xs i d).link.place es) (busy_in b es (drop i xs)) (busy_in b es (drop (i + 1) xs)) w o (at_drop_more (busy_in b es) xs i d h) inv

pub busy_all : (b i : ℕ) (es : List Entry) (xs : List Place) (out w : List Busy) → length xs ≤ i → out ++ busy_in b es (drop i xs) ≡ w → out ≡ w
unfolding busy_in
busy_all b i es xs out w h inv = sym (ap (λ x. out ++ x) (at_drop_all (busy_in b es) xs i h) ∙ append-nil out) ∙ inv

pub buckets_more : (b : ℕ) (es : List Entry) (h : Holding) (hs : List Holding) (was here : List Busy) → here ≡ was ++ busy_in b es h.known.standing
    → here ++ busy_from (suc b) es hs ≡ was ++ busy_from b es (h ∷ hs)
unfolding busy_from
buckets_more b es h hs was here p = rw p (append_assoc was (busy_in b es h.known.standing) (busy_from (suc b) es hs))

pub buckets_none : (es : List Entry) (m n : ℕ) → busy_from m es [] ≡ busy_from n es []
unfolding busy_from
buckets_none es m n = refl

pub buckets_all : (b : ℕ) (es : List Entry) (bs : List Bucket) (out : List Busy) → bs ≡ [] → out ++ busy_from b es (map holding bs) ≡ out
unfolding busy_from
buckets_all b es bs out e = rw e (append-nil out)
