-- A place that may have become empty. Assumes nothing.
use Rattle.std.proofs.Common.{◌≡◌, ℕ, ◌<◌, ◌≤◌, List, [], map, length, get_or, set, Option, sym, ap, ◌∙◌, arith}
use Rattle.std.proofs.lemmas.List.{length-map, get_or_past, set_past}
use Rattle.places.specs.Rules.{oldest_in}
use Rattle.chain.specs.declared.way.Link.{Link}
use Rattle.sessions.specs.declared.entry.Entry.{Entry}
use Rattle.server_bucket.specs.declared.kept.Bucket.{Bucket}
use Rattle.server_bucket.specs.Rules as bucket
use Rattle.server_bucket.specs.Rules.{unheld, tells}
use Rattle.server_bucket.specs.Kept.{holding}
use Rattle.server.specs.Rules.{Keeping, is_empty, emptied}
use Rattle.server.specs.Kept.{left}
use Rattle.server.proofs.Buckets.{held_at}
use Rattle.server.proofs.Told.{kept, kept_set, with_holdings}

pub emptied_keeps : (n t st b m : ℕ) (es : List Entry) (bs : List Bucket) (s s' : Bucket) (lost : Option Link) (k' : Keeping) → b < length bs → s ≡ get_or bs b s
    → (lost, holding s') ≡ bucket.emptied m (is_empty b m es) (holding s) → k' ≡ left lost (kept n (set bs b s') t st) → k' ≡ (emptied b m es (kept n bs t st)).1
emptied_keeps n t st b m es bs s s' lost k' h g e k = rw (held_at bs b s h g, sym e) (k ∙ ap (left lost) (kept_set n t st b bs s'))

-- there is no such bucket
pub emptied_past : (n t st b m : ℕ) (es : List Entry) (bs : List Bucket) → length bs ≤ b → emptied b m es (kept n bs t st) ≡ ([], kept n bs t st)
unfolding oldest_in
emptied_past n t st b m es bs h =
    rw (get_or_past (map holding bs) b unheld (omega (arith, length-map bs holding))) (ap (λ hs. ([], with_holdings n t st hs)) (set_past (map holding bs) b unheld (omega (arith, length-map bs holding))))
