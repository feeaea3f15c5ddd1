-- What a balancer knows of a bucket is the highest place that it heard of. Assumes nothing.
use Rattle.std.proofs.Common.{◌≡◌, ℕ, ◌<◌, max, cond, eqb, ◌≢◌, ◌⊎◌, List, [], ◌∷◌, length, Ok, Err, Result, sym, refl, ap, ◌∙◌, subst, inl, inr, arith, length-set, get_or-set_other, get_or-set_same}
use Rattle.std.proofs.lemmas.Bool.{lt-ltb, le-ltb, eq-eqb, ne_eqb, cases_eq, cases_lt}
use Rattle.fault.specs.declared.Fault.{Fault}
use Rattle.chain.specs.declared.way.Link.{Link}
use Rattle.chain.specs.Ways.{heard_link}
use Rattle.balancer.specs.declared.News.{News}
use Rattle.balancer.specs.Rules.{link_at, kept, hears, knows, knows_all, highest, KnownOrTold}

-- what is known of a bucket after an answer
abbrev newer : Link → Result Link Fault → Link
newer known (Ok link) = link
newer known (Err f) = known

kept_here : (known : List Link) (b : ℕ) (r : Result Link Fault) → b < length known → link_at (kept b known r).1 b ≡ newer (link_at known b) r
kept_here known b (Ok link) h = get_or-set_same known b link _ h
kept_here known b (Err f) h = refl

kept_other : (known : List Link) (a b : ℕ) (r : Result Link Fault) → b ≢ a → link_at (kept a known r).1 b ≡ link_at known b
kept_other known a b (Ok link) ne = get_or-set_other known a b link _ ne
kept_other known a b (Err f) ne = refl

kept_length : (known : List Link) (b : ℕ) (r : Result Link Fault) → length (kept b known r).1 ≡ length known
kept_length known b (Ok link) = simp length-set
kept_length known b (Err f) = refl

heard_place : (known said : Link) → (newer known (heard_link known said)).place ≡ max known.place said.place
heard_place known said = grind arith

heard_either : (known said : Link) → (newer known (heard_link known said) ≡ known) ⊎ (newer known (heard_link known said) ≡ said)
heard_either known said = grind arith

hears_length : (known : List Link) (b : ℕ) (said : Link) → length (hears b said known).1 ≡ length known
hears_length known b said =
    elim (cases_lt b (length known)) [
      | inl h ↦ rw (lt-ltb b (length known) h) (kept_length known b (heard_link (link_at known b) said))
      | inr h ↦ rw (le-ltb b (length known) h)
    ]

hears_here : (known : List Link) (b : ℕ) (said : Link) → b < length known → link_at (hears b said known).1 b ≡ newer (link_at known b) (heard_link (link_at known b) said)
hears_here known b said h = rw (lt-ltb b (length known) h) (kept_here known b (heard_link (link_at known b) said) h)

hears_other : (known : List Link) (a b : ℕ) (said : Link) → b ≢ a → link_at (hears a said known).1 b ≡ link_at known b
hears_other known a b said ne =
    elim (cases_lt a (length known)) [
      | inl h ↦ rw (lt-ltb a (length known) h) (kept_other known a b (heard_link (link_at known a) said) ne)
      | inr h ↦ rw (le-ltb a (length known) h)
    ]

hears_at : (known : List Link) (a b : ℕ) (said : Link) → a ≡ b → b < length known → link_at (hears a said known).1 b ≡ newer (link_at known b) (heard_link (link_at known b) said)
hears_at known a b said e h = rw e (hears_here known b said h)

knows_place : (known : List Link) (n : News) (b : ℕ) → b < length known
    → (link_at (knows known n) b).place ≡ cond (eqb n.bucket b) (max (link_at known b).place n.newest.place) (link_at known b).place
knows_place known n b h =
    elim (cases_eq n.bucket b) [
      | inl e ↦ rw (eq-eqb n.bucket b e) (ap (λ (l : Link). l.place) (hears_at known n.bucket b n.newest e h) ∙ heard_place (link_at known b) n.newest)
      | inr ne ↦ rw (ne_eqb n.bucket b ne) (ap (λ (l : Link). l.place) (hears_other known n.bucket b n.newest (λ e. ne (sym e))))
    ]

pub highest_known : (b : ℕ) (news : List News) (known : List Link) → b < length known → (link_at (knows_all known news) b).place ≡ highest b (link_at known b).place news
highest_known b [] known h = refl
highest_known b (n ∷ news) known h =
    highest_known b news (knows known n) (omega (arith, hears_length known n.bucket n.newest))
    ∙ ap (λ place. highest b place news) (knows_place known n b h)

-- with another link known before
other_known : (b : ℕ) (known other : Link) (news : List News) (link : Link) → KnownOrTold b other news link → KnownOrTold b known news link ⊎ (link ≡ other)
other_known b known other [] link e = inr e
other_known b known other (n ∷ news) link (inl k) = elim (other_known b known other news link k) [ inl k' ↦ inl (inl k') | inr e ↦ inr e ]
other_known b known other (n ∷ news) link (inr t) = inl (inr t)

pub known_or_told : (b : ℕ) (news : List News) (known : List Link) → b < length known → KnownOrTold b (link_at known b) news (link_at (knows_all known news) b)
known_or_told b [] known h = refl
known_or_told b (n ∷ news) known h =
    let after = link_at (knows_all (knows known n) news) b in
    let Then : Link → Type 0 = λ l. KnownOrTold b l news after in
    let ih = known_or_told b news (knows known n) (omega (arith, hears_length known n.bucket n.newest)) in
    elim (cases_eq n.bucket b) [
      | inl e ↦
          let at = hears_at known n.bucket b n.newest e h in
          elim (heard_either (link_at known b) n.newest) [
            | inl same ↦ inl (subst Then (at ∙ same) ih)
            | inr new ↦ elim (other_known b (link_at known b) (link_at (knows known n) b) news after ih) [ inl k ↦ inl k | inr is ↦ inr (e, is ∙ (at ∙ new)) ]
          ]
      | inr ne ↦ inl (subst Then (hears_other known n.bucket b n.newest (λ e. ne (sym e))) ih)
    ]
