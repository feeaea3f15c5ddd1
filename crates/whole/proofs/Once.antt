-- A server's store has each session once, whatever is done to it. Assumes nothing.
use Rattle.std.proofs.Common.{◌≡◌, ℕ, ◌+◌, ◌≤◌, Bool, true, false, cond, T, ◌⊎◌, List, [], ◌∷◌, length, is_some, Some, None, Option, sym, refl, ap, ◌∙◌, subst, inl, inr, arith}
use Rattle.std.proofs.lemmas.Bool.{cases_Bool}
use Rattle.sessions.specs.declared.key.Key.{Key}
use Rattle.sessions.specs.declared.entry.Entry.{Entry}
use Rattle.sessions.specs.Keys.{same_key}
use Rattle.sessions.specs.Entries.{seen_in, Once, without, is_idle, staying, lapsed}
use Rattle.sessions.specs.Model as model
use Rattle.sessions.specs.Model.{Changed}
use Rattle.sessions.proofs.Same.{same_refl, same_eq}
use Rattle.sessions.proofs.Changes.{once_without, length_without}
use Rattle.sessions.proofs.Lapse.{seen_stays}
use Rattle.server.specs.Rules.{Effect, Same, Noted, Closed, Lapsed, Does}
use Rattle.whole.proofs.Packets.{noted_or, noted_old, noted_new}
use Rattle.whole.proofs.Closing.{without_found}

abbrev Seen : Key → List Entry → Type 0
Seen q es = T (is_some (seen_in q es))

head_or : (e : Bool) (t : ℕ) (o : Option ℕ) → T (is_some (cond e (Some t) o)) → (e ≡ true) ⊎ T (is_some o)
head_or true t o z = inl refl
head_or false t o z = inr z

tail_is_some : (e : Bool) (t : ℕ) (o : Option ℕ) → T (is_some o) → T (is_some (cond e (Some t) o))
tail_is_some true t o z = tt
tail_is_some false t o z = z

seen_or : (q : Key) (e : Entry) (es : List Entry) → Seen q (e ∷ es) → (e.key ≡ q) ⊎ Seen q es
seen_or q e es t = elim (head_or (same_key e.key q) e.seen (seen_in q es) t) [ inl z ↦ inl (same_eq e.key q z) | inr z ↦ inr z ]

seen_head : (e : Entry) (es : List Entry) → Seen e.key (e ∷ es)
seen_head e es = rw (same_refl e.key) tt

seen_tail : (q : Key) (e : Entry) (es : List Entry) → Seen q es → Seen q (e ∷ es)
seen_tail q e es t = tail_is_some (same_key e.key q) e.seen (seen_in q es) t

not_seen : (q : Key) (es : List Entry) → seen_in q es ≡ None → Seen q es → ⊥
not_seen q es e t = subst (λ z. T (is_some z)) e t

was_seen : (e : Bool) (o : Option ℕ) → T (is_some (cond e None o)) → T (is_some o)
was_seen true o t = absurd t
was_seen false o t = t

by_none : (o : Option ℕ) → (T (is_some o) → ⊥) → o ≡ None
by_none None h = refl
by_none (Some s) h = absurd (h tt)

-- one that is not taken out is still there, however often the other is
still_seen : (q k : Key) (es : List Entry) → (q ≡ k → ⊥) → Seen q es → Seen q (without k es)
still_seen q k [] ne t = t
still_seen q k (e ∷ es) ne t = elim (cases_Bool (same_key e.key k)) [
  | inl y ↦ rw y (elim (seen_or q e es t) [ inl z ↦ absurd (ne (sym z ∙ same_eq e.key k y)) | inr z ↦ z ])
  | inr n ↦ rw n (elim (seen_or q e es t) [ inl z ↦ subst (λ a. Seen a (e ∷ without k es)) z (seen_head e (without k es)) | inr z ↦ seen_tail q e (without k es) (still_seen q k es ne z) ])
]

shorter : (k : Key) (es : List Entry) (o : Option ℕ) → seen_in k es ≡ o → T (is_some o) → length (without k es) + 1 ≡ length es
shorter k es None e t = absurd t
shorter k es (Some s) e t = length_without k s es e

taken_out : (q k : Key) (es : List Entry) → Once es → Seen q (without k es) → (q ≡ k → ⊥) × Seen q es
taken_out q k es o t = (λ z. not_seen q (without k es) (without_found k es o q ∙ rw (z, same_refl k)) t, was_seen (same_key q k) (seen_in q es) (subst (λ z. T (is_some z)) (without_found k es o q) t))

-- all of xs are in ys
abbrev Covers : List Entry → List Entry → Type 0
Covers xs ys = (q : Key) → Seen q xs → Seen q ys

covers_length : (xs ys : List Entry) → Once xs → Covers xs ys → length xs ≤ length ys
covers_length [] ys o c = omega arith
covers_length (x ∷ xs) ys o c =
    let k = x.key in
    let len = shorter k ys (seen_in k ys) refl (c k (seen_head x xs)) in
    let ih = covers_length xs (without k ys) o.1 (λ q t. still_seen q k ys (λ z. not_seen k xs o.0 (subst (λ y. Seen y xs) z t)) (c q (seen_tail q x xs t))) in
    omega (arith, len, ih)

once_covers : (ys xs : List Entry) → Once xs → Covers xs ys → Covers ys xs → length ys ≡ length xs → Once ys
once_covers [] xs o c d e = tt
once_covers (y ∷ ys) xs o c d e =
    let k = y.key in
    let none : seen_in k ys ≡ None = by_none (seen_in k ys) (λ t. let le = covers_length xs ys o (λ q z. elim (seen_or q y ys (c q z)) [ inl w ↦ subst (λ a. Seen a ys) w t | inr w ↦ w ]) in omega (arith, le, e)) in
    let len = shorter k xs (seen_in k xs) refl (d k (seen_head y ys)) in (
      none,
      once_covers ys (without k xs) (once_without k xs o)
          (λ q t. let z = taken_out q k xs o t in elim (seen_or q y ys (c q z.1)) [ inl w ↦ absurd (z.0 (sym w)) | inr w ↦ w ])
          (λ q t. still_seen q k xs (λ z. not_seen k ys none (subst (λ a. Seen a ys) z t)) (d q (seen_tail q y ys t)))
          (omega (arith, len, e)),
    )

noted_once : (was after : List Entry) (k : Key) (t : ℕ) (o : Option ℕ) → seen_in k was ≡ o → Once was → Changed was after k (Some t) → Once after
noted_once was after k t (Some s) e o c = once_covers after was o (λ q z. noted_old was after k q t c z)
    (λ q z. elim (noted_or was after k q t c z) [ inl w ↦ rw w (subst (λ y. T (is_some y)) (sym e) tt) | inr w ↦ w ])
    (let z : length after + model.one (Some s) ≡ length was + 1 = subst (λ y. length after + model.one y ≡ length was + 1) e c.size in omega (arith, z))
noted_once was after k t None e o c =
    let x : Entry = record { key = k; seen = t } in
    once_covers after (x ∷ was) (e, o)
    (λ q z. elim (seen_or q x was z) [ inl w ↦ subst (λ a. Seen a after) w (noted_new was after k t c) | inr w ↦ noted_old was after k q t c w ])
    (λ q z. elim (noted_or was after k q t c z) [ inl w ↦ subst (λ a. Seen a (x ∷ was)) (sym w) (seen_head x was) | inr w ↦ seen_tail q x was w ])
    (let z : length after + model.one None ≡ length was + 1 = subst (λ y. length after + model.one y ≡ length was + 1) e c.size in omega (arith, z))

once_staying : (t : ℕ) (es : List Entry) → Once es → Once (staying t es)
once_staying t [] o = tt
once_staying t (e ∷ es) o = elim (cases_Bool (is_idle t e.seen)) [
  | inl y ↦ rw y (once_staying t es o.1)
  | inr n ↦ rw n (seen_stays t e.key es o.1 ∙ ap (lapsed t) o.0, once_staying t es o.1)
]

pub once_does : (e : Effect) (was after : List Entry) → Does e was after → Once was → Once after
once_does Same was after d o = rw d o
once_does (Noted k t) was after d o = noted_once was after k t (seen_in k was) refl o d
once_does (Closed k) was after d o = rw d (once_without k was o)
once_does (Lapsed t) was after d o = rw d (once_staying t was o)
