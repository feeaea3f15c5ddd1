-- Each operation at the fields of a store: its slots, its tallies, its numbers. Assumes nothing.
use Rattle.std.proofs.Common.{◌≡◌, ℕ, ◌+◌, ◌-◌, ◌/◌, ◌<◌, ◌≤◌, min, Bool, true, false, cond, eqb, List, [], ◌∷◌, ◌++◌, map, length, get_or, set, is_some, Some, None, vec_items, vec_len, Option, Vec, sym, refl, ap, ◌∙◌, inl, inr, arith}
use Rattle.std.proofs.lemmas.List.{map-set, length-set, get_or-set_same, get_or-set_other, set-get_or, set-set}
use Rattle.std.proofs.ByRecursion.{All-push, All-weaker}
use Rattle.std.proofs.lemmas.Bool.{cases_eq, ne_eqb, eq-eqb, eqb-true, false≢true}
use Rattle.std.specs.declared.alloc.Global.{Global}
use Rattle.sessions.specs.declared.key.Key.{Key}
use Rattle.sessions.specs.declared.entry.Entry.{Entry}
use Rattle.sessions.specs.declared.tally.Tally.{Tally}
use Rattle.sessions.specs.declared.store.Sessions.{Sessions}
use Rattle.sessions.specs.Keys.{slot_of, in_place}
use Rattle.sessions.specs.Entries.{seen_in, noted, without}
use Rattle.sessions.specs.Slots.{flat}
use Rattle.sessions.specs.Tallies.{tallied_in}
use Rattle.sessions.specs.Ages.{Lowered}
use Rattle.sessions.specs.Model.{entries_of, one, touched, Changed}
use Rattle.sessions.proofs.Same.{slot_below}
use Rattle.sessions.proofs.Changes.{noted_miss, without_miss, count_without, length_without, once_push, once_noted, once_without, all_noted, all_without}
use Rattle.sessions.proofs.Files.{Filed, Fresh, tidy_in, fresh_in, tidy_slot, seen_flat, all_slot, without_flat}
use Rattle.sessions.proofs.Stores.{Holds, slot_at, long, count_few}
use Rattle.sessions.proofs.Changed.{nothing, noted_slot, without_slot, push_slot, changed_all, Retallied, changed_holds}

pub none_seen : (o : Option ℕ) → is_some o ≡ false → o ≡ None
none_seen None h = refl
none_seen (Some t) h = absurd (false≢true (sym h))

pub some_seen : (o : Option ℕ) → is_some o ≡ true → (t : ℕ) × (o ≡ Some t)
some_seen None h = absurd (false≢true h)
some_seen (Some t) h = (t, refl)

-- a store's slots and tallies as lists, and its invariant
abbrev pub slots_of : Sessions → List (List Entry)
slots_of s = map vec_items (vec_items s.slots)

abbrev pub tallies_of : Sessions → List (List Tally)
tallies_of s = map vec_items (vec_items s.tallies)

abbrev pub bounds_of : Sessions → List ℕ
bounds_of s = vec_items s.bounds.ticks

pub holds : (s : Sessions) → Holds (slots_of s) (tallies_of s) s.len s.oldest (bounds_of s)
holds s = record { filing = s.filing; number = s.number; lists = s.lists; places = s.places; ages = s.ages; limits = s.limits }

pub len_is : (s : Sessions) → (s.len ≡ length (entries_of s)) × (s.len ≤ 65536)
unfolding entries_of
len_is s = s.number

pub slot_within : (s : Sessions) (k : Key) (i : ℕ) → i ≡ slot_of k → i < vec_len s.slots
slot_within s k i e = omega (arith, slot_below k, (long s.slots s.filing.0).0)

pub bucket_within : (s : Sessions) (i : ℕ) → i < 65536 → i < vec_len s.tallies
bucket_within s i h = omega (arith, (long s.tallies s.lists).0)

-- the Vec of one slot is another now
slot_set : {X : Type 0} (vs : List (Vec X Global)) (i : ℕ) (v' : Vec X Global) (xs : List X) → vec_items v' ≡ xs → map vec_items (set vs i v') ≡ set (map vec_items vs) i xs
slot_set vs i v' xs e = map-set vec_items vs i v' ∙ ap (set (map vec_items vs) i) e

-- the slot of a key
abbrev home : Sessions → Key → List Entry
home s k = get_or (slots_of s) (slot_of k) []

home_at : (s : Sessions) (k : Key) (i : ℕ) (v : Vec Entry Global) → i ≡ slot_of k → v ≡ get_or (vec_items s.slots) i v → vec_items v ≡ home s k
home_at s k i v e g =
    let h : i < length (vec_items s.slots) = omega (arith, slot_below k, (long s.slots s.filing.0).1) in
    sym (slot_at (vec_items s.slots) i v h g) ∙ ap (λ j. get_or (slots_of s) j []) e

home_filed : (s : Sessions) (k : Key) → Filed (slot_of k) (home s k)
home_filed s k = let z : 0 + slot_of k ≡ slot_of k = omega arith in rw z at (tidy_slot 0 (slot_of k) (slots_of s) (tidy_in 0 (slots_of s) s.filing.1))

home_fresh : (s : Sessions) (k : Key) (o : ℕ) → o ≤ s.oldest → Fresh o (home s k)
home_fresh s k o le =
    All-weaker (λ e. s.oldest ≤ e.seen) (λ e. o ≤ e.seen) (λ e x. omega arith) (home s k)
    (all_slot (λ e. s.oldest ≤ e.seen) (slots_of s) (slot_of k) (fresh_in s.oldest (flat (slots_of s)) s.ages))

pub home_seen : (s : Sessions) (k : Key) → seen_in k (flat (slots_of s)) ≡ seen_in k (home s k)
home_seen s k = seen_flat k (slots_of s) (tidy_in 0 (slots_of s) s.filing.1)

-- one slot is changed at one key, and the tallies with it
pub record Step (s : Sessions) (k : Key) (w : Option ℕ) (ss : List (List Entry)) (ts : List (List Tally)) (n o : ℕ) (bs : List ℕ) : Type 0 where
  pub hold : Holds ss ts n o bs
  pub change : Changed (flat (slots_of s)) (flat ss) k w

-- bounds that a slot's new entries allow
abbrev Within : Sessions → Key → List Entry → List ℕ → Type 0
Within s k es bs = ((g : ℕ) → get_or bs g 0 ≤ get_or (bounds_of s) g 0) × Fresh (get_or bs (slot_of k / 16) 0) es

-- the bounds after a packet, and as they were
home_bound : (s : Sessions) (k : Key) (b : ℕ) → b ≤ get_or (bounds_of s) (slot_of k / 16) 0 → Fresh b (home s k)
home_bound s k b le =
    All-weaker (λ e. get_or (bounds_of s) (slot_of k / 16) 0 ≤ e.seen) (λ e. b ≤ e.seen) (λ e x. omega arith) (home s k)
    (fresh_in (get_or (bounds_of s) (slot_of k / 16) 0) (home s k) (s.limits (slot_of k)))

lowered_here : (s : Sessions) (k : Key) (t i : ℕ) (bs : List ℕ) → i ≡ slot_of k → Lowered i t (bounds_of s) bs → get_or bs (slot_of k / 16) 0 ≤ t
lowered_here s k t i bs e l = rw (sym e) l.here

step_list : (s : Sessions) (k : Key) (w : Option ℕ) (es : List Entry) (ts : List (List Tally)) (n o : ℕ) (bs : List ℕ) → Filed (slot_of k) es → Changed (home s k) es k w → Fresh o es → o ≤ s.oldest
    → length ts ≡ 65536 → Retallied (tallies_of s) ts k (seen_in k (flat (slots_of s))) w → n + one (seen_in k (flat (slots_of s))) ≡ s.len + one w → n ≤ 65536 → Within s k es bs
    → Step s k w (set (slots_of s) (slot_of k) es) ts n o bs
step_list s k w es ts n o bs f c a le l r m few lim = record {
  hold = changed_holds (slots_of s) es (tallies_of s) ts s.len n s.oldest o (bounds_of s) bs k w (holds s) f c a le l r m few lim.0 lim.1;
  change = changed_all (slots_of s) es k w (tidy_in 0 (slots_of s) s.filing.1) s.filing.0 f c;
}

step_moved : (s : Sessions) (k : Key) (w : Option ℕ) (ss ss' : List (List Entry)) (ts ts' : List (List Tally)) (n o : ℕ) (bs : List ℕ) → ss' ≡ ss → ts' ≡ ts → Step s k w ss ts n o bs → Step s k w ss' ts' n o bs
step_moved s k w ss ss' ts ts' n o bs e f t = rw (e, f) t

-- the slots after a write to the Vec of one
pub slots_after : (s : Sessions) (k : Key) (i : ℕ) (v v' : Vec Entry Global) (f : List Entry → List Entry) → i ≡ slot_of k → v ≡ get_or (vec_items s.slots) i v → vec_items v' ≡ f (vec_items v)
    → map vec_items (set (vec_items s.slots) i v') ≡ set (slots_of s) (slot_of k) (f (home s k))
slots_after s k i v v' f e g h = slot_set (vec_items s.slots) i v' (f (home s k)) (h ∙ ap f (home_at s k i v e g)) ∙ ap (λ j. set (slots_of s) j (f (home s k))) e

-- a packet
one_touched : (t : ℕ) (o : Option ℕ) → one (touched t o) ≡ one o
one_touched t None = refl
one_touched t (Some s) = refl

pub touch_step : (s : Sessions) (k : Key) (t o i : ℕ) (v v' : Vec Entry Global) (bs : List ℕ) → i ≡ slot_of k → v ≡ get_or (vec_items s.slots) i v → vec_items v' ≡ noted k t (vec_items v) → o ≡ min s.oldest t → Lowered i t (bounds_of s) bs
    → Step s k (touched t (seen_in k (flat (slots_of s)))) (map vec_items (set (vec_items s.slots) i v')) (tallies_of s) s.len o bs
touch_step s k t o i v v' bs e g h m low =
    let f = home_filed s k in
    let es = noted k t (home s k) in
    let w = touched t (seen_in k (flat (slots_of s))) in
    let c : Changed (home s k) es k w = rw (home_seen s k) (noted_slot k t (home s k)) in
    let a = all_noted (λ x. o ≤ x.seen) k t (home s k) (omega arith) (home_fresh s k o (omega arith)) in
    let u = one_touched t (seen_in k (flat (slots_of s))) in
    let b = get_or bs (slot_of k / 16) 0 in
    let fb : Fresh b es = all_noted (λ x. b ≤ x.seen) k t (home s k) (lowered_here s k t i bs e low) (home_bound s k b (low.none (slot_of k / 16))) in
    step_moved s k w _ _ _ _ s.len o bs (slots_after s k i v v' (noted k t) e g h) refl
    (step_list s k w es (tallies_of s) s.len o bs (all_noted (λ x. slot_of x.key ≡ slot_of k) k t (home s k) refl f.0, once_noted k t (home s k) f.1) c a (omega arith) s.lists
    (λ x p _. rw u) (rw u) s.number.1 (low.none, fb))

pub touch_same : (s : Sessions) (k : Key) (t i : ℕ) (v v' : Vec Entry Global) → i ≡ slot_of k → v ≡ get_or (vec_items s.slots) i v → vec_items v' ≡ noted k t (vec_items v)
    → is_some (seen_in k (flat (slots_of s))) ≡ false → flat (map vec_items (set (vec_items s.slots) i v')) ≡ flat (slots_of s)
touch_same s k t i v v' e g h n =
    let z : seen_in k (home s k) ≡ None = none_seen (seen_in k (home s k)) (rw (home_seen s k) at n) in
    ap flat (slots_after s k i v v' (noted k t) e g h) ∙ (rw (noted_miss k t (home s k) z, set-get_or (slots_of s) (slot_of k) []))

-- the tallies after a write to the Vec of one bucket
pub tallies_after : (s : Sessions) (i : ℕ) (u' : Vec Tally Global) → map vec_items (set (vec_items s.tallies) i u') ≡ set (tallies_of s) i (vec_items u')
tallies_after s i u' = map-set vec_items (vec_items s.tallies) i u'

pub tallied_at : (s : Sessions) (i : ℕ) (u : Vec Tally Global) → i < 65536 → u ≡ get_or (vec_items s.tallies) i u → vec_items u ≡ get_or (tallies_of s) i []
tallied_at s i u h g = sym (slot_at (vec_items s.tallies) i u (omega (arith, (long s.tallies s.lists).1)) g)

elsewhere : (b p : ℕ) (k : Key) → (b ≡ k.bucket → ⊥) → in_place b p k ≡ false
unfolding in_place
elsewhere b p k n = rw (ne_eqb k.bucket b (λ e. n (sym e)))

within : (p : ℕ) (k : Key) → in_place k.bucket p k ≡ eqb k.place p
unfolding in_place
within p k = rw (eq-eqb k.bucket k.bucket refl)

retallied : (ts : List (List Tally)) (us : List Tally) (k : Key) (v w : Option ℕ) → k.bucket < length ts
    → ((p : ℕ) → tallied_in p us + cond (eqb k.place p) (one v) 0 ≡ tallied_in p (get_or ts k.bucket []) + cond (eqb k.place p) (one w) 0)
    → Retallied ts (set ts k.bucket us) k v w
retallied ts us k v w h f b p _ =
    elim (cases_eq b k.bucket) [
      | inl e ↦ rw (e, within p k, get_or-set_same ts k.bucket us [] h) (f p)
      | inr n ↦ rw (elsewhere b p k n, get_or-set_other ts k.bucket b us [] n)
    ]

-- a session that is open is counted in its place
pub place_has : (s : Sessions) (k : Key) (t : ℕ) → k.bucket < 65536 → seen_in k (flat (slots_of s)) ≡ Some t → 1 ≤ tallied_in k.place (get_or (tallies_of s) k.bucket [])
place_has s k t h e =
    let i : in_place k.bucket k.place k ≡ true = within k.place k ∙ eq-eqb k.place k.place refl in
    let c = rw i at (count_without k.bucket k.place k t (flat (slots_of s)) e) in
    omega (arith, c, s.places k.bucket k.place h)

pub length_has : (s : Sessions) (k : Key) (t : ℕ) → seen_in k (flat (slots_of s)) ≡ Some t → 1 ≤ s.len
length_has s k t e = omega (arith, length_without k t (flat (slots_of s)) e, s.number.0)

-- one session less
lowered_at : (a b : ℕ) (q : Bool) → a ≡ b - cond q 1 0 → (q ≡ true → 1 ≤ b) → a + cond q 1 0 ≡ b + cond q 0 0
lowered_at a b true e h = omega (arith, h refl)
lowered_at a b false e h = omega arith

pub close_step : (s : Sessions) (k : Key) (t i j : ℕ) (v v' : Vec Entry Global) (u u' : Vec Tally Global) → seen_in k (flat (slots_of s)) ≡ Some t
    → i ≡ slot_of k → v ≡ get_or (vec_items s.slots) i v → vec_items v' ≡ without k (vec_items v)
    → j ≡ k.bucket → j < 65536 → u ≡ get_or (vec_items s.tallies) j u → ((q : ℕ) → tallied_in q (vec_items u') ≡ tallied_in q (vec_items u) - cond (eqb k.place q) 1 0)
    → Step s k None (map vec_items (set (vec_items s.slots) i v')) (map vec_items (set (vec_items s.tallies) j u')) (s.len - 1) s.oldest (bounds_of s)
close_step s k t i j v v' u u' e is g h js b gu low =
    let f = home_filed s k in
    let es = without k (home s k) in
    let ts = set (tallies_of s) k.bucket (vec_items u') in
    let l = s.lists in
    let r : Retallied (tallies_of s) ts k (seen_in k (flat (slots_of s))) None =
    rw e (retallied (tallies_of s) (vec_items u') k (Some t) None (omega arith)
    (λ p. lowered_at _ _ (eqb k.place p) (low p ∙ ap (λ x. tallied_in p x - cond (eqb k.place p) 1 0) (tallied_at s j u b gu ∙ ap (λ x. get_or (tallies_of s) x []) js)) (λ y. rw (sym (eqb-true k.place p y)) (place_has s k t (omega arith) e)))) in
    step_moved s k None _ _ _ _ (s.len - 1) s.oldest (bounds_of s) (slots_after s k i v v' (without k) is g h) (tallies_after s j u' ∙ ap (λ x. set (tallies_of s) x (vec_items u')) js)
    (step_list s k None es ts (s.len - 1) s.oldest (bounds_of s) (all_without (λ x. slot_of x.key ≡ slot_of k) k (home s k) f.0, once_without k (home s k) f.1) (without_slot k (home s k) f.1)
    (all_without (λ x. s.oldest ≤ x.seen) k (home s k) (home_fresh s k s.oldest (omega arith))) (omega arith) (length-set (tallies_of s) k.bucket (vec_items u') ∙ l) r
    (rw e (omega (arith, length_has s k t e))) (omega (arith, s.number.1))
    ((λ x. omega arith), all_without (λ x. get_or (bounds_of s) (slot_of k / 16) 0 ≤ x.seen) k (home s k) (home_bound s k (get_or (bounds_of s) (slot_of k / 16) 0) (omega arith))))

pub close_rest : (s : Sessions) (k : Key) (t i : ℕ) (v v' : Vec Entry Global) → seen_in k (flat (slots_of s)) ≡ Some t → i ≡ slot_of k → v ≡ get_or (vec_items s.slots) i v
    → vec_items v' ≡ without k (vec_items v) → flat (map vec_items (set (vec_items s.slots) i v')) ≡ without k (flat (slots_of s))
close_rest s k t i v v' e is g h = ap flat (slots_after s k i v v' (without k) is g h) ∙ without_flat k t (slots_of s) (tidy_in 0 (slots_of s) s.filing.1) (sym (home_seen s k) ∙ e)

-- a session that is not open
pub slots_same : (s : Sessions) (k : Key) (i : ℕ) (v v' : Vec Entry Global) → i ≡ slot_of k → v ≡ get_or (vec_items s.slots) i v → vec_items v' ≡ vec_items v
    → map vec_items (set (vec_items s.slots) i v') ≡ slots_of s
slots_same s k i v v' is g h = slots_after s k i v v' (λ x. x) is g h ∙ set-get_or (slots_of s) (slot_of k) []

pub close_none : (s : Sessions) (k : Key) (i : ℕ) (v v' : Vec Entry Global) → is_some (seen_in k (vec_items v)) ≡ false → i ≡ slot_of k → v ≡ get_or (vec_items s.slots) i v
    → vec_items v' ≡ without k (vec_items v) → map vec_items (set (vec_items s.slots) i v') ≡ slots_of s
close_none s k i v v' n is g h = slots_same s k i v v' is g (h ∙ without_miss k (vec_items v) (none_seen (seen_in k (vec_items v)) n))

pub none_step : (s : Sessions) (k : Key) (ss : List (List Entry)) → ss ≡ slots_of s → is_some (seen_in k (flat (slots_of s))) ≡ false
    → Step s k None ss (tallies_of s) s.len s.oldest (bounds_of s) × (flat ss ≡ without k (flat (slots_of s)))
none_step s k ss e n =
    let z = none_seen (seen_in k (flat (slots_of s))) n in
    (rw e (record { hold = holds s; change = nothing k (flat (slots_of s)) z }), ap flat e ∙ sym (without_miss k (flat (slots_of s)) z))

-- one session more
pub tally_few : (s : Sessions) (k : Key) (j : ℕ) (u : Vec Tally Global) → j ≡ k.bucket → j < 65536 → u ≡ get_or (vec_items s.tallies) j u → length (flat (slots_of s)) < 65536
    → tallied_in k.place (vec_items u) < 65536
tally_few s k j u js b g few =
    omega (arith, ap (tallied_in k.place) (tallied_at s j u b g), s.places j k.place b, count_few j k.place s.len (slots_of s) s.number, s.number.0)

pub tallies_same : (s : Sessions) (j : ℕ) (u u' : Vec Tally Global) → j < 65536 → u ≡ get_or (vec_items s.tallies) j u → vec_items u' ≡ vec_items u
    → map vec_items (set (vec_items s.tallies) j u') ≡ tallies_of s
tallies_same s j u u' b g e = tallies_after s j u' ∙ (rw (e, tallied_at s j u b g) (set-get_or (tallies_of s) j []))

pub refused_holds : (s : Sessions) (ts : List (List Tally)) → ts ≡ tallies_of s → Holds (slots_of s) ts s.len s.oldest (bounds_of s)
refused_holds s ts e = rw e (holds s)

raised_at : (a b : ℕ) (q : Bool) → a ≡ b + cond q 1 0 → a + cond q 0 0 ≡ b + cond q 1 0
raised_at a b true e = omega arith
raised_at a b false e = omega arith

pub add_step : (s : Sessions) (k : Key) (t o i j : ℕ) (v v' : Vec Entry Global) (u u' : Vec Tally Global) (bs : List ℕ) → seen_in k (flat (slots_of s)) ≡ None → length (flat (slots_of s)) < 65536
    → i ≡ slot_of k → v ≡ get_or (vec_items s.slots) i v → vec_items v' ≡ vec_items v ++ record { key = k; seen = t } ∷ []
    → j ≡ k.bucket → j < 65536 → u ≡ get_or (vec_items s.tallies) j u → ((q : ℕ) → tallied_in q (vec_items u') ≡ tallied_in q (vec_items u) + cond (eqb k.place q) 1 0)
    → o ≡ min s.oldest t → Lowered i t (bounds_of s) bs
    → Step s k (Some t) (map vec_items (set (vec_items s.slots) i v')) (map vec_items (set (vec_items s.tallies) j u')) (s.len + 1) o bs
add_step s k t o i j v v' u u' bs e few is g h js b gu up m low =
    let f = home_filed s k in
    let n : seen_in k (home s k) ≡ None = sym (home_seen s k) ∙ e in
    let x : Entry = record { key = k; seen = t } in
    let es = home s k ++ x ∷ [] in
    let ts = set (tallies_of s) k.bucket (vec_items u') in
    let l = s.lists in
    let r : Retallied (tallies_of s) ts k (seen_in k (flat (slots_of s))) (Some t) =
    rw e (retallied (tallies_of s) (vec_items u') k None (Some t) (omega arith)
    (λ p. raised_at _ _ (eqb k.place p) (up p ∙ ap (λ y. tallied_in p y + cond (eqb k.place p) 1 0) (tallied_at s j u b gu ∙ ap (λ y. get_or (tallies_of s) y []) js)))) in
    let bound = get_or bs (slot_of k / 16) 0 in
    let fb : Fresh bound es = All-push (λ y. bound ≤ y.seen) (home s k) x (home_bound s k bound (low.none (slot_of k / 16))) (lowered_here s k t i bs is low) in
    step_moved s k (Some t) _ _ _ _ (s.len + 1) o bs (slots_after s k i v v' (λ ys. ys ++ x ∷ []) is g h) (tallies_after s j u' ∙ ap (λ y. set (tallies_of s) y (vec_items u')) js)
    (step_list s k (Some t) es ts (s.len + 1) o bs (All-push (λ y. slot_of y.key ≡ slot_of k) (home s k) x f.0 refl, once_push k t (home s k) f.1 n) (push_slot k t (home s k) n)
    (All-push (λ y. o ≤ y.seen) (home s k) x (home_fresh s k o (omega arith)) (omega arith)) (omega arith) (length-set (tallies_of s) k.bucket (vec_items u') ∙ l) r
    (rw e (omega arith)) (omega (arith, s.number.0)) (low.none, fb))

-- a tally raised and lowered again
zeros : (q : Bool) (a b : ℕ) → a + cond q 0 0 ≡ b + cond q 0 0 → a ≡ b
zeros true a b e = omega arith
zeros false a b e = omega arith

undone_at : (a b c : ℕ) (q : Bool) → a ≡ b - cond q 1 0 → b ≡ c + cond q 1 0 → a + cond q 0 0 ≡ c + cond q 0 0
undone_at a b c true e f = omega arith
undone_at a b c false e f = omega arith

pub undone_holds : (s : Sessions) (k : Key) (j : ℕ) (ss : List (List Entry)) (u u' w w' : Vec Tally Global) → ss ≡ slots_of s → j ≡ k.bucket → j < 65536 → u ≡ get_or (vec_items s.tallies) j u
    → ((q : ℕ) → tallied_in q (vec_items u') ≡ tallied_in q (vec_items u) + cond (eqb k.place q) 1 0)
    → w ≡ get_or (set (vec_items s.tallies) j u') j w → ((q : ℕ) → tallied_in q (vec_items w') ≡ tallied_in q (vec_items w) - cond (eqb k.place q) 1 0)
    → Holds ss (map vec_items (set (set (vec_items s.tallies) j u') j w')) s.len s.oldest (bounds_of s)
undone_holds s k j ss u u' w w' e js b g up gw low =
    let ts = set (tallies_of s) k.bucket (vec_items w') in
    let h : j < length (vec_items s.tallies) = omega (arith, (long s.tallies s.lists).1) in
    let same : w ≡ u' = gw ∙ get_or-set_same (vec_items s.tallies) j u' w h in
    let l = s.lists in
    let r : Retallied (tallies_of s) ts k None None = retallied (tallies_of s) (vec_items w') k None None (omega arith)
    (λ p. undone_at _ _ _ (eqb k.place p) (low p) (ap (λ y. tallied_in p (vec_items y)) same ∙ (up p ∙ ap (λ y. tallied_in p y + cond (eqb k.place p) 1 0) (tallied_at s j u b g ∙ ap (λ y. get_or (tallies_of s) y []) js)))) in
    let z : map vec_items (set (set (vec_items s.tallies) j u') j w') ≡ ts =
    ap (map vec_items) (set-set (vec_items s.tallies) j u' w') ∙ (tallies_after s j w' ∙ ap (λ y. set (tallies_of s) y (vec_items w')) js) in
    rw (e, z)
    (record {
      filing = s.filing;
      number = s.number;
      lists = length-set (tallies_of s) k.bucket (vec_items w') ∙ l;
      places = λ x p y. zeros (in_place x p k) _ _ (r x p y) ∙ s.places x p y;
      ages = s.ages;
      limits = s.limits;
    })
