-- The fields of a store: lists of Vecs as lists of lists, and what one changed slot leaves of the invariant. Assumes nothing.
use Rattle.std.proofs.Common.{◌≡◌, ℕ, zero, suc, ◌<◌, ◌≤◌, true, List, [], ◌∷◌, ◌++◌, map, length, get_or, vec_items, vec_len, Vec, sym, refl, ap, ◌∙◌, arith}
use Rattle.std.proofs.lemmas.List.{get_or-map, map_push, length-map}
use Rattle.std.proofs.ByRecursion.{All-push}
use Rattle.std.proofs.lemmas.List.Sums.{count_by-le-length}
use Rattle.std.specs.declared.alloc.Global.{Global}
use Rattle.std.specs.List.{AllByRecursion as All}
use Rattle.sessions.specs.declared.key.Key.{Key}
use Rattle.sessions.specs.declared.entry.Entry.{Entry}
use Rattle.sessions.specs.declared.tally.Tally.{Tally}
use Rattle.sessions.specs.Keys.{slot_of, in_place}
use Rattle.sessions.specs.Entries.{seen_in, count_in}
use Rattle.sessions.specs.Slots.{flat, tidy}
use Rattle.sessions.specs.Tallies.{tallied_in}
use Rattle.sessions.specs.Kept.{InSlots, Numbered, Listed, Tallied, NoneBefore, Bounded}
use Rattle.sessions.proofs.Same.{slot_below}
use Rattle.sessions.proofs.Files.{tidy_in, seen_flat}

-- a Vec of Vecs, as lists
pub slot_at : {X : Type 0} (vs : List (Vec X Global)) (i : ℕ) (v : Vec X Global) → i < length vs → v ≡ get_or vs i v → get_or (map vec_items vs) i [] ≡ vec_items v
slot_at vs i v h g = get_or-map vec_items vs i v [] h ∙ ap vec_items (sym g)

pub long : {X : Type 0} (v : Vec (Vec X Global) Global) → length (map vec_items (vec_items v)) ≡ 65536 → (vec_len v ≡ 65536) × (length (vec_items v) ≡ 65536)
long v e = let m = length-map (vec_items v) vec_items in (omega (arith, v.ok.0), omega arith)

-- a key is looked up in its slot
pub seen_at : (v : Vec (Vec Entry Global) Global) (k : Key) (i : ℕ) (s : Vec Entry Global) → InSlots (map vec_items (vec_items v)) → i ≡ slot_of k → s ≡ get_or (vec_items v) i s
    → seen_in k (vec_items s) ≡ seen_in k (flat (map vec_items (vec_items v)))
seen_at v k i s f e g =
    let h : i < length (vec_items v) = omega (arith, slot_below k, (long v f.0).1) in
    sym (seen_flat k (map vec_items (vec_items v)) (tidy_in 0 (map vec_items (vec_items v)) f.1) ∙ (rw (sym e, slot_at (vec_items v) i s h g)))

-- nothing but empty lists
abbrev pub Empty : {X : Type 0} → List (List X) → Type 0
Empty xss = All (λ xs. xs ≡ []) xss

pub empty_more : {X : Type 0} (vs ws : List (Vec X Global)) (v : Vec X Global) → ws ≡ vs ++ v ∷ [] → vec_items v ≡ [] → Empty (map vec_items vs) → Empty (map vec_items ws)
empty_more vs ws v e n a = rw (e, map_push vec_items vs v) (All-push (λ xs. xs ≡ []) (map vec_items vs) (vec_items v) a n)

pub empty_flat : (ss : List (List Entry)) → Empty ss → flat ss ≡ []
empty_flat [] a = refl
empty_flat (s ∷ ss) a = rw a.0 (empty_flat ss a.1)

pub empty_tidy : (n : ℕ) (ss : List (List Entry)) → Empty ss → tidy n ss ≡ true
empty_tidy n [] a = refl
empty_tidy n (s ∷ ss) a = rw a.0 (empty_tidy (suc n) ss a.1)

pub empty_at : {X : Type 0} (xss : List (List X)) (i : ℕ) → Empty xss → get_or xss i [] ≡ []
empty_at [] i a = refl
empty_at (xs ∷ xss) zero a = a.0
empty_at (xs ∷ xss) (suc i) a = empty_at xss i a.1

-- the invariant, as the parts that a store shows
abbrev pub Holds : List (List Entry) → List (List Tally) → ℕ → ℕ → List ℕ → Type 0
Holds ss ts n o bs = record {
  filing : InSlots ss;
  number : Numbered ss n;
  lists : Listed ts;
  places : Tallied ss ts;
  ages : NoneBefore ss o;
  limits : Bounded ss bs;
}

pub new_holds : (ss : List (List Entry)) (ts : List (List Tally)) (bs : List ℕ) → length ss ≡ 65536 → length ts ≡ 65536 → Empty ss → Empty ts → Holds ss ts 0 0 bs
new_holds ss ts bs l m a b = record {
  filing = (l, empty_tidy 0 ss a);
  number = (rw (empty_flat ss a), omega arith);
  lists = m;
  places = λ i p h. rw (empty_flat ss a, empty_at ts i b);
  ages = rw (empty_flat ss a);
  limits = λ i. rw (empty_at ss i a);
}

-- the tally of a place is the number of its entries, and no more than all
pub tally_at : (v : Vec (Vec Tally Global) Global) (ss : List (List Entry)) (i p : ℕ) (t : Vec Tally Global) → Listed (map vec_items (vec_items v)) → Tallied ss (map vec_items (vec_items v))
    → i < 65536 → t ≡ get_or (vec_items v) i t → tallied_in p (vec_items t) ≡ count_in i p (flat ss)
tally_at v ss i p t l f h g = ap (tallied_in p) (sym (slot_at (vec_items v) i t (omega (arith, (long v l).1)) g)) ∙ f i p h

pub count_few : (b p n : ℕ) (ss : List (List Entry)) → Numbered ss n → count_in b p (flat ss) ≤ n
count_few b p n ss h = omega (arith, count_by-le-length (λ e. in_place b p e.key) (flat ss), h.0)
