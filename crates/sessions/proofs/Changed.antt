-- One slot is changed at one key: all entries are changed at that key alone, and the invariant stands. Assumes nothing.
use Rattle.std.proofs.Common.{◌≡◌, ℕ, ◌+◌, ◌/◌, ◌<◌, ◌≤◌, Bool, true, false, cond, List, [], ◌∷◌, ◌++◌, length, get_or, set, Some, None, Option, sym, refl, ◌∙◌, inl, inr, arith}
use Rattle.std.proofs.lemmas.List.{length-set, length_push, get_or-set_same, get_or-set_other}
use Rattle.std.proofs.lemmas.List.Sums.{sum_by_push}
use Rattle.std.proofs.ByRecursion.{All-weaker}
use Rattle.std.proofs.lemmas.Bool.{cases_Bool, cases_eq}
use Rattle.sessions.specs.declared.key.Key.{Key}
use Rattle.sessions.specs.declared.entry.Entry.{Entry}
use Rattle.sessions.specs.declared.tally.Tally.{Tally}
use Rattle.sessions.specs.Keys.{same_key, slot_of, in_place}
use Rattle.sessions.specs.Entries.{seen_in, noted, without, Once}
use Rattle.sessions.specs.Slots.{flat, fresh}
use Rattle.sessions.specs.Tallies.{tallied_in}
use Rattle.sessions.specs.Kept.{Bounded}
use Rattle.sessions.specs.Model.{one, touched, Changed}
use Rattle.sessions.proofs.Same.{same_eq, same_flip, slot_below}
use Rattle.sessions.proofs.Changes.{seen_push, seen_noted, seen_without, noted_miss, without_miss, count_noted, count_without, length_noted, length_without}
use Rattle.sessions.proofs.Files.{Filed, Tidy, Fresh, tidy_in, tidy_out, fresh_in, fresh_out, tidy_set, seen_flat, seen_set, all_flat_set, length_set_slot, count_set_slot}
use Rattle.sessions.proofs.Stores.{Holds}

-- at one slot
cond_none : (b : Bool) (x y : ℕ) → x ≡ y → x ≡ y + cond b 0 0
cond_none true x y e = omega arith
cond_none false x y e = omega arith

cond_some : (b : Bool) (x y : ℕ) → x ≡ y → x + cond b 0 0 ≡ y
cond_some true x y e = omega arith
cond_some false x y e = omega arith

pub nothing : (k : Key) (es : List Entry) → seen_in k es ≡ None → Changed es es k None
nothing k es n = record {
  found = λ q. elim (cases_Bool (same_key k q)) [ inl y ↦ rw (y, sym (same_eq k q y)) n | inr m ↦ rw m ];
  counts = λ b p. rw n;
  size = rw n;
}

noted_by : (k : Key) (t : ℕ) (es : List Entry) (o : Option ℕ) → seen_in k es ≡ o → Changed es (noted k t es) k (touched t o)
noted_by k t es None e = rw (noted_miss k t es e) (nothing k es e)
noted_by k t es (Some s) e = record {
  found = λ q. rw (same_flip k q) (seen_noted q k s t es e);
  counts = λ b p. rw (e, count_noted b p k t es);
  size = rw (e, length_noted k t es);
}

pub noted_slot : (k : Key) (t : ℕ) (es : List Entry) → Changed es (noted k t es) k (touched t (seen_in k es))
noted_slot k t es = noted_by k t es (seen_in k es) refl

without_by : (k : Key) (es : List Entry) (o : Option ℕ) → Once es → seen_in k es ≡ o → Changed es (without k es) k None
without_by k es None u e = rw (without_miss k es e) (nothing k es e)
without_by k es (Some s) u e = record {
  found = λ q. rw (same_flip k q) (seen_without q k es u);
  counts = λ b p. rw e (let c = count_without b p k s es e in cond_none (in_place b p k) _ _ (omega arith));
  size = rw e (omega (arith, length_without k s es e));
}

pub without_slot : (k : Key) (es : List Entry) → Once es → Changed es (without k es) k None
without_slot k es u = without_by k es (seen_in k es) u refl

pub push_slot : (k : Key) (t : ℕ) (es : List Entry) → seen_in k es ≡ None → Changed es (es ++ record { key = k; seen = t } ∷ []) k (Some t)
push_slot k t es n = record {
  found = λ q. rw (same_flip k q) (seen_push q k t es n);
  counts = λ b p. rw n (let c = sum_by_push (λ e. cond (in_place b p e.key) 1 0) es (record { key = k; seen = t }) in cond_some (in_place b p k) _ _ (omega arith));
  size = rw n (omega (arith, length_push es (record { key = k; seen = t })));
}

-- at all slots
tidy_here : (ss : List (List Entry)) (s : List Entry) (k : Key) → Tidy 0 ss → Filed (slot_of k) s → Tidy 0 (set ss (slot_of k) s)
tidy_here ss s k t f = let z : 0 + slot_of k ≡ slot_of k = omega arith in tidy_set 0 (slot_of k) s ss t (rw z f)

pub changed_all : (ss : List (List Entry)) (s : List Entry) (k : Key) (w : Option ℕ) → Tidy 0 ss → length ss ≡ 65536 → Filed (slot_of k) s
    → Changed (get_or ss (slot_of k) []) s k w → Changed (flat ss) (flat (set ss (slot_of k) s)) k w
changed_all ss s k w t l f c =
    let h : slot_of k < length ss = omega (arith, slot_below k) in
    let t' : Tidy 0 (set ss (slot_of k) s) = tidy_here ss s k t f in
    let e = seen_flat k ss t in
    record {
      found = λ q. seen_set ss s k w t t' h c.found q;
      counts = λ b p. rw e (omega (arith, count_set_slot b p ss (slot_of k) s h, c.counts b p));
      size = rw e (omega (arith, length_set_slot ss (slot_of k) s h, c.size));
    }

-- what the tallies have to be after the change
abbrev pub Retallied : List (List Tally) → List (List Tally) → Key → Option ℕ → Option ℕ → Type 0
Retallied ts ts' k v w = (b p : ℕ) → b < 65536 → tallied_in p (get_or ts' b []) + cond (in_place b p k) (one v) 0 ≡ tallied_in p (get_or ts b []) + cond (in_place b p k) (one w) 0

fresh_lower : (t u : ℕ) (es : List Entry) → u ≤ t → fresh t es ≡ true → fresh u es ≡ true
fresh_lower t u es h f = fresh_out u es (All-weaker (λ e. t ≤ e.seen) (λ e. u ≤ e.seen) (λ e x. omega arith) es (fresh_in t es f))

bounded_set : (ss : List (List Entry)) (s : List Entry) (j : ℕ) (bs bs' : List ℕ) → j < length ss → Bounded ss bs → ((g : ℕ) → get_or bs' g 0 ≤ get_or bs g 0) → Fresh (get_or bs' (j / 16) 0) s
    → Bounded (set ss j s) bs'
bounded_set ss s j bs bs' h b low f i =
    elim (cases_eq i j) [
      | inl e ↦ rw (e, get_or-set_same ss j s [] h) (fresh_out (get_or bs' (j / 16) 0) s f)
      | inr n ↦ rw (get_or-set_other ss j i s [] n) (fresh_lower (get_or bs (i / 16) 0) (get_or bs' (i / 16) 0) (get_or ss i []) (low (i / 16)) (b i))
    ]

pub changed_holds : (ss : List (List Entry)) (s : List Entry) (ts ts' : List (List Tally)) (n n' o o' : ℕ) (bs bs' : List ℕ) (k : Key) (w : Option ℕ) → Holds ss ts n o bs
    → Filed (slot_of k) s → Changed (get_or ss (slot_of k) []) s k w → Fresh o' s → o' ≤ o → length ts' ≡ 65536 → Retallied ts ts' k (seen_in k (flat ss)) w
    → n' + one (seen_in k (flat ss)) ≡ n + one w → n' ≤ 65536 → ((g : ℕ) → get_or bs' g 0 ≤ get_or bs g 0) → Fresh (get_or bs' (slot_of k / 16) 0) s → Holds (set ss (slot_of k) s) ts' n' o' bs'
changed_holds ss s ts ts' n n' o o' bs bs' k w hold f c a le l r m few low fb =
    let t = tidy_in 0 ss hold.filing.1 in
    let all = changed_all ss s k w t hold.filing.0 f c in
    let old = fresh_in o (flat ss) hold.ages in
    record {
      filing = (length-set ss (slot_of k) s ∙ hold.filing.0, tidy_out 0 (set ss (slot_of k) s) (tidy_here ss s k t f));
      number = (omega (arith, all.size, hold.number.0), few);
      lists = l;
      places = λ b p h. omega (arith, r b p h, all.counts b p, hold.places b p h);
      ages = fresh_out o' (flat (set ss (slot_of k) s)) (all_flat_set (λ e. o' ≤ e.seen) ss (slot_of k) s a (All-weaker (λ e. o ≤ e.seen) (λ e. o' ≤ e.seen) (λ e x. omega arith) (flat ss) old));
      limits = bounded_set ss s (slot_of k) bs bs' (omega (arith, slot_below k, hold.filing.0)) hold.limits low fb;
    }
