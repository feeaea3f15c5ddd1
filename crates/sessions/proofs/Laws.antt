-- What holds of every store, and of every clock. Assumes nothing.
use Rattle.std.proofs.Common.{◌≡◌, ℕ, ◌+◌, ◌^◌, ◌<◌, ◌≤◌, true, cond, List, [], ◌∷◌, is_some, Some, None, Option, refl, ap, ◌∙◌, inl, inr, arith}
use Rattle.std.proofs.ByRecursion.{All-weaker, sum_by_le}
use Rattle.std.proofs.lemmas.Bool.{cases_Bool}
use Rattle.sessions.specs.declared.key.Key.{Key}
use Rattle.sessions.specs.declared.entry.Entry.{Entry}
use Rattle.sessions.specs.declared.store.Sessions.{Sessions}
use Rattle.sessions.specs.Clocks.{Lasting}
use Rattle.sessions.specs.Keys.{same_key, in_place}
use Rattle.sessions.specs.Entries.{seen_in, count_in}
use Rattle.sessions.specs.Model.{entries_of, Sound}
use Rattle.sessions.proofs.Same.{same_refl}
use Rattle.sessions.proofs.Changes.{count_cons, count_without}
use Rattle.sessions.proofs.Steps.{len_is}
use Rattle.sessions.proofs.Idled.{once, ascending}

empty_by : (b p : ℕ) (k : Key) (es : List Entry) (o : Option ℕ) → seen_in k es ≡ o → in_place b p k ≡ true → count_in b p es ≡ 0 → o ≡ None
empty_by b p k es None e i n = refl
empty_by b p k es (Some t) e i n = absurd (omega (arith, rw i at (count_without b p k t es e)))

busy_one : (b p : ℕ) (es : List Entry) → 0 < count_in b p es → (k : Key) × (in_place b p k ≡ true) × (is_some (seen_in k es) ≡ true)
busy_one b p [] h = absurd (omega arith)
busy_one b p (e ∷ es) h =
    elim (cases_Bool (in_place b p e.key)) [
      | inl y ↦ (e.key, y, rw (same_refl e.key))
      | inr n ↦
          let z : count_in b p (e ∷ es) ≡ 0 + count_in b p es = count_cons b p e es ∙ ap (λ q. cond q 1 0 + count_in b p es) n in
          let r = busy_one b p es (omega arith) in
          (r.0, r.1, elim (cases_Bool (same_key e.key r.0)) [ inl y ↦ rw y | inr m ↦ rw m r.2 ])
    ]

pub sound : (s : Sessions) → Sound s
sound s = record {
  single = once s;
  ordered = ascending s;
  few = omega (arith, (len_is s).0, (len_is s).1);
  empty = λ b p k i n. empty_by b p k (entries_of s) (seen_in k (entries_of s)) refl i n;
  busy = λ b p h. busy_one b p (entries_of s) h;
}

pub lasting : Lasting
lasting counts n None all few a =
    let f = All-weaker (λ m. m < 2 ^ 32) (λ m. m ≤ 4294967295) (λ m h. omega arith) counts all.1 in
    absurd (omega (arith, a, all.0, sum_by_le (λ m. m) 4294967295 counts f))
lasting counts n (Some c) all few a = refl
