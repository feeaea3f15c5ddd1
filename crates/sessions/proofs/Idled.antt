-- Closing the idle sessions of a store. Assumes nothing.
use Rattle.std.proofs.Common.{◌≡◌, ℕ, ◌<◌, ◌≤◌, false, List, [], get_or, Err, fold, Result, Vec, sym, refl, ap, ◌∙◌}
use Rattle.fault.specs.declared.Error.{Error}
use Rattle.fault.specs.declared.Error.TheVariants.{Memory}
use Rattle.std.specs.declared.alloc.Global.{Global}
use Rattle.sessions.specs.declared.key.Key.{Key}
use Rattle.sessions.specs.declared.entry.Entry.{Entry}
use Rattle.sessions.specs.declared.store.Sessions.{Sessions}
use Rattle.sessions.specs.Entries.{seen_in, Once, without, is_idle, idle_keys, staying}
use Rattle.sessions.specs.Slots.{flat, Ascending}
use Rattle.sessions.specs.Kept.{Bounded}
use Rattle.sessions.specs.Model.{entries_of, Lapsed, Lapsing}
use Rattle.sessions.proofs.Files.{Fresh, tidy_in, fresh_in, fresh_out, once_flat, ascends_flat}
use Rattle.sessions.proofs.Stores.{Holds}
use Rattle.sessions.proofs.Steps.{slots_of, tallies_of}
use Rattle.sessions.proofs.Groups.{fresh_flat, under_all}
use Rattle.sessions.proofs.Lapse.{fresh_keys, fresh_stay, seen_stays, taken_idle}

pub once : (s : Sessions) → Once (entries_of s)
unfolding entries_of
once s = once_flat 0 (slots_of s) (tidy_in 0 (slots_of s) s.filing.1)

pub ascending : (s : Sessions) → Ascending (entries_of s)
unfolding entries_of
ascending s = ascends_flat 0 (slots_of s) (tidy_in 0 (slots_of s) s.filing.1)

pub lapsed_to : (t : ℕ) (s : Sessions) (after : List Entry) (names : List Key) → names ≡ idle_keys t (entries_of s) → after ≡ staying t (entries_of s) → Lapsed t (entries_of s) after names
lapsed_to t s after names n r = record { named = n; rest = r; found = λ q. ap (seen_in q) r ∙ seen_stays t q (entries_of s) (once s) }

aged : (s : Sessions) → Fresh s.oldest (entries_of s)
unfolding entries_of
aged s = fresh_in s.oldest (flat (slots_of s)) s.ages

pub none_idle : (t : ℕ) (s : Sessions) (names : List Key) → is_idle t s.oldest ≡ false → names ≡ [] → names ≡ idle_keys t (entries_of s)
none_idle t s names h n = n ∙ sym (fresh_keys t s.oldest (entries_of s) h (aged s))

pub all_stay : (t : ℕ) (s : Sessions) → is_idle t s.oldest ≡ false → entries_of s ≡ staying t (entries_of s)
all_stay t s h = sym (fresh_stay t s.oldest (entries_of s) h (aged s))

pub stayed : (t : ℕ) (s : Sessions) (after : List Entry) (names : List Key) → names ≡ idle_keys t (entries_of s) → after ≡ fold (λ es k. without k es) (entries_of s) names → after ≡ staying t (entries_of s)
stayed t s after names n e = e ∙ (ap (fold (λ es k. without k es) (entries_of s)) n ∙ taken_idle t (entries_of s) (once s))

pub lapsing_refused : (t : ℕ) (was after : List Entry) (r : Result (Vec Key Global) Error) → after ≡ was → (y : Error) × (r ≡ Err y) × (y ≡ Memory) → Lapsing t was after r
lapsing_refused t was after r e x = let z : r ≡ Err Memory = x.1 ∙ ap Err x.2 in rw z (refl, e)

-- the fields afterwards
pub idle_holds : (s : Sessions) (o : ℕ) (bs : List ℕ) → Bounded (slots_of s) bs → ((g : ℕ) → g < 4096 → o ≤ get_or bs g 0) → Holds (slots_of s) (tallies_of s) s.len o bs
idle_holds s o bs b le = record {
  filing = s.filing;
  number = s.number;
  lists = s.lists;
  places = s.places;
  ages = fresh_out o (flat (slots_of s)) (fresh_flat o (slots_of s) (under_all o (slots_of s) bs s.filing.0 b le));
  limits = b;
}
