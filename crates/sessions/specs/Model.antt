-- A store of sessions as a finite map, and what each operation does to it. Assumes nothing.
use Rattle.std.specs.Prelude.{◌≡◌, ℕ, ◌+◌, ◌<◌, ◌≤◌, true, cond, ◌⊎◌, List, map, length, is_some, Some, None, Ok, Err, vec_items, Option, Result, Vec}
use Rattle.fault.specs.declared.Error.{Error}
use Rattle.fault.specs.declared.Error.TheVariants.{Of, Memory}
use Rattle.fault.specs.declared.Fault.TheVariants.{ServerFull}
use Rattle.std.specs.declared.alloc.Global.{Global}
use Rattle.std.specs.Map.{update}
use Rattle.sessions.specs.declared.key.Key.{Key}
use Rattle.sessions.specs.declared.entry.Entry.{Entry}
use Rattle.sessions.specs.declared.store.Sessions.{Sessions}
use Rattle.sessions.specs.Keys.{same_key, in_place}
use Rattle.sessions.specs.Entries.{seen_in, Once, count_in, idle_keys, staying, lapsed}
use Rattle.sessions.specs.Slots.{flat, Ascending}

-- the open sessions, slot after slot
unfoldable pub entries_of : Sessions → List Entry
entries_of s = flat (map vec_items (vec_items s.slots))

-- the tick of a session's last packet, if it is open
abbrev pub at : Sessions → Key → Option ℕ
at s k = seen_in k (entries_of s)

-- how many are open
abbrev pub total : Sessions → ℕ
total s = length (entries_of s)

-- how many are open in place p of bucket b
abbrev pub count_at : Sessions → ℕ → ℕ → ℕ
count_at s b p = count_in b p (entries_of s)

-- the most that a server has open
abbrev pub most : ℕ
most = 65536

abbrev pub one : Option ℕ → ℕ
one None = 0
one (Some t) = 1

-- each key stands once, in the order of the slots, there are no more than the limit, and a place counts 0 exactly where no session of it is open
pub record Sound (s : Sessions) : Type 0 where
  pub single : Once (entries_of s)
  pub ordered : Ascending (entries_of s)
  pub few : total s ≤ most
  pub empty : (b p : ℕ) (k : Key) → in_place b p k ≡ true → count_at s b p ≡ 0 → at s k ≡ None
  pub busy : (b p : ℕ) → 0 < count_at s b p → (k : Key) × (in_place b p k ≡ true) × (is_some (at s k) ≡ true)

-- what a packet at the tick t makes of a session
abbrev pub touched : ℕ → Option ℕ → Option ℕ
touched t None = None
touched t (Some s) = Some t

-- the map is another at k alone, where it is w now, and the counts are as that asks
pub record Changed (was after : List Entry) (k : Key) (w : Option ℕ) : Type 0 where
  pub found : (q : Key) → seen_in q after ≡ update same_key (λ x. seen_in x was) k w q
  pub counts : (b p : ℕ) → count_in b p after + cond (in_place b p k) (one (seen_in k was)) 0 ≡ count_in b p was + cond (in_place b p k) (one w) 0
  pub size : length after + one (seen_in k was) ≡ length was + one w

-- a session more, which was not open
abbrev pub Adding : Key → ℕ → List Entry → List Entry → Result (Unit {0}) Error → Type 0
Adding k t was after (Ok u) = Changed was after k (Some t)
Adding k t was after (Err Memory) = after ≡ was
Adding k t was after (Err (Of f)) = ⊥

-- opening a session: one that is open has the tick noted; a refusal changes nothing
abbrev pub Opening : Key → ℕ → List Entry → List Entry → Result (Unit {0}) Error → Type 0
Opening k t was after (Ok u) = Changed was after k (Some t) × ((is_some (seen_in k was) ≡ true) ⊎ (length was < most))
Opening k t was after (Err Memory) = (seen_in k was ≡ None) × (length was < most) × (after ≡ was)
Opening k t was after (Err (Of f)) = (f ≡ ServerFull) × (seen_in k was ≡ None) × (length was ≡ most) × (after ≡ was)

-- closing what is idle at the tick t: the idle ones are named, in their order, and gone; the others stay as they are
pub record Lapsed (t : ℕ) (was after : List Entry) (names : List Key) : Type 0 where
  pub named : names ≡ idle_keys t was
  pub rest : after ≡ staying t was
  pub found : (q : Key) → seen_in q after ≡ lapsed t (seen_in q was)

abbrev pub Lapsing : ℕ → List Entry → List Entry → Result (Vec Key Global) Error → Type 0
Lapsing t was after (Ok names) = Lapsed t was after (vec_items names)
Lapsing t was after (Err e) = (e ≡ Memory) × (after ≡ was)
