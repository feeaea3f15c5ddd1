-- The word of the search is the rule. Assumes nothing.
use Rattle.std.specs.Prelude.{position, remove}
use Rattle.std.specs.List.{position_or_len, refill}
use Rattle.std.proofs.Common.{◌≡◌, ℕ, zero, suc, ◌<◌, ◌≤◌, Bool, true, false, ◌&&◌, ◌||◌, eqb, List, [], ◌∷◌, ◌++◌, length, get_or, take, drop, set, Some, None, sym, refl, ap, arith}
use Rattle.std.proofs.lemmas.List.{set_split, length-set, take_all, append-nil, drop_all}
use Rattle.chain.specs.Ways.{same_link}
use Rattle.chain.specs.declared.way.Link.{Link}
use Rattle.machine.specs.declared.name.Machine.{Machine}
use Rattle.server_bucket.specs.declared.farewell.Farewell.{Farewell}
use Rattle.server_bucket.specs.Rules.{less_awaited, still_awaited, answered_in}

abbrev fits : ℕ → Link → Farewell → Bool
fits n a f = eqb n f.place && same_link a f.after

none_from : (n : ℕ) (a : Link) (by : Machine) (fs : List Farewell) → length fs ≤ position_or_len (fits n a) fs → answered_in n a by fs ≡ fs
unfolding answered_in
none_from n a by [] h = refl
none_from n a by (f ∷ fs) h = let ih = none_from n a by fs in grind (arith, ih)

pub answered_none : (n : ℕ) (a : Link) (by : Machine) (fs : List Farewell) → None ≡ position (fits n a) fs → fs ≡ answered_in n a by fs
answered_none n a by fs e = sym (none_from n a by fs (grind arith))

at_first : (n : ℕ) (a : Link) (by : Machine) (fs : List Farewell) (i : ℕ) (d : Farewell) → position_or_len (fits n a) fs ≡ i → i < length fs
    → answered_in n a by fs ≡ take i fs ++ still_awaited (less_awaited by (get_or fs i d)) (drop (suc i) fs)
unfolding answered_in
at_first n a by [] i d e h = absurd (omega arith)
at_first n a by (f ∷ fs) zero d e h = let t : fits n a f ≡ true = grind (arith, e) in rw t refl
at_first n a by (f ∷ fs) (suc i) d e h =
    let t : fits n a f ≡ false = grind (arith, e) in
    let p : position_or_len (fits n a) fs ≡ i = grind (arith, e) in
    rw t (ap (λ r. f ∷ r) (at_first n a by fs i d p (omega arith)))

first : (n : ℕ) (a : Link) (fs : List Farewell) (i : ℕ) → position (fits n a) fs ≡ Some i → (position_or_len (fits n a) fs ≡ i) × (i < length fs)
first n a fs i e = grind (arith, e)

-- f awaits less
pub answered_set : (n : ℕ) (a : Link) (by : Machine) (fs : List Farewell) (i : ℕ) (d f : Farewell) → Some i ≡ position (fits n a) fs → f ≡ less_awaited by (get_or fs i d)
    → (f.awaits_after || f.awaits_controller) ≡ true → refill (length fs) fs (set fs i f) ≡ answered_in n a by fs
answered_set n a by fs i d f e s t =
    let k = first n a fs i (sym e) in
    let l = length-set fs i f in
    rw (l, drop_all (length fs) fs (omega arith), append-nil (set fs i f), take_all (length fs) (set fs i f) (omega arith), set_split fs i f k.1, at_first n a by fs i d k.0 k.1, sym s, t) refl

-- f awaits nothing
pub answered_removed : (n : ℕ) (a : Link) (by : Machine) (fs : List Farewell) (i : ℕ) (d f : Farewell) → Some i ≡ position (fits n a) fs → f ≡ less_awaited by (get_or fs i d)
    → (f.awaits_after || f.awaits_controller) ≡ false → remove fs i ≡ answered_in n a by fs
answered_removed n a by fs i d f e s t = let k = first n a fs i (sym e) in rw (at_first n a by fs i d k.0 k.1, sym s, t) refl
