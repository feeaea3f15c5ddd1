-- The controller's chain as the front of its array of eight. Assumes nothing.
use Rattle.std.specs.Prelude.{nat_le, position, unwrap_or}
use Rattle.std.proofs.Common.{◌≡◌, ℕ, zero, suc, ◌+◌, ◌-◌, ◌<◌, ◌≤◌, true, false, List, [], ◌∷◌, ◌++◌, length, get_or, take, drop, set, sym, refl, ap, ◌∙◌, add-one, arith}
use Rattle.std.proofs.lemmas.List.{length-take-le, length-drop, take-take}
use Rattle.std.proofs.lemmas.Bool.Decides.{nat_tests}
use Rattle.chain.specs.declared.way.Link.{Link}
use Rattle.chain.specs.declared.handover.Handover.{Handover}
use Rattle.chain.specs.declared.handover.Handover.TheVariants.{Idle, AwaitStood, AwaitTold}
use Rattle.chain.specs.Ways.{same_link}
use Rattle.chain.specs.Controllers.{Control, newest_of, above, hears_told, hears_forgotten}
use Rattle.chain.specs.Falls.{falls, awaits}

abbrev none : Link
none = record { place = 0; server = 0 }

-- the newest is the array's first
pub newest_first : (ls : List Link) (n : ℕ) → 1 ≤ n → get_or ls 0 none ≡ newest_of (take n ls)
newest_first ls zero h = absurd (omega arith)
newest_first [] (suc n) h = refl
newest_first (l ∷ ls) (suc n) h = refl

pub newest_all : (ls : List Link) → get_or ls 0 none ≡ newest_of ls
newest_all [] = refl
newest_all (l ∷ ls) = refl

-- a new newest
pub falls_more : (l : Link) (ls : List Link) → (newest_of ls).place < l.place → falls ls ≡ true → falls (l ∷ ls) ≡ true
unfolding falls
falls_more l [] h f = refl
falls_more l (m ∷ ls) h f = grind (arith, nat_tests)

-- what is left when the oldest leave
pub falls_front : (m : ℕ) (ls : List Link) → falls ls ≡ true → falls (take m ls) ≡ true
unfolding falls
falls_front zero ls f = refl
falls_front (suc m) [] f = refl
falls_front (suc zero) (l ∷ ls) f = grind (arith, nat_tests)
falls_front (suc (suc m)) (l ∷ []) f = refl
falls_front (suc (suc m)) (l ∷ k ∷ ls) f = let ih = falls_front (suc m) (k ∷ ls) in grind (arith, nat_tests)

pub above_front : (n : ℕ) (ls : List Link) → take (length (above n ls)) ls ≡ above n ls
unfolding above
above_front n [] = refl
above_front n (l ∷ ls) = let ih = above_front n ls in grind (arith, nat_tests)

pub above_short : (n : ℕ) (ls : List Link) → length (above n ls) ≤ length ls
unfolding above
above_short n [] = omega arith
above_short n (l ∷ ls) = let ih = above_short n ls in grind (arith, nat_tests)

pub above_some : (n : ℕ) (ls : List Link) → n < (newest_of ls).place → 1 ≤ length (above n ls)
unfolding above
above_some n [] h = absurd (omega arith)
above_some n (l ∷ ls) h = grind (arith, nat_tests)

-- the first that is not above n stands behind all that are
pub above_first : (n : ℕ) (ls : List Link) → unwrap_or (position (λ (l : Link). nat_le l.place n) ls) (length ls) ≡ length (above n ls)
unfolding above
above_first n [] = refl
above_first n (l ∷ ls) = let ih = above_first n ls in grind (arith, nat_tests)

-- A HANDOVER IS DONE

one_left : (xs ys : List Link) (l : Link) → length xs ≡ 1 → set (xs ++ ys) 0 l ≡ l ∷ ys
one_left [] ys l h = absurd (omega arith)
one_left (x ∷ []) ys l h = refl
one_left (x ∷ y ∷ xs) ys l h = absurd (omega arith)

-- the array turned by one, with l written in front
pub turned_front : (l : Link) (ls : List Link) (n : ℕ) → length ls ≡ 8 → n < 8 → take (n + 1) (set (drop (length ls - 1) ls ++ take (length ls - 1) ls) 0 l) ≡ l ∷ take n ls
turned_front l ls n h k =
    let e = length-drop (length ls - 1) ls in
    let s = one_left (drop (length ls - 1) ls) (take (length ls - 1) ls) l (omega arith) in
    rw (s, add-one) (ap (λ r. l ∷ r) (take-take n (length ls - 1) ls (omega arith)))

abbrev keeps : List Link → ℕ → Handover → Control
keeps ls len h = record { kept = take len ls; handover = h }

pub told_elsewhere : (n len : ℕ) (a l : Link) (ls : List Link) → 1 ≤ len → (n ≡ (get_or ls 0 none).place → ⊥) → (false, keeps ls len (AwaitTold l)) ≡ hears_told n a (keeps ls len (AwaitTold l))
told_elsewhere n len a l ls h k = let e = newest_first ls len h in grind (arith, nat_tests)

pub told_another : (n len : ℕ) (a l : Link) (ls : List Link) → same_link a l ≡ false → (false, keeps ls len (AwaitTold l)) ≡ hears_told n a (keeps ls len (AwaitTold l))
told_another n len a l ls h = grind (arith, nat_tests)

pub told_done : (n len : ℕ) (a l : Link) (ls : List Link) → 1 ≤ len → n ≡ (get_or ls 0 none).place → same_link a l ≡ true
    → (true, record { kept = l ∷ take len ls; handover = Idle }) ≡ hears_told n a (keeps ls len (AwaitTold l))
told_done n len a l ls h k s = let e = newest_first ls len h in grind (arith, nat_tests)

-- the place that is being made has room, and is above the newest
pub awaits_room : (len n : ℕ) (h : Handover) (l : Link) → h ≡ AwaitTold l → awaits len n h ≡ true → (len < 8) × (n < l.place)
awaits_room len n Idle l e a = grind arith
awaits_room len n (AwaitStood x) l e a = grind arith
awaits_room len n (AwaitTold x) l e a = grind (arith, nat_tests)

pub told_falls : (len : ℕ) (l : Link) (ls : List Link) → 1 ≤ len → (newest_of ls).place < l.place → falls (take len ls) ≡ true → falls (l ∷ take len ls) ≡ true
told_falls len l ls h k f = let e = newest_first ls len h in let d = newest_all ls in falls_more l (take len ls) (rw (← e, d) k) f

-- A PLACE IS FORGOTTEN

pub awaits_less : (k len n : ℕ) (h : Handover) → k ≤ len → awaits len n h ≡ true → awaits k n h ≡ true
awaits_less k len n Idle l a = refl
awaits_less k len n (AwaitStood x) l a = grind (arith, nat_tests)
awaits_less k len n (AwaitTold x) l a = grind (arith, nat_tests)

-- as many as are above leave just those
pub left_front : (n len : ℕ) (ls : List Link) → len ≤ length ls → take (length (above n (take len ls))) ls ≡ above n (take len ls)
left_front n len ls h =
    let k = length-take-le len ls h in
    let m = above_short n (take len ls) in
    sym (take-take (length (above n (take len ls))) len ls (omega arith)) ∙ above_front n (take len ls)

pub forgotten_not : (n len : ℕ) (ls : List Link) (h : Handover) → 1 ≤ len → (get_or ls 0 none).place ≤ n → (false, keeps ls len h) ≡ hears_forgotten n (keeps ls len h)
forgotten_not n len ls h k l = let e = newest_first ls len k in grind (arith, nat_tests)

pub forgotten_left : (n len : ℕ) (ls : List Link) (h : Handover) → 1 ≤ len → n < (get_or ls 0 none).place
    → (true, record { kept = above n (take len ls); handover = h }) ≡ hears_forgotten n (keeps ls len h)
forgotten_left n len ls h k l = let e = newest_first ls len k in grind (arith, nat_tests)
