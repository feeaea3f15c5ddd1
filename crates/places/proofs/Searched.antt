-- The words of the searches are the rules. Assumes nothing.
use Rattle.std.specs.Prelude.{find, position, slice_get}
use Rattle.std.specs.List.{position_or_len}
use Rattle.std.proofs.Common.{◌≡◌, ℕ, ◌-◌, Bool, eqb, List, [], ◌∷◌, length, set, Some, None, sym, refl, ◌∙◌, arith}
use Rattle.std.proofs.lemmas.Bool.Decides.{nat_tests}
use Rattle.std.proofs.lemmas.List.{set_past}
use Rattle.chain.specs.declared.place.Place.{Place}
use Rattle.places.specs.Rules.{find_in, replace_in, oldest_in}

abbrev has : ℕ → Place → Bool
has n x = eqb x.link.place n

same_test : (n m : ℕ) → eqb n m ≡ eqb m n
same_test n m = grind (arith, nat_tests)

pub found : (n : ℕ) (ps : List Place) → find_in n ps ≡ find (has n) ps
unfolding find_in
found n [] = refl
found n (x ∷ xs) = rw (same_test n x.link.place, found n xs) refl

written : (n : ℕ) (x : Place) (ps : List Place) → replace_in n x ps ≡ set ps (position_or_len (has n) ps) x
unfolding replace_in
written n x [] = refl
written n x (y ∷ ys) =
    let ih = written n x ys in
    let s = same_test n y.link.place in
    grind (arith, ih, s)

pub replaced_at : (n : ℕ) (x : Place) (ps : List Place) (i : ℕ) → position (has n) ps ≡ Some i → set ps i x ≡ replace_in n x ps
replaced_at n x ps i e = let w = written n x ps in grind (arith, w)

pub replaced_none : (n : ℕ) (x : Place) (ps : List Place) → position (has n) ps ≡ None → ps ≡ replace_in n x ps
replaced_none n x ps e = sym (written n x ps ∙ set_past ps (position_or_len (has n) ps) x (grind arith))

-- a place written anew leaves as many as there were
pub length_replace : (n : ℕ) (x : Place) (ps : List Place) → length (replace_in n x ps) ≡ length ps
unfolding replace_in
length_replace n x [] = refl
length_replace n x (y ∷ ys) = let ih = length_replace n x ys in grind arith

last : (x : Place) (ps : List Place) → oldest_in (x ∷ ps) ≡ slice_get (x ∷ ps) (length ps)
unfolding oldest_in
last x [] = refl
last x (y ∷ ys) = last y ys

pub oldest : (ps : List Place) → oldest_in ps ≡ slice_get ps (length ps - 1)
unfolding oldest_in
oldest [] = refl
oldest (x ∷ xs) = let e : length (x ∷ xs) - 1 ≡ length xs = omega arith in rw e (last x xs)
