-- One bucket more in the list of those that change hands, and how many these are. Assumes nothing.
use Rattle.std.proofs.Common.{◌≡◌, ℕ, suc, ◌+◌, ◌<◌, ◌≤◌, cond, eqb, ltb, List, [], ◌∷◌, ◌++◌, length, filter_map, Option, None, Some, sym, refl, inl, inr, add-one, arith}
use Rattle.std.proofs.lemmas.List.{length-append}
use Rattle.std.proofs.lemmas.Bool.{lt-ltb, ne_eqb, eq-eqb, cases_eq}
use Rattle.std.specs.Option.{option_to_list}
use Rattle.std.specs.List.{AllByRecursion as All, cons_option, enumerate_from, zip}
use Rattle.assignment.specs.declared.moves.Move.{Move}
use Rattle.assignment.specs.Even.{moved}
use Rattle.assignment.specs.Moves.{handed, moves_from, CountedMoves}

-- one handover more, or none
listed_first : (o : Option Move) (rest : List Move) → option_to_list o ++ rest ≡ cons_option o rest
listed_first None rest = refl
listed_first (Some m) rest = refl

-- the buckets by their numbers, which 16 bits hold
pub moves_numbered : (b : ℕ) (xs ys : List ℕ) → b + length xs ≤ 65536 → filter_map (λ p. cond (ltb p.0 65536) (handed p.0 p.1.0 p.1.1) None) (enumerate_from b (zip xs ys)) ≡ moves_from b xs ys
moves_numbered b [] ys h = refl
moves_numbered b (x ∷ xs) [] h = refl
moves_numbered b (x ∷ xs) (y ∷ ys) h =
    let t = lt-ltb b 65536 (omega arith) in
    let next = moves_numbered (b + 1) xs ys (omega arith) in
    rw (t, next, add-one b) (sym (listed_first (handed b x y) (moves_from (suc b) xs ys)))

one_moved : (b x y : ℕ) → y < 256 → length (option_to_list (handed b x y)) ≡ cond (eqb x y) 0 1
one_moved b x y h = elim (cases_eq x y) [
  | inl e ↦ rw (eq-eqb x y e)
  | inr n ↦ rw (ne_eqb x y n, lt-ltb y 256 h)
]

counted_from : (b : ℕ) (xs ys : List ℕ) → All (λ y. y < 256) ys → length (moves_from b xs ys) ≡ moved xs ys
counted_from b [] ys a = refl
counted_from b (x ∷ xs) [] a = refl
counted_from b (x ∷ xs) (y ∷ ys) a =
    omega (arith, length-append (option_to_list (handed b x y)) (moves_from (suc b) xs ys), one_moved b x y a.0, counted_from (suc b) xs ys a.1)

pub counted_moves : CountedMoves
counted_moves xs ys a = counted_from 0 xs ys a
