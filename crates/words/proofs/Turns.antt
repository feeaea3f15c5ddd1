-- One digit more of a number. Assumes nothing.
use Rattle.std.proofs.Common.{◌≡◌, ℕ, ◌+◌, ◌<◌, false, eqb, List, [], ◌∷◌, length, get_or, drop, Some, None, sym, refl, ap, ◌∙◌, arith}
use Rattle.std.proofs.lemmas.List.{drop_more, drop_all}
use Rattle.words.specs.Words.{with_digit, onward, digits_from, numeral}

pub digit_turn : (n : ℕ) (ds : List ℕ) (i m : ℕ) → i < length ds → Some m ≡ with_digit n (get_or ds i 0) → digits_from n (drop i ds) ≡ digits_from m (drop (i + 1) ds)
unfolding digits_from
digit_turn n ds i m h e = ap (digits_from n) (drop_more ds i 0 h) ∙ ap (onward (λ k. digits_from k (drop (i + 1) ds))) (sym e)

pub no_digit : (n : ℕ) (ds : List ℕ) (i : ℕ) → i < length ds → None ≡ with_digit n (get_or ds i 0) → digits_from n (drop i ds) ≡ None
unfolding digits_from
no_digit n ds i h e = ap (digits_from n) (drop_more ds i 0 h) ∙ ap (onward (λ k. digits_from k (drop (i + 1) ds))) (sym e)

pub digits_end : (n : ℕ) (ds : List ℕ) (i : ℕ) → length ds ≡ i → digits_from n (drop i ds) ≡ Some n
unfolding digits_from
digits_end n ds i h = ap (digits_from n) (drop_all i ds (omega (arith, h)))

pub some_digits : (ds : List ℕ) → false ≡ eqb (length ds) 0 → digits_from 0 ds ≡ numeral ds
some_digits [] h = grind arith
some_digits (c ∷ cs) h = refl
