-- Words and numbers in a line of text, by its bytes. Assumes nothing.
use Rattle.std.specs.Prelude.{ℕ, ◌+◌, ◌-◌, ◌*◌, Bool, cond, ◌&&◌, List, [], ◌∷◌, take, drop, Some, None, Option, ◌==◌, nat_le, nat_lt, slice_index}
use Rattle.std.specs.List.{position_or_len}
use Rattle.std.specs.Borrow.{Bor}

-- the first word ends before the first space
abbrev pub word_length : List ℕ → ℕ
word_length = position_or_len (λ c. c == 32)

abbrev pub word_of : List ℕ → List ℕ
word_of line = take (word_length line) line

-- what is behind the first word, with the space
abbrev pub rest_of : List ℕ → List ℕ
rest_of line = drop (word_length line) line

abbrev pub after_space : List ℕ → Option (List ℕ)
after_space rest = cond (slice_index rest 0 == 32) (Some (drop 1 rest)) None

-- the bytes that the code refers to
abbrev pub seen : Option (Bor (List ℕ)) → Option (List ℕ)
seen (Some x) = Some x.now
seen None = None

abbrev pub is_digit : ℕ → Bool
is_digit c = nat_le 48 c && nat_le c 57

-- one digit more; numbers of ten digits and more are all too large, and need not be told apart
abbrev pub grown : ℕ → ℕ → ℕ
grown n d = cond (nat_lt n 100000000) (n * 10 + d) n

abbrev pub with_digit : ℕ → ℕ → Option ℕ
with_digit n c = cond (is_digit c) (Some (grown n (c - 48))) None

abbrev pub onward : (ℕ → Option ℕ) → Option ℕ → Option ℕ
onward go (Some n) = go n
onward go None = None

-- digits behind the number so far
unfoldable pub digits_from : ℕ → List ℕ → Option ℕ
digits_from n [] = Some n
digits_from n (c ∷ cs) = onward (λ m. digits_from m cs) (with_digit n c)

-- a number, by its decimal digits
abbrev pub numeral : List ℕ → Option ℕ
numeral [] = None
numeral (c ∷ cs) = digits_from 0 (c ∷ cs)
