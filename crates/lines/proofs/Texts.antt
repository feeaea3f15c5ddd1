-- One byte more, in hex. Assumes nothing.
use Rattle.std.proofs.Common.{◌≡◌, ℕ, ◌+◌, ◌/◌, ◌%◌, ◌<◌, List, [], ◌∷◌, ◌++◌, length, get_or, take, ap, ◌∙◌, sym, append_assoc}
use Rattle.std.proofs.lemmas.List.{take_more, flat_map_more}
use Rattle.lines.specs.Lines.{hex_of, hex_text}

abbrev two : ℕ → List ℕ
two b = hex_of (b / 16) ∷ hex_of (b % 16) ∷ []

byte_more : (bs : List ℕ) (i : ℕ) → i < length bs → hex_text (take i bs) ++ two (get_or bs i 0) ≡ hex_text (take (i + 1) bs)
byte_more bs i h = flat_map_more two [] (take i bs) (get_or bs i 0) ∙ ap hex_text (sym (take_more bs i 0 h))

pub byte_turn : (was out out' bs : List ℕ) (i : ℕ) → i < length bs → out ≡ was ++ hex_text (take i bs) → out' ≡ out ++ hex_of (get_or bs i 0 / 16) ∷ hex_of (get_or bs i 0 % 16) ∷ []
    → out' ≡ was ++ hex_text (take (i + 1) bs)
byte_turn was out out' bs i h e w =
    w ∙ (ap (λ x. x ++ two (get_or bs i 0)) e ∙ (append_assoc was (hex_text (take i bs)) (two (get_or bs i 0)) ∙ ap (λ x. was ++ x) (byte_more bs i h)))
