-- Two digits more. Assumes nothing.
use Rattle.std.proofs.Common.{◌≡◌, ℕ, ◌<◌, List, [], ◌∷◌, ◌++◌, length, min, Ok, refl, ap, arith}
use Rattle.lines.specs.Lines.{byte_in, onward, bytes_from}

pub pair_turn : (done left pair rest : List ℕ) → left ≡ pair ++ rest → length pair ≡ min 2 (length left) → 0 < length left
    → bytes_from done left ≡ onward (λ b. bytes_from (done ++ b ∷ []) rest) (byte_in pair)
unfolding bytes_from
pair_turn done left [] rest e n h = absurd (omega (arith, n, h))
pair_turn done left (c ∷ []) [] e n h = ap (bytes_from done) e
pair_turn done left (c ∷ []) (r ∷ rs) e n h = absurd (omega (arith, n, h, ap length e))
pair_turn done left (c ∷ d ∷ []) rest e n h = ap (bytes_from done) e
pair_turn done left (c ∷ d ∷ x ∷ xs) rest e n h = absurd (omega (arith, n, h))

pub none_left : (done left : List ℕ) → length left ≡ 0 → bytes_from done left ≡ Ok done
unfolding bytes_from
none_left done [] h = refl
none_left done (c ∷ cs) h = absurd (omega (arith, h))
