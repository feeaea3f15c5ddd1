-- The four steps of the reversal: the first three turn each byte, by one test at each of its 256 values, and the last one the two bytes. Assumes nothing.
use Rattle.std.proofs.Common.{◌≡◌, ℕ, zero, suc, ◌+◌, ◌-◌, ◌*◌, ◌/◌, ◌%◌, ◌^◌, ◌<◌, true, eqb, sym, refl, ap, ◌∙◌, subst, mul_assoc, mul_comm, add-mul, one-add, arith}
use lib.Bits.{bit_and, bit_or, and_block, or_block, and_zero_r, or_shifted, and_le_r, or_lt}
use Rattle.std.proofs.lemmas.Nat.{pow-add, div_below, mod_below, div-add-mod', shr-shr, mul-le}
use Rattle.std.proofs.lemmas.Bool.Decides.{Decides-eqb}
use Rattle.flow.proofs.Every.{every, below}
use Rattle.flow.specs.Mix.{reversed, reversed_from, bit}

-- neighbours change places, in a number below `top`
abbrev swapped_in : ℕ → ℕ → ℕ → ℕ → ℕ
swapped_in top mask by x = bit_or (bit_and x mask * by % top) (bit_and (x / by) mask)

abbrev swapped : ℕ → ℕ → ℕ → ℕ
swapped mask by x = swapped_in 65536 mask by x

abbrev ends : ℕ → ℕ
ends x = bit_or (x * 256 % 65536) (x / 256)

abbrev pub steps : ℕ → ℕ
steps x = ends (swapped 3855 16 (swapped 13107 4 (swapped 21845 2 x)))

-- the same in a byte
byte : ℕ → ℕ
byte y = swapped_in 256 15 16 (swapped_in 256 51 4 (swapped_in 256 85 2 y))

computed : every (λ y. eqb (byte y) (reversed_from y 8)) 256 ≡ true
unfolding every byte reversed_from
computed = refl

byte_reverse : (y : ℕ) → y < 256 → byte y ≡ reversed_from y 8
byte_reverse = (below (λ y. eqb (byte y) (reversed_from y 8)) (λ y. byte y ≡ reversed_from y 8) (λ y. Decides-eqb (byte y) (reversed_from y 8)) 256).0 computed

-- what a mask leaves of a byte stays within the byte when it is moved up
moved_up : (y m by : ℕ) → m * by < 256 → bit_and y m * by < 256
moved_up y m by h = omega (arith, mul-le (bit_and y m) by m by (and_le_r y m) (omega arith))

byte_below : (y m by : ℕ) → m < 256 → m * by < 256 → swapped_in 256 m by y < 256
byte_below y m by l h = or_lt 8 (bit_and y m * by % 256) (bit_and (y / by) m) (mod_below (bit_and y m * by) 256 (omega arith)) (omega (arith, and_le_r (y / by) m))

-- a step of two bytes is the step of each, where the mask keeps what comes down from the other byte out
two_bytes : (m by k h l : ℕ) → m < 2 ^ k → m < 256 → m * by < 256 → l < 256
    → (h * 256 + l) / by ≡ (h / by) * 256 + ((h % by) * 2 ^ k + l / by) → (h % by) * 2 ^ k + l / by < 256 → l / by < 2 ^ k
    → swapped (m * 256 + m) by (h * 256 + l) ≡ swapped_in 256 m by h * 256 + swapped_in 256 m by l
two_bytes m by k h l small low fits byteL down part rest =
    let a = bit_and h m in
    let b = bit_and l m in
    let u = moved_up h m by fits in
    let v = moved_up l m by fits in
    let up : bit_and (h * 256 + l) (m * 256 + m) * by % 65536 ≡ (a * by % 256) * 256 + b * by % 256 =
    let e : (a * 256 + b) * by ≡ (a * by) * 256 + b * by = add-mul (a * 256) b by ∙ ap (λ n. n + b * by) (mul_assoc a 256 by ∙ (ap (λ n. a * n) (mul_comm 256 by) ∙ sym (mul_assoc a by 256))) in
    rw (and_block 8 h m l m byteL low, e) (omega arith) in
    let kept : bit_and ((h % by) * 2 ^ k + l / by) m ≡ bit_and (l / by) m =
    let z : 0 * 2 ^ k + m ≡ m = omega arith in
    subst (λ n. bit_and ((h % by) * 2 ^ k + l / by) n ≡ bit_and (l / by) m) z (and_block k (h % by) 0 (l / by) m rest small ∙ rw (and_zero_r (h % by)) (omega arith)) in
    let lower : bit_and ((h * 256 + l) / by) (m * 256 + m) ≡ bit_and (h / by) m * 256 + bit_and (l / by) m =
    rw (down, and_block 8 (h / by) m ((h % by) * 2 ^ k + l / by) m part low, kept) in
    rw (up, lower) (or_block 8 (a * by % 256) (bit_and (h / by) m) (b * by % 256) (bit_and (l / by) m) (mod_below (b * by) 256 (omega arith)) (omega (arith, and_le_r (l / by) m)))

by_two : (h l : ℕ) → h < 256 → l < 256 → swapped 21845 2 (h * 256 + l) ≡ swapped_in 256 85 2 h * 256 + swapped_in 256 85 2 l
by_two h l p q = two_bytes 85 2 7 h l (omega arith) (omega arith) (omega arith) q (omega arith) (omega arith) (omega arith)

by_four : (h l : ℕ) → h < 256 → l < 256 → swapped 13107 4 (h * 256 + l) ≡ swapped_in 256 51 4 h * 256 + swapped_in 256 51 4 l
by_four h l p q = two_bytes 51 4 6 h l (omega arith) (omega arith) (omega arith) q (omega arith) (omega arith) (omega arith)

by_sixteen : (h l : ℕ) → h < 256 → l < 256 → swapped 3855 16 (h * 256 + l) ≡ swapped_in 256 15 16 h * 256 + swapped_in 256 15 16 l
by_sixteen h l p q = two_bytes 15 16 4 h l (omega arith) (omega arith) (omega arith) q (omega arith) (omega arith) (omega arith)

ends_turn : (h l : ℕ) → h < 256 → l < 256 → ends (h * 256 + l) ≡ l * 256 + h
ends_turn h l p q =
    let a : (h * 256 + l) * 256 % 65536 ≡ l * 256 = omega arith in
    let b : (h * 256 + l) / 256 ≡ h = omega arith in
    rw (a, b) (or_shifted l 8 h p)

bytes_turn : (h l : ℕ) → h < 256 → l < 256 → steps (h * 256 + l) ≡ byte l * 256 + byte h
unfolding byte
bytes_turn h l p q =
    let h₁ = swapped_in 256 85 2 h in
    let l₁ = swapped_in 256 85 2 l in
    let h₂ = swapped_in 256 51 4 h₁ in
    let l₂ = swapped_in 256 51 4 l₁ in
    let e₁ = by_two h l p q in
    let e₂ = by_four h₁ l₁ (byte_below h 85 2 (omega arith) (omega arith)) (byte_below l 85 2 (omega arith) (omega arith)) in
    let e₃ = by_sixteen h₂ l₂ (byte_below h₁ 51 4 (omega arith) (omega arith)) (byte_below l₁ 51 4 (omega arith) (omega arith)) in
    ap (λ n. ends (swapped 3855 16 (swapped 13107 4 n))) e₁ ∙ (ap (λ n. ends (swapped 3855 16 n)) e₂ ∙ (ap ends e₃
    ∙ ends_turn (swapped_in 256 15 16 h₂) (swapped_in 256 15 16 l₂) (byte_below h₂ 15 16 (omega arith) (omega arith)) (byte_below l₂ 15 16 (omega arith) (omega arith))))

-- the definition turns two bytes in the same way
low_bits : (h l : ℕ) → reversed_from (h * 256 + l) 8 ≡ reversed_from l 8
unfolding reversed_from
low_bits h l =
    let b₀ : bit (h * 256 + l) 0 ≡ bit l 0 = omega arith in
    let b₁ : bit (h * 256 + l) 1 ≡ bit l 1 = omega arith in
    let b₂ : bit (h * 256 + l) 2 ≡ bit l 2 = omega arith in
    let b₃ : bit (h * 256 + l) 3 ≡ bit l 3 = omega arith in
    let b₄ : bit (h * 256 + l) 4 ≡ bit l 4 = omega arith in
    let b₅ : bit (h * 256 + l) 5 ≡ bit l 5 = omega arith in
    let b₆ : bit (h * 256 + l) 6 ≡ bit l 6 = omega arith in
    let b₇ : bit (h * 256 + l) 7 ≡ bit l 7 = omega arith in
    rw (b₀, b₁, b₂, b₃, b₄, b₅, b₆, b₇)

none_reversed : (n : ℕ) → reversed_from n 0 ≡ 0
unfolding reversed_from
none_reversed n = refl

more_reversed : (n k : ℕ) → reversed_from n (suc k) ≡ reversed_from n k * 2 + bit n k
unfolding reversed_from
more_reversed n k = refl

split_bits : (n m k : ℕ) → m ≡ 8 + k → reversed_from n m ≡ reversed_from n 8 * 2 ^ k + reversed_from (n / 256) k
split_bits n m zero e =
    let f : m ≡ 8 = omega arith in
    rw f (omega (arith, none_reversed (n / 256)))
split_bits n zero (suc k) e = absurd (omega arith)
split_bits n (suc m) (suc k) e =
    let f : m ≡ 8 + k = omega arith in
    let same : bit n m ≡ bit (n / 256) k = rw f (ap (λ j. j % 2) (sym (shr-shr n 8 k))) in
    let twice : 2 ^ suc k ≡ 2 ^ k * 2 = ap (λ j. 2 ^ j) (sym (one-add k)) ∙ (pow-add 2 1 k ∙ omega arith) in
    let whole = mul_assoc (reversed_from n 8) (2 ^ k) 2 in
    rw twice (omega (arith, more_reversed n m, more_reversed (n / 256) k, split_bits n m k f))

pub steps_reverse : (x : ℕ) → x < 65536 → steps x ≡ reversed x
steps_reverse x h =
    let a = x / 256 in
    let b = x % 256 in
    let p : a < 256 = div_below x 256 256 (omega arith) (omega arith) in
    let q : b < 256 = mod_below x 256 (omega arith) in
    let P : ℕ → Type 0 = λ n. steps n ≡ reversed n in
    let top : (a * 256 + b) / 256 ≡ a = omega arith in
    let e : reversed_from (a * 256 + b) 16 ≡ reversed_from b 8 * 256 + reversed_from a 8 = split_bits (a * 256 + b) 16 8 refl ∙ rw (low_bits a b, top) in
    subst P (div-add-mod' x 256) (bytes_turn a b p q ∙ (rw (byte_reverse a p, byte_reverse b q) (sym e)))

low_bit : (t b : ℕ) → b < 2 → (t * 2 + b) / 1 % 2 ≡ b
low_bit t b h = omega arith

high_bits : (t b i : ℕ) → b < 2 → bit (t * 2 + b) (suc i) ≡ bit t i
high_bits t b i h =
    let half : (t * 2 + b) / 2 ^ 1 ≡ t = omega arith in
    let e : (t * 2 + b) / 2 ^ (suc i) ≡ t / 2 ^ i = ap (λ k. (t * 2 + b) / 2 ^ k) (sym (one-add i)) ∙ (sym (shr-shr (t * 2 + b) 1 i) ∙ ap (λ m. m / 2 ^ i) half) in
    ap (λ m. m % 2) e

-- bit i of the k lowest bits, reversed, is bit k - 1 - i
pub bits_reverse : (n k i : ℕ) → i < k → bit (reversed_from n k) i ≡ bit n (k - 1 - i)
unfolding reversed_from
bits_reverse n zero i h = absurd (omega arith)
bits_reverse n (suc k) zero h =
    let e : suc k - 1 - 0 ≡ k = omega arith in
    rw e (low_bit (reversed_from n k) (bit n k) (mod_below (n / 2 ^ k) 2 (omega arith)))
bits_reverse n (suc k) (suc i) h =
    let e : suc k - 1 - suc i ≡ k - 1 - i = omega arith in
    rw e (high_bits (reversed_from n k) (bit n k) i (mod_below (n / 2 ^ k) 2 (omega arith)) ∙ bits_reverse n k i (omega arith))
