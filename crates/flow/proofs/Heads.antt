-- The tests of an IPv4 head, and the flags of TCP as single bits. Assumes nothing.
use Rattle.std.proofs.Common.{◌≡◌, ℕ, ◌*◌, ◌<◌, ◌≤◌, Bool, true, ◌&&◌, eqb, leb, refl, arith}
use lib.Bits.{bit_and}
use Rattle.std.proofs.lemmas.Bool.Decides.{Decides-eqb, nat_tests}
use Rattle.flow.specs.Mix.{bit}
use Rattle.flow.proofs.Every.{every, below}

-- length, version, length of the head, total length, fragment offset
abbrev pub whole : ℕ → ℕ → ℕ → ℕ → ℕ → Bool
whole n v h t o = leb 20 n && (eqb v 4 && (leb 20 h && (leb h n && (eqb t n && eqb o 0))))

pub is_whole : (n v h t o : ℕ) → 20 ≤ n → v ≡ 4 → 20 ≤ h → h ≤ t → t ≡ n → o ≡ 0 → whole n v h t o ≡ true
is_whole n v h t o a b c d e f = grind (arith, nat_tests)

pub not_whole : (n v h t o : ℕ) → whole n v h t o ≡ true → (v ≡ 4) × (20 ≤ h) × (h ≤ t) × (t ≡ n) × (o ≡ 0)
not_whole n v h t o e = grind (arith, nat_tests)

one_flag : (m i : ℕ) → every (λ f. eqb (bit_and f m) (bit f i * m)) 256 ≡ true → (f : ℕ) → f < 256 → bit_and f m ≡ bit f i * m
one_flag m i e = (below (λ f. eqb (bit_and f m) (bit f i * m)) (λ f. bit_and f m ≡ bit f i * m) (λ f. Decides-eqb (bit_and f m) (bit f i * m)) 256).0 e

pub syn_flag : (f : ℕ) → f < 256 → bit_and f 2 ≡ bit f 1 * 2
unfolding every
syn_flag = one_flag 2 1 refl

pub ack_flag : (f : ℕ) → f < 256 → bit_and f 16 ≡ bit f 4 * 16
unfolding every
ack_flag = one_flag 16 4 refl
