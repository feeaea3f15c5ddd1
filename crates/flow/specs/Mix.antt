-- One's-complement sums of 16-bit words, and the bits of a number end for end. Assumes nothing.
use Rattle.std.specs.Prelude.{◌≡◌, ℕ, zero, suc, ◌+◌, ◌-◌, ◌*◌, ◌/◌, ◌%◌, ◌^◌, ◌<◌, cond, ◌==◌}

-- the carry out of 16 bits, added again
abbrev pub folded : ℕ → ℕ
folded n = n % 65536 + n / 65536

-- the sum of words that come to n: 0 for 0, else the number from 1 to 65535 that differs from n by a multiple of 65535
abbrev pub ones_sum : ℕ → ℕ
ones_sum n = cond (n == 0) 0 (1 + (n - 1) % 65535)

-- r is the sum of words that come to n: congruent to n modulo 65535, and 0 for 0 alone
pub record OnesSum (n r : ℕ) : Type 0 where
  pub within : r < 65536
  pub congruent : r % 65535 ≡ n % 65535
  pub none : n ≡ 0 → r ≡ 0
  pub some : r ≡ 0 → n ≡ 0

-- bit i of n
abbrev pub bit : ℕ → ℕ → ℕ
bit n i = n / 2 ^ i % 2

-- the lowest k bits of n, the lowest first
unfoldable pub reversed_from : ℕ → ℕ → ℕ
reversed_from n zero = 0
reversed_from n (suc k) = reversed_from n k * 2 + bit n k

-- the 16 bits end for end: bit 0 becomes bit 15
abbrev pub reversed : ℕ → ℕ
reversed n = reversed_from n 16
