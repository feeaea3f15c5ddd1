-- A number with one bit is a power of two, and each power of two has one bit; twice as many buckets split each in two. Assumes nothing.
use Rattle.std.proofs.Common.{◌≡◌, ℕ, zero, suc, ◌+◌, ◌*◌, ◌/◌, ◌%◌, ◌^◌, ◌<◌, ◌≤◌, true, eqb, leb, ◌⊎◌, sym, refl, ap, ◌∙◌, subst, inl, inr, one-add, arith, pow_mono, pow-add}
use lib.Arith.{bin_ind, mod-mul}
use lib.Count.{ones, ones_in, ones_step, ones_cat}
use Rattle.std.proofs.lemmas.Nat.{pow_pos, pow_below, mod_below}
use Rattle.std.proofs.lemmas.Bool.{eq-eqb, eqb-true, or_cases, or_left, or_right, and_from, and_parts, le-leb, leb-true, cases_lt, cases_eq}
use Rattle.flow.specs.Key.{protocol_number}
use Rattle.flow.specs.Mix.{reversed, ones_sum}
use Rattle.flow.specs.Buckets.{power_to, is_bucket_count, bucket_of, SameFields, Doubling}

-- no bits, no number
none : (n : ℕ) → ones n ≡ 0 → n ≡ 0
none = bin_ind (λ n. ones n ≡ 0 → n ≡ 0) (λ _. refl) (λ n half e.
    let s = ones_step n in
    let h : n / 2 ≡ 0 = half (omega arith) in
    omega arith)

none_in_zero : ones 0 ≡ 0
unfolding ones ones_in
none_in_zero = refl

one_in_one : ones 1 ≡ 1
unfolding ones ones_in
one_in_one = refl

doubled : (k : ℕ) → 2 ^ suc k ≡ 2 ^ k * 2
doubled k = ap (λ j. 2 ^ j) (sym (one-add k)) ∙ (pow-add 2 1 k ∙ omega arith)

power : (n : ℕ) → ones n ≡ 1 → (k : ℕ) × (n ≡ 2 ^ k)
power = bin_ind (λ n. ones n ≡ 1 → (k : ℕ) × (n ≡ 2 ^ k)) (λ e. (0, absurd (omega (arith, none_in_zero)))) (λ n half e.
    let s = ones_step n in
    elim (cases_eq (n % 2) 0) [
      | inl even ↦
          let p = half (omega arith) in
          (suc p.0, omega (arith, p.1, doubled p.0))
      | inr odd ↦
          let z = none (n / 2) (omega arith) in
          (0, omega arith)
    ])

one_bit : (k : ℕ) → ones (2 ^ k) ≡ 1
one_bit k =
    let P : ℕ → Type 0 = λ n. ones n ≡ 1 in
    let e : 1 * 2 ^ k + 0 ≡ 2 ^ k = omega arith in
    subst P e (omega (arith, ones_cat k 1 0 (pow_pos k), none_in_zero, one_in_one))

reaches_power : (j k : ℕ) → j ≤ k → power_to (2 ^ j) k ≡ true
unfolding power_to
reaches_power zero zero h = refl
reaches_power (suc j) zero h = absurd (omega arith)
reaches_power j (suc k) h = elim (cases_eq j (suc k)) [
  | inl e ↦ or_left (eqb (2 ^ j) (2 ^ suc k)) (power_to (2 ^ j) k) (eq-eqb (2 ^ j) (2 ^ suc k) (ap (λ i. 2 ^ i) e))
  | inr n ↦ or_right (eqb (2 ^ j) (2 ^ suc k)) (power_to (2 ^ j) k) (reaches_power j k (omega arith))
]

is_power : (n k : ℕ) → power_to n k ≡ true → (j : ℕ) × (j ≤ k) × (n ≡ 2 ^ j)
unfolding power_to
is_power n zero e = (0, omega arith, eqb-true n 1 e)
is_power n (suc k) e = elim (or_cases (eqb n (2 ^ suc k)) (power_to n k) e) [
  | inl y ↦ (suc k, omega arith, eqb-true n (2 ^ suc k) y)
  | inr z ↦ let p = is_power n k z in (p.0, omega (arith, p.1), p.2)
]

pub counts : (n : ℕ) → 16 ≤ n → n ≤ 65536 → ones n ≡ 1 → is_bucket_count n ≡ true
unfolding is_bucket_count
counts n low high e =
    let p = power n e in
    let k : p.0 ≤ 16 = elim (cases_lt 16 p.0) [ inl h ↦ absurd (omega (arith, p.1, pow_below 16 p.0 h)) | inr h ↦ h ] in
    let P : ℕ → Type 0 = λ m. power_to m 16 ≡ true in
    and_from (leb 16 n) (power_to n 16) (le-leb 16 n low) (subst P (sym p.1) (reaches_power p.0 16 k))

pub counted : (n : ℕ) → is_bucket_count n ≡ true → (16 ≤ n) × (n ≤ 65536) × (ones n ≡ 1)
unfolding is_bucket_count
counted n e =
    let a = and_parts (leb 16 n) (power_to n 16) e in
    let p = is_power n 16 a.1 in
    let P : ℕ → Type 0 = λ m. ones m ≡ 1 in
    let h : 2 ^ p.0 ≤ 2 ^ 16 = pow_mono p.1 in
    (leb-true 16 n a.0, omega (arith, p.2), subst P (sym p.2) (one_bit p.0))

pub same_fields : SameFields
unfolding bucket_of
same_fields f g count s p q = cc

split : (x count : ℕ) → 0 < count → (x % (count * 2) ≡ x % count) ⊎ (x % (count * 2) ≡ x % count + count)
split x count h =
    let e : x % (2 * count) ≡ (x / count % 2) * count + x % count = mod-mul x (omega arith) h in
    let m : count * 2 ≡ 2 * count = omega arith in
    elim (cases_eq (x / count % 2) 0) [
      | inl z ↦ inl (rw m (e ∙ rw z (omega arith)))
      | inr n ↦ let o : x / count % 2 ≡ 1 = omega (arith, mod_below (x / count) 2 (omega arith)) in inr (rw m (e ∙ rw o (omega arith)))
    ]

pub doubling : Doubling
unfolding bucket_of
doubling f count h = split (reversed (ones_sum (f.src / 65536 + f.src % 65536 + f.sport + protocol_number f.protocol))) count h
