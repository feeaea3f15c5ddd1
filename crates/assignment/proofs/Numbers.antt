-- A power of two from 16 to 65,536 is a number of buckets, here as for the keys of sessions. Assumes nothing.
use Rattle.std.proofs.Common.{◌≡◌, ℕ, true, false, sym, ◌∙◌, inl, inr, arith}
use Rattle.std.proofs.lemmas.Bool.{cases_Bool, both_ways}
use Rattle.std.proofs.lemmas.Bool.Decides.{nat_tests}
use Rattle.flow.specs.Buckets.{is_bucket_count}
use Rattle.flow.proofs.Powers.{counts, counted}
use Rattle.assignment.specs.Rule.{is_buckets}

yes : (n : ℕ) → is_bucket_count n ≡ true → is_buckets n ≡ true
yes n t = let w = counted n t in let a = w.0 in let b = w.1 in let e = w.2 in grind (arith, nat_tests)

back : (n : ℕ) → is_buckets n ≡ true → is_bucket_count n ≡ true
back n t = counts n (grind (arith, nat_tests)) (grind (arith, nat_tests)) (grind (arith, nat_tests))

pub no : (n : ℕ) → is_bucket_count n ≡ false → is_buckets n ≡ false
no n f = elim (cases_Bool (is_buckets n)) [
  | inl t ↦ absurd (both_ways (is_bucket_count n) f (back n t))
  | inr g ↦ g
]

pub same_number : (n : ℕ) → is_bucket_count n ≡ is_buckets n
same_number n = elim (cases_Bool (is_bucket_count n)) [
  | inl t ↦ t ∙ sym (yes n t)
  | inr f ↦ f ∙ sym (no n f)
]
