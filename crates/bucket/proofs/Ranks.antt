-- The count of places ever made is a rank: it rises at each of them. Assumes nothing.
use Rattle.std.proofs.Common.{◌≡◌, ℕ, zero, suc, ◌+◌, ◌<◌, ◌≤◌, cond, inl, inr, arith}
use Rattle.std.proofs.lemmas.Bool.{cases_lt}
use Rattle.chain.specs.declared.place.Standing.{Standing}
use Rattle.chain.specs.declared.place.Standing.TheVariants.{Never, Stands, Forgotten}
use Rattle.bucket.specs.Promise.{is_made, made}
use Rattle.bucket.proofs.Invariant.{View, Born}
use Rattle.bucket.proofs.Handle.{Ranks}
use Rattle.bucket.proofs.Stable.{Grows}

born_counts : (x : Standing) (n : ℕ) → Born x → n < cond (is_made x) 1 0 + n
born_counts Never n b = absurd b
born_counts (Stands b a) n h = omega arith
born_counts (Forgotten a) n h = omega arith

some_made : (f : ℕ → Standing) (b : ℕ) → Born (f b) → 1 ≤ made f b
unfolding made
some_made f zero h = let c = born_counts (f 0) 0 h in omega arith
some_made f (suc b) h = let c = born_counts (f (suc b)) (made f b) h in omega arith

most_made : (f : ℕ → Standing) (a b : ℕ) → a ≤ b → made f a ≤ made f b
unfolding made
most_made f a zero le = let e : a ≡ 0 = omega arith in rw e (omega arith)
most_made f a (suc b) le = elim (cases_lt b a) [ inl lt ↦ (let e : a ≡ suc b = omega arith in rw e (omega arith)) | inr ge ↦ (let ih = most_made f a b ge in omega arith) ]

made_rises : (f : ℕ → Standing) (a b : ℕ) → a < b → Born (f b) → made f a < made f b
unfolding made
made_rises f a zero lt h = absurd (omega arith)
made_rises f a (suc b) lt h = let le = most_made f a b (omega arith) in let c = born_counts (f (suc b)) (made f b) h in omega arith

pub made_ranks : (v : View) → Ranks v (made v.places)
made_ranks v = record { some = λ b le h. some_made v.places b h; rises = λ a b lt le h. made_rises v.places a b lt h }

-- while the top stays, nothing is made up to it
pub ranks_stay : (v w : View) (rank : ℕ → ℕ) → Grows v w → w.top ≡ v.top → Ranks v rank → Ranks w rank
ranks_stay v w rank g e r = record {
  some = λ b le h. r.some b (omega arith) (g.old b (omega arith) h);
  rises = λ a b lt le h. r.rises a b lt (omega arith) (g.old b (omega arith) h);
}
