-- Assignments of buckets to servers: even ones, and at how many buckets two differ. Assumes nothing.
-- An assignment is the list of the servers of the buckets 0, 1, 2 ..; 65535 stands for none yet. Servers are a list of numbers.
use Rattle.std.specs.Prelude.{◌≡◌, ℕ, suc, ◌+◌, ◌<◌, ◌≤◌, cond, List, [], ◌∷◌, length, ◌==◌, slice_index}
use Rattle.std.specs.List.{AllByRecursion}

-- how many buckets s has
abbrev pub count : ℕ → List ℕ → ℕ
count s [] = 0
count s (x ∷ xs) = cond (s == x) 1 0 + count s xs

-- where s stands in the list of servers, or the list's length if it isn't there
abbrev pub place : List ℕ → ℕ → ℕ
place [] s = 0
place (t ∷ ts) s = cond (t == s) 0 (suc (place ts s))

abbrev pub Listed : List ℕ → ℕ → Type 0
Listed servers s = place servers s < length servers

-- every bucket has a listed server, and no listed server has two more than another
pub record Even (servers ys : List ℕ) : Type 0 where
  pub served : AllByRecursion (Listed servers) ys
  pub level : (s t : ℕ) → Listed servers s → Listed servers t → count s ys ≤ count t ys + 1

-- n buckets, each with the number of a server
abbrev pub Numbered : ℕ → List ℕ → Type 0
Numbered n ys = (length ys ≡ n) × ((b : ℕ) → slice_index ys b < 256)

-- at how many buckets two assignments differ
abbrev pub moved : List ℕ → List ℕ → ℕ
moved [] ys = 0
moved (x ∷ xs) [] = 0
moved (x ∷ xs) (y ∷ ys) = cond (x == y) 0 1 + moved xs ys

-- no even assignment of as many buckets differs from xs at fewer than ys does
abbrev pub Fewest : List ℕ → List ℕ → List ℕ → Type 0
Fewest servers xs ys = (zs : List ℕ) → length zs ≡ length xs → Even servers zs → moved xs ys ≤ moved xs zs
