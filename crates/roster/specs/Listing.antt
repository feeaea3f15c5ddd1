-- Lists of servers with one more and with one less. Assumes nothing.
use Rattle.std.specs.Prelude.{ℕ, ◌+◌, cond, ◌&&◌, List, [], ◌∷◌, ◌++◌, nat_le, nat_lt}

-- the servers from a on, below b
abbrev pub among : ℕ → ℕ → List ℕ → List ℕ
among a b [] = []
among a b (s ∷ ss) = cond (nat_le a s && nat_lt s b) (s ∷ among a b ss) (among a b ss)

-- those below s, s itself, those above it
abbrev pub with_server : ℕ → List ℕ → List ℕ
with_server s ss = among 0 s ss ++ s ∷ among (s + 1) 256 ss

abbrev pub without_server : ℕ → List ℕ → List ℕ
without_server s ss = among 0 s ss ++ among (s + 1) 256 ss
