-- The first links, server by server. Assumes nothing.
use Rattle.std.proofs.Common.{◌≡◌, ℕ, zero, suc, ◌+◌, ◌<◌, ◌≤◌, true, false, List, [], ◌∷◌, ◌++◌, length, get_or, take, ap, ◌∙◌, inl, inr, arith}
use Rattle.std.proofs.lemmas.List.{take_more, map_push}
use Rattle.std.proofs.lemmas.Bool.{le-ltb, cases_lt}
use Rattle.balancer.specs.Rules.{are_servers, first_link, first_links}

pub links_more : (ss : List ℕ) (i : ℕ) → i < length ss → first_links (take (i + 1) ss) ≡ first_links (take i ss) ++ first_link (get_or ss i 0) ∷ []
links_more ss i h = ap first_links (take_more ss i 0 h) ∙ map_push first_link (take i ss) (get_or ss i 0)

-- one that is none
pub no_server : (ss : List ℕ) (i : ℕ) → i < length ss → 256 ≤ get_or ss i 0 → are_servers ss ≡ false
no_server [] i h big = absurd (omega arith)
no_server (x ∷ ss) zero h big = rw (le-ltb x 256 big)
no_server (x ∷ ss) (suc i) h big = let ih = no_server ss i (omega arith) big in grind arith

-- each is one
pub servers_at : (ss : List ℕ) (i : ℕ) → i < length ss → are_servers ss ≡ true → get_or ss i 0 < 256
servers_at ss i h all =
    elim (cases_lt (get_or ss i 0) 256) [ inl lt ↦ lt | inr big ↦ let f = no_server ss i h big in absurd (grind arith) ]
