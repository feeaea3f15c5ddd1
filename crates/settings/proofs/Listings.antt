-- One word more of a list of servers. Assumes nothing.
use Rattle.std.proofs.Common.{◌≡◌, ℕ, ◌+◌, ◌<◌, ◌≤◌, List, [], ◌∷◌, ◌++◌, length, get_or, drop, Ok, Err, sym, ap, ◌∙◌}
use Rattle.std.proofs.lemmas.List.{drop_more, drop_all}
use Rattle.fault.specs.declared.Fault.{Fault}
use Rattle.settings.specs.Lines.{server_in, onward, servers_from}

turn : (done : List ℕ) (low : ℕ) (words : List (List ℕ)) (i : ℕ) (word : List ℕ) → (i < length words) × (word ≡ get_or words i word)
    → servers_from done low (drop i words) ≡ onward (λ n. servers_from (done ++ n ∷ []) (n + 1) (drop (i + 1) words)) (server_in word low)
unfolding servers_from
turn done low words i word h =
    ap (servers_from done low) (drop_more words i word h.0) ∙ ap (λ w. onward (λ n. servers_from (done ++ n ∷ []) (n + 1) (drop (i + 1) words)) (server_in w low)) (sym h.1)

pub word_turn : (done : List ℕ) (low : ℕ) (words : List (List ℕ)) (i : ℕ) (word : List ℕ) → (i < length words) × (word ≡ get_or words i word) → (n : ℕ)
    → Ok n ≡ server_in word low → servers_from done low (drop i words) ≡ servers_from (done ++ n ∷ []) (n + 1) (drop (i + 1) words)
word_turn done low words i word h n e = turn done low words i word h ∙ ap (onward (λ n. servers_from (done ++ n ∷ []) (n + 1) (drop (i + 1) words))) (sym e)

pub word_stop : (done : List ℕ) (low : ℕ) (words : List (List ℕ)) (i : ℕ) (word : List ℕ) → (i < length words) × (word ≡ get_or words i word) → (f : Fault)
    → Err f ≡ server_in word low → servers_from done low (drop i words) ≡ Err f
word_stop done low words i word h f e = turn done low words i word h ∙ ap (onward (λ n. servers_from (done ++ n ∷ []) (n + 1) (drop (i + 1) words))) (sym e)

pub words_end : (done : List ℕ) (low : ℕ) (words : List (List ℕ)) (i : ℕ) → length words ≤ i → servers_from done low (drop i words) ≡ Ok done
unfolding servers_from
words_end done low words i h = ap (servers_from done low) (drop_all i words h)
