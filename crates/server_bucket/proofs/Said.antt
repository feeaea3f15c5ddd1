-- What is said of one farewell more. Assumes nothing.
use Rattle.std.proofs.Common.{◌≡◌, ℕ, ◌+◌, ◌<◌, cond, List, [], ◌∷◌, ◌++◌, length, get_or, take, sym, refl, ap}
use Rattle.std.proofs.lemmas.List.{append_assoc, append-nil, take_more}
use Rattle.machine.specs.Again.{is_due}
use Rattle.server_bucket.specs.declared.farewell.Farewell.{Farewell}
use Rattle.server_bucket.specs.Rules.{says, due_in}

due_append : (b t : ℕ) (fs gs : List Farewell) → due_in b t (fs ++ gs) ≡ due_in b t fs ++ due_in b t gs
unfolding due_in
due_append b t [] gs = refl
due_append b t (f ∷ fs) gs = rw (due_append b t fs gs) (sym (append_assoc (cond (is_due t f.age) (says b f) []) (due_in b t fs) (due_in b t gs)))

pub due_more : (b t : ℕ) (fs : List Farewell) (i : ℕ) (d : Farewell) → i < length fs
    → due_in b t (take (i + 1) fs) ≡ due_in b t (take i fs) ++ cond (is_due t (get_or fs i d).age) (says b (get_or fs i d)) []
unfolding due_in
due_more b t fs i d h = let m = take_more fs i d h in rw (m, due_append b t (take i fs) (get_or fs i d ∷ [])) (ap (λ xs. due_in b t (take i fs) ++ xs) (append-nil (cond (is_due t (get_or fs i d).age) (says b (get_or fs i d)) [])))
