-- Lists of open sessions, and a map changed at one number. Assumes nothing.
use Rattle.std.specs.Prelude.{ℕ, suc, ◌+◌, Bool, true, false, cond, ◌||◌, List, [], ◌∷◌, ◌==◌}
use Rattle.flow.specs.declared.key.FlowKey.{FlowKey}
use Rattle.flow.specs.Key.{same_flow}

-- is the session in the list?
unfoldable pub is_in : FlowKey → List FlowKey → Bool
is_in c [] = false
is_in c (x ∷ xs) = same_flow c x || is_in c xs

-- how often?
unfoldable pub count : FlowKey → List FlowKey → ℕ
count c [] = 0
count c (x ∷ xs) = cond (same_flow c x) 1 0 + count c xs

-- the list without the session
unfoldable pub without : FlowKey → List FlowKey → List FlowKey
without c [] = []
without c (x ∷ xs) = cond (same_flow c x) (without c xs) (x ∷ without c xs)

abbrev pub is_empty : List FlowKey → Bool
is_empty [] = true
is_empty (x ∷ xs) = false

-- the map f with a in place of what it has at h
abbrev pub put : {A : Type 0} → ℕ → A → (ℕ → A) → ℕ → A
put h a f g = cond (g == h) a (f g)

-- one more for c
unfoldable pub bump : FlowKey → (FlowKey → ℕ) → FlowKey → ℕ
bump c f d = cond (same_flow c d) (suc (f d)) (f d)
