-- The message that is found, and what is left without it, by where it stands. Assumes nothing.
use Rattle.std.proofs.Common.{◌≡◌, ℕ, ◌+◌, ◌<◌, Bool, true, false, cond, not, List, [], ◌∷◌, length, Some, None, get_or, sym, ◌∙◌, refl, ap, arith, add-one, add_comm}
use Rattle.std.proofs.lemmas.Bool.Decides.{nat_tests}
use Rattle.std.proofs.lemmas.List.Folds.{find_at}
use Rattle.std.proofs.lemmas.Option.{slice_get-get_or}
use Rattle.std.specs.List.{position, position_or_len, remove}
use Rattle.std.specs.Prelude.{◌==◌}
use Rattle.stage.specs.declared.message.Message.{Message}
use Rattle.stage.specs.Posts.{found, without}

step : (b : Bool) (m : Message) (ms ws : List Message) (k : ℕ) → ws ≡ remove ms k → cond b ms (m ∷ ws) ≡ remove (m ∷ ms) (cond (not b) (1 + k) 0)
step true m ms ws k e = refl
step false m ms ws k e = rw (add_comm 1 k, add-one) (ap (λ r. m ∷ r) e)

without_is : (n : ℕ) (ms : List Message) → without n ms ≡ remove ms (position_or_len (λ m. m.number == n) ms)
without_is n [] = refl
without_is n (m ∷ ms) = step (m.number == n) m ms (without n ms) (position_or_len (λ m. m.number == n) ms) (without_is n ms)

stands : (n i : ℕ) (ms : List Message) → position (λ m. m.number == n) ms ≡ Some i → (position_or_len (λ m. m.number == n) ms ≡ i) × (i < length ms)
stands n i ms e = grind (arith, nat_tests)

-- it stands at i
pub found_there : (n : ℕ) (ms : List Message) (i : ℕ) (m : Message) → position (λ m. m.number == n) ms ≡ Some i → m ≡ get_or ms i m → Some m ≡ found n ms
found_there n ms i m e h =
    let s = stands n i ms e in
    ap Some h ∙ (sym (slice_get-get_or ms i m s.1) ∙ sym (rw (← s.0) (find_at (λ m. m.number == n) ms)))

pub taken_there : (n : ℕ) (ms ks : List Message) (i : ℕ) → position (λ m. m.number == n) ms ≡ Some i → ks ≡ remove ms i → ks ≡ without n ms
taken_there n ms ks i e h = h ∙ sym (rw (← (stands n i ms e).0) (without_is n ms))

-- it is not there
pub none_found : (n : ℕ) (ms : List Message) → position (λ m. m.number == n) ms ≡ None → found n ms ≡ None
none_found n [] e = refl
none_found n (m ∷ ms) e = let ih = none_found n ms in grind (arith, nat_tests)

pub none_taken : (n : ℕ) (ms : List Message) → position (λ m. m.number == n) ms ≡ None → ms ≡ without n ms
none_taken n [] e = refl
none_taken n (m ∷ ms) e = let ih = none_taken n ms in grind (arith, nat_tests)
