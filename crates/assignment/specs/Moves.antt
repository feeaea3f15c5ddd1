-- The buckets that change hands between two assignments. Assumes nothing.
use Rattle.std.specs.Prelude.{◌≡◌, ℕ, suc, ◌<◌, Bool, true, false, cond, ◌&&◌, List, [], ◌∷◌, ◌++◌, length, Some, None, Ok, Err, vec_items, Option, Result, Vec, ◌==◌, nat_le, nat_lt}
use Rattle.std.specs.Option.{option_to_list}
use Rattle.std.specs.List.{AllByRecursion}
use Rattle.std.specs.declared.alloc.Global.{Global}
use Rattle.fault.specs.declared.Error.{Error}
use Rattle.fault.specs.declared.Error.TheVariants.{Of, Memory}
use Rattle.fault.specs.declared.Fault.TheVariants.{NoSuch}
use Rattle.assignment.specs.Even.{moved}
use Rattle.assignment.specs.declared.moves.Move.{Move}

-- the server in a bucket's entry: a number below 256
abbrev pub server_of : ℕ → Option ℕ
server_of x = cond (nat_lt x 256) (Some x) None

abbrev pub handed_to : ℕ → Option ℕ → Option ℕ → Option Move
handed_to b from None = None
handed_to b from (Some to) = Some (record { bucket = b; from = from; to = to })

-- bucket b had x and has y: it changes hands if these differ, and y is a server
abbrev pub handed : ℕ → ℕ → ℕ → Option Move
handed b x y = cond (x == y) None (handed_to b (server_of x) (server_of y))

-- in rising order, from bucket b on
abbrev pub moves_from : ℕ → List ℕ → List ℕ → List Move
moves_from b [] ys = []
moves_from b (x ∷ xs) [] = []
moves_from b (x ∷ xs) (y ∷ ys) = option_to_list (handed b x y) ++ moves_from (suc b) xs ys

-- two assignments of the same buckets
abbrev pub comparable : List ℕ → List ℕ → Bool
comparable xs ys = length xs == length ys && nat_le (length xs) 65536

abbrev pub Found : List ℕ → List ℕ → Result (Vec Move Global) Error → Type 0
Found xs ys (Ok v) = (comparable xs ys ≡ true) × (vec_items v ≡ moves_from 0 xs ys)
Found xs ys (Err (Of f)) = (comparable xs ys ≡ false) × (f ≡ NoSuch)
Found xs ys (Err Memory) = comparable xs ys ≡ true

-- where every bucket has a server, those that change hands are as many as the assignments differ at
abbrev pub CountedMoves : Type 0
CountedMoves = (xs ys : List ℕ) → AllByRecursion (λ y. y < 256) ys → length (moves_from 0 xs ys) ≡ moved xs ys
