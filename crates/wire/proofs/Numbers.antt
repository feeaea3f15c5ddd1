-- A number in front of bytes: cut, or there. Assumes nothing.
use Rattle.std.proofs.Common.{◌≡◌, ℕ, ◌<◌, ◌≤◌, List, length, take, drop, Ok, Err, arith}
use Rattle.std.proofs.lemmas.List.{get_or-take}
use Rattle.std.proofs.lemmas.Bool.{lt-ltb, le-ltb}
use Rattle.fault.specs.declared.Fault.TheVariants.{Malformed}
use Rattle.wire.specs.Format.{Width, one, two, four, size, value, number_in}

pub number_cut : (w : Width) (bs : List ℕ) → length bs < size w → Err Malformed ≡ number_in w bs
unfolding number_in
number_cut w bs h = rw (lt-ltb (length bs) (size w) h)

-- the number in front is that of the bytes in front alone
value_take : (w : Width) (bs : List ℕ) → value w (take (size w) bs) ≡ value w bs
value_take one bs = get_or-take 1 bs 0 0 (omega arith)
value_take two bs = rw (get_or-take 2 bs 0 0 (omega arith), get_or-take 2 bs 1 0 (omega arith))
value_take four bs = rw (get_or-take 4 bs 0 0 (omega arith), get_or-take 4 bs 1 0 (omega arith), get_or-take 4 bs 2 0 (omega arith), get_or-take 4 bs 3 0 (omega arith))

pub number_here : (w : Width) (bs front rest : List ℕ) (n : ℕ) → size w ≤ length bs → front ≡ take (size w) bs → rest ≡ drop (size w) bs → n ≡ value w front
    → Ok (n, rest) ≡ number_in w bs
unfolding number_in
number_here w bs front rest n h f r e = rw (le-ltb (length bs) (size w) h, r, e, f, value_take w bs)
