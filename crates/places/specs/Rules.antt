-- What one server knows of the places of one bucket, and what each message about them does. The rules of a single place are `chain`'s. Assumes nothing.
use Rattle.std.specs.Prelude.{ℕ, ◌-◌, Bool, cond, List, [], ◌∷◌, length, take, Some, None, Ok, Err, Option, Result, ◌==◌, nat_lt}
use Rattle.fault.specs.declared.Fault.{Fault}
use Rattle.fault.specs.declared.Fault.TheVariants.{UnknownPlace, ChainFull}
use Rattle.chain.specs.declared.way.Link.{Link}
use Rattle.chain.specs.declared.place.Standing.{Standing}
use Rattle.chain.specs.declared.place.Standing.TheVariants.{Never, Stands, Forgotten}
use Rattle.chain.specs.declared.place.Place.{Place}
use Rattle.chain.specs.Places as place

-- highest: the highest place that it ever stood in, 0 for none. standing: the places where it stands, the newest first.
-- past: the last sixteen places that it has forgotten, the newest first
pub record Known : Type 0 where
  pub highest : ℕ
  pub standing : List Place
  pub past : List Place

abbrev pub nowhere : Known
nowhere = record { highest = 0; standing = []; past = [] }

-- at the start: place 1, with none before it and none after it
abbrev pub first_of : ℕ → Known
first_of server = record { highest = 1; standing = record { link = record { place = 1; server = server }; standing = Stands None None } ∷ []; past = [] }

unfoldable pub find_in : ℕ → List Place → Option Place
find_in n [] = None
find_in n (x ∷ xs) = cond (n == x.link.place) (Some x) (find_in n xs)

abbrev pub or_else : Option Place → Option Place → Option Place
or_else (Some x) y = Some x
or_else None y = y

-- the place with the number n, if it stands here or is remembered as forgotten
abbrev pub find : ℕ → Known → Option Place
find n k = or_else (find_in n k.standing) (find_in n k.past)

-- the place with the number n is x now
unfoldable pub replace_in : ℕ → Place → List Place → List Place
replace_in n x [] = []
replace_in n x (y ∷ ys) = cond (n == y.link.place) (x ∷ ys) (y ∷ replace_in n x ys)

abbrev pub replaced : ℕ → Place → Known → Known
replaced n x k = record { highest = k.highest; standing = replace_in n x k.standing; past = k.past }

abbrev pub settled : ℕ → Known → Result Place Fault → Result (Unit {0}) Fault × Known
settled n k (Ok x) = (Ok tt, replaced n x k)
settled n k (Err f) = (Err f, k)

abbrev pub unchanged : Known → Result Place Fault → Result (Unit {0}) Fault × Known
unchanged k (Ok x) = (Ok tt, k)
unchanged k (Err f) = (Err f, k)

abbrev pub stood_with : Place → Known → Known
stood_with x k = record { highest = x.link.place; standing = x ∷ k.standing; past = k.past }

abbrev pub takes : Known → Result Place Fault → Result (Unit {0}) Fault × Known
takes k (Ok x) = (Ok tt, stood_with x k)
takes k (Err f) = (Err f, k)

abbrev pub stands_as : Option Place → Link → Option Link → Known → Result (Unit {0}) Fault × Known
stands_as (Some x) l before k = unchanged k (place.told_to_stand before x)
stands_as None l before k =
    cond (nat_lt k.highest l.place) (cond (nat_lt (length k.standing) 8) (takes k (place.told_to_stand before (record { link = l; standing = Never }))) (Err ChainFull, k)) (Ok tt, k)

-- told to stand in place l: a place above the highest is taken, if there is room; one that is known stays as it is; a lower one that is not known is answered, and nothing changes
abbrev pub stand : Link → Option Link → Known → Result (Unit {0}) Fault × Known
stand l before k = stands_as (find l.place k) l before k

abbrev pub followed_as : Option Place → ℕ → Link → Known → Result (Unit {0}) Fault × Known
followed_as None n after k = (Err UnknownPlace, k)
followed_as (Some x) n after k = settled n k (place.told_behind after x)

-- place n is told of the one behind it
abbrev pub behind : ℕ → Link → Known → Result (Unit {0}) Fault × Known
behind n after k = followed_as (find n k) n after k

abbrev pub freed_as : Option Place → ℕ → ℕ → Known → Result (Unit {0}) Fault × Known
freed_as None n gone k = cond (nat_lt k.highest n) (Err UnknownPlace, k) (Ok tt, k)
freed_as (Some x) n gone k = settled n k (place.told_forgotten gone x)

-- place n is told that place `gone`, before it, is forgotten; one that it does not remember any more is answered
abbrev pub freed : ℕ → ℕ → Known → Result (Unit {0}) Fault × Known
freed n gone k = freed_as (find n k) n gone k

-- the oldest of the places where it stands
unfoldable pub oldest_in : List Place → Option Place
oldest_in [] = None
oldest_in (x ∷ []) = Some x
oldest_in (x ∷ (y ∷ ys)) = oldest_in (y ∷ ys)

-- the last sixteen forgotten places
abbrev pub remembered : Place → Known → Known
remembered x k = record { highest = k.highest; standing = k.standing; past = x ∷ take 15 k.past }

-- the oldest place stands no more
abbrev pub left : Known → Known
left k = record { highest = k.highest; standing = take (length k.standing - 1) k.standing; past = k.past }

abbrev pub after_of : Standing → Option Link
after_of Never = None
after_of (Stands b a) = a
after_of (Forgotten a) = Some a

abbrev pub forgotten_as : Option Place → Known → Option Link × Known
forgotten_as None k = (None, k)
forgotten_as (Some x) k = (after_of x.standing, remembered x (left k))

abbrev pub retires : ℕ → Bool → Option Place → Known → Option Link × Known
retires n empty None k = (None, k)
retires n empty (Some x) k = cond (n == x.link.place) (forgotten_as (place.forgets empty x) k) (None, k)

-- place n is forgotten, if it is the oldest where it stands and may be: then the place after it, who is to be told
abbrev pub retire : ℕ → Bool → Known → Option Link × Known
retire n empty k = retires n empty (oldest_in k.standing) k
