-- A line of text that names a machine and has bytes in hex. Assumes nothing.
use Rattle.std.specs.Prelude.{◌≡◌, ℕ, ◌+◌, ◌-◌, ◌*◌, ◌/◌, ◌%◌, cond, ◌&&◌, List, [], ◌∷◌, ◌++◌, Some, None, Ok, Err, vec_items, codes, Option, Result, Vec, nat_le, nat_lt, ◌==◌, length, slice_index, flat_map}
use Rattle.std.specs.Borrow.{Bor}
use Rattle.std.specs.Fmt.{decimal}
use Rattle.std.specs.Str.{bytes_eq}
use Rattle.std.specs.declared.alloc.Global.{Global}
use Rattle.fault.specs.declared.Fault.{Fault}
use Rattle.fault.specs.declared.Fault.TheVariants.{Malformed, NoSuch}
use Rattle.fault.specs.declared.Error.{Error}
use Rattle.fault.specs.declared.Error.TheVariants.{Of, Memory}
use Rattle.machine.specs.declared.name.Machine.{Machine}
use Rattle.machine.specs.declared.name.Machine.TheVariants.{Client, Operator, Balancer, Server, Controller}
pub use Rattle.machine.specs.Names.{name_text}
use Rattle.words.specs.Words.{word_of, rest_of, after_space, numeral}
use Rattle.lines.specs.declared.kept.Line.{Line}

-- THE MACHINE

-- a machine, and what is behind its name
abbrev pub Named : Type 0
Named = Result (Machine × List ℕ) Fault

abbrev pub numbered : Option ℕ → List ℕ → Result (ℕ × List ℕ) Fault
numbered (Some n) rest = Ok (n, rest)
numbered None rest = Err Malformed

abbrev pub behind : Option (List ℕ) → Result (ℕ × List ℕ) Fault
behind None = Err Malformed
behind (Some rest) = numbered (numeral (word_of rest)) (rest_of rest)

-- a space, a number, and what is behind it
abbrev pub number_in : List ℕ → Result (ℕ × List ℕ) Fault
number_in rest = behind (after_space rest)

abbrev pub balancer : ℕ → Result Machine Fault
balancer n = cond (nat_lt n 65536) (Ok (Balancer n)) (Err NoSuch)

abbrev pub server : ℕ → Result Machine Fault
server n = cond (nat_lt n 256) (Ok (Server n)) (Err NoSuch)

abbrev pub before : Result Machine Fault → List ℕ → Named
before (Ok m) rest = Ok (m, rest)
before (Err f) rest = Err f

abbrev pub by_number : (ℕ → Result Machine Fault) → Result (ℕ × List ℕ) Fault → Named
by_number machine (Ok p) = before (machine p.0) p.1
by_number machine (Err f) = Err f

-- the machines that have no number
abbrev pub lone : List ℕ → Result Machine Fault
lone word =
    cond (bytes_eq word (codes "client")) (Ok Client)
    (cond (bytes_eq word (codes "order")) (Ok Operator)
    (cond (bytes_eq word (codes "office")) (Ok Controller) (Err Malformed)))

abbrev pub by_word : List ℕ → List ℕ → Named
by_word word rest =
    cond (bytes_eq word (codes "door")) (by_number balancer (number_in rest))
    (cond (bytes_eq word (codes "house")) (by_number server (number_in rest)) (before (lone word) rest))

abbrev pub machine_in : List ℕ → Named
machine_in line = by_word (word_of line) (rest_of line)

-- THE BYTES

abbrev pub hex_digit : ℕ → Option ℕ
hex_digit c =
    cond (nat_le 48 c && nat_le c 57) (Some (c - 48))
    (cond (nat_le 97 c && nat_le c 102) (Some (c - 87))
    (cond (nat_le 65 c && nat_le c 70) (Some (c - 55)) None))

abbrev pub byte_of : Option ℕ → Option ℕ → Result ℕ Fault
byte_of None low = Err Malformed
byte_of (Some h) None = Err Malformed
byte_of (Some h) (Some l) = Ok (h * 16 + l)

-- two digits; no digit stands alone
abbrev pub byte_in : List ℕ → Result ℕ Fault
byte_in digits = cond (length digits == 2) (byte_of (hex_digit (slice_index digits 0)) (hex_digit (slice_index digits 1))) (Err Malformed)

abbrev pub onward : (ℕ → Result (List ℕ) Fault) → Result ℕ Fault → Result (List ℕ) Fault
onward go (Ok b) = go b
onward go (Err f) = Err f

-- the bytes so far, and those in the digits that are left
unfoldable pub bytes_from : List ℕ → List ℕ → Result (List ℕ) Fault
bytes_from done [] = Ok done
bytes_from done (c ∷ []) = Err Malformed
bytes_from done (c ∷ d ∷ cs) = onward (λ b. bytes_from (done ++ b ∷ []) cs) (byte_of (hex_digit c) (hex_digit d))

abbrev pub bytes_after : Option (List ℕ) → Result (List ℕ) Fault
bytes_after None = Err Malformed
bytes_after (Some digits) = bytes_from [] digits

-- a space and digits
abbrev pub bytes_in : List ℕ → Result (List ℕ) Fault
bytes_in rest = bytes_after (after_space rest)

-- A LINE

abbrev pub beside : Machine → Result (List ℕ) Fault → Result (Machine × List ℕ) Fault
beside m (Ok bs) = Ok (m, bs)
beside m (Err f) = Err f

abbrev pub bytes_of : Named → Result (Machine × List ℕ) Fault
bytes_of (Ok p) = beside p.0 (bytes_in p.1)
bytes_of (Err f) = Err f

-- the machine and the bytes, or the first fault
abbrev pub line_in : List ℕ → Result (Machine × List ℕ) Fault
line_in line = bytes_of (machine_in line)

-- WRITING

abbrev pub hex_of : ℕ → ℕ
hex_of d = cond (nat_lt d 10) (48 + d) (87 + d)

abbrev pub hex_text : List ℕ → List ℕ
hex_text = flat_map (λ b. hex_of (b / 16) ∷ hex_of (b % 16) ∷ [])

abbrev pub line_text : Machine → List ℕ → List ℕ
line_text m bs = name_text m ++ 32 ∷ hex_text bs

-- a packet that is given to its session
abbrev pub packet_text : List ℕ → List ℕ
packet_text packet = codes "table " ++ hex_text packet

-- THE CODE'S ANSWERS

-- what the code has read, with the bytes that it refers to
abbrev pub shown : {A : Type 0} → Result (A × Bor (List ℕ)) Fault → Result (A × List ℕ) Fault
shown (Ok p) = Ok (p.0, p.1.now)
shown (Err f) = Err f

abbrev pub Reads : Result (List ℕ) Fault → Result (Vec ℕ Global) Error → Type 0
Reads (Ok bs) (Ok v) = vec_items v ≡ bs
Reads (Ok bs) (Err Memory) = Unit {0}
Reads (Ok bs) (Err (Of g)) = ⊥
Reads (Err f) (Ok v) = ⊥
Reads (Err f) (Err Memory) = Unit {0}
Reads (Err f) (Err (Of g)) = g ≡ f

abbrev pub ReadsLine : Result (Machine × List ℕ) Fault → Result Line Error → Type 0
ReadsLine (Ok p) (Ok l) = (l.machine ≡ p.0) × (vec_items l.bytes ≡ p.1)
ReadsLine (Ok p) (Err Memory) = Unit {0}
ReadsLine (Ok p) (Err (Of g)) = ⊥
ReadsLine (Err f) (Ok l) = ⊥
ReadsLine (Err f) (Err Memory) = Unit {0}
ReadsLine (Err f) (Err (Of g)) = g ≡ f
