-- What a format is: fields of one, two or four bytes, high byte first, and what comes behind them. Assumes nothing.
use Rattle.std.specs.Prelude.{ℕ, ◌+◌, ◌*◌, ◌/◌, ◌%◌, cond, List, [], ◌∷◌, ◌++◌, length, drop, Some, None, Ok, Err, Option, Result, ◌==◌, nat_lt, slice_index}
use Rattle.fault.specs.declared.Fault.{Fault}
use Rattle.fault.specs.declared.Fault.TheVariants.{Malformed}
use Rattle.wire.specs.declared.message.At.{At}
use Rattle.wire.specs.declared.message.Unread.{Unread}
use Rattle.wire.specs.Stops.{located}

pub data Width : Type 0 where
  one : Width
  two : Width
  four : Width

abbrev pub size : Width → ℕ
size one = 1
size two = 2
size four = 4

-- the number in the first bytes
abbrev pub value : Width → List ℕ → ℕ
value one bs = slice_index bs 0
value two bs = slice_index bs 0 * 256 + slice_index bs 1
value four bs = slice_index bs 0 * 16777216 + slice_index bs 1 * 65536 + slice_index bs 2 * 256 + slice_index bs 3

-- a number as bytes
abbrev pub digits : Width → ℕ → List ℕ
digits one n = n ∷ []
digits two n = (n / 256 % 256) ∷ (n % 256) ∷ []
digits four n = (n / 16777216 % 256) ∷ (n / 65536 % 256) ∷ (n / 256 % 256) ∷ (n % 256) ∷ []

-- the number in front and the bytes behind it; a cut is a fault
unfoldable pub number_in : Width → List ℕ → Result (ℕ × List ℕ) Fault
number_in w bs = cond (nat_lt (length bs) (size w)) (Err Malformed) (Ok (value w bs, drop (size w) bs))

-- a field: its width, and what is wrong with a value in it, by the number of buckets and the values of the fields before it
pub record Field : Type 0 where
  pub width : Width
  pub wrong : ℕ → List ℕ → ℕ → Option Fault

-- a format: its fields; by their values how many bytes come behind them, and what it all means, or what is wrong with those bytes;
-- and how far a reader has come that has read some of the values
pub record Format (A : Type 0) : Type 0 where
  pub fields : List Field
  pub behind : List ℕ → ℕ
  pub means : ℕ → List ℕ → List ℕ → Result A Fault
  pub far : List ℕ → Option At

-- READING

abbrev pub judged : {A : Type 0} → Option Fault → A → Result A Fault
judged None x = Ok x
judged (Some f) x = Err f

abbrev pub sound : (ℕ → Option Fault) → Result (ℕ × List ℕ) Fault → Result (ℕ × List ℕ) Fault
sound wrong (Ok p) = judged (wrong p.0) p
sound wrong (Err f) = Err f

-- one field, behind others that have the values `before`
abbrev pub read_field : ℕ → Field → List ℕ → List ℕ → Result (ℕ × List ℕ) Fault
read_field B f before bs = sound (f.wrong B before) (number_in f.width bs)

abbrev pub stopped : (List ℕ → Option At) → List ℕ → Fault → Unread
stopped far before f = record { fault = f; at = far before }

abbrev pub onward : {A : Type 0} → (Fault → Unread) → (ℕ → List ℕ → Result A Unread) → Result (ℕ × List ℕ) Fault → Result A Unread
onward stop go (Ok p) = go p.0 p.1
onward stop go (Err f) = Err (stop f)

-- fields in their order, behind others that have the values `before`: all values and the bytes behind them, or the first fault
abbrev pub read_fields : (List ℕ → Option At) → ℕ → List Field → List ℕ → List ℕ → Result (List ℕ × List ℕ) Unread
read_fields far B [] before bs = Ok (before, bs)
read_fields far B (f ∷ fs) before bs = onward (stopped far before) (λ v rest. read_fields far B fs (before ++ v ∷ []) rest) (read_field B f before bs)

-- what comes behind the fields has its length, and means something
abbrev pub ended : {A : Type 0} → Format A → ℕ → Result (List ℕ × List ℕ) Unread → Result A Unread
ended F B (Ok p) = located (F.far p.0) (cond (length p.1 == F.behind p.0) (F.means B p.0 p.1) (Err Malformed))
ended F B (Err u) = Err u

-- a whole message behind its kind
abbrev pub read_all : {A : Type 0} → Format A → ℕ → List ℕ → Result A Unread
read_all F B bs = ended F B (read_fields F.far B F.fields [] bs)

-- WRITING

abbrev pub put : List Field → List ℕ → List ℕ
put [] vs = []
put (f ∷ fs) [] = []
put (f ∷ fs) (v ∷ vs) = digits f.width v ++ put fs vs
