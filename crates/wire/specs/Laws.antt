-- What holds of reading and writing: the first fault by its position, cuts and bytes too many, one form for each message. Assumes nothing.
use Rattle.std.specs.Prelude.{◌≡◌, ℕ, zero, suc, ◌+◌, ◌<◌, cond, List, [], ◌∷◌, ◌++◌, length, take, drop, Some, None, Ok, Err, Option, Result, ◌==◌, nat_lt, slice_index}
use Rattle.fault.specs.declared.Fault.{Fault}
use Rattle.fault.specs.declared.Fault.TheVariants.{Malformed}
use Rattle.chain.specs.declared.way.Link.{Link}
use Rattle.wire.specs.declared.message.Control.{Control}
use Rattle.wire.specs.declared.message.Control.TheVariants.{Stand, Behind, Door, Forgotten}
use Rattle.wire.specs.declared.message.Unread.{Unread}
use Rattle.wire.specs.Stops.{unplaced}
use Rattle.wire.specs.Meant.{Meant, Carried, Said, Answered, Back, Ordered}
use Rattle.wire.specs.Format.{Width, one, two, four, size, value, Field, Format}
use Rattle.wire.specs.Formats.{unless, inside_of}
use Rattle.wire.specs.Messages.{formats, format_in, fields_of, kind_of, values, decode, encode}

-- POSITIONS

-- where the field i begins
abbrev pub offset : List Field → ℕ → ℕ
offset fs zero = 0
offset [] (suc i) = 0
offset (f ∷ fs) (suc i) = size f.width + offset fs i

-- the values of the fields as they lie in the bytes, be they sound or not
abbrev pub values_in : List Field → List ℕ → List ℕ
values_in [] bs = []
values_in (f ∷ fs) bs = value f.width bs ∷ values_in fs (drop (size f.width) bs)

-- what the field i says of a value
abbrev pub wrong_at : List Field → ℕ → ℕ → List ℕ → ℕ → Option Fault
wrong_at [] i B before v = None
wrong_at (f ∷ fs) zero B before v = f.wrong B before v
wrong_at (f ∷ fs) (suc i) B before v = wrong_at fs i B before v

-- the fault of the field i by itself: it is cut, or its value is wrong beside those before it
abbrev pub field_fault : List Field → ℕ → List ℕ → ℕ → Option Fault
field_fault fs B bs i = cond (nat_lt (length bs) (offset fs (suc i))) (Some Malformed) (wrong_at fs i B (take i (values_in fs bs)) (slice_index (values_in fs bs) i))

abbrev pub fault_in : {A : Type 0} → Result A Fault → Option Fault
fault_in (Ok x) = None
fault_in (Err f) = Some f

-- what comes behind the fields
abbrev pub tail_in : List Field → List ℕ → List ℕ
tail_in fs bs = drop (offset fs (length fs)) bs

-- the fault at a position: at a field, then at the length of what comes behind the fields, then inside that
abbrev pub fault_at : {A : Type 0} → Format A → ℕ → List ℕ → ℕ → Option Fault
fault_at F B bs i =
    cond (nat_lt i (length F.fields)) (field_fault F.fields B bs i)
    (cond (i == length F.fields) (unless (length (tail_in F.fields bs) == F.behind (values_in F.fields bs)) Malformed)
    (fault_in (F.means B (values_in F.fields bs) (tail_in F.fields bs))))

-- no earlier position has a fault, and this one has; and the reader tells what it has read before it
pub record First {A : Type 0} (F : Format A) (B : ℕ) (bs : List ℕ) (u : Unread) : Type 0 where
  pub position : ℕ
  pub within : position < length F.fields + 2
  pub here : fault_at F B bs position ≡ Some u.fault
  pub none : (j : ℕ) → j < position → fault_at F B bs j ≡ None
  pub told : u.at ≡ F.far (take position (values_in F.fields bs))

-- no position has one
pub record Sound {A : Type 0} (F : Format A) (B : ℕ) (bs : List ℕ) (x : A) : Type 0 where
  pub none : (j : ℕ) → j < length F.fields + 2 → fault_at F B bs j ≡ None
  pub means : F.means B (values_in F.fields bs) (tail_in F.fields bs) ≡ Ok x

abbrev pub ByPosition : {A : Type 0} → Format A → ℕ → List ℕ → Result A Unread → Type 0
ByPosition F B bs (Ok x) = Sound F B bs x
ByPosition F B bs (Err u) = First F B bs u

-- behind a kind
abbrev pub FirstFault : Type 0
FirstFault = (B k : ℕ) (bs : List ℕ) (F : Format Meant) → format_in k formats ≡ Some F → ByPosition F B bs (decode B (k ∷ bs))

-- at the kind
abbrev pub NoKind : Type 0
NoKind = (B k : ℕ) (bs : List ℕ) → format_in k formats ≡ None → decode B (k ∷ bs) ≡ Err (unplaced Malformed)

-- CUTS, AND BYTES TOO MANY

pub record Refused (B : ℕ) (bs : List ℕ) : Type 0 where
  pub unread : Unread
  pub is : decode B bs ≡ Err unread
  pub malformed : unread.fault ≡ Malformed

abbrev pub Cut : Type 0
Cut = (B : ℕ) (bs more : List ℕ) (m : Meant) → decode B (bs ++ more) ≡ Ok m → 0 < length more → Refused B bs

abbrev pub TooMany : Type 0
TooMany = (B : ℕ) (bs more : List ℕ) (m : Meant) → decode B bs ≡ Ok m → 0 < length more → Refused B (bs ++ more)

-- ONE FORM

abbrev pub below : Width → ℕ
below one = 256
below two = 65536
below four = 4294967296

-- each value fits its field and is sound
abbrev pub Fits : List Field → ℕ → List ℕ → List ℕ → Type 0
Fits [] B before [] = Unit {0}
Fits [] B before (v ∷ vs) = ⊥
Fits (f ∷ fs) B before [] = ⊥
Fits (f ∷ fs) B before (v ∷ vs) = (v < below f.width) × (f.wrong B before v ≡ None) × Fits fs B (before ++ v ∷ []) vs

-- a neighbour that is there has a place
abbrev pub Real : Option Link → Type 0
Real None = Unit {0}
Real (Some l) = 0 < l.place

abbrev pub RealControl : Control → Type 0
RealControl (Stand b p before) = Real before
RealControl (Behind b p after) = Unit {0}
RealControl (Door b newest) = Unit {0}
RealControl (Forgotten b p after) = Unit {0}

-- the session is that of the packet inside
abbrev pub TrueTo : ℕ → Meant → Type 0
TrueTo B (Carried h key bs) = inside_of B h.bucket bs ≡ Ok key
TrueTo B (Said c) = RealControl c
TrueTo B (Answered c) = RealControl c
TrueTo B (Back why bs) = Unit {0}
TrueTo B (Ordered o) = Unit {0}

abbrev pub Proper : ℕ → Meant → Type 0
Proper B m = Fits (fields_of (format_in (kind_of m) formats)) B [] (values m) × TrueTo B m

-- what was written is read again
abbrev pub ReadAgain : Type 0
ReadAgain = (B : ℕ) (m : Meant) → Proper B m → decode B (encode m) ≡ Ok m

abbrev pub Bytes : List ℕ → Type 0
Bytes bs = (i : ℕ) → slice_index bs i < 256

-- what was read is written again as the same bytes
abbrev pub WrittenAgain : Type 0
WrittenAgain = (B : ℕ) (bs : List ℕ) (m : Meant) → Bytes bs → decode B bs ≡ Ok m → (encode m ≡ bs) × Proper B m
