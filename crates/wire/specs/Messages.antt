-- Every message as bytes: its kind, and the format of what is behind. Assumes nothing.
use Rattle.std.specs.Prelude.{ℕ, ◌+◌, cond, List, [], ◌∷◌, ◌++◌, length, Some, None, Ok, Err, Option, Result, ◌==◌}
use Rattle.std.specs.Option.{unwrap_or}
use Rattle.fault.specs.declared.Fault.{Fault}
use Rattle.fault.specs.declared.Fault.TheVariants.{Malformed}
use Rattle.fault.specs.Numbers.{refusal_number}
use Rattle.flow.specs.Key.{protocol_number}
use Rattle.chain.specs.Ways.{way_number}
use Rattle.wire.specs.declared.message.Control.{Control}
use Rattle.wire.specs.declared.message.Control.TheVariants.{Stand, Behind, Door, Forgotten}
use Rattle.wire.specs.declared.message.Head.{Head}
use Rattle.wire.specs.declared.message.Order.{Order}
use Rattle.wire.specs.declared.message.Order.TheVariants.{Closed, Added, Removed, Ticks}
use Rattle.wire.specs.declared.message.Unread.{Unread}
use Rattle.wire.specs.Stops.{unplaced}
use Rattle.wire.specs.Meant.{Meant, Carried, Said, Answered, Back, Ordered}
use Rattle.wire.specs.Format.{Format, Field, one, number_in, read_all, put}
use Rattle.wire.specs.Formats.{packet, stand, behind, door, forgotten, refused, closed, added, removed, ticks, link_of, asker_of, opens_byte}

abbrev pub map_ok : {A C E : Type 0} → (A → C) → Result A E → Result C E
map_ok f (Ok x) = Ok (f x)
map_ok f (Err e) = Err e

-- the same bytes, with another meaning
abbrev pub like : {A C : Type 0} → (A → C) → Format A → Format C
like f F = record { fields = F.fields; behind = F.behind; means = λ B vs bs. map_ok f (F.means B vs bs); far = F.far }

-- all kinds; an answer is the message that it answers, with a kind 32 higher
abbrev pub formats : List (ℕ × Format Meant)
formats =
    (1, packet)
    ∷ (2, like Said stand)
    ∷ (3, like Said behind)
    ∷ (4, like Said door)
    ∷ (5, like Said forgotten)
    ∷ (6, refused)
    ∷ (7, like Ordered closed)
    ∷ (8, like Ordered added)
    ∷ (9, like Ordered removed)
    ∷ (10, like Ordered ticks)
    ∷ (34, like Answered stand)
    ∷ (35, like Answered behind)
    ∷ (36, like Answered door)
    ∷ (37, like Answered forgotten)
    ∷ []

abbrev pub format_in : ℕ → List (ℕ × Format Meant) → Option (Format Meant)
format_in k [] = None
format_in k (x ∷ xs) = cond (k == x.0) (Some x.1) (format_in k xs)

-- READING

abbrev pub read_by : ℕ → List ℕ → Option (Format Meant) → Result Meant Unread
read_by B bs None = Err (unplaced Malformed)
read_by B bs (Some F) = read_all F B bs

abbrev pub behind_kind : ℕ → Result (ℕ × List ℕ) Fault → Result Meant Unread
behind_kind B (Ok p) = read_by B p.1 (format_in p.0 formats)
behind_kind B (Err f) = Err (unplaced f)

-- what bytes say, with so many buckets, or their first fault
abbrev pub decode : ℕ → List ℕ → Result Meant Unread
decode B bs = behind_kind B (number_in one bs)

-- WRITING

abbrev pub control_kind : Control → ℕ
control_kind (Stand b p before) = 2
control_kind (Behind b p after) = 3
control_kind (Door b newest) = 4
control_kind (Forgotten b p after) = 5

abbrev pub order_kind : Order → ℕ
order_kind (Closed key) = 7
order_kind (Added s) = 8
order_kind (Removed s) = 9
order_kind (Ticks n) = 10

abbrev pub kind_of : Meant → ℕ
kind_of (Carried h key bs) = 1
kind_of (Said c) = control_kind c
kind_of (Answered c) = control_kind c + 32
kind_of (Back why bs) = 6
kind_of (Ordered o) = order_kind o

-- the values of the fields
abbrev pub control_values : Control → List ℕ
control_values (Stand b p before) = b ∷ p ∷ (unwrap_or before (link_of 0 0)).place ∷ (unwrap_or before (link_of 0 0)).server ∷ []
control_values (Behind b p after) = b ∷ p ∷ after.place ∷ after.server ∷ []
control_values (Door b newest) = b ∷ newest.place ∷ newest.server ∷ []
control_values (Forgotten b p after) = b ∷ p ∷ after.place ∷ after.server ∷ []

abbrev pub order_values : Order → List ℕ
order_values (Closed key) = key.src ∷ key.dst ∷ key.sport ∷ key.dport ∷ protocol_number key.protocol ∷ []
order_values (Added s) = s ∷ []
order_values (Removed s) = s ∷ []
order_values (Ticks n) = n ∷ []

abbrev pub head_values : Head → ℕ → List ℕ
head_values h len = h.bucket ∷ h.place ∷ way_number h.way ∷ (asker_of h.way).place ∷ (asker_of h.way).server ∷ opens_byte h.opens ∷ len ∷ []

abbrev pub values : Meant → List ℕ
values (Carried h key bs) = head_values h (length bs)
values (Said c) = control_values c
values (Answered c) = control_values c
values (Back why bs) = refusal_number why ∷ length bs ∷ []
values (Ordered o) = order_values o

-- what comes behind the fields
abbrev pub payload : Meant → List ℕ
payload (Carried h key bs) = bs
payload (Said c) = []
payload (Answered c) = []
payload (Back why bs) = bs
payload (Ordered o) = []

abbrev pub fields_of : Option (Format Meant) → List Field
fields_of None = []
fields_of (Some F) = F.fields

-- a message as bytes
abbrev pub encode : Meant → List ℕ
encode m = kind_of m ∷ (put (fields_of (format_in (kind_of m) formats)) (values m) ++ payload m)
