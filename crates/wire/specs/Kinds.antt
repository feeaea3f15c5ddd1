-- The kinds of messages, with their numbers. Assumes nothing.
use Rattle.std.specs.Prelude.{◌≡◌, ℕ, ◌+◌, cond, Some, None, Option, ◌==◌}
use Rattle.std.specs.Option.{option_map}
use Rattle.wire.specs.declared.kind.Kind.{Kind}
use Rattle.wire.specs.declared.kind.Kind.TheVariants.{Packet, Control, Answer, Refused, Closed, Added, Removed, Ticks}
use Rattle.wire.specs.declared.kind.Topic.{Topic}
use Rattle.wire.specs.declared.kind.Topic.TheVariants as T
use Rattle.wire.specs.declared.message.Control.{Control as Told}
use Rattle.wire.specs.declared.message.Control.TheVariants.{Stand, Behind, Door, Forgotten}
use Rattle.wire.specs.Meant.{Meant, Said, Answered, Ordered}
use Rattle.wire.specs.Format.{Format}
use Rattle.wire.specs.Formats.{packet, stand, behind, door, forgotten, refused, closed, added, removed, ticks}
use Rattle.wire.specs.Messages.{like, formats, format_in}

abbrev pub topic_number : Topic → ℕ
topic_number T.Stand = 2
topic_number T.Behind = 3
topic_number T.Door = 4
topic_number T.Forgotten = 5

-- an answer is 32 above what it answers
abbrev pub kind_number : Kind → ℕ
kind_number Packet = 1
kind_number (Control t) = topic_number t
kind_number (Answer t) = topic_number t + 32
kind_number Refused = 6
kind_number Closed = 7
kind_number Added = 8
kind_number Removed = 9
kind_number Ticks = 10

abbrev first_of : ℕ → Kind → Option Kind → Option Kind
first_of n k rest = cond (n == kind_number k) (Some k) rest

-- the kind that has the number n
abbrev pub kind_numbered : ℕ → Option Kind
kind_numbered n =
    first_of n Packet (first_of n (Control T.Stand) (first_of n (Control T.Behind) (first_of n (Control T.Door) (first_of n (Control T.Forgotten)
    (first_of n Refused (first_of n Closed (first_of n Added (first_of n Removed (first_of n Ticks
    (first_of n (Answer T.Stand) (first_of n (Answer T.Behind) (first_of n (Answer T.Door) (first_of n (Answer T.Forgotten) None)))))))))))))

-- what a message about places is about
abbrev pub topic_of : Told → Topic
topic_of (Stand b p before) = T.Stand
topic_of (Behind b p after) = T.Behind
topic_of (Door b newest) = T.Door
topic_of (Forgotten b p after) = T.Forgotten

-- a kind is found again by its number
abbrev pub KindAgain : Type 0
KindAgain = (k : Kind) → kind_numbered (kind_number k) ≡ Some k

-- a number that has a kind is that kind's
abbrev pub NumberAgain : Type 0
NumberAgain = (n : ℕ) (k : Kind) → kind_numbered n ≡ Some k → kind_number k ≡ n

-- the format of a kind
abbrev pub topic_format : Topic → Format Told
topic_format T.Stand = stand
topic_format T.Behind = behind
topic_format T.Door = door
topic_format T.Forgotten = forgotten

abbrev pub kind_format : Kind → Format Meant
kind_format Packet = packet
kind_format (Control t) = like Said (topic_format t)
kind_format (Answer t) = like Answered (topic_format t)
kind_format Refused = refused
kind_format Closed = like Ordered closed
kind_format Added = like Ordered added
kind_format Removed = like Ordered removed
kind_format Ticks = like Ordered ticks

-- the numbers of kinds are those of the formats
abbrev pub KindKnown : Type 0
KindKnown = (n : ℕ) → format_in n formats ≡ option_map kind_format (kind_numbered n)
