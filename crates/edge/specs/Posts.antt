-- What a machine sends, as bytes. Assumes nothing.
use Rattle.std.specs.Prelude.{◌≡◌, ℕ, ◌≤◌, List, [], ◌∷◌, ◌++◌, map, length, Ok, Err, vec_items, Result}
use Rattle.fault.specs.declared.Fault.TheVariants.{Malformed}
use Rattle.fault.specs.declared.Error.{Error}
use Rattle.fault.specs.declared.Error.TheVariants.{Of, Memory}
use Rattle.wire.specs.Meant.{Meant}
use Rattle.wire.specs.Messages.{encode, payload}
use Rattle.machine.specs.declared.name.Machine.{Machine}
use Rattle.edge.specs.declared.post.Posted.{Posted}
use Rattle.edge.specs.declared.post.Post.{Post}

-- bytes, and who gets them
pub record Mail : Type 0 where
  pub to : Machine
  pub bytes : List ℕ

-- a message, as bytes
abbrev pub mail : Machine → Meant → Mail
mail to m = record { to = to; bytes = encode m }

abbrev pub mail_of : Posted → Mail
mail_of p = record { to = p.to; bytes = vec_items p.bytes }

abbrev pub mails_of : Post → List Mail
mails_of p = map mail_of (vec_items p.posted)

-- bytes behind what was posted before, or, where memory is short, nothing
abbrev pub Adds : Machine → List ℕ → Result (Unit {0}) Error → List Mail → List Mail → Type 0
Adds to bytes (Ok u) was after = after ≡ was ++ record { to = to; bytes = bytes } ∷ []
Adds to bytes (Err Memory) was after = after ≡ was
Adds to bytes (Err (Of f)) was after = ⊥

-- the same of a message, which is refused if the packet in it is too long for its length field
abbrev pub Puts : Machine → Meant → Result (Unit {0}) Error → List Mail → List Mail → Type 0
Puts to m (Ok u) was after = after ≡ was ++ mail to m ∷ []
Puts to m (Err Memory) was after = after ≡ was
Puts to m (Err (Of f)) was after = (65536 ≤ length (payload m)) × (f ≡ Malformed) × (after ≡ was)

-- these behind what was posted before; where memory is short, nothing, and nothing else stops it
abbrev pub Sends : List Mail → Result (Unit {0}) Error → List Mail → List Mail → Type 0
Sends mails (Ok u) was after = after ≡ was ++ mails
Sends mails (Err Memory) was after = after ≡ was
Sends mails (Err (Of f)) was after = ⊥

-- WHAT A MACHINE DOES WITH BYTES

-- what it sends and what is left of it; want of memory changes nothing, and nothing else stops it
abbrev pub Does : {M : Type 0} → List Mail × M → Result (Unit {0}) Error → M → M → List Mail → List Mail → Type 0
Does p (Ok u) was after out out' = (after ≡ p.1) × (out' ≡ out ++ p.0)
Does p (Err Memory) was after out out' = (after ≡ was) × (out' ≡ out)
Does p (Err (Of f)) was after out out' = ⊥
