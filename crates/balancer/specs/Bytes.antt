-- What a balancer does with bytes, whoever hands them over. Assumes nothing.
use Rattle.std.specs.Prelude.{ℕ, List, [], ◌∷◌, Ok, Err, Result}
use Rattle.fault.specs.declared.Fault.{Fault}
use Rattle.fault.specs.declared.Fault.TheVariants.{Malformed}
use Rattle.chain.specs.declared.way.Link.{Link}
use Rattle.wire.specs.declared.message.Control.{Control}
use Rattle.wire.specs.declared.message.Control.TheVariants.{Stand, Behind, Door, Forgotten}
use Rattle.wire.specs.Meant.{Meant, Answered}
use Rattle.machine.specs.declared.name.Machine.{Machine}
use Rattle.machine.specs.declared.name.Machine.TheVariants.{Client, Server}
use Rattle.edge.specs.declared.sort.Role.TheVariants as role
use Rattle.edge.specs.Posts.{Mail, mail}
use Rattle.edge.specs.Admission.{refusal}
use Rattle.edge.specs.Sorts.{Sort, Outside, Carries, Tells, Answers, Orders, Refuses, sort}
use Rattle.balancer.specs.declared.News.{News}
use Rattle.balancer.specs.Rules.{sends, hears}

-- to its server, or back to the client
abbrev pub sent_or : List ℕ → Result (ℕ × Meant) Fault → List Mail
sent_or bs (Ok p) = mail (Server p.0) p.1 ∷ []
sent_or bs (Err f) = refusal Client f bs

-- a packet from outside
abbrev pub sends_on : ℕ → List Link → List ℕ → List Mail
sends_on B known bs = sent_or bs (sends B known bs)

-- news are answered, or refused and then nothing changes
abbrev pub answered : Machine → Control → List ℕ → Result (Unit {0}) Fault × List Link → List Mail × List Link
answered from c bs (Ok u, known) = (mail from (Answered c) ∷ [], known)
answered from c bs (Err f, known) = (refusal from f bs, known)

-- told of a bucket's newest place
abbrev pub is_told : Machine → ℕ → Link → List ℕ → List Link → List Mail × List Link
is_told from b newest bs known = answered from (Door b newest) bs (hears b newest known)

abbrev pub is_said : Machine → Control → List ℕ → List Link → List Mail × List Link
is_said from (Stand b p before) bs known = (refusal from Malformed bs, known)
is_said from (Behind b p after) bs known = (refusal from Malformed bs, known)
is_said from (Door b newest) bs known = is_told from b newest bs known
is_said from (Forgotten b p after) bs known = (refusal from Malformed bs, known)

abbrev pub does : ℕ → Machine → List ℕ → List Link → Sort → List Mail × List Link
does B from bs known Outside = (sends_on B known bs, known)
does B from bs known (Carries h key packet) = (refusal from Malformed bs, known)
does B from bs known (Tells c) = is_said from c bs known
does B from bs known (Answers c) = ([], known)
does B from bs known (Orders o) = ([], known)
does B from bs known (Refuses u) = (refusal from u.fault bs, known)

-- what it sends, and what it knows then; it has no clock, so that ticks change nothing
abbrev pub hears_bytes : ℕ → Machine → List ℕ → List Link → List Mail × List Link
hears_bytes B from bs known = does B from bs known (sort role.Balancer from B bs)

-- WHAT IT KNOWS

abbrev pub news_of : Control → List News
news_of (Stand b p before) = []
news_of (Behind b p after) = []
news_of (Door b newest) = record { bucket = b; newest = newest } ∷ []
news_of (Forgotten b p after) = []

abbrev pub news_as : Sort → List News
news_as Outside = []
news_as (Carries h key packet) = []
news_as (Tells c) = news_of c
news_as (Answers c) = []
news_as (Orders o) = []
news_as (Refuses u) = []

-- the news in what came, if it is such a message, whole and from where it may come
abbrev pub news_in : ℕ → Machine → List ℕ → List News
news_in B from bs = news_as (sort role.Balancer from B bs)
