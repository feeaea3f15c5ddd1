-- What is refused changes nothing, and what is known depends on news alone. Assumes nothing.
use Rattle.std.proofs.Common.{◌≡◌, ℕ, Bool, true, false, cond, ltb, List, [], ◌∷◌, ◌++◌, length, take, is_ok, Ok, Err, Result, sym, refl, ap, ◌∙◌, subst, arith}
use Rattle.std.proofs.lemmas.List.{take_at}
use Rattle.fault.specs.declared.Fault.{Fault}
use Rattle.fault.specs.declared.Error.{Error}
use Rattle.fault.specs.declared.Error.TheVariants.{Of, Memory}
use Rattle.chain.specs.declared.way.Link.{Link}
use Rattle.chain.specs.Ways.{heard_link}
use Rattle.wire.specs.declared.message.Control.{Control}
use Rattle.wire.specs.declared.message.Control.TheVariants.{Stand, Behind, Door, Forgotten}
use Rattle.wire.specs.Meant.{Meant}
use Rattle.machine.specs.declared.name.Machine.{Machine}
use Rattle.machine.specs.declared.name.Machine.TheVariants.{Client}
use Rattle.edge.specs.declared.sort.Role.TheVariants as role
use Rattle.edge.specs.Posts.{Mail, Sends, Does}
use Rattle.edge.specs.Admission.{refusal, Stops}
use Rattle.edge.specs.Sorts.{Sort, Outside, Carries, Tells, Answers, Orders, Refuses, sort}
use Rattle.balancer.specs.Rules.{Sent, link_at, kept, hears, knows_all}
use Rattle.balancer.specs.Bytes.{sent_or, answered, is_told, is_said, does, hears_bytes, news_of, news_as, news_in}

pub packet_stopped : (p : Result (ℕ × Meant) Fault) (e : Error) (bs bytes bytes' : List ℕ) (r : Result (Unit {0}) Error) (was after : List Mail)
    → Sent p (Err e) bytes bytes' → Stops Client bs e r was after → Sends (sent_or bs p) r was after
packet_stopped (Ok p) (Of f) bs bytes bytes' r was after s h = absurd s
packet_stopped (Ok p) Memory bs bytes bytes' r was after s h = rw h.0 h.1
packet_stopped (Err g) (Of f) bs bytes bytes' r was after s h = rw s.0 at h
packet_stopped (Err g) Memory bs bytes bytes' r was after s h = absurd s

kept_same : (b : ℕ) (known known' : List Link) (f : Fault) (l : Result Link Fault) → (Err f, known') ≡ kept b known l → known' ≡ known
kept_same b known known' f (Ok l) e = grind arith
kept_same b known known' f (Err g) e = ap (λ p. p.1) e

test_same : (t : Bool) (b : ℕ) (known known' : List Link) (f g : Fault) (l : Result Link Fault) → (Err f, known') ≡ cond t (kept b known l) (Err g, known) → known' ≡ known
test_same true b known known' f g l e = kept_same b known known' f l e
test_same false b known known' f g l e = ap (λ p. p.1) e

pub refused_same : (b : ℕ) (newest : Link) (known known' : List Link) (f : Fault) → (Err f, known') ≡ hears b newest known → known' ≡ known
refused_same b newest known known' f e = test_same (ltb b (length known)) b known known' f _ (heard_link (link_at known b) newest) e

refused_does : (from : Machine) (c : Control) (bs : List ℕ) (f : Fault) (known known' : List Link) (r : Result (Unit {0}) Error) (out out' : List Mail)
    → known' ≡ known → Sends (refusal from f bs) r out out' → Does (answered from c bs (Err f, known')) r known known' out out'
refused_does from c bs f known known' (Ok u) out out' e s = (refl, s)
refused_does from c bs f known known' (Err Memory) out out' e s = (e, s)
refused_does from c bs f known known' (Err (Of g)) out out' e s = s

pub told_refused : (from : Machine) (b : ℕ) (newest : Link) (bs : List ℕ) (f : Fault) (known known' : List Link) (r : Result (Unit {0}) Error) (out cut out' : List Mail)
    → (Err f, known') ≡ hears b newest known → cut ≡ out → Sends (refusal from f bs) r cut out' → Does (is_told from b newest bs known) r known known' out out'
told_refused from b newest bs f known known' r out cut out' e same s =
    let s' : Sends (refusal from f bs) r out out' = rw same at s in
    subst (λ q. Does (answered from (Door b newest) bs q) r known known' out out') e (refused_does from (Door b newest) bs f known known' r out out' (refused_same b newest known known' f e) s')

pub cut_back : (out put cut : List Mail) (m : Mail) (n : ℕ) → put ≡ out ++ m ∷ [] → cut ≡ take n put → n ≡ length out → cut ≡ out
cut_back out put cut m n e c l = c ∙ (ap (take n) e ∙ take_at out (m ∷ []) n (sym l))

answered_knows : (from : Machine) (c : Control) (bs : List ℕ) (q : Result (Unit {0}) Fault × List Link) → (answered from c bs q).1 ≡ q.1
answered_knows from c bs (Ok u, known) = refl
answered_knows from c bs (Err f, known) = refl

said_knows : (from : Machine) (c : Control) (bs : List ℕ) (known : List Link) → (is_said from c bs known).1 ≡ knows_all known (news_of c)
said_knows from (Stand b p before) bs known = refl
said_knows from (Behind b p after) bs known = refl
said_knows from (Door b newest) bs known = answered_knows from (Door b newest) bs (hears b newest known)
said_knows from (Forgotten b p after) bs known = refl

does_knows : (B : ℕ) (from : Machine) (bs : List ℕ) (known : List Link) (s : Sort) → (does B from bs known s).1 ≡ knows_all known (news_as s)
does_knows B from bs known Outside = refl
does_knows B from bs known (Carries h key packet) = refl
does_knows B from bs known (Tells c) = said_knows from c bs known
does_knows B from bs known (Answers c) = refl
does_knows B from bs known (Orders o) = refl
does_knows B from bs known (Refuses u) = refl

-- whatever came, what is known then is what the news in it make of what was known
pub knows_news : (B : ℕ) (from : Machine) (bs : List ℕ) (known known' : List Link) (r : Result (Unit {0}) Error) (out out' : List Mail)
    → Does (hears_bytes B from bs known) r known known' out out' → known' ≡ cond (is_ok r) (knows_all known (news_in B from bs)) known
knows_news B from bs known known' (Ok u) out out' d = d.0 ∙ does_knows B from bs known (sort role.Balancer from B bs)
knows_news B from bs known known' (Err Memory) out out' d = d.0
knows_news B from bs known known' (Err (Of f)) out out' d = absurd d
