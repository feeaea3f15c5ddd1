-- What goes back is the first of the bytes that came. Assumes nothing.
use Rattle.std.proofs.Common.{◌≡◌, ℕ, min, List, [], ◌∷◌, length, take, Ok, Err, Result, sym, ap, ◌∙◌, inl, inr, arith}
use Rattle.std.proofs.lemmas.List.{take_all, length-take}
use Rattle.std.proofs.lemmas.Bool.{cases_lt}
use Rattle.fault.specs.declared.Error.{Error}
use Rattle.fault.specs.declared.Error.TheVariants.{Of, Memory}
use Rattle.fault.specs.declared.Refusal.{Refusal}
use Rattle.wire.specs.Meant.{Back}
use Rattle.machine.specs.declared.name.Machine.{Machine}
use Rattle.edge.specs.Posts.{Mail, Puts, Sends}
use Rattle.edge.specs.Admission.{sent_back}

pub take_min : (bs : List ℕ) (n m : ℕ) → n ≡ min (length bs) m → take n bs ≡ take m bs
take_min bs n m e =
    elim (cases_lt (length bs) m) [
      | inl h ↦ take_all n bs (omega (arith, e)) ∙ sym (take_all m bs (omega arith))
      | inr h ↦ ap (λ k. take k bs) (omega (arith, e))
    ]

pub sent : (to : Machine) (why : Refusal) (bs cut : List ℕ) (r : Result (Unit {0}) Error) (was after : List Mail)
    → cut ≡ take 65535 bs → Puts to (Back why cut) r was after → Sends (sent_back to why bs ∷ []) r was after
sent to why bs cut (Ok u) was after e p = rw e at p
sent to why bs cut (Err Memory) was after e p = p
sent to why bs cut (Err (Of f)) was after e p = absurd (omega (arith, p.0, ap length e, length-take 65535 bs))
