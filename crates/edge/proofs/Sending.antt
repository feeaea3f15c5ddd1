-- One message after the other, or none. Assumes nothing.
use Rattle.std.proofs.Common.{◌≡◌, ℕ, ◌+◌, ◌<◌, List, [], ◌∷◌, ◌++◌, map, length, get_or, take, Err, sym, ap, ◌∙◌, append_assoc}
use mathlib.Core.List.{map-append}
use Rattle.std.proofs.lemmas.List.{take_more, take_at}
use Rattle.fault.specs.declared.Error.{Error}
use Rattle.fault.specs.declared.Error.TheVariants.{Of, Memory}
use Rattle.machine.specs.declared.sent.Sent.{Sent}
use Rattle.edge.specs.Posts.{Mail, Sends}
use Rattle.edge.specs.Admission.{mail_in}

pub one_more : (was out out' : List Mail) (all : List Sent) (i : ℕ) (d : Sent) → i < length all
    → out ≡ was ++ map mail_in (take i all) → out' ≡ out ++ mail_in (get_or all i d) ∷ [] → out' ≡ was ++ map mail_in (take (i + 1) all)
one_more was out out' all i d h e g =
    let m = ap (map mail_in) (take_more all i d h) ∙ map-append mail_in (take i all) (get_or all i d ∷ []) in
    let a = append_assoc was (map mail_in (take i all)) (mail_in (get_or all i d) ∷ []) in
    g ∙ (ap (λ l. l ++ mail_in (get_or all i d) ∷ []) e ∙ (a ∙ ap (λ l. was ++ l) (sym m)))

pub cut_back : (mails done : List Mail) (e : Error) (was out out' after : List Mail) (n : ℕ)
    → out ≡ was ++ done → Sends mails (Err e) out out' → after ≡ take n out' → n ≡ length was → Sends mails (Err e) was after
cut_back mails done Memory was out out' after n e s cut l = cut ∙ (ap (take n) (s ∙ e) ∙ take_at was done n (sym l))
cut_back mails done (Of f) was out out' after n e s cut l = s
