-- Lists that grow at their end. Assumes nothing.
use Rattle.std.proofs.Common.{◌≡◌, List, ◌++◌, sym, ap, ◌∙◌}
use Rattle.std.proofs.lemmas.List.{append_assoc}

-- a loop that puts the first of what is left at the end
pub rest_more : {A : Type 0} (a b x d d' w : List A) → b ≡ a ++ x → d ≡ x ++ d' → a ++ d ≡ w → b ++ d' ≡ w
rest_more a b x d d' w e m i = ap (λ z. z ++ d') e ∙ (append_assoc a x d' ∙ (ap (λ z. a ++ z) (sym m) ∙ i))
