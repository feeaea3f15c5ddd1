-- Reading some fields and then others is reading them all. Assumes nothing.
use Rattle.std.proofs.Common.{◌≡◌, ℕ, List, [], ◌∷◌, ◌++◌, drop, Ok, Err, Some, None, Option, Result, sym, refl, ap, ◌∙◌, arith}
use Rattle.std.proofs.lemmas.Bool.Decides.{nat_tests}
use Rattle.fault.specs.declared.Fault.{Fault}
use Rattle.wire.specs.declared.message.At.{At}
use Rattle.wire.specs.declared.message.Unread.{Unread}
use Rattle.wire.specs.Format.{two, Field, sound, read_field, read_fields, onward, stopped, ended}
use Rattle.wire.specs.Formats.{way_f, asker_f, asker_server_f, may_open_f, plain_f, reached, packet}
use Rattle.wire_packet.specs.Views.{sized}

abbrev go_on : (List ℕ → Option At) → ℕ → List Field → Result (List ℕ × List ℕ) Unread → Result (List ℕ × List ℕ) Unread
go_on far B gs (Ok p) = read_fields far B gs p.0 p.1
go_on far B gs (Err u) = Err u

module _ (far : List ℕ → Option At) (B : ℕ) (gs : List Field) where
  onward_then : (stop : Fault → Unread) (go go' : ℕ → List ℕ → Result (List ℕ × List ℕ) Unread) (r : Result (ℕ × List ℕ) Fault)
      → ((v : ℕ) (rest : List ℕ) → go v rest ≡ go_on far B gs (go' v rest)) → onward stop go r ≡ go_on far B gs (onward stop go' r)
  onward_then stop go go' (Ok p) h = h p.0 p.1
  onward_then stop go go' (Err f) h = refl

  pub fields_append : (fs : List Field) (before bs : List ℕ) → read_fields far B (fs ++ gs) before bs ≡ go_on far B gs (read_fields far B fs before bs)
  fields_append [] before bs = refl
  fields_append (f ∷ fs) before bs =
      onward_then (stopped far before) (λ v rest. read_fields far B (fs ++ gs) (before ++ v ∷ []) rest) (λ v rest. read_fields far B fs (before ++ v ∷ []) rest)
      (read_field B f before bs) (λ v rest. fields_append fs (before ++ v ∷ []) rest)

  pub resumes : (fs : List Field) (before bs vs rest : List ℕ) → Ok (vs, rest) ≡ read_fields far B fs before bs → read_fields far B gs vs rest ≡ read_fields far B (fs ++ gs) before bs
  resumes fs before bs vs rest e = ap (go_on far B gs) e ∙ sym (fields_append fs before bs)

-- the same of the fields of a packet behind its way
pub behind_way : (B b p : ℕ) (bs vs rest : List ℕ) → Ok (vs, rest) ≡ read_fields reached B (way_f ∷ asker_f ∷ asker_server_f ∷ []) (b ∷ p ∷ []) bs
    → ended packet B (read_fields reached B (may_open_f ∷ plain_f two ∷ []) vs rest) ≡ ended packet B (read_fields reached B (drop 2 packet.fields) (b ∷ p ∷ []) bs)
behind_way B b p bs vs rest e = ap (ended packet B) (resumes reached B (may_open_f ∷ plain_f two ∷ []) (way_f ∷ asker_f ∷ asker_server_f ∷ []) (b ∷ p ∷ []) bs vs rest e)

-- a packet that has not its length stops the reading of its message
pub length_stops : (B b p w a s o : ℕ) (f : Fault) (r : Result (ℕ × List ℕ) Fault) → Err f ≡ sized r
    → Err (record { fault = f; at = Some (record { bucket = b; place = p }) })
    ≡ ended packet B (onward (stopped reached (b ∷ p ∷ w ∷ a ∷ s ∷ o ∷ [])) (λ v rest. Ok (b ∷ p ∷ w ∷ a ∷ s ∷ o ∷ v ∷ [], rest)) (sound (λ v. None) r))
length_stops B b p w a s o f (Ok q) e = grind (arith, nat_tests)
length_stops B b p w a s o f (Err g) e = cc
