-- A format with another meaning is read as before, and a kind leads to its format. Assumes nothing.
use Rattle.std.proofs.Common.{◌≡◌, ℕ, Bool, true, false, cond, eqb, List, [], ◌∷◌, length, drop, Some, None, Ok, Err, Option, Result, ok_or, option_map, sym, refl, ap, ◌∙◌}
use Rattle.fault.specs.declared.Fault.{Fault}
use Rattle.fault.specs.declared.Fault.TheVariants.{Malformed}
use Rattle.wire.specs.declared.message.At.{At}
use Rattle.wire.specs.declared.message.Unread.{Unread}
use Rattle.wire.specs.Stops.{located}
use Rattle.wire.specs.Meant.{Meant}
use Rattle.wire.specs.Format.{Format, one, number_in, ended, read_all, read_fields}
use Rattle.wire.specs.declared.message.Control.{Control}
use Rattle.wire.specs.declared.kind.Kind.{Kind}
use Rattle.wire.specs.declared.kind.Topic.{Topic}
use Rattle.wire.specs.declared.kind.Topic.TheVariants.{Stand, Behind, Door, Forgotten}
use Rattle.wire.specs.Formats.{bucket_f, place_f, reached, stand, behind, door, forgotten}
use Rattle.wire.specs.Kinds.{kind_numbered, kind_format, topic_format}
use Rattle.wire.proofs.Numbered.{kind_known}
use Rattle.wire_packet.proofs.Fields.{resumes}
use Rattle.wire.specs.Messages.{map_ok, like, formats, format_in, read_by, behind_kind, decode}

some_from_ok : (o : Option Kind) {k : Kind} → Ok k ≡ ok_or o Malformed → o ≡ Some k
some_from_ok None e = cc
some_from_ok (Some x) e = cc

module _ {A C : Type 0} (f : A → C) where
  like_located : (at : Option At) (t : Bool) (r : Result A Fault) → located at (cond t (map_ok f r) (Err Malformed)) ≡ map_ok f (located at (cond t r (Err Malformed)))
  like_located at true (Ok x) = refl
  like_located at true (Err e) = refl
  like_located at false r = refl

  like_ended : (F : Format A) (B : ℕ) (x : Result (List ℕ × List ℕ) Unread) → ended (like f F) B x ≡ map_ok f (ended F B x)
  like_ended F B (Ok p) = like_located (F.far p.0) (eqb (length p.1) (F.behind p.0)) (F.means B p.0 p.1)
  like_ended F B (Err u) = refl

-- bucket and place, and what is said about them, are the whole
pub about_place : (t : Topic) (B b p : ℕ) (bs rest : List ℕ) (r : Result Control Unread) → Ok (b ∷ p ∷ [], rest) ≡ read_fields reached B (bucket_f ∷ place_f ∷ []) [] bs
    → r ≡ ended (topic_format t) 0 (read_fields reached 0 (drop 2 (topic_format t).fields) (b ∷ p ∷ []) rest) → r ≡ read_all (topic_format t) B bs
about_place Stand B b p bs rest r e h = h ∙ ap (ended stand B) (resumes reached B (drop 2 stand.fields) (bucket_f ∷ place_f ∷ []) [] bs _ _ e)
about_place Behind B b p bs rest r e h = h ∙ ap (ended behind B) (resumes reached B (drop 2 behind.fields) (bucket_f ∷ place_f ∷ []) [] bs _ _ e)
about_place Door B b p bs rest r e h = h ∙ ap (ended door B) (resumes reached B (drop 2 door.fields) (bucket_f ∷ place_f ∷ []) [] bs _ _ e)
about_place Forgotten B b p bs rest r e h = h ∙ ap (ended forgotten B) (resumes reached B (drop 2 forgotten.fields) (bucket_f ∷ place_f ∷ []) [] bs _ _ e)

-- a kind leads to its format
by_kind : (k : Kind) (n B : ℕ) (bs rest : List ℕ) (r : Result Meant Unread) → Ok k ≡ ok_or (kind_numbered n) Malformed → Ok (n, rest) ≡ number_in one bs
    → r ≡ read_all (kind_format k) B rest → r ≡ decode B bs
by_kind k n B bs rest r e at h =
    let here : kind_numbered n ≡ Some k = some_from_ok (kind_numbered n) e in
    let known : format_in n formats ≡ Some (kind_format k) = kind_known n ∙ ap (option_map kind_format) here in
    h ∙ (ap (read_by B rest) (sym known) ∙ ap (behind_kind B) at)

-- the same of a control, said or answered
pub by_topic : (f : Control → Meant) (t : Topic) (k : Kind) (n B : ℕ) (bs rest : List ℕ) (r : Result Control Unread) → kind_format k ≡ like f (topic_format t)
    → Ok k ≡ ok_or (kind_numbered n) Malformed → Ok (n, rest) ≡ number_in one bs → r ≡ read_all (topic_format t) B rest → map_ok f r ≡ decode B bs
by_topic f t k n B bs rest r same e at h =
    let F = topic_format t in
    by_kind k n B bs rest (map_ok f r) e at
    (ap (map_ok f) h ∙ (sym (like_ended f F B (read_fields F.far B F.fields [] rest)) ∙ ap (λ G. read_all G B rest) (sym same)))
