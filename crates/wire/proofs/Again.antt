-- What was written is read again. Assumes nothing.
use Rattle.std.proofs.Common.{◌≡◌, ℕ, ◌<◌, Bool, true, false, eqb, List, [], ◌∷◌, ◌++◌, length, Some, None, Ok, Option, unwrap_or, refl, ap, ◌∙◌, append_assoc, arith}
use Rattle.std.proofs.lemmas.List.{append-nil}
use Rattle.std.proofs.lemmas.Bool.{eq-eqb, ne_eqb}
use Rattle.fault.specs.declared.Fault.TheVariants.{Malformed, NoSuch, BadPacket, UnknownPlace, WrongBucket, WrongAsker, ServerFull, Contradiction, NoServer, ChainFull}
use Rattle.fault.specs.declared.Refusal.{Refusal}
use Rattle.fault.specs.declared.Refusal.TheVariants.{Nobody, For}
use Rattle.fault.specs.Numbers.{refusal_number, refusal_of}
use Rattle.flow.proofs.Digits.{of16, of32, protocol_again}
use Rattle.chain.specs.declared.way.Link.{Link}
use Rattle.chain.specs.declared.way.Way.{Way}
use Rattle.chain.specs.declared.way.Way.TheVariants.{Up, Down, Asked}
use Rattle.chain.specs.Ways.{way_number}
use Rattle.wire.specs.declared.message.At.{At}
use Rattle.wire.specs.declared.message.Control.TheVariants.{Stand, Behind, Door, Forgotten}
use Rattle.wire.specs.declared.message.Order.TheVariants.{Closed, Added, Removed, Ticks}
use Rattle.wire.specs.Meant.{Meant, Carried, Said, Answered, Back, Ordered}
use Rattle.wire.specs.Format.{Width, one, two, four, digits, number_in, Field, Format, read_fields, ended, read_all, put}
use Rattle.wire.specs.Formats.{stand, behind, door, forgotten, closed, added, removed, ticks, packet, refused, way_of, asker_of, opens_byte, link_of, link_or_none}
use Rattle.wire.specs.Messages.{like, formats, format_in, values, payload, decode}
use Rattle.wire.specs.Laws.{below, Fits, Real, ReadAgain}
use Rattle.wire.proofs.Cuts.{number_whole, decode_kind}

number_back : (w : Width) (n : ℕ) (tail : List ℕ) → n < below w → number_in w (digits w n ++ tail) ≡ Ok (n, tail)
number_back one n tail h = number_whole one (digits one n ++ tail) (omega arith)
number_back two n tail h = rw (of16 n h) at (number_whole two (digits two n ++ tail) (omega arith))
number_back four n tail h = rw (of32 n h) at (number_whole four (digits four n ++ tail) (omega arith))

fields_back : (far : List ℕ → Option At) (B : ℕ) (fs : List Field) (before vs tail : List ℕ) → Fits fs B before vs → read_fields far B fs before (put fs vs ++ tail) ≡ Ok (before ++ vs, tail)
fields_back far B [] before [] tail h = rw (append-nil before)
fields_back far B [] before (v ∷ vs) tail h = absurd h
fields_back far B (f ∷ fs) before [] tail h = absurd h
fields_back far B (f ∷ fs) before (v ∷ vs) tail h =
    let ih = fields_back far B fs (before ++ v ∷ []) vs tail h.2 in
    rw (append_assoc (digits f.width v) (put fs vs) tail, number_back f.width v (put fs vs ++ tail) h.0, h.1)
    (rw (append_assoc before (v ∷ []) vs) at ih)

format_back : {A : Type 0} (F : Format A) (B : ℕ) (vs tail : List ℕ) (x : A) → Fits F.fields B [] vs → length tail ≡ F.behind vs → F.means B vs tail ≡ Ok x
    → read_all F B (put F.fields vs ++ tail) ≡ Ok x
format_back F B vs tail x h long e =
    ap (ended F B) (fields_back F.far B F.fields [] vs tail h) ∙ rw (eq-eqb (length tail) (F.behind vs) long, e)

way_again : (w : Way) → way_of (way_number w) (link_of (asker_of w).place (asker_of w).server) ≡ w
way_again Up = refl
way_again (Down by) = refl
way_again (Asked by) = refl

opened_again : (t : Bool) → eqb (opens_byte t) 1 ≡ t
opened_again true = refl
opened_again false = refl

refusal_again : (why : Refusal) → unwrap_or (refusal_of (refusal_number why)) Nobody ≡ why
refusal_again Nobody = refl
refusal_again (For Malformed) = refl
refusal_again (For NoSuch) = refl
refusal_again (For BadPacket) = refl
refusal_again (For UnknownPlace) = refl
refusal_again (For WrongBucket) = refl
refusal_again (For WrongAsker) = refl
refusal_again (For ServerFull) = refl
refusal_again (For Contradiction) = refl
refusal_again (For NoServer) = refl
refusal_again (For ChainFull) = refl

link_again : (l : Option Link) → Real l → link_or_none (unwrap_or l (link_of 0 0)).place (unwrap_or l (link_of 0 0)).server ≡ l
link_again None h = refl
link_again (Some l) h = rw (ne_eqb l.place 0 (λ e. omega arith))

kind_back : (B k : ℕ) (F : Format Meant) (m : Meant) → format_in k formats ≡ Some F → Fits F.fields B [] (values m) → length (payload m) ≡ F.behind (values m)
    → F.means B (values m) (payload m) ≡ Ok m → decode B (k ∷ (put F.fields (values m) ++ payload m)) ≡ Ok m
kind_back B k F m known h long e =
    decode_kind B k (put F.fields (values m) ++ payload m) ∙ rw known (format_back F B (values m) (payload m) m h long e)

pub read_again : ReadAgain
read_again B (Carried head key bs) h = kind_back B 1 packet (Carried head key bs) refl h.0 refl (rw (way_again head.way, opened_again head.opens, h.1))
read_again B (Said (Stand b p l)) h = kind_back B 2 (like Said stand) (Said (Stand b p l)) refl h.0 refl (rw (link_again l h.1))
read_again B (Said (Behind b p l)) h = kind_back B 3 (like Said behind) (Said (Behind b p l)) refl h.0 refl refl
read_again B (Said (Door b l)) h = kind_back B 4 (like Said door) (Said (Door b l)) refl h.0 refl refl
read_again B (Said (Forgotten b p l)) h = kind_back B 5 (like Said forgotten) (Said (Forgotten b p l)) refl h.0 refl refl
read_again B (Answered (Stand b p l)) h = kind_back B 34 (like Answered stand) (Answered (Stand b p l)) refl h.0 refl (rw (link_again l h.1))
read_again B (Answered (Behind b p l)) h = kind_back B 35 (like Answered behind) (Answered (Behind b p l)) refl h.0 refl refl
read_again B (Answered (Door b l)) h = kind_back B 36 (like Answered door) (Answered (Door b l)) refl h.0 refl refl
read_again B (Answered (Forgotten b p l)) h = kind_back B 37 (like Answered forgotten) (Answered (Forgotten b p l)) refl h.0 refl refl
read_again B (Back why bs) h = kind_back B 6 refused (Back why bs) refl h.0 refl (rw (refusal_again why))
read_again B (Ordered (Closed key)) h = kind_back B 7 (like Ordered closed) (Ordered (Closed key)) refl h.0 refl (rw (protocol_again key.protocol))
read_again B (Ordered (Added s)) h = kind_back B 8 (like Ordered added) (Ordered (Added s)) refl h.0 refl refl
read_again B (Ordered (Removed s)) h = kind_back B 9 (like Ordered removed) (Ordered (Removed s)) refl h.0 refl refl
read_again B (Ordered (Ticks n)) h = kind_back B 10 (like Ordered ticks) (Ordered (Ticks n)) refl h.0 refl refl
