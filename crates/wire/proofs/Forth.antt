-- What was read is written again as the same bytes. Assumes nothing.
use Rattle.std.proofs.Common.{◌≡◌, ℕ, suc, ◌+◌, ◌*◌, ◌/◌, ◌%◌, ◌<◌, ◌≤◌, cond, eqb, List, [], ◌∷◌, ◌++◌, length, get_or, take, drop, is_some, Some, None, Ok, Err, Option, Result, unwrap_or, sym, refl, ap, ◌∙◌, inl, inr, append_assoc, arith}
use Rattle.std.proofs.lemmas.List.{append-nil, get_or-drop, take-append-drop, nil_from_length}
use Rattle.std.proofs.lemmas.Bool.{cases_lt, cases_Bool, eqb-true, cond-true, cond-false}
use Rattle.std.proofs.lemmas.Bool.Decides.{nat_tests}
use Rattle.std.specs.List.{AllByRecursion as All}
use Rattle.fault.specs.declared.Fault.{Fault}
use Rattle.fault.specs.declared.Fault.TheVariants.{Malformed, NoSuch, BadPacket, WrongAsker}
use Rattle.fault.specs.declared.Refusal.TheVariants.{Nobody}
use Rattle.fault.specs.Numbers.{refusal_number, refusal_of}
use Rattle.flow.specs.declared.key.FlowKey.{FlowKey}
use Rattle.flow.specs.declared.key.Protocol.TheVariants.{Tcp}
use Rattle.flow.specs.Bytes.{protocol_of}
use Rattle.flow.specs.Key.{protocol_number}
use Rattle.chain.specs.declared.way.Link.{Link}
use Rattle.chain.specs.Ways.{way_number}
use Rattle.wire.specs.declared.message.Head.{Head}
use Rattle.wire.specs.declared.message.At.{At}
use Rattle.wire.specs.declared.message.Control.{Control}
use Rattle.wire.specs.declared.message.Control.TheVariants.{Stand, Behind, Door, Forgotten}
use Rattle.wire.specs.declared.message.Order.{Order}
use Rattle.wire.specs.declared.message.Order.TheVariants.{Closed, Added, Removed, Ticks}
use Rattle.wire.specs.Stops.{unplaced}
use Rattle.wire.specs.Meant.{Meant, Carried, Said, Answered, Back, Ordered}
use Rattle.wire.specs.Format.{Width, one, two, four, size, value, digits, Field, Format, judged, read_fields, onward, stopped, read_all, put}
use Rattle.wire.specs.Formats.{server_f, plain_f, stand, behind, door, forgotten, closed, added, removed, ticks, packet, refused, link_of, link_or_none, way_of, asker_of, opens_byte, inside_of, carried_by, unless, among, fixed, reached, nowhere}
use Rattle.wire.specs.Messages.{like, formats, format_in, read_by, kind_of, values, payload, encode, control_kind, control_values, order_kind, order_values}
use Rattle.wire.specs.Laws.{below, Fits, RealControl, TrueTo, Proper, Bytes, WrittenAgain}
use Rattle.wire.proofs.Numbers.{number_cut}
use Rattle.wire.proofs.Cuts.{number_whole, never, same_ok, ended_ok, decode_kind, decode_none}

-- the digits of the number in front are its bytes
digits_back : (w : Width) (bs : List ℕ) → Bytes bs → size w ≤ length bs → digits w (value w bs) ≡ take (size w) bs
digits_back one [] ok h = absurd (omega arith)
digits_back one (a ∷ bs) ok h = refl
digits_back two [] ok h = absurd (omega arith)
digits_back two (a ∷ []) ok h = absurd (omega arith)
digits_back two (a ∷ b ∷ bs) ok h =
    let x = ok 0 in let y = ok 1 in
    let p : (a * 256 + b) / 256 % 256 ≡ a = omega arith in
    let q : (a * 256 + b) % 256 ≡ b = omega arith in
    rw (p, q)
digits_back four [] ok h = absurd (omega arith)
digits_back four (a ∷ []) ok h = absurd (omega arith)
digits_back four (a ∷ b ∷ []) ok h = absurd (omega arith)
digits_back four (a ∷ b ∷ c ∷ []) ok h = absurd (omega arith)
digits_back four (a ∷ b ∷ c ∷ d ∷ bs) ok h =
    let x = ok 0 in let y = ok 1 in let z = ok 2 in let t = ok 3 in
    let p : (a * 16777216 + b * 65536 + c * 256 + d) / 16777216 % 256 ≡ a = omega arith in
    let q : (a * 16777216 + b * 65536 + c * 256 + d) / 65536 % 256 ≡ b = omega arith in
    let r : (a * 16777216 + b * 65536 + c * 256 + d) / 256 % 256 ≡ c = omega arith in
    let s : (a * 16777216 + b * 65536 + c * 256 + d) % 256 ≡ d = omega arith in
    rw (p, q, r, s)

value_below : (w : Width) (bs : List ℕ) → Bytes bs → value w bs < below w
value_below one bs ok = ok 0
value_below two bs ok = omega (arith, ok 0, ok 1)
value_below four bs ok = omega (arith, ok 0, ok 1, ok 2, ok 3)

-- the values that were read, and the bytes that they are
abbrev Forth : List Field → ℕ → List ℕ → List ℕ → List ℕ → List ℕ → Type 0
Forth fs B before bs ws rest = (vs : List ℕ) × (ws ≡ before ++ vs) × Fits fs B before vs × (bs ≡ put fs vs ++ rest)

module _ (far : List ℕ → Option At) (B : ℕ) where
  forth_at : (f : Field) (fs : List Field) (before bs ws rest : List ℕ) (o : Option Fault) → Bytes bs → size f.width ≤ length bs → f.wrong B before (value f.width bs) ≡ o
      → (read_fields far B fs (before ++ value f.width bs ∷ []) (drop (size f.width) bs) ≡ Ok (ws, rest) → Forth fs B (before ++ value f.width bs ∷ []) (drop (size f.width) bs) ws rest)
      → onward (stopped far before) (λ v rest. read_fields far B fs (before ++ v ∷ []) rest) (judged o (value f.width bs, drop (size f.width) bs)) ≡ Ok (ws, rest)
      → Forth (f ∷ fs) B before bs ws rest
  forth_at f fs before bs ws rest (Some g) ok h e ih r = never (stopped far before g) (ws, rest) r
  forth_at f fs before bs ws rest None ok h e ih r =
      let q = ih r in
      let whole : bs ≡ digits f.width (value f.width bs) ++ drop (size f.width) bs = rw (digits_back f.width bs ok h) (sym (take-append-drop (size f.width) bs)) in (
        value f.width bs ∷ q.0,
        q.1 ∙ append_assoc before (value f.width bs ∷ []) q.0,
        (value_below f.width bs ok, e, q.2),
        whole ∙ (ap (λ t. digits f.width (value f.width bs) ++ t) q.3 ∙ sym (append_assoc (digits f.width (value f.width bs)) (put fs q.0) rest)),
      )

  forth : (fs : List Field) (before bs ws rest : List ℕ) → Bytes bs → read_fields far B fs before bs ≡ Ok (ws, rest) → Forth fs B before bs ws rest
  forth [] before bs ws rest ok e =
      let p = same_ok (before, bs) (ws, rest) e in
      let q : before ≡ ws = ap (λ p. p.0) p in
      let r : bs ≡ rest = ap (λ p. p.1) p in
      ([], sym q ∙ sym (append-nil before), tt, r)
  forth (f ∷ fs) before bs ws rest ok e =
      elim (cases_lt (length bs) (size f.width)) [
        | inl h ↦ never (stopped far before Malformed) (ws, rest) (rw (sym (number_cut f.width bs h)) at e)
        | inr h ↦
            let left : Bytes (drop (size f.width) bs) = λ i. rw (get_or-drop (size f.width) bs i 0) (ok (size f.width + i)) in
            forth_at f fs before bs ws rest (f.wrong B before (value f.width bs)) ok h refl
            (forth fs (before ++ value f.width bs ∷ []) (drop (size f.width) bs) ws rest left)
            (rw (number_whole f.width bs h) at e)
      ]

-- BY KIND

-- what the values of a format mean has that kind and those values
abbrev Law : ℕ → Format Meant → Type 0
Law k F = (B : ℕ) (vs rest : List ℕ) (m : Meant) → Fits F.fields B [] vs → length rest ≡ F.behind vs → F.means B vs rest ≡ Ok m
    → (kind_of m ≡ k) × (values m ≡ vs) × (payload m ≡ rest) × TrueTo B m

abbrev ControlLaw : ℕ → (List Field) → (List ℕ → Control) → Type 0
ControlLaw k fs means = (B : ℕ) (vs : List ℕ) → Fits fs B [] vs → (control_kind (means vs) ≡ k) × (control_values (means vs) ≡ vs) × RealControl (means vs)

abbrev OrderLaw : ℕ → (List Field) → (List ℕ → Order) → Type 0
OrderLaw k fs means = (B : ℕ) (vs : List ℕ) → Fits fs B [] vs → (order_kind (means vs) ≡ k) × (order_values (means vs) ≡ vs)

abbrev stand_of : List ℕ → Control
stand_of vs = Stand (get_or vs 0 0) (get_or vs 1 0) (link_or_none (get_or vs 2 0) (get_or vs 3 0))

stand_law : ControlLaw 2 stand.fields stand_of
stand_law B [] h = absurd h
stand_law B (b ∷ []) h = absurd h.2
stand_law B (b ∷ p ∷ []) h = absurd h.2.2
stand_law B (b ∷ p ∷ q ∷ []) h = absurd h.2.2.2
stand_law B (b ∷ p ∷ q ∷ s ∷ t ∷ vs) h = absurd h.2.2.2.2
stand_law B (b ∷ p ∷ q ∷ s ∷ []) h = let w = h.2.2.2.1 in (refl, grind (arith, nat_tests), grind (arith, nat_tests))

abbrev link_in : List ℕ → Link
link_in vs = link_of (get_or vs 2 0) (get_or vs 3 0)

-- a place and the place after it
neighbour_law : (k : ℕ) (make : ℕ → ℕ → Link → Control) → ((b p : ℕ) (l : Link) → (control_kind (make b p l) ≡ k) × (control_values (make b p l) ≡ b ∷ p ∷ l.place ∷ l.server ∷ []) × RealControl (make b p l))
    → ControlLaw k behind.fields (λ vs. make (get_or vs 0 0) (get_or vs 1 0) (link_in vs))
neighbour_law k make law B [] h = absurd h
neighbour_law k make law B (b ∷ []) h = absurd h.2
neighbour_law k make law B (b ∷ p ∷ []) h = absurd h.2.2
neighbour_law k make law B (b ∷ p ∷ q ∷ []) h = absurd h.2.2.2
neighbour_law k make law B (b ∷ p ∷ q ∷ s ∷ t ∷ vs) h = absurd h.2.2.2.2
neighbour_law k make law B (b ∷ p ∷ q ∷ s ∷ []) h = law b p (link_of q s)

behind_law : ControlLaw 3 behind.fields (λ vs. Behind (get_or vs 0 0) (get_or vs 1 0) (link_in vs))
behind_law = neighbour_law 3 Behind (λ b p l. (refl, refl, tt))

forgotten_law : ControlLaw 5 forgotten.fields (λ vs. Forgotten (get_or vs 0 0) (get_or vs 1 0) (link_in vs))
forgotten_law = neighbour_law 5 Forgotten (λ b p l. (refl, refl, tt))

door_law : ControlLaw 4 door.fields (λ vs. Door (get_or vs 0 0) (link_of (get_or vs 1 0) (get_or vs 2 0)))
door_law B [] h = absurd h
door_law B (b ∷ []) h = absurd h.2
door_law B (b ∷ p ∷ []) h = absurd h.2.2
door_law B (b ∷ p ∷ s ∷ t ∷ vs) h = absurd h.2.2.2
door_law B (b ∷ p ∷ s ∷ []) h = (refl, refl, tt)

-- one number
number_law : (f : Field) (k : ℕ) (make : ℕ → Order) → ((n : ℕ) → (order_kind (make n) ≡ k) × (order_values (make n) ≡ n ∷ [])) → OrderLaw k (f ∷ []) (λ vs. make (get_or vs 0 0))
number_law f k make law B [] h = absurd h
number_law f k make law B (n ∷ t ∷ vs) h = absurd h.2
number_law f k make law B (n ∷ []) h = law n

added_law : OrderLaw 8 added.fields (λ vs. Added (get_or vs 0 0))
added_law = number_law server_f 8 Added (λ n. (refl, refl))

removed_law : OrderLaw 9 removed.fields (λ vs. Removed (get_or vs 0 0))
removed_law = number_law server_f 9 Removed (λ n. (refl, refl))

ticks_law : OrderLaw 10 ticks.fields (λ vs. Ticks (get_or vs 0 0))
ticks_law = number_law (plain_f four) 10 Ticks (λ n. (refl, refl))

protocol_back : (n : ℕ) → unless (is_some (protocol_of n)) BadPacket ≡ None → protocol_number (unwrap_or (protocol_of n) Tcp) ≡ n
protocol_back n e = grind (arith, nat_tests)

abbrev closed_of : List ℕ → Order
closed_of vs = Closed (record { src = get_or vs 0 0; dst = get_or vs 1 0; sport = get_or vs 2 0; dport = get_or vs 3 0; protocol = unwrap_or (protocol_of (get_or vs 4 0)) Tcp })

closed_law : OrderLaw 7 closed.fields closed_of
closed_law B [] h = absurd h
closed_law B (s ∷ []) h = absurd h.2
closed_law B (s ∷ d ∷ []) h = absurd h.2.2
closed_law B (s ∷ d ∷ a ∷ []) h = absurd h.2.2.2
closed_law B (s ∷ d ∷ a ∷ b ∷ []) h = absurd h.2.2.2.2
closed_law B (s ∷ d ∷ a ∷ b ∷ n ∷ t ∷ vs) h = absurd h.2.2.2.2.2
closed_law B (s ∷ d ∷ a ∷ b ∷ n ∷ []) h = (refl, rw (protocol_back n h.2.2.2.2.1))

module _ (fs : List Field) where
  said_law : (k : ℕ) (means : List ℕ → Control) → ControlLaw k fs means → Law k (like Said (fixed reached fs means))
  said_law k means law B vs rest m h long e =
      let q = law B vs h in
      rw (sym (same_ok (Said (means vs)) m e)) (q.0, q.1, sym (nil_from_length rest long), q.2)

  answer_law : (k : ℕ) (means : List ℕ → Control) → ControlLaw k fs means → Law (k + 32) (like Answered (fixed reached fs means))
  answer_law k means law B vs rest m h long e =
      let q = law B vs h in
      rw (sym (same_ok (Answered (means vs)) m e)) (ap (λ n. n + 32) q.0, q.1, sym (nil_from_length rest long), q.2)

  order_law : (k : ℕ) (means : List ℕ → Order) → OrderLaw k fs means → Law k (like Ordered (fixed nowhere fs means))
  order_law k means law B vs rest m h long e =
      let q = law B vs h in
      rw (sym (same_ok (Ordered (means vs)) m e)) (q.0, q.1, sym (nil_from_length rest long), tt)

refusal_back : (n : ℕ) → unless (is_some (refusal_of n)) NoSuch ≡ None → refusal_number (unwrap_or (refusal_of n) Nobody) ≡ n
refusal_back n e = grind (arith, nat_tests)

refused_law : Law 6 refused
refused_law B [] rest m h long e = absurd h
refused_law B (n ∷ []) rest m h long e = absurd h.2
refused_law B (n ∷ l ∷ t ∷ vs) rest m h long e = absurd h.2.2
refused_law B (n ∷ l ∷ []) rest m h long e =
    rw (sym (same_ok (Back (unwrap_or (refusal_of n) Nobody) rest) m e)) (refl, rw (refusal_back n h.1, long), refl, tt)

carried_ok : (head : Head) (bs : List ℕ) (m : Meant) (r : Result FlowKey Fault) → carried_by head bs r ≡ Ok m → (key : FlowKey) × (r ≡ Ok key) × (Carried head key bs ≡ m)
carried_ok head bs m (Ok key) e = (key, refl, same_ok (Carried head key bs) m e)
carried_ok head bs m (Err f) e = never f m e

module _ (p w a s o : ℕ) (known : unless (among w (1 ∷ 2 ∷ 3 ∷ [])) NoSuch ≡ None) where
  way_back : way_number (way_of w (link_of a s)) ≡ w
  way_back = grind (arith, nat_tests)

  asker_place : cond (eqb w 1) (unless (eqb a 0) NoSuch) (cond (eqb a 0) (Some NoSuch) (cond (eqb w 3) (unless (eqb a p) WrongAsker) None)) ≡ None → (asker_of (way_of w (link_of a s))).place ≡ a
  asker_place e = grind (arith, nat_tests)

  asker_server : cond (eqb w 1) (unless (eqb s 0) NoSuch) None ≡ None → (asker_of (way_of w (link_of a s))).server ≡ s
  asker_server e = grind (arith, nat_tests)

  byte_opens : cond (among o (0 ∷ 1 ∷ [])) (cond (eqb w 3) (unless (eqb o 1) WrongAsker) None) (Some NoSuch) ≡ None → opens_byte (eqb o 1) ≡ o
  byte_opens e = grind (arith, nat_tests)

packet_law : Law 1 packet
packet_law B [] rest m h long e = absurd h
packet_law B (b ∷ []) rest m h long e = absurd h.2
packet_law B (b ∷ p ∷ []) rest m h long e = absurd h.2.2
packet_law B (b ∷ p ∷ w ∷ []) rest m h long e = absurd h.2.2.2
packet_law B (b ∷ p ∷ w ∷ a ∷ []) rest m h long e = absurd h.2.2.2.2
packet_law B (b ∷ p ∷ w ∷ a ∷ s ∷ []) rest m h long e = absurd h.2.2.2.2.2
packet_law B (b ∷ p ∷ w ∷ a ∷ s ∷ o ∷ []) rest m h long e = absurd h.2.2.2.2.2.2
packet_law B (b ∷ p ∷ w ∷ a ∷ s ∷ o ∷ l ∷ t ∷ vs) rest m h long e = absurd h.2.2.2.2.2.2.2
packet_law B (b ∷ p ∷ w ∷ a ∷ s ∷ o ∷ l ∷ []) rest m h long e =
    let known = h.2.2.1 in
    let q = carried_ok (record { bucket = b; place = p; way = way_of w (link_of a s); opens = eqb o 1 }) rest m (inside_of B b rest) e in
    rw (sym q.2) (
      refl,
      rw (way_back p w a s o known, asker_place p w a s o known h.2.2.2.1, asker_server p w a s o known h.2.2.2.2.1, byte_opens p w a s o known h.2.2.2.2.2.1, long),
      refl,
      q.1,
    )

laws : All (λ x. Law x.0 x.1) formats
laws = (
  packet_law,
  (
    said_law stand.fields 2 stand_of stand_law,
    (
      said_law behind.fields 3 (λ vs. Behind (get_or vs 0 0) (get_or vs 1 0) (link_in vs)) behind_law,
      (
        said_law door.fields 4 (λ vs. Door (get_or vs 0 0) (link_of (get_or vs 1 0) (get_or vs 2 0))) door_law,
        (
          said_law forgotten.fields 5 (λ vs. Forgotten (get_or vs 0 0) (get_or vs 1 0) (link_in vs)) forgotten_law,
          (
            refused_law,
            (
              order_law closed.fields 7 closed_of closed_law,
              (
                order_law added.fields 8 (λ vs. Added (get_or vs 0 0)) added_law,
                (
                  order_law removed.fields 9 (λ vs. Removed (get_or vs 0 0)) removed_law,
                  (
                    order_law ticks.fields 10 (λ vs. Ticks (get_or vs 0 0)) ticks_law,
                    (
                      answer_law stand.fields 2 stand_of stand_law,
                      (
                        answer_law behind.fields 3 (λ vs. Behind (get_or vs 0 0) (get_or vs 1 0) (link_in vs)) behind_law,
                        (
                          answer_law door.fields 4 (λ vs. Door (get_or vs 0 0) (link_of (get_or vs 1 0) (get_or vs 2 0))) door_law,
                          (
                            answer_law forgotten.fields 5 (λ vs. Forgotten (get_or vs 0 0) (get_or vs 1 0) (link_in vs)) forgotten_law,
                            tt,
                          ),
                        ),
                      ),
                    ),
                  ),
                ),
              ),
            ),
          ),
        ),
      ),
    ),
  ),
)

same_some : {X : Type 0} (x y : X) → Some x ≡ Some y → x ≡ y
same_some x y e = cc

looked_up : (P : ℕ → Format Meant → Type 0) (table : List (ℕ × Format Meant)) → All (λ x. P x.0 x.1) table → (k : ℕ) (F : Format Meant) → format_in k table ≡ Some F → P k F
looked_up P [] all k F e = let z : ◌≡◌ {A = ℕ} 0 1 = cc in absurd (omega arith)
looked_up P (x ∷ xs) all k F e =
    elim (cases_Bool (eqb k x.0)) [
      | inl t ↦
          let here : Some x.1 ≡ Some F = sym (cond-true (eqb k x.0) (Some x.1) (format_in k xs) t) ∙ e in
          rw (eqb-true k x.0 t, sym (same_some x.1 F here)) all.0
      | inr f ↦ looked_up P xs all.1 k F (sym (cond-false (eqb k x.0) (Some x.1) (format_in k xs) f) ∙ e)
    ]

abbrev Same : ℕ → ℕ → List ℕ → Meant → Type 0
Same B k bs m = (encode m ≡ k ∷ bs) × Proper B m

format_forth : (B k : ℕ) (bs : List ℕ) (m : Meant) (F : Format Meant) → format_in k formats ≡ Some F → Bytes bs → read_all F B bs ≡ Ok m → Same B k bs m
format_forth B k bs m F known ok e =
    let r = ended_ok F B m (read_fields F.far B F.fields [] bs) e in
    let q = forth F.far B F.fields [] bs r.0 r.1 ok r.2 in
    let long : length r.1 ≡ F.behind q.0 = rw q.1 at r.3 in
    let means : F.means B q.0 r.1 ≡ Ok m = rw q.1 at r.4 in
    let law = looked_up Law formats laws k F known B q.0 r.1 m q.2 long means in
    let found : format_in (kind_of m) formats ≡ Some F = rw law.0 known in
    (rw (found, law.0, law.1, law.2) (ap (λ t. k ∷ t) (sym q.3)), (rw (found, law.1) q.2, law.3))

kind_forth : (B k : ℕ) (bs : List ℕ) (m : Meant) (o : Option (Format Meant)) → format_in k formats ≡ o → Bytes bs → read_by B bs o ≡ Ok m → Same B k bs m
kind_forth B k bs m None known ok e = never (unplaced Malformed) m e
kind_forth B k bs m (Some F) known ok e = format_forth B k bs m F known ok e

pub written_again : WrittenAgain
written_again B [] m ok e = never (unplaced Malformed) m (sym (decode_none B) ∙ e)
written_again B (k ∷ bs) m ok e = kind_forth B k bs m (format_in k formats) refl (λ i. ok (suc i)) (sym (decode_kind B k bs) ∙ e)
