-- A message that is cut or followed by anything is malformed. Assumes nothing.
use Rattle.std.proofs.Common.{◌≡◌, ℕ, ◌+◌, ◌<◌, ◌≤◌, cond, eqb, ◌⊎◌, List, [], ◌∷◌, ◌++◌, length, drop, Some, None, Ok, Err, Option, Result, sym, refl, ap, ◌∙◌, inl, inr, arith, length-append}
use Rattle.std.proofs.lemmas.List.{get_or_append_left, drop-append-le}
use Rattle.std.proofs.lemmas.Bool.{le-ltb, cases_lt, ne_eqb}
use Rattle.std.proofs.lemmas.Bool.Decides.{nat_tests}
use Rattle.fault.specs.declared.Fault.{Fault}
use Rattle.fault.specs.declared.Fault.TheVariants.{Malformed}
use Rattle.wire.specs.declared.message.At.{At}
use Rattle.wire.specs.declared.message.Unread.{Unread}
use Rattle.wire.specs.Stops.{located, unplaced}
use Rattle.wire.specs.Meant.{Meant}
use Rattle.wire.specs.Format.{Width, one, two, four, size, value, number_in, Field, Format, judged, read_fields, onward, stopped, ended, read_all}
use Rattle.wire.specs.Messages.{formats, format_in, read_by, behind_kind, decode}
use Rattle.wire.specs.Laws.{Cut, TooMany}
use Rattle.wire.proofs.Numbers.{number_cut}

value_front : (w : Width) (xs ys : List ℕ) → size w ≤ length xs → value w (xs ++ ys) ≡ value w xs
value_front one xs ys h = get_or_append_left xs ys 0 0 (omega arith)
value_front two xs ys h = rw (get_or_append_left xs ys 0 0 (omega arith), get_or_append_left xs ys 0 1 (omega arith))
value_front four xs ys h = rw (get_or_append_left xs ys 0 0 (omega arith), get_or_append_left xs ys 0 1 (omega arith), get_or_append_left xs ys 0 2 (omega arith), get_or_append_left xs ys 0 3 (omega arith))

pub number_whole : (w : Width) (bs : List ℕ) → size w ≤ length bs → number_in w bs ≡ Ok (value w bs, drop (size w) bs)
unfolding number_in
number_whole w bs h = rw (le-ltb (length bs) (size w) h)

pub number_front : (w : Width) (xs ys : List ℕ) → size w ≤ length xs → number_in w (xs ++ ys) ≡ Ok (value w xs, drop (size w) xs ++ ys)
number_front w xs ys h =
    let l : size w ≤ length (xs ++ ys) = simp length-append (omega arith) in
    let e = number_whole w (xs ++ ys) l in
    rw (value_front w xs ys h, drop-append-le (size w) xs ys h) at e

pub never : {X E P : Type 0} (e : E) (x : X) → Err e ≡ Ok x → P
never e x h = let z : ◌≡◌ {A = ℕ} 0 1 = cc in absurd (omega arith)

pub same_ok : {X E : Type 0} (x y : X) → ◌≡◌ {A = Result X E} (Ok x) (Ok y) → x ≡ y
same_ok x y h = cc

-- a front of bytes that can be read: it is cut, or it can be read as far, with less behind it
abbrev Front : Result (List ℕ × List ℕ) Unread → List ℕ → List ℕ → List ℕ → Type 0
Front r ws rest ys = ((u : Unread) × (r ≡ Err u) × (u.fault ≡ Malformed)) ⊎ ((zs : List ℕ) × (r ≡ Ok (ws, zs)) × (rest ≡ zs ++ ys))

module _ (far : List ℕ → Option At) (B : ℕ) where
  front_at : (fs : List Field) (before ws rest ys zs : List ℕ) (v : ℕ) (o : Option Fault)
      → (read_fields far B fs (before ++ v ∷ []) (zs ++ ys) ≡ Ok (ws, rest) → Front (read_fields far B fs (before ++ v ∷ []) zs) ws rest ys)
      → onward (stopped far before) (λ v rest. read_fields far B fs (before ++ v ∷ []) rest) (judged o (v, zs ++ ys)) ≡ Ok (ws, rest)
      → Front (onward (stopped far before) (λ v rest. read_fields far B fs (before ++ v ∷ []) rest) (judged o (v, zs))) ws rest ys
  front_at fs before ws rest ys zs v None ih e = ih e
  front_at fs before ws rest ys zs v (Some g) ih e = never (stopped far before g) (ws, rest) e

  pub front : (fs : List Field) (before xs ys ws rest : List ℕ) → read_fields far B fs before (xs ++ ys) ≡ Ok (ws, rest) → Front (read_fields far B fs before xs) ws rest ys
  front [] before xs ys ws rest e =
      let p = same_ok (before, xs ++ ys) (ws, rest) e in
      let q : before ≡ ws = ap (λ p. p.0) p in
      let r : xs ++ ys ≡ rest = ap (λ p. p.1) p in
      inr (xs, rw q, sym r)
  front (f ∷ fs) before xs ys ws rest e =
      elim (cases_lt (length xs) (size f.width)) [
        | inl h ↦ inl (stopped far before Malformed, rw (sym (number_cut f.width xs h)), refl)
        | inr h ↦
            rw (number_whole f.width xs h)
            (front_at fs before ws rest ys (drop (size f.width) xs) (value f.width xs) (f.wrong B before (value f.width xs))
            (front fs (before ++ value f.width xs ∷ []) (drop (size f.width) xs) ys ws rest)
            (rw (number_front f.width xs ys h) at e))
      ]

  longer_at : (fs : List Field) (before ws rest ys zs : List ℕ) (v : ℕ) (o : Option Fault)
      → (read_fields far B fs (before ++ v ∷ []) zs ≡ Ok (ws, rest) → read_fields far B fs (before ++ v ∷ []) (zs ++ ys) ≡ Ok (ws, rest ++ ys))
      → onward (stopped far before) (λ v rest. read_fields far B fs (before ++ v ∷ []) rest) (judged o (v, zs)) ≡ Ok (ws, rest)
      → onward (stopped far before) (λ v rest. read_fields far B fs (before ++ v ∷ []) rest) (judged o (v, zs ++ ys)) ≡ Ok (ws, rest ++ ys)
  longer_at fs before ws rest ys zs v None ih e = ih e
  longer_at fs before ws rest ys zs v (Some g) ih e = never (stopped far before g) (ws, rest) e

  pub longer : (fs : List Field) (before xs ys ws rest : List ℕ) → read_fields far B fs before xs ≡ Ok (ws, rest) → read_fields far B fs before (xs ++ ys) ≡ Ok (ws, rest ++ ys)
  longer [] before xs ys ws rest e =
      let p = same_ok (before, xs) (ws, rest) e in
      let q : before ≡ ws = ap (λ p. p.0) p in
      let r : xs ≡ rest = ap (λ p. p.1) p in
      rw (q, r)
  longer (f ∷ fs) before xs ys ws rest e =
      elim (cases_lt (length xs) (size f.width)) [
        | inl h ↦ never (stopped far before Malformed) (ws, rest) (rw (sym (number_cut f.width xs h)) at e)
        | inr h ↦
            rw (number_front f.width xs ys h)
            (longer_at fs before ws rest ys (drop (size f.width) xs) (value f.width xs) (f.wrong B before (value f.width xs))
            (longer fs (before ++ value f.width xs ∷ []) (drop (size f.width) xs) ys ws rest)
            (rw (number_whole f.width xs h) at e))
      ]

ended_at : {A : Type 0} (at : Option At) (n k : ℕ) (r : Result A Fault) (x : A) → located at (cond (eqb n k) r (Err Malformed)) ≡ Ok x → (n ≡ k) × (r ≡ Ok x)
ended_at at n k (Ok y) x e = grind (arith, nat_tests)
ended_at at n k (Err f) x e = grind (arith, nat_tests)

-- what it takes for a message to have ended
pub ended_ok : {A : Type 0} (F : Format A) (B : ℕ) (x : A) (r : Result (List ℕ × List ℕ) Unread) → ended F B r ≡ Ok x
    → (ws : List ℕ) × (rest : List ℕ) × (r ≡ Ok (ws, rest)) × (length rest ≡ F.behind ws) × (F.means B ws rest ≡ Ok x)
ended_ok F B x (Err u) e = never u x e
ended_ok F B x (Ok p) e = let q = ended_at (F.far p.0) (length p.1) (F.behind p.0) (F.means B p.0 p.1) x e in (p.0, p.1, refl, q.0, q.1)

pub ended_short : {A : Type 0} (F : Format A) (B : ℕ) (ws zs : List ℕ) → (length zs ≡ F.behind ws → ⊥) → ended F B (Ok (ws, zs)) ≡ Err (stopped F.far ws Malformed)
ended_short F B ws zs h = rw (ne_eqb (length zs) (F.behind ws) h)

module _ {A : Type 0} (F : Format A) (B : ℕ) (xs ys : List ℕ) (x : A) (there : 0 < length ys) where
  pub cut_format : read_all F B (xs ++ ys) ≡ Ok x → (u : Unread) × (read_all F B xs ≡ Err u) × (u.fault ≡ Malformed)
  cut_format e =
      let q = ended_ok F B x (read_fields F.far B F.fields [] (xs ++ ys)) e in
      elim (front F.far B F.fields [] xs ys q.0 q.1 q.2) [
        | inl c ↦ (c.0, ap (ended F B) c.1, c.2)
        | inr c ↦
            let long : length q.1 ≡ length c.0 + length ys = ap length c.2 ∙ length-append c.0 ys in
            (stopped F.far q.0 Malformed, ap (ended F B) c.1 ∙ ended_short F B q.0 c.0 (λ same. omega (arith, long, q.3, same)), refl)
      ]

  pub long_format : read_all F B xs ≡ Ok x → (u : Unread) × (read_all F B (xs ++ ys) ≡ Err u) × (u.fault ≡ Malformed)
  long_format e =
      let q = ended_ok F B x (read_fields F.far B F.fields [] xs) e in
      let more = longer F.far B F.fields [] xs ys q.0 q.1 q.2 in
      (stopped F.far q.0 Malformed, ap (ended F B) more ∙ ended_short F B q.0 (q.1 ++ ys) (λ same. omega (arith, length-append q.1 ys, q.3, same)), refl)

module _ (B : ℕ) (xs ys : List ℕ) (m : Meant) (there : 0 < length ys) where
  cut_by : (o : Option (Format Meant)) → read_by B (xs ++ ys) o ≡ Ok m → (u : Unread) × (read_by B xs o ≡ Err u) × (u.fault ≡ Malformed)
  cut_by None e = never (unplaced Malformed) m e
  cut_by (Some F) e = cut_format F B xs ys m there e

  long_by : (o : Option (Format Meant)) → read_by B xs o ≡ Ok m → (u : Unread) × (read_by B (xs ++ ys) o ≡ Err u) × (u.fault ≡ Malformed)
  long_by None e = never (unplaced Malformed) m e
  long_by (Some F) e = long_format F B xs ys m there e

pub kind_first : (k : ℕ) (xs : List ℕ) → number_in one (k ∷ xs) ≡ Ok (k, xs)
kind_first k xs = number_whole one (k ∷ xs) (omega arith)

pub decode_kind : (B k : ℕ) (xs : List ℕ) → decode B (k ∷ xs) ≡ read_by B xs (format_in k formats)
decode_kind B k xs = ap (behind_kind B) (kind_first k xs)

pub decode_none : (B : ℕ) → decode B [] ≡ Err (unplaced Malformed)
decode_none B = ap (behind_kind B) (sym (number_cut one [] (omega arith)))

pub cut : Cut
cut B [] more m e there = record { unread = unplaced Malformed; is = decode_none B; malformed = refl }
cut B (k ∷ xs) more m e there =
    let q = cut_by B xs more m there (format_in k formats) (sym (decode_kind B k (xs ++ more)) ∙ e) in
    record { unread = q.0; is = decode_kind B k xs ∙ q.1; malformed = q.2 }

pub too_many : TooMany
too_many B [] more m e there = never (unplaced Malformed) m (sym (decode_none B) ∙ e)
too_many B (k ∷ xs) more m e there =
    let q = long_by B xs more m there (format_in k formats) (sym (decode_kind B k xs) ∙ e) in
    record { unread = q.0; is = decode_kind B k (xs ++ more) ∙ q.1; malformed = q.2 }
