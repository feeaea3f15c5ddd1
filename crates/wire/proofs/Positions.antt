-- The fault that is told is that of the first position that has one. Assumes nothing.
use Rattle.std.proofs.Common.{◌≡◌, ℕ, zero, suc, ◌+◌, ◌<◌, ◌≤◌, Bool, true, false, cond, eqb, ltb, List, [], ◌∷◌, ◌++◌, length, get_or, take, drop, Some, None, Ok, Err, Option, Result, sym, refl, ap, ◌∙◌, inl, inr, append_assoc, arith, length-drop}
use Rattle.std.proofs.lemmas.List.{append-nil, drop-drop, take_all}
use Rattle.std.proofs.lemmas.Bool.{lt-ltb, le-ltb, cases_lt, ne_eqb, eq-eqb, cases_order}
use Rattle.std.proofs.lemmas.Bool.Decides.{nat_tests}
use Rattle.fault.specs.declared.Fault.{Fault}
use Rattle.fault.specs.declared.Fault.TheVariants.{Malformed}
use Rattle.wire.specs.declared.message.At.{At}
use Rattle.wire.specs.declared.message.Unread.{Unread}
use Rattle.wire.specs.Stops.{located}
use Rattle.wire.specs.Meant.{Meant}
use Rattle.wire.specs.Format.{size, value, Field, Format, judged, read_fields, onward, stopped, ended, read_all}
use Rattle.wire.specs.Formats.{unless}
use Rattle.wire.specs.Messages.{formats, format_in, read_by}
use Rattle.wire.specs.Laws.{offset, values_in, wrong_at, field_fault, fault_in, tail_in, fault_at, ByPosition, FirstFault, NoKind}
use Rattle.wire.proofs.Numbers.{number_cut}
use Rattle.wire.proofs.Cuts.{number_whole, decode_kind}

-- the fault of a field behind others that have the values `before`
abbrev fault_from : List ℕ → List Field → ℕ → List ℕ → ℕ → Option Fault
fault_from before fs B bs i = cond (ltb (length bs) (offset fs (suc i))) (Some Malformed) (wrong_at fs i B (before ++ take i (values_in fs bs)) (get_or (values_in fs bs) i 0))

module _ (far : List ℕ → Option At) (B : ℕ) where
  abbrev By : List Field → List ℕ → List ℕ → Result (List ℕ × List ℕ) Unread → Type 0
  By fs before bs (Ok p) = ((j : ℕ) → j < length fs → fault_from before fs B bs j ≡ None) × (p.0 ≡ before ++ values_in fs bs) × (p.1 ≡ tail_in fs bs)
  By fs before bs (Err u) =
      (i : ℕ) × (i < length fs) × (fault_from before fs B bs i ≡ Some u.fault) × ((j : ℕ) → j < i → fault_from before fs B bs j ≡ None)
      × (u.at ≡ far (before ++ take i (values_in fs bs)))

  module _ (f : Field) (fs : List Field) (before bs : List ℕ) where
    here_cut : length bs < size f.width → fault_from before (f ∷ fs) B bs 0 ≡ Some Malformed
    here_cut h = let t : ltb (length bs) (size f.width + 0) ≡ true = lt-ltb (length bs) (size f.width + 0) (omega arith) in rw t

    module _ (h : size f.width ≤ length bs) where
      here_whole : fault_from before (f ∷ fs) B bs 0 ≡ f.wrong B before (value f.width bs)
      here_whole =
          let t : ltb (length bs) (size f.width + 0) ≡ false = le-ltb (length bs) (size f.width + 0) (omega arith) in
          rw (t, append-nil before)

      shifted : (i : ℕ) → fault_from before (f ∷ fs) B bs (suc i) ≡ fault_from (before ++ value f.width bs ∷ []) fs B (drop (size f.width) bs) i
      shifted i =
          let l = length-drop (size f.width) bs in
          let t : ltb (length bs) (size f.width + offset fs (suc i)) ≡ ltb (length (drop (size f.width) bs)) (offset fs (suc i)) = grind (arith, nat_tests) in
          rw (t, append_assoc before (value f.width bs ∷ []) (take i (values_in fs (drop (size f.width) bs))))

      none_below : (m : ℕ) → f.wrong B before (value f.width bs) ≡ None
          → ((j : ℕ) → j < m → fault_from (before ++ value f.width bs ∷ []) fs B (drop (size f.width) bs) j ≡ None)
          → (j : ℕ) → j < suc m → fault_from before (f ∷ fs) B bs j ≡ None
      none_below m n q zero l = here_whole ∙ n
      none_below m n q (suc j) l = shifted j ∙ q j (omega arith)

      lift : (r : Result (List ℕ × List ℕ) Unread) → f.wrong B before (value f.width bs) ≡ None
          → By fs (before ++ value f.width bs ∷ []) (drop (size f.width) bs) r → By (f ∷ fs) before bs r
      lift (Ok p) n q = (
        none_below (length fs) n q.0,
        q.1 ∙ append_assoc before (value f.width bs ∷ []) (values_in fs (drop (size f.width) bs)),
        q.2 ∙ drop-drop (offset fs (length fs)) (size f.width) bs,
      )
      lift (Err u) n q = (
        suc q.0,
        omega (arith, q.1),
        shifted q.0 ∙ q.2,
        none_below q.0 n q.3,
        q.4 ∙ ap far (append_assoc before (value f.width bs ∷ []) (take q.0 (values_in fs (drop (size f.width) bs)))),
      )

      judges : (o : Option Fault) → f.wrong B before (value f.width bs) ≡ o
          → By fs (before ++ value f.width bs ∷ []) (drop (size f.width) bs) (read_fields far B fs (before ++ value f.width bs ∷ []) (drop (size f.width) bs))
          → By (f ∷ fs) before bs (onward (stopped far before) (λ v rest. read_fields far B fs (before ++ v ∷ []) rest) (judged o (value f.width bs, drop (size f.width) bs)))
      judges None e q = lift (read_fields far B fs (before ++ value f.width bs ∷ []) (drop (size f.width) bs)) e q
      judges (Some g) e q = (0, omega arith, here_whole ∙ e, λ j l. absurd (omega arith), ap far (sym (append-nil before)))

  pub positions : (fs : List Field) (before bs : List ℕ) → By fs before bs (read_fields far B fs before bs)
  positions [] before bs = (λ j l. absurd (omega arith), sym (append-nil before), refl)
  positions (f ∷ fs) before bs =
      elim (cases_lt (length bs) (size f.width)) [
        | inl h ↦ rw (sym (number_cut f.width bs h)) (0, omega arith, here_cut f fs before bs h, λ j l. absurd (omega arith), ap far (sym (append-nil before)))
        | inr h ↦
            rw (number_whole f.width bs h)
            (judges f fs before bs h (f.wrong B before (value f.width bs)) refl (positions fs (before ++ value f.width bs ∷ []) (drop (size f.width) bs)))
      ]

length_values : (fs : List Field) (bs : List ℕ) → length (values_in fs bs) ≡ length fs
length_values [] bs = refl
length_values (f ∷ fs) bs = ap suc (length_values fs (drop (size f.width) bs))

module _ {A : Type 0} (F : Format A) (B : ℕ) (bs : List ℕ) where
  at_field : (i : ℕ) → i < length F.fields → fault_at F B bs i ≡ field_fault F.fields B bs i
  at_field i h = rw (lt-ltb i (length F.fields) h)

  at_length : (i : ℕ) → i ≡ length F.fields → fault_at F B bs i ≡ unless (eqb (length (tail_in F.fields bs)) (F.behind (values_in F.fields bs))) Malformed
  at_length i h = rw (le-ltb i (length F.fields) (omega arith), eq-eqb i (length F.fields) h)

  at_inside : (i : ℕ) → length F.fields < i → fault_at F B bs i ≡ fault_in (F.means B (values_in F.fields bs) (tail_in F.fields bs))
  at_inside i h =
      let t : ltb i (length F.fields) ≡ false = le-ltb i (length F.fields) (omega arith) in
      let e : eqb i (length F.fields) ≡ false = ne_eqb i (length F.fields) (λ same. omega arith) in
      rw (t, e)

  all_values : (i : ℕ) → length F.fields ≤ i → take i (values_in F.fields bs) ≡ values_in F.fields bs
  all_values i h = let l = length_values F.fields bs in take_all i (values_in F.fields bs) (omega arith)

  module _ (fine : (j : ℕ) → j < length F.fields → field_fault F.fields B bs j ≡ None) where
    fields_fine : (j : ℕ) → j < length F.fields → fault_at F B bs j ≡ None
    fields_fine j l = at_field j l ∙ fine j l

    inside_first : (r : Result A Fault) → F.means B (values_in F.fields bs) (tail_in F.fields bs) ≡ r
        → eqb (length (tail_in F.fields bs)) (F.behind (values_in F.fields bs)) ≡ true
        → ByPosition F B bs (located (F.far (values_in F.fields bs)) r)
    inside_first (Ok x) e t = record { none = all; means = e }
      where
        all : (j : ℕ) → j < length F.fields + 2 → fault_at F B bs j ≡ None
        all j l =
            elim (cases_order j (length F.fields)) [
              | inl same ↦ at_length j same ∙ rw t
              | inr other ↦ elim other [ inl less ↦ fields_fine j less | inr more ↦ at_inside j more ∙ rw e ]
            ]
    inside_first (Err f) e t =
        record {
          position = length F.fields + 1;
          within = omega arith;
          here = at_inside (length F.fields + 1) (omega arith) ∙ rw e;
          none = before;
          told = ap F.far (sym (all_values (length F.fields + 1) (omega arith)));
        }
      where
        before : (j : ℕ) → j < length F.fields + 1 → fault_at F B bs j ≡ None
        before j l = elim (cases_lt j (length F.fields)) [ inl less ↦ fields_fine j less | inr more ↦ at_length j (omega arith) ∙ rw t ]

    tail_first : (t : Bool) → eqb (length (tail_in F.fields bs)) (F.behind (values_in F.fields bs)) ≡ t
        → ByPosition F B bs (located (F.far (values_in F.fields bs)) (cond t (F.means B (values_in F.fields bs) (tail_in F.fields bs)) (Err Malformed)))
    tail_first true e = inside_first (F.means B (values_in F.fields bs) (tail_in F.fields bs)) refl e
    tail_first false e =
        record {
          position = length F.fields;
          within = omega arith;
          here = at_length (length F.fields) refl ∙ rw e;
          none = fields_fine;
          told = ap F.far (sym (all_values (length F.fields) (omega arith)));
        }

  ends_first : (r : Result (List ℕ × List ℕ) Unread) → By F.far B F.fields [] bs r → ByPosition F B bs (ended F B r)
  ends_first (Ok p) q =
      rw (q.1, q.2) (tail_first q.0 (eqb (length (tail_in F.fields bs)) (F.behind (values_in F.fields bs))) refl)
  ends_first (Err u) q =
      record {
        position = q.0;
        within = omega (arith, q.1);
        here = at_field q.0 q.1 ∙ q.2;
        none = λ j l. at_field j (omega (arith, q.1)) ∙ q.3 j l;
        told = q.4;
      }

  pub by_position : ByPosition F B bs (read_all F B bs)
  by_position = ends_first (read_fields F.far B F.fields [] bs) (positions F.far B F.fields [] bs)

by_format : (B : ℕ) (bs : List ℕ) (F : Format Meant) (o : Option (Format Meant)) → o ≡ Some F → ByPosition F B bs (read_by B bs o)
by_format B bs F o e = rw e (by_position F B bs)

pub first_fault : FirstFault
first_fault B k bs F e = rw (decode_kind B k bs) (by_format B bs F (format_in k formats) e)

pub no_kind : NoKind
no_kind B k bs e = decode_kind B k bs ∙ ap (read_by B bs) e
