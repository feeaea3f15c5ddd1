-- The first fault by its line. Assumes nothing.
use Rattle.std.proofs.Common.{◌≡◌, ℕ, suc, ◌+◌, ◌<◌, List, [], ◌∷◌, length, get_or, take, refl, ap, ◌∙◌, arith}
use Rattle.fault.specs.declared.Fault.{Fault}
use Rattle.settings.specs.Lines.{Written, blank, Next, More, Run, Stop, next}
use Rattle.settings.specs.Laws.{Reading, AtEnd, AtRun, AtFault, goes, reads_from, FirstFault}

-- the same of lines that begin with line k
record From (k : ℕ) (w : Written) (lines : List (List ℕ)) (n : ℕ) (f : Fault) : Type 0 where
  at : ℕ
  here : n ≡ k + at
  within : at < length lines
  before : Written
  none : reads_from k w (take at lines) ≡ AtEnd before
  stops : next (get_or lines at []) before ≡ Stop f

abbrev line_of : Reading → ℕ
line_of (AtEnd w) = 0
line_of (AtRun n w) = 0
line_of (AtFault n f) = suc n

abbrev fault_of : Reading → Fault → Fault
fault_of (AtEnd w) g = g
fault_of (AtRun n w) g = g
fault_of (AtFault n f) g = f

run_is_none : (k : ℕ) (w : Written) (n : ℕ) (f : Fault) → AtRun k w ≡ AtFault n f → ⊥
run_is_none k w n f r = omega (arith, ap line_of r)

end_is_none : (w : Written) (n : ℕ) (f : Fault) → AtEnd w ≡ AtFault n f → ⊥
end_is_none w n f r = omega (arith, ap line_of r)

same_line : (k n : ℕ) (g f : Fault) → AtFault k g ≡ AtFault n f → k ≡ n
same_line k n g f r = omega (arith, ap line_of r)

same_fault : (k n : ℕ) (g f : Fault) → AtFault k g ≡ AtFault n f → g ≡ f
same_fault k n g f r = ap (λ x. fault_of x g) r

one_more : (k : ℕ) (w v : Written) (line : List ℕ) (lines : List (List ℕ)) (n : ℕ) (f : Fault) → next line w ≡ More v → From (suc k) v lines n f → From k w (line ∷ lines) n f
unfolding reads_from
one_more k w v line lines n f e r = record {
  at = suc r.at;
  here = omega (arith, r.here);
  within = omega (arith, r.within);
  before = r.before;
  none = ap (goes k w (λ u. reads_from (suc k) u (take r.at lines))) e ∙ r.none;
  stops = r.stops;
}

by_line : (k : ℕ) (w : Written) (line : List ℕ) (lines : List (List ℕ)) (n : ℕ) (f : Fault) (x : Next) → next line w ≡ x
    → goes k w (λ v. reads_from (suc k) v lines) x ≡ AtFault n f → ((v : Written) → reads_from (suc k) v lines ≡ AtFault n f → From (suc k) v lines n f) → From k w (line ∷ lines) n f
unfolding reads_from
by_line k w line lines n f (More v) e r later = one_more k w v line lines n f e (later v r)
by_line k w line lines n f Run e r later = absurd (run_is_none k w n f r)
by_line k w line lines n f (Stop g) e r later =
    record { at = 0; here = omega (arith, same_line k n g f r); within = omega arith; before = w; none = refl; stops = e ∙ ap Stop (same_fault k n g f r) }

first_from : (k : ℕ) (w : Written) (lines : List (List ℕ)) (n : ℕ) (f : Fault) → reads_from k w lines ≡ AtFault n f → From k w lines n f
unfolding reads_from
first_from k w [] n f r = absurd (end_is_none w n f r)
first_from k w (line ∷ lines) n f r = by_line k w line lines n f (next line w) refl r (λ v q. first_from (suc k) v lines n f q)

pub first_fault : FirstFault
first_fault lines n f r =
    let all = first_from 0 blank lines n f r in
    let e : all.at ≡ n = omega (arith, all.here) in
    record { before = all.before; within = omega (arith, e, all.within); none = rw e at all.none; here = rw e at all.stops }
