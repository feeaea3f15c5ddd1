-- The first fault by its line. Assumes nothing.
use Rattle.std.specs.Prelude.{◌≡◌, ℕ, suc, ◌<◌, List, [], ◌∷◌, length, take, slice_index_or}
use Rattle.fault.specs.declared.Fault.{Fault}
use Rattle.settings.specs.Lines.{Written, blank, Next, More, Run, Stop, next}

-- how far a reader comes: to the end of the lines, to `run`, or to the line with a fault; lines are numbered from 0
pub data Reading : Type 0 where
  AtEnd : Written → Reading
  AtRun : ℕ → Written → Reading
  AtFault : ℕ → Fault → Reading

abbrev pub goes : ℕ → Written → (Written → Reading) → Next → Reading
goes n w go (More v) = go v
goes n w go Run = AtRun n w
goes n w go (Stop f) = AtFault n f

-- line by line, from line n on
unfoldable pub reads_from : ℕ → Written → List (List ℕ) → Reading
reads_from n w [] = AtEnd w
reads_from n w (line ∷ lines) = goes n w (λ v. reads_from (suc n) v lines) (next line w)

abbrev pub reads : List (List ℕ) → Reading
reads lines = reads_from 0 blank lines

-- no line before n has a fault, or is `run`, and line n has this one beside what is written before it
pub record First (lines : List (List ℕ)) (n : ℕ) (f : Fault) : Type 0 where
  pub before : Written
  pub within : n < length lines
  pub none : reads (take n lines) ≡ AtEnd before
  pub here : next (slice_index_or lines n []) before ≡ Stop f

abbrev pub FirstFault : Type 0
FirstFault = (lines : List (List ℕ)) (n : ℕ) (f : Fault) → reads lines ≡ AtFault n f → First lines n f
