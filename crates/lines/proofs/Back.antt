-- What was written is read back. Assumes nothing.
use Rattle.std.proofs.Common.{◌≡◌, ℕ, suc, ◌+◌, ◌*◌, ◌/◌, ◌%◌, ◌<◌, false, cond, eqb, Option, List, [], ◌∷◌, ◌++◌, length, Some, None, Ok, Err, sym, refl, ap, ◌∙◌, append_assoc, append-nil, length-append, arith}
use Rattle.std.proofs.lemmas.Bool.{lt-ltb}
use Rattle.std.proofs.lemmas.Fmt.{decimal_by_steps}
use Rattle.std.proofs.lemmas.List.{take_at, drop_at}
use Rattle.std.specs.Fmt.{decimal}
use Rattle.fault.specs.declared.Fault.TheVariants.{NoSuch}
use Rattle.wire.specs.Laws.{Bytes}
use Rattle.machine.specs.declared.name.Machine.TheVariants.{Client, Operator, Balancer, Server, Controller}
use Rattle.words.specs.Words.{word_length, word_of, rest_of, with_digit, onward as onwardDecimal, digits_from, numeral}
use Rattle.lines.specs.Lines.{hex_digit, byte_of, onward, bytes_from, beside, bytes_of, before, balancer, server, by_number, numbered, hex_of, hex_text}
use Rattle.lines.specs.Laws.{ReadBack}

-- BYTES

digit_back : (d : ℕ) → d < 16 → hex_digit (hex_of d) ≡ Some d
digit_back d h = grind arith

byte_back : (b : ℕ) → b < 256 → byte_of (hex_digit (hex_of (b / 16))) (hex_digit (hex_of (b % 16))) ≡ Ok b
byte_back b h =
    ap (λ x. byte_of x (hex_digit (hex_of (b % 16)))) (digit_back (b / 16) (omega arith))
    ∙ (ap (byte_of (Some (b / 16))) (digit_back (b % 16) (omega arith)) ∙ ap Ok (omega arith))

hex_back : (bs done : List ℕ) → Bytes bs → bytes_from done (hex_text bs) ≡ Ok (done ++ bs)
unfolding bytes_from
hex_back [] done h = ap Ok (sym (append-nil done))
hex_back (b ∷ bs) done h =
    ap (onward (λ x. bytes_from (done ++ x ∷ []) (hex_text bs))) (byte_back b (h 0))
    ∙ (hex_back bs (done ++ b ∷ []) (λ i. h (suc i)) ∙ ap Ok (append_assoc done (b ∷ []) bs))

-- NUMBERS

space : (cs : List ℕ) → word_length (32 ∷ cs) ≡ 0
space cs = refl

no_space : (d : ℕ) (cs : List ℕ) → word_length ((48 + d) ∷ cs) ≡ suc (word_length cs)
no_space d cs = let n : eqb (48 + d) 32 ≡ false = grind arith in rw n (omega arith)

alone : (o : Option ℕ) → onwardDecimal (λ n. Some n) o ≡ o
alone (Some n) = refl
alone None = refl

through : (f g h : ℕ → Option ℕ) (o : Option ℕ) → ((n : ℕ) → f n ≡ onwardDecimal h (g n)) → onwardDecimal f o ≡ onwardDecimal h (onwardDecimal g o)
through f g h (Some n) e = e n
through f g h None e = refl

-- one digit more, behind the others
last_digit : (e : ℕ) (ds : List ℕ) (m : ℕ) → digits_from m (ds ++ e ∷ []) ≡ onwardDecimal (λ n. with_digit n e) (digits_from m ds)
unfolding digits_from
last_digit e [] m = alone (with_digit m e)
last_digit e (d ∷ ds) m = through (λ k. digits_from k (ds ++ e ∷ [])) (λ k. digits_from k ds) (λ n. with_digit n e) (with_digit m d) (last_digit e ds)

-- digits that say the number n; none of them is a space
record Says (n : ℕ) (ds : List ℕ) : Type 0 where
  some : 0 < length ds
  says : digits_from 0 ds ≡ Some n
  long : (more : List ℕ) → word_length (ds ++ more) ≡ length ds + word_length more

one_digit : (n : ℕ) → n < 10 → Says n ((48 + n) ∷ [])
unfolding digits_from
one_digit n h = record { some = omega arith; says = (let e : with_digit 0 (48 + n) ≡ Some n = grind arith in rw e refl); long = λ more. omega (arith, no_space n more) }

grown_digit : (n : ℕ) → n < 100000 → with_digit (n / 10) (48 + n % 10) ≡ Some n
grown_digit n h = let d : n / 10 * 10 + n % 10 ≡ n = omega arith in grind arith

more_digits : (n : ℕ) (ds : List ℕ) → n < 100000 → Says (n / 10) ds → Says n (ds ++ (48 + n % 10) ∷ [])
more_digits n ds h s = record {
  some = omega (arith, s.some, length-append ds ((48 + n % 10) ∷ []));
  says = last_digit (48 + n % 10) ds 0 ∙ (ap (onwardDecimal (λ k. with_digit k (48 + n % 10))) s.says ∙ grown_digit n h);
  long = λ more. ap word_length (append_assoc ds ((48 + n % 10) ∷ []) more)
      ∙ (s.long ((48 + n % 10) ∷ more) ∙ omega (arith, no_space (n % 10) more, length-append ds ((48 + n % 10) ∷ [])));
}

decimal_says : (n : ℕ) → n < 100000 → Says n (decimal n)
decimal_says n h = decimal_by_steps (λ n ds. n < 100000 → Says n ds) (λ n l h. one_digit n l) (λ n ds l s h. more_digits n ds h (s (omega (arith, h)))) n (omega (arith, h)) h

first_some : (ds : List ℕ) (n : ℕ) → 0 < length ds → digits_from 0 ds ≡ Some n → numeral ds ≡ Some n
first_some [] n h e = absurd (omega arith)
first_some (c ∷ cs) n h e = e

-- a number, a space and more are read as they were written
number_back : (n : ℕ) (rest : List ℕ) → n < 100000 → numbered (numeral (word_of (decimal n ++ 32 ∷ rest))) (rest_of (decimal n ++ 32 ∷ rest)) ≡ Ok (n, 32 ∷ rest)
number_back n rest h =
    let s = decimal_says n h in
    let line = decimal n ++ 32 ∷ rest in
    let ends : length (decimal n) ≡ word_length line = omega (arith, s.long (32 ∷ rest), space rest) in
    let word : word_of line ≡ decimal n = take_at (decimal n) (32 ∷ rest) (word_length line) ends in
    let more : rest_of line ≡ 32 ∷ rest = drop_at (decimal n) (32 ∷ rest) (word_length line) ends in
    let says : numeral (word_of line) ≡ Some n = ap numeral word ∙ first_some (decimal n) n s.some s.says in
    ap (λ x. numbered x (rest_of line)) says ∙ ap (λ x. numbered (Some n) x) more

pub read_back : ReadBack
read_back Client bs real ok = ap (beside Client) (hex_back bs [] ok)
read_back Operator bs real ok = ap (beside Operator) (hex_back bs [] ok)
read_back Controller bs real ok = ap (beside Controller) (hex_back bs [] ok)
read_back (Balancer d) bs real ok =
    ap (λ x. bytes_of (by_number balancer x)) (number_back d (hex_text bs) (omega (arith, real)))
    ∙ (ap (λ t. bytes_of (before (cond t (Ok (Balancer d)) (Err NoSuch)) (32 ∷ hex_text bs))) (lt-ltb d 65536 real) ∙ ap (beside (Balancer d)) (hex_back bs [] ok))
read_back (Server s) bs real ok =
    ap (λ x. bytes_of (by_number server x)) (number_back s (hex_text bs) (omega (arith, real)))
    ∙ (ap (λ t. bytes_of (before (cond t (Ok (Server s)) (Err NoSuch)) (32 ∷ hex_text bs))) (lt-ltb s 256 real) ∙ ap (beside (Server s)) (hex_back bs [] ok))
