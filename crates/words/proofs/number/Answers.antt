-- One digit more, to the end or to what is no digit.
use Rattle.std.proofs.Common.{rules, sym, ◌∙◌, arith}
use Rattle.words.proofs.Turns.{digit_turn, no_digit, digits_end, some_digits}
use Rattle.words.proofs.number.Goals as goal

pub returns-in_err-n : goal.returns-in_err-n
returns-in_err-n c =
    let i = c.loop-digit.digit-index in
    let no = no_digit c.loop-digit.n c.args.digits.now i (omega arith) (search rules) in
    rw (← some_digits c.args.digits.now c.if-is_empty.ensures, ← c.loop-digit.invariant, no) (search rules)

pub loop-digit-preserved : goal.loop-digit-preserved
loop-digit-preserved c =
    sym (digit_turn c.loop-digit.n c.args.digits.now c.loop-digit.digit-index c.in_ok-n.n (omega arith) (search rules)) ∙ c.loop-digit.invariant

pub returns : goal.returns
returns c = sym (digits_end c.loop-digit.n c.args.digits.now c.loop-digit.digit-index (omega arith)) ∙ (c.loop-digit.invariant ∙ some_digits c.args.digits.now c.if-is_empty.ensures)
