-- Whatever was read has the form of its bytes. Assumes nothing.
use Rattle.std.proofs.Common.{◌≡◌, ℕ, List, IfOk, Ok, Err, Result, sym}
use Rattle.wire.specs.declared.message.Unread.{Unread}
use Rattle.wire.specs.Meant.{Meant}
use Rattle.wire.specs.Messages.{decode, encode}
use Rattle.wire.specs.Laws.{Bytes}
use Rattle.wire.proofs.Forth.{written_again}

pub forms : (B : ℕ) (bs : List ℕ) (r : Result Meant Unread) → Bytes bs → r ≡ decode B bs → IfOk r (λ m. encode m ≡ bs)
forms B bs (Ok m) ok e = (written_again B bs m ok (sym e)).0
forms B bs (Err u) ok e = tt
