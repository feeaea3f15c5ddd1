use Rattle.lines.proofs.Back.{read_back}
use Rattle.lines.proofs.laws.read_back.Goals as goal

pub returns : goal.returns
returns c = read_back
