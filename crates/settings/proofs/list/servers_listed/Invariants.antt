-- The words that are left give the servers.
use Rattle.std.proofs.Common.{◌≡◌, drop, length, vec_items}
use Rattle.std.specs.List.{slice_split}
use Rattle.std.specs.Prelude.{◌==◌}
use Rattle.settings.specs.Lines.{servers_from, servers_listed}
use Rattle.settings.proofs.list.servers_listed.Given as goal

abbrev pub invariant-loop-digits : goal.invariant-loop-digits
invariant-loop-digits l = servers_from (vec_items l.servers) l.low (drop (length l.yielded) (slice_split (λ c. c == 32) l.list)) ≡ servers_listed l.list
