-- One word after the other; what is left gives the servers.
use Rattle.std.proofs.Common.{rules, tests, length, vec_items, sym, ◌∙◌, refl, arith}
use Rattle.std.specs.List.{slice_split}
use Rattle.std.specs.Prelude.{◌==◌}
use Rattle.std.proofs.lemmas.Iterator.Consumers.{YieldsList-turn, YieldsList-end}
use Rattle.std.proofs.lemmas.Iterator.Splits.{YieldsList-from_slice_split}
use Rattle.std.proofs.lemmas.List.{length_push}
use Rattle.settings.proofs.Listings.{word_turn, word_stop, words_end}
use Rattle.settings.proofs.list.servers_listed.Goals as goal

pub returns-in_err-server : goal.returns-in_err-server
returns-in_err-server c =
    let all = YieldsList-from_slice_split _ (λ b. b == 32) c.args.list.now (cc) (cc) (cc) (λ x b q g. search (rules, tests)) in
    let t = YieldsList-turn all c.loop-digits.yielded _ c.loop-digits.yielded_by _ _ c.in-Some.digits c.in-Some.is c.next.ensures.steps in
    let no = word_stop (vec_items c.loop-digits.servers) c.loop-digits.low _ (length c.loop-digits.yielded) c.in-Some.digits.now t c.in_err-server.field-0.0 (search rules) in
    rw (← c.loop-digits.invariant, no) (search rules)

pub loop-digits-preserved : goal.loop-digits-preserved
loop-digits-preserved c =
    let all = YieldsList-from_slice_split _ (λ b. b == 32) c.args.list.now (cc) (cc) (cc) (λ x b q g. search (rules, tests)) in
    let t = YieldsList-turn all c.loop-digits.yielded _ c.loop-digits.yielded_by _ _ c.in-Some.digits c.in-Some.is c.next.ensures.steps in
    let more = word_turn (vec_items c.loop-digits.servers) c.loop-digits.low _ (length c.loop-digits.yielded) c.in-Some.digits.now t c.in_ok-server.server (search rules) in
    rw (length_push c.loop-digits.yielded c.in-Some.digits, c.in_ok-push.ensures.items, c.from-low.ensures) (sym more ∙ c.loop-digits.invariant)

pub returns : goal.returns
returns c =
    let all = YieldsList-from_slice_split _ (λ b. b == 32) c.args.list.now (cc) (cc) (cc) (λ x b q g. search (rules, tests)) in
    let t = YieldsList-end all c.loop-digits.yielded _ c.loop-digits.yielded_by _ _ c.in-None.is c.next.ensures.steps in
    let end = words_end (vec_items c.loop-digits.servers) c.loop-digits.low (slice_split (λ b. b == 32) c.args.list.now) (length c.loop-digits.yielded) (omega (arith, t.1)) in
    rw (← c.loop-digits.invariant, end) refl
