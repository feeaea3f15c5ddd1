-- One more message after those before it.
use Rattle.std.proofs.Common.{◌≡◌, List, length, get_or, Result, sym, ap, ◌∙◌, subst, arith}
use Rattle.std.proofs.lemmas.List.{take_all}
use Rattle.std.proofs.lemmas.List.Sums.{fold_more}
use Rattle.fault.specs.declared.Fault.{Fault}
use Rattle.chain.specs.declared.way.Link.{Link}
use Rattle.balancer.specs.declared.News.{News}
use Rattle.balancer.specs.Rules.{links_of, link_at, knows, knows_all, KnownOrTold}
use Rattle.balancer.proofs.Highest.{highest_known, known_or_told}
use Rattle.balancer.proofs.Balancer.told_all.Goals as goal

abbrev after : Result (Unit {0}) Fault × List Link → List Link
after p = p.1

abbrev none : News
none = record { bucket = 0; newest = record { place = 0; server = 0 } }

pub loop-n-preserved : goal.loop-n-preserved
loop-n-preserved c =
    let news = c.args.news.now in
    let first = links_of c.args.self.now in
    let this = get_or news c.loop-n.n-index none in (
      ap after c.told.ensures.links ∙ (ap (λ known. knows known this) c.loop-n.invariant.0 ∙ sym (fold_more knows first news c.loop-n.n-index none (omega arith))),
      c.told.ensures.buckets ∙ c.loop-n.invariant.1,
    )

pub returns : goal.returns
returns c =
    let news = c.args.news.now in
    let first = links_of c.args.self.now in
    let all : links_of c.loop-n.self ≡ knows_all first news = c.loop-n.invariant.0 ∙ ap (knows_all first) (take_all c.loop-n.n-index news (omega arith)) in
    let each : length first ≡ c.args.self.now.buckets.count = omega (arith, c.args.self.now.links.ok.0, c.args.self.now.one_each) in
    record {
      links = all;
      buckets = c.loop-n.invariant.1;
      place = λ b h. ap (λ known. (link_at known b).place) all ∙ highest_known b news first (omega (arith, each));
      heard = λ b h. subst (λ known. KnownOrTold b (link_at first b) news (link_at known b)) (sym all) (known_or_told b news first (omega (arith, each)));
    }
