-- The rule of the bucket, in the list of all.
use Rattle.std.proofs.Common.{◌≡◌, ◌<◌, length, vec_items, refl, ap, ◌∙◌, arith}
use Rattle.std.proofs.lemmas.Result.{err_from_is_err_and}
use Rattle.std.proofs.lemmas.Bool.{eq-eqb}
use Rattle.server_bucket.specs.Rules.{behind, freed}
use Rattle.server_bucket.specs.Kept.{holding}
use Rattle.server_bucket.proofs.Refused.{stand_refused, behind_refused, freed_refused}
use Rattle.server.specs.Rules.{is_empty, bucket_in}
use Rattle.server.specs.Kept.{sessions_of}
use Rattle.server.proofs.Told.{kept_same, stood_did, stood_not, changed_did, changed_not, told_as}
use Rattle.server.proofs.kept.Server.change.Goals as goal

pub returns-in_ok-stand-in-Stand-clause-alters : goal.returns-in_ok-stand-in-Stand-clause-alters
returns-in_ok-stand-in-Stand-clause-alters c =
    let was = c.args.self.now in
    let bs = vec_items was.held in
    let s = c.in-Some.held.now in
    let i = c.in-Stand in
    let b : c.from.result ≡ i.bucket = c.from.ensures ∙ (c.bucket-bucket.ensures ∙ ap bucket_in i.is) in
    let h : i.bucket < length bs = omega (arith, was.held.ok.0, c.in-Some.ensures.variant.0 refl, b) in
    λ from. told_as from c.args.control _ _ _ _ bs _ _ i.is h (rw (b, i.is) (stood_did from _ _ _ _ _ bs s c.stand.new.self _ _ h (rw b at c.in-Some.ensures.value) c.in_ok-stand-in-Stand.ensures))

pub returns-in_err-stand-in-Stand-clause-alters : goal.returns-in_err-stand-in-Stand-clause-alters
returns-in_err-stand-in-Stand-clause-alters c =
    let was = c.args.self.now in
    let bs = vec_items was.held in
    let s = c.in-Some.held.now in
    let i = c.in-Stand in
    let b : c.from.result ≡ i.bucket = c.from.ensures ∙ (c.bucket-bucket.ensures ∙ ap bucket_in i.is) in
    let h : i.bucket < length bs = omega (arith, was.held.ok.0, c.in-Some.ensures.variant.0 refl, b) in
    let p = err_from_is_err_and c.from_residual.result c.from_residual.ensures.1 in
    let e = c.in_err-stand-in-Stand.ensures in
    rw (p.1, p.2) (
      λ from. told_as from c.args.control _ _ _ _ bs _ _ i.is h (stood_not from _ _ _ _ _ bs s c.stand.new.self _ _ _ h (rw b at c.in-Some.ensures.value) e),
      rw b (kept_same _ _ _ i.bucket bs s c.stand.new.self h (rw b at c.in-Some.ensures.value) (stand_refused _ _ (holding s) (holding c.stand.new.self) _ e)),
    )

pub returns-in_ok-gone-in-Behind-clause-alters : goal.returns-in_ok-gone-in-Behind-clause-alters
returns-in_ok-gone-in-Behind-clause-alters c =
    let was = c.args.self.now in
    let bs = vec_items was.held in
    let s = c.in-Some.held.now in
    let i = c.in-Behind in
    let b : c.from.result ≡ i.bucket = c.from.ensures ∙ (c.bucket-bucket.ensures ∙ ap bucket_in i.is) in
    let h : i.bucket < length bs = omega (arith, was.held.ok.0, c.in-Some.ensures.variant.0 refl, b) in
    let empty = is_empty i.bucket i.place (sessions_of was) in
    let e = c.in_ok-gone-in-Behind.ensures ∙ ap (λ q. behind i.place i.after q (holding s)) (c.is_empty-empty.ensures ∙ ap (λ x. is_empty x i.place (sessions_of was)) (c.bucket-bucket.ensures ∙ ap bucket_in i.is)) in
    λ from. told_as from c.args.control _ _ _ _ bs _ _ i.is h ((rw (b, i.is) (changed_did (behind i.place i.after empty) from _ _ _ _ _ i.place bs s c.behind.new.self _ h (rw b at c.in-Some.ensures.value) e)))

pub returns-in_err-gone-in-Behind-clause-alters : goal.returns-in_err-gone-in-Behind-clause-alters
returns-in_err-gone-in-Behind-clause-alters c =
    let was = c.args.self.now in
    let bs = vec_items was.held in
    let s = c.in-Some.held.now in
    let i = c.in-Behind in
    let b : c.from.result ≡ i.bucket = c.from.ensures ∙ (c.bucket-bucket.ensures ∙ ap bucket_in i.is) in
    let h : i.bucket < length bs = omega (arith, was.held.ok.0, c.in-Some.ensures.variant.0 refl, b) in
    let empty = is_empty i.bucket i.place (sessions_of was) in
    let e = c.in_err-gone-in-Behind.ensures ∙ ap (λ q. behind i.place i.after q (holding s)) (c.is_empty-empty.ensures ∙ ap (λ x. is_empty x i.place (sessions_of was)) (c.bucket-bucket.ensures ∙ ap bucket_in i.is)) in
    let p = err_from_is_err_and c.from_residual-in_err-gone-in-Behind.result c.from_residual-in_err-gone-in-Behind.ensures.1 in
    rw (p.1, p.2) (
      λ from. told_as from c.args.control _ _ _ _ bs _ _ i.is h ((changed_not (behind i.place i.after empty) from _ _ _ _ _ i.place bs s c.behind.new.self _ h (rw b at c.in-Some.ensures.value) e)),
      rw b (kept_same _ _ _ i.bucket bs s c.behind.new.self h (rw b at c.in-Some.ensures.value) (behind_refused i.place i.after empty (holding s) (holding c.behind.new.self) _ e)),
    )

pub returns-in_ok-gone-in-Forgotten-2-clause-alters : goal.returns-in_ok-gone-in-Forgotten-2-clause-alters
returns-in_ok-gone-in-Forgotten-2-clause-alters c =
    let was = c.args.self.now in
    let bs = vec_items was.held in
    let s = c.in-Some.held.now in
    let i = c.in-Forgotten-2 in
    let b : c.from.result ≡ i.bucket = c.from.ensures ∙ (c.bucket-bucket.ensures ∙ ap bucket_in i.is) in
    let h : i.bucket < length bs = omega (arith, was.held.ok.0, c.in-Some.ensures.variant.0 refl, b) in
    let empty = is_empty i.bucket i.after.place (sessions_of was) in
    let e = c.in_ok-gone-in-Forgotten-2.ensures ∙ ap (λ q. freed i.after.place i.place q (holding s)) (c.is_empty-empty-in-Forgotten-2.ensures ∙ ap (λ x. is_empty x i.after.place (sessions_of was)) (c.bucket-bucket.ensures ∙ ap bucket_in i.is)) in
    λ from. told_as from c.args.control _ _ _ _ bs _ _ i.is h (rw (eq-eqb i.after.server was.number (grind (arith, c.if-after-self.false))) (rw (b, i.is) (changed_did (freed i.after.place i.place empty) from _ _ _ _ _ i.after.place bs s c.freed.new.self _ h (rw b at c.in-Some.ensures.value) e)))

pub returns-in_err-gone-in-Forgotten-2-clause-alters : goal.returns-in_err-gone-in-Forgotten-2-clause-alters
returns-in_err-gone-in-Forgotten-2-clause-alters c =
    let was = c.args.self.now in
    let bs = vec_items was.held in
    let s = c.in-Some.held.now in
    let i = c.in-Forgotten-2 in
    let b : c.from.result ≡ i.bucket = c.from.ensures ∙ (c.bucket-bucket.ensures ∙ ap bucket_in i.is) in
    let h : i.bucket < length bs = omega (arith, was.held.ok.0, c.in-Some.ensures.variant.0 refl, b) in
    let empty = is_empty i.bucket i.after.place (sessions_of was) in
    let e = c.in_err-gone-in-Forgotten-2.ensures ∙ ap (λ q. freed i.after.place i.place q (holding s)) (c.is_empty-empty-in-Forgotten-2.ensures ∙ ap (λ x. is_empty x i.after.place (sessions_of was)) (c.bucket-bucket.ensures ∙ ap bucket_in i.is)) in
    let p = err_from_is_err_and c.from_residual-in_err-gone-in-Forgotten-2.result c.from_residual-in_err-gone-in-Forgotten-2.ensures.1 in
    rw (p.1, p.2) (
      λ from. told_as from c.args.control _ _ _ _ bs _ _ i.is h (rw (eq-eqb i.after.server was.number (grind (arith, c.if-after-self.false))) (changed_not (freed i.after.place i.place empty) from _ _ _ _ _ i.after.place bs s c.freed.new.self _ h (rw b at c.in-Some.ensures.value) e)),
      rw b (kept_same _ _ _ i.bucket bs s c.freed.new.self h (rw b at c.in-Some.ensures.value) (freed_refused i.after.place i.place empty (holding s) (holding c.freed.new.self) _ e)),
    )
