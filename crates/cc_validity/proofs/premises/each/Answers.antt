use Rattle.std.proofs.Common.{◌≡◌, ◌+◌, ◌∷◌, drop, ap, sym, ◌∙◌, rules}
use Rattle.cc_core.specs.TermViews.{context_of}
use Rattle.cc_derivation.specs.Rows as plain
use Rattle.cc_validity.specs.Spots.{place_of, places_of}
use Rattle.cc_validity.proofs.AlikePlaces.{alike_step}
use Rattle.cc_validity.proofs.premises.each.Goals as goal

pub loop-first-preserved : goal.loop-first-preserved
loop-first-preserved c =
    let place = plain.SetsBelow (context_of c.args.ctx.now) in
    let next : c.in_ok-at.at ≡ c.loop-first.at + 1 = search rules in
    let made : place_of c.in_ok-first.first ∷ places_of c.in_ok-new.field-0.value ≡ place ∷ places_of c.loop-first.spots =
    ap (λ p. p ∷ places_of c.in_ok-new.field-0.value) c.in_ok-first.ensures ∙ ap (λ s. place ∷ places_of s) c.in_ok-new.ensures.ok in
    alike_step place (drop c.loop-first.at c.args.set.now.list) c.in-Some.field-0 (drop c.in_ok-at.at c.args.set.now.list) _ _ _
    (c.in-Some.ensures ∙ ap (λ n. c.in-Some.field-0 ∷ drop n c.args.set.now.list) (sym next)) made c.loop-first.invariant
