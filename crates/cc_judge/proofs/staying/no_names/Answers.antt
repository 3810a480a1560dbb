use Rattle.std.proofs.Common.{◌≡◌, ◌∙◌, ◌++◌, ◌∷◌, [], ap, replicate, arith}
use Rattle.std.proofs.lemmas.List.{replicate_more}
use Rattle.cc_judge.proofs.staying.no_names.Goals as goal

pub loop-preserved : goal.loop-preserved
loop-preserved c =
    c.in_ok-push.ensures.items
    ∙ ap (λ ns. c.loop.known.items ++ ns ∷ []) c.new.ensures
    ∙ ap (λ ks. ks ++ [] ∷ []) c.loop.invariant ∙ replicate_more c.loop.counter []

pub returns : goal.returns
returns c =
    let all : c.loop.counter ≡ c.args.count = omega (arith, c.loop.auto.counter-end, c.loop-test.false) in
    c.loop.invariant ∙ ap (λ n. replicate n []) all
