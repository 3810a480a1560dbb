use Rattle.std.proofs.Common.{◌≡◌, List, Some, sym, subst, ◌∙◌}
use Rattle.std.specs.Prelude.{MatchOption}
use Rattle.cc_explain.specs.Chains.{IsChain, IsFirstShortest}
use Rattle.cc_explain.specs.Entries.{targets_of}
use Rattle.cc_explain.specs.declared.target.Target.{Target}
use Rattle.cc_explain.specs.declared.target.Target.TheVariants as targets
use Rattle.cc_answers.proofs.ExplainingFacts.{same_element}
use Rattle.cc_answers.proofs.explaining.find_chain.Goals as goal

pub returns-in-None-2 : goal.returns-in-None-2
returns-in-None-2 c = λ target is chain leads.
    let from = targets.Definition c.args.from in
    let none = subst
    (λ o. MatchOption o ((chain : List Target) → IsChain (targets_of c.args.links.now) from c.in-Some.target chain → ⊥)
    (λ found. IsFirstShortest (targets_of c.args.links.now) from c.in-Some.target found.items))
    c.in-None-2.is c.in_ok-chain-in-Some.ensures in
    let same = same_element target c.in-Some.target (sym is ∙ sym c.element_target.ensures ∙ c.in-Some.is) in
    none chain (subst (λ t. IsChain (targets_of c.args.links.now) from t chain) same leads)
