use Rattle.std.proofs.Common.{◌≡◌, ◌-◌, inl, inr, true, sym, subst, arith}
use Rattle.std.specs.Option.{option_map}
use Rattle.std.proofs.lemmas.Bool.{cases_eq}
use Rattle.std.proofs.lemmas.List.{length-map}
use Rattle.cc_core.specs.Contexts.{lookup}
use Rattle.cc_core.specs.TermViews.{bind_of, context_of}
use Rattle.cc_known.specs.ComparedAgain.{seen}
use Rattle.cc_known.specs.MarkedEntries.{is_marked}
use Rattle.cc_known.proofs.marked.stands_in.Goals as goal

pub loop-rest-init : goal.loop-rest-init
loop-rest-init c = λ p high low marked.
    let long = length-map c.args.small.now bind_of in
    let all = c.len-rest.ensures in
    absurd (omega (arith, high, low, long, all))

pub loop-rest-preserved : goal.loop-rest-preserved
loop-rest-preserved c = λ p high low marked.
    let small = context_of c.args.small.now in
    let g = context_of c.args.ctx.now in
    elim (cases_eq p (c.loop-rest.rest - 1)) as (λ _. option_map seen (lookup g p) ≡ option_map seen (lookup small p)) [
      | inl same ↦
          subst (λ q. option_map seen (lookup g q) ≡ option_map seen (lookup small q)) (sym same)
          (c.stands_if_marked.ensures c.if-not-stands_if_marked.false (subst (λ q. is_marked c.args.marks.now q ≡ true) same marked))
      | inr other ↦ c.loop-rest.invariant p (omega (arith, high, other)) low marked
    ]

pub returns : goal.returns
returns c = λ holds p low. c.loop-rest.invariant p (let none = c.loop-rest-test.false in omega (arith, none)) low
