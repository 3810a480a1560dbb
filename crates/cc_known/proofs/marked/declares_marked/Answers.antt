use Rattle.std.proofs.Common.{◌≡◌, ◌-◌, inl, inr, true, false, sym, subst, arith}
use Rattle.std.proofs.lemmas.Bool.{cases_eq}
use Rattle.std.proofs.lemmas.List.{length-map}
use Rattle.cc_core.specs.Contexts.{lookup}
use Rattle.cc_core.specs.TermViews.{bind_of, context_of}
use Rattle.cc_known.specs.MarkedEntries.{is_marked, unmarked, occurs_where}
use Rattle.cc_known.proofs.marked.declares_marked.Goals as goal

pub loop-rest-init : goal.loop-rest-init
loop-rest-init c = λ p high low marked.
    let long = length-map c.args.ctx.now bind_of in
    let all = c.len-rest.ensures in
    absurd (omega (arith, high, low, long, all))

pub loop-rest-preserved : goal.loop-rest-preserved
loop-rest-preserved c = λ p high low marked.
    let g = context_of c.args.ctx.now in
    let marks = c.args.marks.now in
    elim (cases_eq p (c.loop-rest.rest - 1)) as (λ _. occurs_where (unmarked marks) (lookup g p) ≡ false) [
      | inl same ↦
          subst (λ q. occurs_where (unmarked marks) (lookup g q) ≡ false) (sym same)
          (c.declares_at.ensures c.if-not-declares_at.false (subst (λ q. is_marked marks q ≡ true) same marked))
      | inr other ↦ c.loop-rest.invariant p (omega (arith, high, other)) low marked
    ]

pub returns : goal.returns
returns c = λ holds p low. c.loop-rest.invariant p (let none = c.loop-rest-test.false in omega (arith, none)) low
