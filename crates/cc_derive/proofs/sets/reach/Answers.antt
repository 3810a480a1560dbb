use Rattle.std.proofs.Common.{length, sym, ap, ◌∙◌, subst, arith}
use Rattle.std.proofs.lemmas.Bool.{ltb-true}
use Rattle.std.proofs.lemmas.Result.{IfOk-weaker}
use Rattle.cc_capture.specs.declared.var.Var.{Var}
use Rattle.cc_capture.specs.declared.var.Elem.{Elem}
use Rattle.cc_capture.specs.declared.var.Elem.TheVariants.{Var as Variable}
use Rattle.cc_capture.specs.declared.var.Var.TheVariants.{Free}
use Rattle.cc_core.specs.Derivations.{Derivation}
use Rattle.cc_checking.specs.CanonicalDerivations.{element_derived}
use Rattle.cc_derive.specs.Tables.{reached_derived}
use Rattle.cc_derive.specs.Trees.{IsMade}
use Rattle.cc_derive.proofs.Reached.{reached_at, reached_is}
use Rattle.cc_derive.proofs.sets.reach.Goals as goal

pub returns-in-Some : goal.returns-in-Some
returns-in-Some c =
    let p = c.in-Free.position in
    let table = c.args.table.now in
    let known = length table in
    let right = c.args.right.now in
    let found = c.in-Some.ensures.lookup in
    let below = ltb-true p known (sym found.0) in
    let is = ap (λ (v : Var). Variable v) (sym c.in-Free.is) ∙ sym c.in-Var.is in
    IfOk-weaker c.share.result _ _
    (λ t h. λ g shown.
    subst (λ (e : Elem). IsMade c.args.build t (reached_derived known g right e)) is
    (subst (λ (d : Derivation). IsMade c.args.build t d) (reached_is g right known p below)
    (h c.args.build (element_derived g right (Variable (Free p)))
    (reached_at c.args.build g right table p c.in-Some.tree.now shown found.0 found.1 below))))
    c.share.ensures
