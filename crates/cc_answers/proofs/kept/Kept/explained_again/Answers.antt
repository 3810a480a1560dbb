use Rattle.std.proofs.Common.{◌≡◌, ◌&&◌, true, Global, sym, ◌∙◌, subst}
use Rattle.std.specs.List.{AllByRecursion}
use Rattle.std.specs.declared.rc.Rc.{Rc}
use Rattle.std.specs.Prelude.{IfSome}
use Rattle.std.specs.Str.{bytes_eq}
use Rattle.cc_capture.specs.Sets.{same_set}
use Rattle.cc_answers.specs.KeptEntries.{IsExplained, IsExplainedFor}
use Rattle.cc_answers.specs.declared.explanation.Explained.{Explained}
use Rattle.cc_answers.specs.declared.made.Made.{Made}
use Rattle.cc_answers.proofs.KeptFacts.{shared, explained_so, kept_at}
use Rattle.cc_answers.proofs.kept.Kept.explained_again.Goals as goal

pub returns-then-is_explanation_of : goal.returns-then-is_explanation_of
returns-then-is_explanation_of c = λ devices texts kept.
    let module_name = c.args.«module».now in
    let name = c.args.def.now in
    let set = c.args.set.now in
    let same = subst (λ (it : Explained). ((bytes_eq it.module module_name && bytes_eq it.def name) && same_set it.set set) ≡ true) c.deref.ensures
    (sym c.is_explanation_of.ensures ∙ c.if-is_explanation_of.true) in
    let own = kept_at (IsExplained devices texts) c.deref-it-items.result.now c.loop-it.it-index c.it-item.result c.loop-it-test.true c.it-item.is
    (subst (AllByRecursion (λ (it : Made (Rc Explained Global)). IsExplained devices texts it.value.value)) (sym c.deref-it-items.ensures.value) kept.explained) in
    subst (λ o. IfSome o (λ it. IsExplainedFor devices texts module_name name set.list it.value)) (sym c.ok.ensures.value)
    (shared (λ it. IsExplainedFor devices texts module_name name set.list it) c.it-item.result.value c.clone.result c.clone.ensures.cases
    (explained_so devices texts module_name name set c.it-item.result.value.value same own))
