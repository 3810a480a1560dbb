use Rattle.std.proofs.Common.{◌≡◌, ◌&&◌, true, Global, sym, ◌∙◌, subst}
use Rattle.std.specs.List.{AllByRecursion}
use Rattle.std.specs.declared.rc.Rc.{Rc}
use Rattle.std.specs.Prelude.{IfSome}
use Rattle.std.specs.Str.{bytes_eq}
use Rattle.cc_answers.specs.KeptEntries.{IsLinked, IsLinkedFor}
use Rattle.cc_answers.specs.declared.linked.LinkedEntry.{LinkedEntry}
use Rattle.cc_answers.specs.declared.made.Made.{Made}
use Rattle.cc_answers.proofs.KeptFacts.{shared, linked_so, kept_at}
use Rattle.cc_answers.proofs.kept.Kept.linked_again.Goals as goal

pub returns-then-is_entry_of : goal.returns-then-is_entry_of
returns-then-is_entry_of c = λ devices texts kept.
    let module_name = c.args.«module».now in
    let name = c.args.def.now in
    let same = subst (λ (it : LinkedEntry). (bytes_eq it.entry.module module_name && bytes_eq it.entry.def name) ≡ true) c.deref.ensures
    (sym c.is_entry_of.ensures ∙ c.if-is_entry_of.true) in
    let own = kept_at (IsLinked devices texts) c.deref-it-items.result.now c.loop-it.it-index c.it-item.result c.loop-it-test.true c.it-item.is
    (subst (AllByRecursion (λ (it : Made (Rc LinkedEntry Global)). IsLinked devices texts it.value.value)) (sym c.deref-it-items.ensures.value) kept.linked) in
    subst (λ o. IfSome o (λ it. IsLinkedFor devices texts module_name name it.value)) (sym c.ok.ensures.value)
    (shared (λ it. IsLinkedFor devices texts module_name name it) c.it-item.result.value c.clone.result c.clone.ensures.cases
    (linked_so devices texts module_name name c.it-item.result.value.value same own))
