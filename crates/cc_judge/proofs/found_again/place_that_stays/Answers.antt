use Rattle.std.proofs.Common.{ℕ, List, [], Option, Vec, Global, map, ap, sym, subst, ◌∙◌}
use Rattle.std.specs.Option.{option_map, unwrap_or}
use Rattle.cc_base.specs.declared.literal.Import.{Import}
use Rattle.cc_verdicts.specs.PresentTexts.{finding_for}
use Rattle.cc_module.specs.Findings.{finding_of}
use Rattle.cc_parse.specs.Trees.{import_syntax, imports_syntax}
use Rattle.cc_judge.specs.Dependencies.{IsJudgedBefore}
use Rattle.cc_judge.specs.Kept.{judgements_of}
use Rattle.cc_judge.specs.Settled.{AreFoundLast}
use Rattle.cc_judge.proofs.JudgedBefore.{findings_at, grounds_there}
use Rattle.cc_judge.proofs.StillFound.{last_found}
use Rattle.cc_judge.proofs.found_again.place_that_stays.Goals as goal

pub are_found_again-again-requires-clause-old : goal.are_found_again-again-requires-clause-old
are_found_again-again-requires-clause-old c =
    let last = c.args.last.now in
    let J : Option ℕ → Type 0 = λ o. IsJudgedBefore (judgements_of last) c.args.name.now c.args.text.now o in
    let O : Option (Vec Import Global) → Type 0 = λ o. AreFoundLast (judgements_of last)
    (unwrap_or (option_map imports_syntax o) []) (map finding_of c.as_slice-old.result.now) in
    let I : List Import → Type 0 = λ is. AreFoundLast (judgements_of last) (map import_syntax is)
    (map finding_of c.as_slice-old.result.now) in
    let found = c.in-Some-get.ensures.lookup in
    let one = c.in-Some-get.grounds.now in
    subst I (sym c.as_slice.ensures.value)
    (subst O c.in-Some-imports.is
    (last_found last.verdicts.items last.grounds.items c.requires.kept.settled c.in-Some.at one c.args.name.now
    c.args.text.now (subst J c.in-Some.is c.requires.judged)
    (grounds_there last.grounds.items c.deref.result.now c.in-Some.at one c.deref.ensures.value found.0 found.1)
    (option_map imports_syntax c.imports.result.now) c.imports.ensures c.as_slice-old.result.now c.as_slice-old.ensures))

pub returns-then-again : goal.returns-then-again
returns-then-again c =
    λ all are.
    let last = c.args.last.now in
    let J : Option ℕ → Type 0 = λ o. IsJudgedBefore (judgements_of last) c.args.name.now c.args.text.now o in
    let (it, stands, named, texted) = subst J c.in-Some.is c.requires.judged in
    let found = c.in-Some-get.ensures.lookup in
    let one = c.in-Some-get.grounds.now in
    record {
      one = it;
      stands = stands;
      same_name = named;
      same_text = texted;
      same_findings = findings_at last.verdicts.items last.grounds.items c.in-Some.at it one stands
          (grounds_there last.grounds.items c.deref.result.now c.in-Some.at one c.deref.ensures.value found.0 found.1)
          ∙ sym (ap (map finding_of) c.as_slice-old.ensures)
          ∙ c.are_found_again-again.ensures c.if-again.true all are
          ∙ ap (λ is. map (finding_for c.args.texts.now all c.args.name.now) (map import_syntax is)) c.as_slice.ensures.value
          ∙ sym (ap (λ o. map (finding_for c.args.texts.now all c.args.name.now) (unwrap_or (option_map imports_syntax o) []))
          c.in-Some-imports.is)
          ∙ ap (λ o. map (finding_for c.args.texts.now all c.args.name.now) (unwrap_or o [])) c.imports.ensures;
    }
