use Rattle.std.proofs.Common.{◌≡◌, ◌+◌, ◌-◌, ◌<◌, ◌∙◌, ap, sym, drop, length, arith, ℕ}
use Rattle.std.proofs.lemmas.List.{drop_all}
use Rattle.cc_module_vouching.specs.KeptFindings.{first_signature}
use Rattle.cc_module_vouching.proofs.KeptAnswers.{signatures_more}
use Rattle.cc_module_vouching.proofs.answered.signatures_of.Goals as goal

pub loop-left-init : goal.loop-left-init
loop-left-init c =
    record {
      within = omega arith;
      finds = λ name.
          c.new-signatures.ensures name
          ∙ sym (ap (first_signature name) (drop_all (length c.args.definitions.now) c.args.definitions.now (omega arith)));
    }

pub loop-left-preserved : goal.loop-left-preserved
loop-left-preserved c =
    let left : ℕ = c.loop-left.left - 1 in
    let next : c.loop-left.left ≡ left + 1 = omega (arith, c.loop-left-test.true) in
    let within : left < length c.args.definitions.now = omega (arith, c.loop-left.invariant.within, c.loop-left-test.true) in
    record {
      within = omega (arith, c.loop-left.invariant.within);
      finds =
          signatures_more c.args.definitions.now left c.index-definitions-left.result within c.index-definitions-left.is
          c.loop-left.signatures c.put.new.self
          (λ name. c.loop-left.invariant.finds name ∙ ap (λ n. first_signature name (drop n c.args.definitions.now)) next)
          (λ name. c.in_ok-put.ensures name);
    }

pub returns : goal.returns
returns c = λ name.
    c.loop-left.invariant.finds name
    ∙ ap (λ n. first_signature name (drop n c.args.definitions.now))
    (let none : c.loop-left.left ≡ 0 = omega (arith, c.loop-left-test.false) in none)
