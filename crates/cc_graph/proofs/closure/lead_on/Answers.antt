use Rattle.std.proofs.Common.{length, arith, inl, inr, refl}
use Rattle.std.proofs.lemmas.Bool.{cases_lt}
use Rattle.cc_graph.proofs.RowLemmas.{no_row}
use Rattle.cc_graph.proofs.closure.lead_on.Goals as goal

pub returns-clause-bits : goal.returns-clause-bits
returns-clause-bits c = λ row place.
    elim (cases_lt row (length c.args.rows.now)) [
      | inl within ↦ c.loop-row.invariant.done row place (omega arith)
      | inr past ↦
          rw (
            no_row c.loop-row.rows row place
                (omega arith),
            no_row c.args.rows.now row place past,
            no_row c.args.rows.now row c.args.at past,
          )
          refl
    ]
