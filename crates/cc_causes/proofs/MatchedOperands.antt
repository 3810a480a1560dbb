-- Whether an operand matches, by what is asked of it.
use Rattle.std.proofs.Common.{◌≡◌, true, false, List, refl, sym, ap, ◌∙◌}
use Rattle.cc_base.specs.declared.code.Code.{Code}
use Rattle.cc_base.specs.declared.place.Place.{Place}
use Rattle.cc_capture.specs.declared.var.Var.{Var}
use Rattle.cc_core.specs.Shapes.{Shape, CapturingType}
use Rattle.cc_core.specs.Contexts.{Context}
use Rattle.cc_checking.specs.Comparison.{Comparison, Unfinished, Mismatch, Matches}
use Rattle.cc_checking.specs.Outcomes.{Placed, Outcome, finds}
use Rattle.cc_checking.specs.Inference.{variable_type, in_context, compared_at}
use Rattle.cc_known.specs.Logs.{Logged, Got, Stopped, after, plainly}
use Rattle.cc_type.specs.Rows.{comparing, operand_log}
use Rattle.cc_causes.specs.LeafReasons.{IsMatch}

compared_matches : (at : Place) (c : Comparison) (before later : List Placed) (u : Unit {0})
    → after before (compared_at at c) ≡ Got u later → IsMatch true c
compared_matches at Unfinished before later u is = absurd (cc)
compared_matches at Mismatch before later u is = absurd (cc)
compared_matches at (Matches demands) before later u is = (demands, refl)

compared_apart : (at place : Place) (code : Code) (c : Comparison) (before : List Placed)
    → after before (compared_at at c) ≡ Stopped code place → c ≡ Mismatch
compared_apart at place code Unfinished before is = absurd (cc)
compared_apart at place code Mismatch before is = refl
compared_apart at place code (Matches demands) before is = absurd (cc)

module _ (at : Place) (g : Context) (v : Var) (shape : Shape) (before : List Placed) (s : CapturingType)
    (found : variable_type g (in_context g v) ≡ finds s) where
  abbrev rest : Outcome CapturingType → Logged (Unit {0})
  rest o = plainly o (λ type. after before (compared_at at (comparing g type.shape shape)))

  pub operand_matches : (later : List Placed) (u : Unit {0}) → operand_log at g v shape before ≡ Got u later
      → IsMatch true (comparing g s.shape shape)
  operand_matches later u is =
      compared_matches at (comparing g s.shape shape) before later u (sym (ap rest found) ∙ is)

  pub operand_apart : (code : Code) (place : Place) → operand_log at g v shape before ≡ Stopped code place
      → IsMatch false (comparing g s.shape shape)
  operand_apart code place is =
      compared_apart at place code (comparing g s.shape shape) before (sym (ap rest found) ∙ is)
